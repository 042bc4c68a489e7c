-- For the law `uses_of_rows`: each event changes the uses of the rows as the protocol tells.
use Rattle.std.proofs.Common.{ℕ, zero, suc, ◌≡◌, ◌≢◌, ◌<◌, ◌≤◌, ◌+◌, ◌∙◌, Bool, true, false, ◌&&◌, ◌||◌, if◌then◌else◌, cond, nat_eq, nat_lt, nat_le, min, max, List, [], ◌∷◌, replicate, length, Option, Some, None, refl, sym, ap, subst, arith, inl, inr}
use Rattle.std.specs.List.{list_all}
use Rattle.std.specs.Option.{is_some}
use Rattle.std.proofs.lemmas.Bool.{cases_Bool, cases_lt, cases_eq, cond-true, cond-false, le-leb, le-ltb, eqb-true, ne_eqb}
use Rattle.std.proofs.lemmas.Bool.Decides.{nat_tests}
use Rattle.std.proofs.lemmas.List.Sums.{sum_by-cons}
use Rattle.mm_types.specs.declared.slot.Row.{Row}
use Rattle.grace_core.specs.declared.clearing.Clearing.{Clearing}
use Rattle.grace_core.specs.declared.events.GraceEvent.{GraceEvent}
use Rattle.grace_core.specs.declared.events.GraceEvent.TheVariants.{Open, Root, Word, Close, Fill, Publish, Scan, Split, Join}
use Rattle.grace_core.specs.Core.{GraceCore, WriterState, GraceTreeView, times, has_row, since_at, numbers_of}
use Rattle.grace_core.specs.Steps.{cleared_up_to, next_tree, since_from}
use Rattle.grace_core.specs.Events.{after_grace_event, after_scan, after_grace_join}
use Rattle.grace_core.specs.Facts.{GraceFacts}
use Rattle.grace_core.specs.Refusals.{grace_refusal}
use Rattle.grace_core.specs.States.{opening_writer_state}
use Rattle.grace_core.specs.Uses.{RowUse, use_of, all_cleared, reclaimed, published_use, use_after, UsesChange, UsesBegin}
use Rattle.grace_core.proofs.Leaving.{since_left, since_same}

-- every reader is cleared up to a tree where the least tree up to which one is cleared is that one or a later one
least_all : (tree number : ℕ) (clearings : List Clearing) → tree ≤ number → nat_le tree (cleared_up_to number clearings) ≡ all_cleared clearings tree
least_all tree number [] below = le-leb tree number below
least_all tree number (clearing ∷ clearings) below =
    one clearing.joined tree clearing.cleared (cleared_up_to number clearings) (all_cleared clearings tree) (least_all tree number clearings below)
  where
    both : (tree cleared rest : ℕ) → nat_le tree (min cleared rest) ≡ (nat_le tree cleared && nat_le tree rest)
    both tree cleared rest = grind (arith, nat_tests)

    one : (joined : Bool) (tree cleared rest : ℕ) (all : Bool) → nat_le tree rest ≡ all
        → nat_le tree (if joined then rest else min cleared rest) ≡ ((joined || nat_le tree cleared) && all)
    one true tree cleared rest all is = is
    one false tree cleared rest all is = both tree cleared rest ∙ ap (λ b. nat_le tree cleared && b) is

-- a row that is not of the present tree, where a grace period passes
settled_use : (passed number since : ℕ) (clearings : List Clearing) → since ≤ number
    → (if nat_le since (max passed (cleared_up_to number clearings)) then RowUse.Free else RowUse.Waits since)
    ≡ reclaimed clearings (if nat_le since passed then RowUse.Free else RowUse.Waits since)
settled_use passed number since clearings below = elim (cases_lt passed since) [
  | inl before ↦
      let now : nat_le since passed ≡ false = later since passed before in
      ap (λ b. if b then RowUse.Free else RowUse.Waits since)
      (past since passed (cleared_up_to number clearings) before ∙ least_all since number clearings below)
      ∙ sym (ap (reclaimed clearings) (cond-false (nat_le since passed) RowUse.Free (RowUse.Waits since) now))
  | inr after ↦
      cond-true (nat_le since (max passed (cleared_up_to number clearings))) RowUse.Free (RowUse.Waits since)
      (le-leb since (max passed (cleared_up_to number clearings)) (omega (arith, after)))
      ∙ sym (ap (reclaimed clearings) (cond-true (nat_le since passed) RowUse.Free (RowUse.Waits since) (le-leb since passed after)))
]
  where
    later : (since passed : ℕ) → passed < since → nat_le since passed ≡ false
    later since passed before = grind (arith, nat_tests)

    past : (since passed least : ℕ) → passed < since → nat_le since (max passed least) ≡ nat_le since least
    past since passed least before = grind (arith, nat_tests)

-- a row of the present tree stays so
by_tree : (clearings : List Clearing) (here : Bool) (new old : RowUse) → new ≡ reclaimed clearings old
    → (if here then RowUse.Present else new) ≡ reclaimed clearings (if here then RowUse.Present else old)
by_tree clearings true new old is = refl
by_tree clearings false new old is = is

-- a row that a publish leaves out, and that was not of the tree before, keeps its use
kept_use : (number since : ℕ) (free : Bool) → published_use number false (if free then RowUse.Free else RowUse.Waits since)
    ≡ (if free then RowUse.Free else RowUse.Waits since)
kept_use number since true = refl
kept_use number since false = refl

-- a test before others fails where no row is answered
fails : {A : Type 0} (test : Bool) (answer : A) (rest : Option A) → (if test then Some answer else rest) ≡ None → test ≡ false
fails true answer rest none = cc
fails false answer rest none = refl

-- a publish that is not refused has the next number
next_number : (core : GraceCore) (number : ℕ) (rows : List Row) → grace_refusal core (Publish number rows) ≡ None
    → number ≡ core.writer_state.tree.number + 1
unfolding grace_refusal
next_number core number rows none =
    eqb-true number (core.writer_state.tree.number + 1)
    (right (nat_eq number (core.writer_state.tree.number + 1)) (fails _ _ _ none))
  where
    right : (same : Bool) → is_some (if same then None else Some number) ≡ false → same ≡ true
    right true is = refl
    right false is = cc

publish_use : (core : GraceCore) (number : ℕ) (rows : List Row) (row : ℕ) → GraceFacts core → number ≡ core.writer_state.tree.number + 1
    → use_of (after_grace_event core (Publish number rows)).writer_state row ≡ use_after core (Publish number rows) row (use_of core.writer_state row)
publish_use core number rows row facts next = elim (cases_Bool listed) [
  | inl here ↦
      cond-true listed RowUse.Present _ here
      ∙ sym (ap (λ b. reclaimed writer_state.clearings (published_use number b (use_of writer_state row))) here)
  | inr out ↦
      cond-false listed RowUse.Present _ out ∙ left out
      ∙ sym (ap (λ b. reclaimed writer_state.clearings (published_use number b (use_of writer_state row))) out)
]
  where
    writer_state : WriterState
    writer_state = core.writer_state

    new : GraceTreeView
    new = next_tree writer_state number (numbers_of rows)

    listed : Bool
    listed = nat_lt 0 (times row (numbers_of rows))

    since : ℕ
    since = since_at writer_state.since row

    after : ℕ → RowUse
    after n = if nat_le n (max writer_state.passed (cleared_up_to number writer_state.clearings)) then RowUse.Free else RowUse.Waits n

    now : RowUse
    now = if nat_le since writer_state.passed then RowUse.Free else RowUse.Waits since

    late : (passed number : ℕ) → passed < number → nat_le number passed ≡ false
    late passed number before = grind (arith, nat_tests)

    left : listed ≡ false
        → after (since_at (since_from 0 writer_state.tree new writer_state.since) row)
        ≡ reclaimed writer_state.clearings (published_use number false (use_of writer_state row))
    left out = elim (cases_Bool (has_row writer_state.tree row)) [
      | inl had ↦
          let within : row < length writer_state.since = omega (arith, facts.writer_facts.present.exist row had, facts.writer_facts.sized) in
          ap after (since_left writer_state.tree new writer_state.since row within had out)
          ∙ settled_use writer_state.passed number number writer_state.clearings (omega arith)
          ∙ ap (reclaimed writer_state.clearings)
          (cond-false (nat_le number writer_state.passed) RowUse.Free (RowUse.Waits number)
          (late writer_state.passed number (omega (arith, next, facts.writer_facts.passed))))
          ∙ sym (ap (λ was. reclaimed writer_state.clearings (published_use number false was))
          (cond-true (has_row writer_state.tree row) RowUse.Present now had))
      | inr gone ↦
          ap after (since_same writer_state.tree new writer_state.since row gone)
          ∙ settled_use writer_state.passed number since writer_state.clearings (omega (arith, next, facts.writer_facts.since row))
          ∙ ap (reclaimed writer_state.clearings) (sym (kept_use number since (nat_le since writer_state.passed)))
          ∙ sym (ap (λ was. reclaimed writer_state.clearings (published_use number false was))
          (cond-false (has_row writer_state.tree row) RowUse.Present now gone))
    ]

pub uses_change : UsesChange
uses_change core (Open reader) row facts accepted = refl
uses_change core (Root reader) row facts accepted = refl
uses_change core (Word reader other) row facts accepted = refl
uses_change core (Close reader) row facts accepted = refl
uses_change core (Fill other word) row facts accepted = refl
uses_change core (Publish number rows) row facts accepted = publish_use core number rows row facts (next_number core number rows accepted)
uses_change core (Scan reader) row facts accepted =
    let writer_state = core.writer_state in
    let clearings = (after_scan core reader).writer_state.clearings in
    by_tree clearings (has_row writer_state.tree row) _ _
    (settled_use writer_state.passed writer_state.tree.number (since_at writer_state.since row) clearings (facts.writer_facts.since row))
uses_change core (Split reader) row facts accepted = refl
uses_change core (Join first second) row facts accepted =
    let writer_state = core.writer_state in
    let clearings = (after_grace_join core second).writer_state.clearings in
    by_tree clearings (has_row writer_state.tree row) _ _
    (settled_use writer_state.passed writer_state.tree.number (since_at writer_state.since row) clearings (facts.writer_facts.since row))

-- no row waits at first
none_since : (rows row : ℕ) → since_at (replicate rows 0) row ≡ 0
none_since zero row = refl
none_since (suc rows) zero = refl
none_since (suc rows) (suc row) = none_since rows row

pub uses_begin : UsesBegin
uses_begin readers rows row = elim (cases_eq row 0) [
  | inl first ↦ subst (λ n. use_of (opening_writer_state readers rows) n ≡ (if nat_eq n 0 then RowUse.Present else RowUse.Free)) (sym first) refl
  | inr other ↦
      cond-false (nat_lt 0 (times row (0 ∷ []))) RowUse.Present _ (le-ltb 0 (times row (0 ∷ [])) (omega (arith, out other)))
      ∙ cond-true (nat_le (since_at (replicate rows 0) row) 0) RowUse.Free _ (le-leb (since_at (replicate rows 0) row) 0 (omega (arith, none_since rows row)))
      ∙ sym (cond-false (nat_eq row 0) RowUse.Present RowUse.Free (ne_eqb row 0 other))
]
  where
    out : row ≢ 0 → times row (0 ∷ []) ≡ 0
    out other =
        let none = cond-false {A = ℕ} (nat_eq 0 row) 1 0 (ne_eqb 0 row (λ same. other (sym same))) in
        omega (arith, none, sum_by-cons (λ (y : ℕ). cond (nat_eq y row) 1 0) 0 [])
