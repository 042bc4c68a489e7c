-- For `GraceState::open`, `GraceState::publish`, `GraceState::scan` and others: each event that is not refused keeps the
-- four facts of the grace protocol.
use Rattle.std.proofs.Common.{ℕ, zero, suc, ◌≡◌, ◌<◌, ◌+◌, ◌%◌, ◌^◌, ◌∙◌, true, false, cond, nat_eq, List, [], ◌∷◌, ◌++◌, length, get_or, set, refl, sym, ap, subst, arith, inl, inr, Option, Some, None}
use Rattle.std.specs.List.{All}
use Rattle.std.proofs.lemmas.Bool.{cases_eq, eqb-true, eqb-false, cond-false}
use Rattle.std.proofs.lemmas.Bool.Decides.{eqb_tells}
use Rattle.std.proofs.lemmas.List.{get_or-set_other}
use Rattle.std.proofs.lemmas.List.Elements.{All-head, All-tail}
use Rattle.std.proofs.lemmas.List.Sums.{sum_by-cons}
use Rattle.mm_types.specs.declared.slot.Row.{Row}
use Rattle.grace_core.specs.Core.{GraceCore, GraceTreeView, times, pin_at, snapshot_at, is_free_row, is_open, Exists, numbers_of}
use Rattle.grace_core.specs.Steps.{turned}
use Rattle.grace_core.specs.Events.{after_open, after_root, after_close, after_fill, after_publish, after_scan, after_grace_split, after_grace_join}
use Rattle.grace_core.specs.Facts.{Keeps, WriterFacts, GraceFacts}
use Rattle.grace_core.proofs.Elements.{each_set, one_set}
use Rattle.grace_core.proofs.Moves.{loads, fill_writer_facts, fill_keeps, publish_writer_facts, publish_keeps, scan_writer_facts, scan_keeps, split_writer_facts, split_keeps, join_writer_facts, join_keeps}

-- what is kept of each reader
abbrev pub EachKeeps : GraceCore → Type 0
EachKeeps core = (reader : ℕ) (tree : GraceTreeView) → snapshot_at core.snapshots reader ≡ Some tree → Keeps core.writer_state reader (pin_at core.pins reader) tree

-- it follows from the facts
pub each_keeps : (core : GraceCore) → GraceFacts core → EachKeeps core
each_keeps core facts reader tree some =
    let open_pin = facts.pins.only_open reader tree some in
    record { odd = open_pin.0; exists = open_pin.1; words = facts.snapshots reader tree some; holds = facts.waiting reader tree some }

-- and the facts from it
pub facts_from : (core : GraceCore) → ((reader : ℕ) → pin_at core.pins reader < 2 ^ 64) → WriterFacts core.writer_state → EachKeeps core → GraceFacts core
facts_from core fits writer_facts each = record {
  pins = record { fits = fits; only_open = λ reader tree some. let keeps = each reader tree some in (keeps.odd, keeps.exists) };
  snapshots = λ reader tree some. (each reader tree some).words;
  waiting = λ reader tree some. (each reader tree some).holds;
  writer_facts = writer_facts;
}

-- a turned pin fits
fits_turned : (core : GraceCore) (reader : ℕ) → GraceFacts core → (other : ℕ) → pin_at (set core.pins reader (turned (pin_at core.pins reader))) other < 2 ^ 64
fits_turned core reader facts = each_set (λ _ pin. pin < 2 ^ 64) core.pins reader (turned (pin_at core.pins reader)) 0 facts.pins.fits (omega arith)

-- an even pin is not odd
not_odd : (pin : ℕ) → is_open pin ≡ false → pin % 2 ≡ 1 → ⊥
not_odd pin closed odd = eqb-false (pin % 2) 1 closed odd

-- open
pub open_facts : (core : GraceCore) (reader : ℕ) → GraceFacts core → is_open (pin_at core.pins reader) ≡ false → GraceFacts (after_open core reader)
open_facts core reader facts closed = facts_from (after_open core reader) (fits_turned core reader facts) facts.writer_facts
    (λ other tree some.
    let keeps = each_keeps core facts other tree some in
    one_set (λ pin. Keeps core.writer_state other pin tree) core.pins reader other (turned (pin_at core.pins reader)) 0 keeps
    (λ same. absurd (not_odd (pin_at core.pins reader) closed (subst (λ n. pin_at core.pins n % 2 ≡ 1) same keeps.odd))))

-- root
pub root_facts : (core : GraceCore) (reader : ℕ) → GraceFacts core → is_open (pin_at core.pins reader) ≡ true → Exists core.writer_state.clearings reader
    → GraceFacts (after_root core reader)
root_facts core reader facts odd exists = facts_from (after_root core reader) facts.pins.fits facts.writer_facts
    (λ other. one_set (λ (snapshot : Option GraceTreeView). (tree : GraceTreeView) → snapshot ≡ Some tree → Keeps core.writer_state other (pin_at core.pins other) tree)
    core.snapshots reader other (Some core.writer_state.tree) None (each_keeps core facts other)
    (λ same tree some.
    let loaded = loads core.writer_state reader (pin_at core.pins reader) facts.writer_facts exists (eqb-true (pin_at core.pins reader % 2) 1 odd) in
    let is : core.writer_state.tree ≡ tree = cc in
    subst (λ n. Keeps core.writer_state n (pin_at core.pins n) tree) (sym same)
    (subst (λ (t : GraceTreeView). Keeps core.writer_state reader (pin_at core.pins reader) t) is loaded)))

-- what was set to the default is the default
set_default : {A : Type 0} (xs : List A) (i : ℕ) (d : A) → get_or (set xs i d) i d ≡ d
set_default [] i d = refl
set_default (x ∷ xs) zero d = refl
set_default (x ∷ xs) (suc i) d = set_default xs i d

-- close
pub close_facts : (core : GraceCore) (reader : ℕ) → GraceFacts core → GraceFacts (after_close core reader)
close_facts core reader facts = facts_from (after_close core reader) (fits_turned core reader facts) facts.writer_facts each
  where
    each : EachKeeps (after_close core reader)
    each other tree some = elim (cases_eq other reader) [
      | inl same ↦
          let none = set_default core.snapshots reader None in
          let at = subst (λ n. get_or (set core.snapshots reader None) n None ≡ Some tree) same some in
          absurd (let e = sym none ∙ at in cc)
      | inr apart ↦
          let before = sym (get_or-set_other core.snapshots reader other None None apart) ∙ some in
          subst (λ pin. Keeps core.writer_state other pin tree) (sym (get_or-set_other core.pins reader other (turned (pin_at core.pins reader)) 0 apart))
          (each_keeps core facts other tree before)
    ]

-- fill
pub fill_facts : (core : GraceCore) (row word : ℕ) → GraceFacts core → is_free_row core.writer_state row ≡ true → GraceFacts (after_fill core row word)
fill_facts core row word facts free = facts_from (after_fill core row word) facts.pins.fits (fill_writer_facts core.writer_state row 0 word facts.writer_facts free)
    (λ other tree some. fill_keeps core.writer_state row 0 word other (pin_at core.pins other) tree free (each_keeps core facts other tree some))

-- what is so of each row of a list is so of each row that is listed
pub listed : (P : ℕ → Type 0) (rows : List Row) → All (λ row. P row.0) rows → (row : ℕ) → 0 < times row (numbers_of rows) → P row
listed P [] all row some = absurd (omega arith)
listed P (one ∷ rows) all row some =
    let first = sum_by-cons (λ other. cond (nat_eq other row) 1 0) one.0 (numbers_of rows) in
    elim (eqb_tells one.0 row) [
      | inl here ↦ subst P here.1 (All-head (λ (r : Row). P r.0) one rows all)
      | inr apart ↦
          let none = cond-false {A = ℕ} (nat_eq one.0 row) 1 0 apart.0 in
          listed P rows (All-tail (λ (r : Row). P r.0) one rows all) row (omega (arith, some, first, none))
    ]

-- publish
pub publish_facts : (core : GraceCore) (number : ℕ) (rows : List Row) → GraceFacts core → number ≡ core.writer_state.tree.number + 1
    → All (λ row. row.0 < length core.writer_state.words) rows → GraceFacts (after_publish core number (numbers_of rows))
publish_facts core number rows facts next exist =
    let later : core.writer_state.tree.number < number = omega arith in
    facts_from (after_publish core number (numbers_of rows)) facts.pins.fits
    (publish_writer_facts core.writer_state number (numbers_of rows) facts.writer_facts later (listed (λ row. row < length core.writer_state.words) rows exist))
    (λ other tree some. publish_keeps core.writer_state number (numbers_of rows) other (pin_at core.pins other) tree facts.writer_facts later (each_keeps core facts other tree some))

-- scan
pub scan_facts : (core : GraceCore) (reader : ℕ) → GraceFacts core → GraceFacts (after_scan core reader)
scan_facts core reader facts = facts_from (after_scan core reader) facts.pins.fits (scan_writer_facts core.writer_state reader (pin_at core.pins reader) facts.writer_facts)
    (λ other tree some. scan_keeps core.writer_state reader (pin_at core.pins reader) other (pin_at core.pins other) tree
    (λ same. ap (pin_at core.pins) (sym same)) (each_keeps core facts other tree some))

-- the default at the end of a list changes no element
push_default : {A : Type 0} (xs : List A) (d : A) (k : ℕ) → get_or (xs ++ d ∷ []) k d ≡ get_or xs k d
push_default [] d zero = refl
push_default [] d (suc k) = refl
push_default (x ∷ xs) d zero = refl
push_default (x ∷ xs) d (suc k) = push_default xs d k

-- split
pub split_facts : (core : GraceCore) → GraceFacts core → GraceFacts (after_grace_split core)
split_facts core facts = facts_from (after_grace_split core)
    (λ reader. subst (λ pin. pin < 2 ^ 64) (sym (push_default core.pins 0 reader)) (facts.pins.fits reader))
    (split_writer_facts core.writer_state facts.writer_facts)
    (λ other tree some. subst (λ pin. Keeps (after_grace_split core).writer_state other pin tree) (sym (push_default core.pins 0 other))
    (split_keeps core.writer_state other (pin_at core.pins other) tree (each_keeps core facts other tree (sym (push_default core.snapshots None other) ∙ some))))

-- join
pub join_facts : (core : GraceCore) (reader : ℕ) → GraceFacts core → is_open (pin_at core.pins reader) ≡ false → GraceFacts (after_grace_join core reader)
join_facts core reader facts closed = facts_from (after_grace_join core reader) facts.pins.fits (join_writer_facts core.writer_state reader facts.writer_facts)
    (λ other tree some.
    let keeps = each_keeps core facts other tree some in
    join_keeps core.writer_state reader other (pin_at core.pins other) tree
    (λ same. not_odd (pin_at core.pins reader) closed (subst (λ n. pin_at core.pins n % 2 ≡ 1) same keeps.odd)) keeps)
