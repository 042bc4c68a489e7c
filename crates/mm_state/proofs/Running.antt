-- For `run_before`, `AreaStore::detach_all` and `AreaStore::change_all`: changes that take away areas which adjoin each other.
use Rattle.std.proofs.Common.{◌≡◌, ◌≢◌, ◌≤◌, ◌<◌, ◌+◌, ◌-◌, ℕ, suc, zero, List, [], ◌∷◌, ◌++◌, length, take, drop, get_or, refl, sym, ap, ◌∙◌, subst, arith, drop-cons, inl, inr}
use Rattle.std.specs.List.{Contains}
use Rattle.std.proofs.lemmas.Bool.{cases_lt}
use Rattle.std.proofs.lemmas.List.Elements.{Contains-append_right}
use Rattle.std.proofs.lemmas.List.{length-drop, length-take, drop-drop, drop-take, get_or-drop, get_or-take, take-append-drop}
use Rattle.mm_types.specs.declared.area.Record.{Record}
use Rattle.split_merge.specs.declared.plan.Change.{Change}
use Rattle.split_merge.specs.declared.plan.Change.TheVariants.{Detach, Alter, Add}
use Rattle.split_merge.specs.Plans.{olds_of}
use Rattle.mm_state.specs.Internal.Runs.{IsRunOfRemovals}

-- a part of changes from one place before on
pub part_more : (changes : List Change) (place first end : ℕ) (d : Change) → place + 1 ≡ first → first ≤ end → end ≤ length changes
    → take (end - place) (drop place changes) ≡ get_or changes place d ∷ take (end - first) (drop first changes)
part_more changes place first end d next upto within =
    let within : place < length changes = omega arith in
    let more : end - place ≡ suc (end - first) = omega arith in
    let same : suc place ≡ first = omega arith in
    ap (take (end - place)) (drop-cons changes place d within)
    ∙ ap (λ n. take n (get_or changes place d ∷ drop (suc place) changes)) more
    ∙ ap (λ n. get_or changes place d ∷ take (end - first) (drop n changes)) same

-- no change is a run with no pages
pub run_begins : (changes : List Change) (first end page hi : ℕ) → first ≡ end → page ≡ hi → IsRunOfRemovals page hi (take (end - first) (drop first changes))
run_begins changes first end page hi none same =
    let empty : end - first ≡ 0 = omega arith in
    subst (λ n. IsRunOfRemovals page hi (take n (drop first changes))) (sym empty) same

-- the pages of a run by other names
pub run_joins : (changes : List Change) (first end lo page hi other : ℕ) → page ≡ lo → hi ≡ other → IsRunOfRemovals lo hi (take (end - first) (drop first changes))
    → IsRunOfRemovals page other (take (end - first) (drop first changes))
run_joins changes first end lo page hi other begins ends run =
    subst (λ n. IsRunOfRemovals n other (take (end - first) (drop first changes))) (sym begins) (subst (λ n. IsRunOfRemovals lo n (take (end - first) (drop first changes))) ends run)

-- a run with one area more before it
pub run_more : (changes : List Change) (place first end hi : ℕ) (d : Change) (area : Record) → place + 1 ≡ first → first ≤ end → end ≤ length changes
    → get_or changes place d ≡ Detach area → IsRunOfRemovals area.span.hi hi (take (end - first) (drop first changes)) → IsRunOfRemovals area.span.lo hi (take (end - place) (drop place changes))
run_more changes place first end hi d area next upto within is run =
    subst (IsRunOfRemovals area.span.lo hi) (sym (part_more changes place first end d next upto within))
    (subst (λ change. IsRunOfRemovals area.span.lo hi (change ∷ take (end - first) (drop first changes))) (sym is) (refl, run))

-- each change of a run takes an area away, and from there on it is a run
pub run_from : (lo hi : ℕ) (changes : List Change) (place : ℕ) (d : Change) → IsRunOfRemovals lo hi changes → place < length changes
    → (area : Record) × (get_or changes place d ≡ Detach area) × IsRunOfRemovals area.span.hi hi (drop (suc place) changes)
run_from lo hi [] place d run within = absurd (omega arith)
run_from lo hi (Detach area ∷ changes) zero d run within = (area, refl, run.1)
run_from lo hi (Detach area ∷ changes) (suc place) d run within = run_from area.span.hi hi changes place d run.1 (omega arith)
run_from lo hi (Alter old new ∷ changes) place d run within = absurd run
run_from lo hi (Add new ∷ changes) place d run within = absurd run

-- the changes from a place on are one change and these
pub record IsPart (changes : List Change) (first : ℕ) (change : Change) (others : List Change) : Type 0 where
  pub within : first < length changes
  pub here : get_or changes first change ≡ change
  pub rest : others ≡ drop (suc first) changes

pub part_of : (changes : List Change) (first : ℕ) (change : Change) (rest : List Change) → change ∷ rest ≡ drop first changes → IsPart changes first change rest
part_of changes first change rest is =
    let inside : first < length changes = omega (arith, ap length is, length-drop first changes) in
    let parts : change ∷ rest ≡ get_or changes first change ∷ drop (suc first) changes = is ∙ drop-cons changes first change inside in
    record { within = inside; here = cc; rest = cc }

-- a part of changes, and those after it
pub part_rest : (changes : List Change) (first left : ℕ) → first ≤ left → left ≤ length changes → take (left - first) (drop first changes) ++ drop left changes ≡ drop first changes
part_rest changes first left upto within =
    let sum : first + (left - first) ≡ left = omega arith in
    ap (λ n. take (left - first) (drop first changes) ++ drop n changes) (sym sum)
    ∙ ap (λ list. take (left - first) (drop first changes) ++ list) (sym (drop-drop (left - first) first changes))
    ∙ take-append-drop (left - first) (drop first changes)

-- every change of a run takes an area away
pub never_other : (lo hi : ℕ) (changes : List Change) (place : ℕ) (d : Change) → IsRunOfRemovals lo hi changes → place < length changes
    → ((area : Record) → get_or changes place d ≡ Detach area → ⊥) → ⊥
never_other lo hi changes place d run within never =
    let from : (area : Record) × (get_or changes place d ≡ Detach area) × IsRunOfRemovals area.span.hi hi (drop (suc place) changes) = run_from lo hi changes place d run within in
    never from.0 from.1

-- which is among those that it takes away
pub run_old : (lo hi : ℕ) (changes : List Change) (place : ℕ) (d : Change) (area : Record) → IsRunOfRemovals lo hi changes → place < length changes
    → get_or changes place d ≡ Detach area → Contains (olds_of changes) area
run_old lo hi [] place d area run within is = absurd (omega arith)
run_old lo hi (Detach first ∷ changes) zero d area run within is = let same : first ≡ area = cc in (0, omega arith, same)
run_old lo hi (Detach first ∷ changes) (suc place) d area run within is =
    Contains-append_right (first ∷ []) (olds_of changes) area (run_old first.span.hi hi changes place d area run.1 (omega arith) is)
run_old lo hi (Alter old new ∷ changes) place d area run within is = absurd run
run_old lo hi (Add new ∷ changes) place d area run within is = absurd run

-- the changes after one of a run are a run from the end of its area on
pub run_after : (lo hi : ℕ) (changes : List Change) (place left : ℕ) (d : Change) (area : Record) → IsRunOfRemovals lo hi changes → place < length changes → place + 1 ≡ left
    → get_or changes place d ≡ Detach area → IsRunOfRemovals area.span.hi hi (drop left changes)
run_after lo hi changes place left d area run within next is =
    let from : (other : Record) × (get_or changes place d ≡ Detach other) × IsRunOfRemovals other.span.hi hi (drop (suc place) changes) = run_from lo hi changes place d run within in
    let there : get_or changes place d ≡ Detach from.0 = from.1 in
    let same : from.0 ≡ area = cc in
    let count : suc place ≡ left = omega arith in
    subst (λ n. IsRunOfRemovals area.span.hi hi (drop n changes)) count (subst (λ (other : Record). IsRunOfRemovals other.span.hi hi (drop (suc place) changes)) same from.2)

-- a run has each change between its ends, which takes an area away, and from there on it is a run
pub run_passes : (changes : List Change) (first place end lo hi : ℕ) (d : Change) → first ≤ place → place < end → end ≤ length changes
    → IsRunOfRemovals lo hi (take (end - first) (drop first changes))
    → (area : Record) × (get_or changes place d ≡ Detach area) × IsRunOfRemovals area.span.hi hi (take (end - (place + 1)) (drop (place + 1) changes))
run_passes changes first place end lo hi d from upto within run =
    let many = length-take (end - first) (drop first changes) in
    let all = length-drop first changes in
    let at : (area : Record) × (get_or (take (end - first) (drop first changes)) (place - first) d ≡ Detach area)
    × IsRunOfRemovals area.span.hi hi (drop (suc (place - first)) (take (end - first) (drop first changes))) =
    run_from lo hi (take (end - first) (drop first changes)) (place - first) d run (omega (arith, many, all)) in
    let here : first + (place - first) ≡ place = omega arith in
    let parts : end - first ≡ suc (place - first) + (end - (place + 1)) = omega arith in
    let next : first + suc (place - first) ≡ place + 1 = omega arith in
    let rest : drop (suc (place - first)) (drop first changes) ≡ drop (place + 1) changes =
    drop-drop (suc (place - first)) first changes ∙ ap (λ n. drop n changes) next in
    let same : get_or (take (end - first) (drop first changes)) (place - first) d ≡ get_or changes place d =
    get_or-take (end - first) (drop first changes) (place - first) d (omega arith) ∙ get_or-drop first changes (place - first) d
    ∙ ap (λ n. get_or changes n d) here in
    let cut : drop (suc (place - first)) (take (end - first) (drop first changes)) ≡ take (end - (place + 1)) (drop (suc (place - first)) (drop first changes)) =
    ap (λ n. drop (suc (place - first)) (take n (drop first changes))) parts ∙ drop-take (suc (place - first)) (end - (place + 1)) (drop first changes) in
    (at.0, ◌∙◌ {c = Detach at.0} (sym same) at.1, subst (IsRunOfRemovals at.0.span.hi hi) (cut ∙ ap (take (end - (place + 1))) rest) at.2)

-- where a run with a change begins
pub run_begin : (lo hi page other : ℕ) (changes : List Change) → 0 < length changes → IsRunOfRemovals lo hi changes → IsRunOfRemovals page other changes → lo ≡ page
run_begin lo hi page other [] some run run2 = absurd (omega arith)
run_begin lo hi page other (Detach area ∷ changes) some run run2 = sym run.0 ∙ run2.0
run_begin lo hi page other (Alter old new ∷ changes) some run run2 = absurd run
run_begin lo hi page other (Add new ∷ changes) some run run2 = absurd run

-- a run that the change before it does not lengthen is the longest that ends there
pub longest_from : (changes : List Change) (first end lo hi : ℕ) (d : Change) → 0 < first → first ≤ end → end ≤ length changes
    → IsRunOfRemovals lo hi (take (end - first) (drop first changes))
    → ((area : Record) → get_or changes (first - 1) d ≡ Detach area → (first < end) × (area.span.hi ≢ lo))
    → (other page upto : ℕ) → IsRunOfRemovals page upto (take (end - other) (drop other changes)) → first ≤ other
longest_from changes first end lo hi d some within all run stops other page upto longer = elim (cases_lt other first) [
  | inl less ↦
      let last : (area : Record) × (get_or changes (first - 1) d ≡ Detach area) × IsRunOfRemovals area.span.hi upto (take (end - (first - 1 + 1)) (drop (first - 1 + 1) changes)) =
      run_passes changes other (first - 1) end page upto d (omega arith) (omega arith) all longer in
      let stop = stops last.0 last.1 in
      let inside = stop.0 in
      let next : first - 1 + 1 ≡ first = omega arith in
      let rest : IsRunOfRemovals last.0.span.hi upto (take (end - first) (drop first changes)) = subst (λ n. IsRunOfRemovals last.0.span.hi upto (take (end - n) (drop n changes))) next last.2 in
      let many = length-take (end - first) (drop first changes) in
      let count = length-drop first changes in
      absurd (stop.1 (run_begin last.0.span.hi upto lo hi (take (end - first) (drop first changes)) (omega (arith, inside, all, many, count)) rest run))
  | inr more ↦ more
]

-- nor does one whose area ends elsewhere than where the run begins
pub longest_apart : (changes : List Change) (first end lo hi : ℕ) (d : Change) (area : Record) → 0 < first → first < end → end ≤ length changes
    → IsRunOfRemovals lo hi (take (end - first) (drop first changes)) → get_or changes (first - 1) d ≡ Detach area → area.span.hi ≢ lo
    → (other page upto : ℕ) → IsRunOfRemovals page upto (take (end - other) (drop other changes)) → first ≤ other
longest_apart changes first end lo hi d area some inside all run is apart = longest_from changes first end lo hi d some (omega arith) all run
    (λ other there. let same : other ≡ area = cc in (inside, subst (λ (r : Record). r.span.hi ≢ lo) (sym same) apart))
