-- For `has_told`: a search by halving finds the one line of a number.
use Rattle.std.proofs.Common.{◌≡◌, ℕ, ◌<◌, ◌≤◌, Bool, true, false, not, ◌&&◌, nat_eq, nat_lt, List, length, get_or, sym, ap, ◌∙◌, inl, inr, arith}
use Rattle.std.specs.List.{HoldsAt, list_any}
use Rattle.std.specs.List.Sorted.{IsNonDecreasingBy, IsPartitionPoint, IsPartitionedBy}
use Rattle.std.proofs.lemmas.Bool.{and_parts, cases_Bool, cases_lt, cases_eq, eqb-true}
use Rattle.std.proofs.lemmas.Bool.Decides.{nat_tests}
use Rattle.std.proofs.lemmas.List.Folds.{Any-from_list_any, list_any_at}
use Rattle.std.proofs.lemmas.List.Sorted.{IsPartitionedBy-ltb}
use Rattle.trace_reader.specs.declared.trace.TraceLine.{TraceLine}
use Rattle.trace_reader.specs.Lines.{has_child, is_told}
use Rattle.trace_reader.specs.Values.{is_call_op, AreNumbered}

rises_weakly : (lines : List TraceLine) → AreNumbered lines → IsNonDecreasingBy (λ (line : TraceLine). line.number) lines
rises_weakly lines numbered = λ i j d up within. elim (cases_eq i j) [
  | inl same ↦ let level : (get_or lines i d).number ≡ (get_or lines j d).number = ap (λ (k : ℕ). (get_or lines k d).number) same in omega arith
  | inr apart ↦ omega (arith, numbered i j d (omega arith) within)
]

-- lines whose numbers rise can be halved by a number
pub halves : (lines : List TraceLine) (number : ℕ) → AreNumbered lines → IsPartitionedBy (λ (line : TraceLine). nat_lt line.number number) lines
halves lines number numbered = IsPartitionedBy-ltb (λ (line : TraceLine). line.number) lines number (rises_weakly lines numbered)

-- the lines below this number end at this place
abbrev pub IsPlaceOf : List TraceLine → ℕ → ℕ → Type 0
IsPlaceOf lines number place = IsPartitionPoint (λ (line : TraceLine). nat_lt line.number number ≡ true)
    (λ (line : TraceLine). nat_lt line.number number ≡ false) lines place

-- a line of this number stands there
only_there : (lines : List TraceLine) (number place : ℕ) → AreNumbered lines → IsPlaceOf lines number place
    → (k : ℕ) (d : TraceLine) → k < length lines → (get_or lines k d).number ≡ number → k ≡ place
only_there lines number place numbered point k d within same = elim (cases_lt k place) [
  | inl below ↦
      let low : nat_lt (get_or lines k d).number number ≡ true = point.0 k d (omega arith) below in
      absurd (grind (arith, nat_tests, low, same))
  | inr above ↦ elim (cases_eq k place) [
    | inl level ↦ level
    | inr apart ↦
        let high : nat_lt (get_or lines place d).number number ≡ false = point.1 place d (omega arith) (omega arith) in
        let more : (get_or lines place d).number < (get_or lines k d).number = numbered place k d (omega arith) within in
        absurd (grind (arith, nat_tests, high, more, same))
  ]
]

-- so where a line stands there, a test that only lines of this number pass asks that line
pub one_tested : (p : TraceLine → Bool) (lines : List TraceLine) (number place : ℕ) → AreNumbered lines → IsPlaceOf lines number place
    → ((line : TraceLine) → p line ≡ true → line.number ≡ number)
    → (line : TraceLine) → place < length lines → HoldsAt (λ other. line ≡ other) lines place → p line ≡ list_any p lines
one_tested p lines number place numbered point only line within here = elim (cases_Bool (p line)) [
  | inl passes ↦ passes ∙ sym (list_any_at p lines place line within (ap p (sym (here line)) ∙ passes))
  | inr fails ↦ elim (cases_Bool (list_any p lines)) [
    | inl some ↦
        let found = Any-from_list_any p lines some in
        let level : found.0 ≡ place = only_there lines number place numbered point found.0 found.1 found.2
        (ap (λ (l : TraceLine). l.number) found.3 ∙ only found.1 found.4) in
        let same : line ≡ found.1 = here found.1 ∙ ap (λ (k : ℕ). get_or lines k found.1) (sym level) ∙ found.3 in
        ap p same ∙ found.4 ∙ sym some
    | inr none ↦ fails ∙ sym none
  ]
]

-- and where none does, no line passes it
pub none_tested : (p : TraceLine → Bool) (lines : List TraceLine) (number place : ℕ) → AreNumbered lines → IsPlaceOf lines number place
    → ((line : TraceLine) → p line ≡ true → line.number ≡ number) → length lines ≤ place → false ≡ list_any p lines
none_tested p lines number place numbered point only past = elim (cases_Bool (list_any p lines)) [
  | inl some ↦
      let found = Any-from_list_any p lines some in
      let level : found.0 ≡ place = only_there lines number place numbered point found.0 found.1 found.2
      (ap (λ (l : TraceLine). l.number) found.3 ∙ only found.1 found.4) in
      let within = found.2 in
      absurd (omega arith)
  | inr none ↦ sym none
]

-- such a test is that of the line that a line names
pub told_number : (children : List ℕ) (thread number : ℕ) (other : TraceLine) → is_told children thread number other ≡ true → other.number ≡ number
told_number children thread number other told = eqb-true other.number number (and_parts (nat_eq other.number number)
    (is_call_op other.op && (not (nat_eq other.thread thread) && not (has_child children other.thread))) told).0
