-- The numbers of lines: they rise, so that a number has one line; and what a line names is a call before it.
use Rattle.std.proofs.Common.{ℕ, zero, suc, ◌≡◌, ◌≢◌, ◌<◌, ◌∙◌, refl, sym, ap, subst, Bool, true, false, nat_eq, nat_lt, List, [], ◌∷◌, filter, get_or, slice_get, All, Option, Some, IfSome, arith, inl, inr}
use Rattle.std.specs.List.{Contains}
use Rattle.std.specs.List.Sorted.{IsNonDecreasingBy, IsPartitionPoint, IsPartitionedBy}
use Rattle.std.proofs.lemmas.Bool.{cases_Bool, cases_lt, cases_eq, cases_order, cond-true, cond-false, eq-eqb, eqb-true}
use Rattle.std.proofs.lemmas.List.Elements.{at_from_Contains}
use Rattle.std.proofs.lemmas.Bool.Decides.{nat_tests}
use Rattle.std.proofs.lemmas.List.Sorted.{IsPartitionedBy-ltb}
use Rattle.std.proofs.lemmas.List.Kept.{AllPairs-filter}
use Rattle.std.proofs.lemmas.Option.{slice_get_within, slice_get-get_or, get_or_from_slice_get, same_Some}
use Rattle.trace_reader.specs.declared.trace.TraceLine.{TraceLine}
use Rattle.trace_reader.specs.Values.{is_call_op, AreNumbered, NamesACall, AreNamesRight}
use Rattle.history.specs.Histories.{caller_of, lines_of}
use Rattle.history.proofs.Lists.{at_place}

-- of lines whose numbers rise, an earlier one has the lower number
pub rises_at : (lines : List TraceLine) → AreNumbered lines → (i j : ℕ) (a b : TraceLine) → slice_get lines i ≡ Some a → slice_get lines j ≡ Some b
    → i < j → a.number < b.number
rises_at lines numbered i j a b here there below =
    let low : get_or lines i a ≡ a = get_or_from_slice_get lines i a a here in
    let high : get_or lines j a ≡ b = get_or_from_slice_get lines j b a there in
    subst (λ (x : TraceLine). x.number < b.number) low
    (subst (λ (x : TraceLine). (get_or lines i a).number < x.number) high (numbered i j a below (slice_get_within lines j b there)))

-- so a number has one place
pub one_place : (lines : List TraceLine) → AreNumbered lines → (i j : ℕ) (a b : TraceLine) → slice_get lines i ≡ Some a → slice_get lines j ≡ Some b
    → a.number ≡ b.number → i ≡ j
one_place lines numbered i j a b here there same = elim (cases_order i j) [
  | inl level ↦ level
  | inr apart ↦ elim apart [
    | inl below ↦ absurd (omega (arith, rises_at lines numbered i j a b here there below, same))
    | inr above ↦ absurd (omega (arith, rises_at lines numbered j i b a there here above, same))
  ]
]

-- and one line
pub one_line : (lines : List TraceLine) → AreNumbered lines → (i j : ℕ) (a b : TraceLine) → slice_get lines i ≡ Some a → slice_get lines j ≡ Some b
    → a.number ≡ b.number → a ≡ b
one_line lines numbered i j a b here there same =
    let level : i ≡ j = one_place lines numbered i j a b here there same in
    same_Some a b (sym here ∙ ap (slice_get lines) level ∙ there)

-- the place of an element
pub place_of : (lines : List TraceLine) (line : TraceLine) → Contains lines line → (i : ℕ) × (slice_get lines i ≡ Some line)
place_of lines line has =
    let found = at_from_Contains lines line has in
    (found.0, slice_get-get_or lines found.0 line found.1 ∙ ap Some (found.2 line))

-- a search by halving finds the place of a number
pub rises_weakly : (lines : List TraceLine) → AreNumbered lines → IsNonDecreasingBy (λ (line : TraceLine). line.number) lines
rises_weakly lines numbered = λ i j d up within. elim (cases_eq i j) [
  | inl same ↦ let level : (get_or lines i d).number ≡ (get_or lines j d).number = ap (λ (k : ℕ). (get_or lines k d).number) same in omega arith
  | inr apart ↦ omega (arith, numbered i j d (omega arith) within)
]

pub halves : (lines : List TraceLine) (number : ℕ) → AreNumbered lines → IsPartitionedBy (λ (line : TraceLine). nat_lt line.number number) lines
halves lines number numbered = IsPartitionedBy-ltb (λ (line : TraceLine). line.number) lines number (rises_weakly lines numbered)

pub none_has : (lines : List TraceLine) (number place : ℕ) → AreNumbered lines
    → IsPartitionPoint (λ (line : TraceLine). nat_lt line.number number ≡ true) (λ (line : TraceLine). nat_lt line.number number ≡ false) lines place
    → ((line : TraceLine) → slice_get lines place ≡ Some line → line.number ≢ number) → All (λ line. line.number ≢ number) lines
none_has lines number place numbered point other = λ k d within. λ same. elim (cases_lt k place) [
  | inl below ↦
      let low : nat_lt (get_or lines k d).number number ≡ true = point.0 k d (omega arith) below in
      absurd (grind (arith, nat_tests, low, same))
  | inr above ↦ elim (cases_eq k place) [
    | inl level ↦ other (get_or lines k d) (ap (slice_get lines) (sym level) ∙ slice_get-get_or lines k d within) same
    | inr apart ↦
        let high : nat_lt (get_or lines place d).number number ≡ false = point.1 place d (omega arith) (omega arith) in
        let more : (get_or lines place d).number < (get_or lines k d).number = numbered place k d (omega arith) within in
        absurd (grind (arith, nat_tests, high, more, same))
  ]
]

-- the numbers of a caller's lines rise
pub own_numbered : (lines : List TraceLine) (caller : ℕ) → AreNumbered lines → AreNumbered (lines_of lines caller)
unfolding lines_of
own_numbered lines caller numbered =
    AllPairs-filter (λ (a b : TraceLine). a.number < b.number) (λ (line : TraceLine). nat_eq (caller_of lines line.thread) caller) lines numbered

-- what passes a test has a place in the whole list, and passes
pub passed : (p : TraceLine → Bool) (lines : List TraceLine) (place : ℕ) (line : TraceLine) → slice_get (filter p lines) place ≡ Some line
    → (i : ℕ) × (slice_get lines i ≡ Some line) × (p line ≡ true)
passed p [] place line found = absurd (cc)
passed p (first ∷ lines) place line found = elim (cases_Bool (p first)) [
  | inl passes ↦
      at_first place (ap (λ (l : List TraceLine). slice_get l place) (sym (cond-true (p first) (first ∷ filter p lines) (filter p lines) passes)) ∙ found)
      passes (λ k there. passed p lines k line there)
  | inr fails ↦
      let later = passed p lines place line
      (ap (λ (l : List TraceLine). slice_get l place) (sym (cond-false (p first) (first ∷ filter p lines) (filter p lines) fails)) ∙ found) in
      (suc later.0, later.1, later.2)
]
  where
    at_first : (place : ℕ) → slice_get (first ∷ filter p lines) place ≡ Some line → p first ≡ true
        → ((k : ℕ) → slice_get (filter p lines) k ≡ Some line → (i : ℕ) × (slice_get lines i ≡ Some line) × (p line ≡ true))
        → (i : ℕ) × (slice_get (first ∷ lines) i ≡ Some line) × (p line ≡ true)
    at_first zero found passes rest = let is : first ≡ line = cc in (0, ap Some is, ap p (sym is) ∙ passes)
    at_first (suc place) found passes rest = let later = rest place found in (suc later.0, later.1, later.2)

-- what has a place and passes has one in what passes
kept : (p : TraceLine → Bool) (lines : List TraceLine) (place : ℕ) (line : TraceLine) → slice_get lines place ≡ Some line → p line ≡ true
    → (i : ℕ) × (slice_get (filter p lines) i ≡ Some line)
kept p [] place line found passes = absurd (cc)
kept p (first ∷ lines) zero line found passes =
    let is : first ≡ line = cc in (
      0,
      ap (λ (l : List TraceLine). slice_get l 0)
          (cond-true (p first) (first ∷ filter p lines) (filter p lines) (ap p is ∙ passes))
          ∙ ap Some is,
    )
kept p (first ∷ lines) (suc place) line found passes =
    let later = kept p lines place line found passes in
    elim (cases_Bool (p first)) [
      | inl here ↦ (suc later.0, ap (λ (l : List TraceLine). slice_get l (suc later.0)) (cond-true (p first) (first ∷ filter p lines) (filter p lines) here) ∙ later.1)
      | inr gone ↦ (later.0, ap (λ (l : List TraceLine). slice_get l later.0) (cond-false (p first) (first ∷ filter p lines) (filter p lines) gone) ∙ later.1)
    ]

-- a caller's line is one of the lines, and its thread is that caller
pub own_place : (lines : List TraceLine) (caller place : ℕ) (line : TraceLine) → slice_get (lines_of lines caller) place ≡ Some line
    → (i : ℕ) × (slice_get lines i ≡ Some line) × (caller_of lines line.thread ≡ caller)
unfolding lines_of
own_place lines caller place line found =
    let at = passed (λ (line : TraceLine). nat_eq (caller_of lines line.thread) caller) lines place line found in
    (at.0, at.1, eqb-true (caller_of lines line.thread) caller at.2)

-- and each line is one of its caller's
pub owned : (lines : List TraceLine) (place : ℕ) (line : TraceLine) → slice_get lines place ≡ Some line
    → (i : ℕ) × (slice_get (lines_of lines (caller_of lines line.thread)) i ≡ Some line)
unfolding lines_of
owned lines place line found =
    kept (λ (l : TraceLine). nat_eq (caller_of lines l.thread) (caller_of lines line.thread)) lines place line found
    (eq-eqb (caller_of lines line.thread) (caller_of lines line.thread) refl)

-- what a line names is a call, and has a lower number
pub names_call : (lines : List TraceLine) → AreNumbered lines → (line : TraceLine) (number : ℕ) → NamesACall lines line → line.after ≡ Some number
    → (place : ℕ) (named : TraceLine) → slice_get lines place ≡ Some named → named.number ≡ number
    → (is_call_op named.op ≡ true) × (named.number < line.number)
names_call lines numbered line number names after place named here same =
    let told = subst (λ (o : Option ℕ). IfSome o (λ number. (other : TraceLine) × Contains lines other × (other.number ≡ number)
    × (number < line.number) × (other.thread ≡ line.thread → ⊥) × (is_call_op other.op ≡ true))) after names in
    let at = place_of lines told.0 told.1 in
    let is : told.0 ≡ named = one_line lines numbered at.0 place told.0 named at.1 here (told.2 ∙ sym same) in
    (subst (λ (l : TraceLine). is_call_op l.op ≡ true) is told.5, omega (arith, same, told.3))

pub named_calls : (lines : List TraceLine) → AreNumbered lines → AreNamesRight lines
    → (caller place : ℕ) (line : TraceLine) (number : ℕ) → slice_get (lines_of lines caller) place ≡ Some line → line.after ≡ Some number
    → (teller there : ℕ) (named : TraceLine) → slice_get (lines_of lines teller) there ≡ Some named → named.number ≡ number
    → is_call_op named.op ≡ true
named_calls lines numbered names caller place line number found after teller there named its same =
    let mine = own_place lines caller place line found in
    let other = own_place lines teller there named its in
    (names_call lines numbered line number (at_place (NamesACall lines) lines mine.0 line names mine.1) after other.0 named other.1 same).0

-- what a line names, as a line of its caller
pub record IsNamed (lines : List TraceLine) (number : ℕ) : Type 0 where
  pub teller : ℕ
  pub place : ℕ
  pub line : TraceLine
  pub its : slice_get (lines_of lines teller) place ≡ Some line
  pub numbered : line.number ≡ number

-- there is one
pub named_line : (lines : List TraceLine) (line : TraceLine) (number : ℕ) → NamesACall lines line → line.after ≡ Some number → IsNamed lines number
named_line lines line number names after =
    let call = subst (λ (a : Option ℕ). IfSome a (λ n. (other : TraceLine) × Contains lines other × (other.number ≡ n) × (n < line.number)
    × (other.thread ≢ line.thread) × (is_call_op other.op ≡ true))) after names in
    let at = place_of lines call.0 call.1 in
    let mine = owned lines at.0 call.0 at.1 in
    record { teller = caller_of lines call.0.thread; place = mine.0; line = call.0; its = mine.1; numbered = call.2 }
