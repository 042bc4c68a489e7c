-- Lines that name lines: where a named line stands, and how often the lines of a caller are named.
use Rattle.std.proofs.Common.{ℕ, zero, suc, ◌≡◌, ◌+◌, ◌<◌, ◌∙◌, refl, sym, ap, subst, cond, true, false, nat_eq, nat_lt, List, [], ◌∷◌, ◌++◌, length, take, get_or, slice_get, count_by, Option, Some, None, IfSome, arith, inl, inr}
use Rattle.std.specs.Prelude.{find, option_and_then}
use Rattle.std.specs.Option.{option_map_or}
use Rattle.std.specs.List.{Contains}
use Rattle.std.specs.List.Sorted.{IsPartitionPoint}
use Rattle.std.proofs.lemmas.Bool.{cases_lt, cases_eq, cond-true, cond-false, eq-eqb, ne_eqb}
use Rattle.std.proofs.lemmas.Bool.Decides.{nat_tests}
use Rattle.std.proofs.lemmas.List.{take_more}
use Rattle.std.proofs.lemmas.List.Sums.{sum_by_push}
use Rattle.std.proofs.lemmas.Option.{same_Some, slice_get_within, slice_get-get_or, get_or_from_slice_get}
use Rattle.trace_reader.specs.declared.trace.TraceLine.{TraceLine}
use Rattle.trace_reader.specs.Values.{AreNumbered, NamesACall, AreNamesRight, is_call_op}
use Rattle.history.specs.Histories.{caller_of}
use Rattle.history.proofs.Lists.{at_place}
use Rattle.history.proofs.Numbers.{rises_at, one_place, names_call, place_of}
use Rattle.vma_drive.specs.Naming.{HasNumber, NamesAt, names_caller}

-- a search by halving finds the place of a number
pub halved : (lines : List TraceLine) (number place : ℕ) → AreNumbered lines
    → IsPartitionPoint (λ (line : TraceLine). nat_lt line.number number ≡ true) (λ (line : TraceLine). nat_lt line.number number ≡ false) lines place
    → (at : ℕ) × HasNumber lines number at → HasNumber lines number place
halved lines number place numbered point has =
    let line : TraceLine = has.1.0 in
    let found : slice_get lines has.0 ≡ Some line = has.1.1 in
    let same : line.number ≡ number = has.1.2 in
    let within : has.0 < length lines = slice_get_within lines has.0 line found in
    let read : get_or lines has.0 line ≡ line = get_or_from_slice_get lines has.0 line line found in
    elim (cases_lt has.0 place) [
      | inl below ↦
          let low : nat_lt line.number number ≡ true =
          ap (λ (l : TraceLine). nat_lt l.number number) (sym read) ∙ point.0 has.0 line (omega arith) below in
          absurd (grind (arith, nat_tests, low, same))
      | inr above ↦ elim (cases_eq has.0 place) [
        | inl level ↦ (line, ap (slice_get lines) (sym level) ∙ found, same)
        | inr apart ↦
            let here : TraceLine = get_or lines place line in
            let stands : slice_get lines place ≡ Some here = slice_get-get_or lines place line (omega (arith, above, apart, within)) in
            let high : nat_lt here.number number ≡ false = point.1 place line (omega arith) (omega (arith, above, apart, within)) in
            let more : here.number < line.number = rises_at lines numbered place has.0 here line stands found (omega (arith, above, apart)) in
            absurd (grind (arith, nat_tests, high, more, same))
      ]
    ]

-- what a line names is an earlier line
pub named_before : (lines : List TraceLine) → AreNumbered lines → AreNamesRight lines → (place said : ℕ) → NamesAt lines place said → said < place
named_before lines numbered names place said at =
    let lower : at.other.number < at.line.number =
    (names_call lines numbered at.line at.other.number (at_place (NamesACall lines) lines place at.line names at.stands) at.after said at.other at.there refl).1 in
    elim (cases_lt said place) [
      | inl early ↦ early
      | inr late ↦ elim (cases_eq place said) [
        | inl level ↦
            let one : at.line ≡ at.other = same_Some at.line at.other (sym at.stands ∙ ap (slice_get lines) level ∙ at.there) in
            absurd (omega (arith, lower, ap (λ (l : TraceLine). l.number) one))
        | inr apart ↦
            absurd (omega (
              arith,
              lower,
              rises_at lines numbered place said at.line at.other at.stands at.there (omega (arith, late, apart)),
            ))
      ]
    ]

-- and it has one place
pub one_named : (lines : List TraceLine) → AreNumbered lines → (place a b : ℕ) → NamesAt lines place a → NamesAt lines place b → a ≡ b
one_named lines numbered place a b one two =
    let line : one.line ≡ two.line = same_Some one.line two.line (sym one.stands ∙ two.stands) in
    let number : one.other.number ≡ two.other.number =
    same_Some one.other.number two.other.number (sym one.after ∙ ap (λ (l : TraceLine). l.after) line ∙ two.after) in
    one_place lines numbered a b one.other two.other one.there two.there number

-- the line of the number that a line names has a place
pub name_stands : (lines : List TraceLine) (place : ℕ) (line : TraceLine) (number : ℕ) → AreNamesRight lines
    → slice_get lines place ≡ Some line → line.after ≡ Some number → (said : ℕ) × HasNumber lines number said
name_stands lines place line number names found after =
    let told = subst (λ (o : Option ℕ). IfSome o (λ number. (other : TraceLine) × Contains lines other × (other.number ≡ number)
    × (number < line.number) × (other.thread ≡ line.thread → ⊥) × (is_call_op other.op ≡ true))) after
    (at_place (NamesACall lines) lines place line names found) in
    let at = place_of lines told.0 told.1 in
    (at.0, (told.0, at.1, told.2))

abbrev pub names_at : (lines : List TraceLine) (place said : ℕ) (line : TraceLine) (number : ℕ) → slice_get lines place ≡ Some line → line.after ≡ Some number
    → HasNumber lines number said → NamesAt lines place said
names_at lines place said line number found after has = record {
  line = line;
  other = has.0;
  stands = found;
  there = has.1;
  after = after ∙ ap Some (sym has.2);
}

-- of the places below a bound, where it is one of them
pub place_low : (lines : List TraceLine) (number place bound : ℕ) (after : Option ℕ) → AreNumbered lines
    → IfSome after (λ number. (said : ℕ) × HasNumber lines number said × (said < bound)) → after ≡ Some number → HasNumber lines number place
    → place < bound
place_low lines number place bound after numbered low is has =
    let its = subst (λ (o : Option ℕ). IfSome o (λ number. (said : ℕ) × HasNumber lines number said × (said < bound))) is low in
    let level : place ≡ its.0 = one_place lines numbered place its.0 has.0 its.1.0 has.1 its.1.1 (has.2 ∙ sym its.1.2) in
    omega (arith, level, its.2)

-- the first line of a number is the one line of it
find_numbered : (lines : List TraceLine) → AreNumbered lines → (said : ℕ) (other : TraceLine) → slice_get lines said ≡ Some other
    → find (λ (l : TraceLine). nat_eq l.number other.number) lines ≡ Some other
find_numbered [] numbered said other found = absurd (omega (arith, slice_get_within [] said other found))
find_numbered (line ∷ lines) numbered zero other found =
    let same : line ≡ other = same_Some line other found in
    cond-true (nat_eq line.number other.number) (Some line) (find (λ (l : TraceLine). nat_eq l.number other.number) lines)
    (eq-eqb line.number other.number (ap (λ (l : TraceLine). l.number) same)) ∙ ap Some same
find_numbered (line ∷ lines) numbered (suc said) other found =
    let more : line.number < other.number = rises_at (line ∷ lines) numbered 0 (suc said) line other refl found (omega arith) in
    cond-false (nat_eq line.number other.number) (Some line) (find (λ (l : TraceLine). nat_eq l.number other.number) lines)
    (ne_eqb line.number other.number (λ same. omega (arith, more, same)))
    ∙ find_numbered lines (λ i j d less within. numbered (suc i) (suc j) d (omega arith) (omega arith)) said other found

-- a line that names a line names one of its caller's
pub names_its : (lines : List TraceLine) (place said caller : ℕ) → AreNumbered lines → (at : NamesAt lines place said)
    → names_caller lines caller at.line ≡ nat_eq (caller_of lines at.other.thread) caller
names_its lines place said caller numbered at =
    ap (λ (o : Option ℕ). option_map_or (λ (l : TraceLine). nat_eq (caller_of lines l.thread) caller)
    (option_and_then (λ (number : ℕ). find (λ (l : TraceLine). nat_eq l.number number) lines) o) false) at.after
    ∙ ap (λ (o : Option TraceLine). option_map_or (λ (l : TraceLine). nat_eq (caller_of lines l.thread) caller) o false)
    (find_numbered lines numbered said at.other at.there)

-- one that names none names no caller's
pub names_none : (lines : List TraceLine) (caller : ℕ) (line : TraceLine) → line.after ≡ None → names_caller lines caller line ≡ false
names_none lines caller line none =
    ap (λ (o : Option ℕ). option_map_or (λ (l : TraceLine). nat_eq (caller_of lines l.thread) caller)
    (option_and_then (λ (number : ℕ). find (λ (l : TraceLine). nat_eq l.number number) lines) o) false) none

-- one line more
pub counted : (lines : List TraceLine) (place caller : ℕ) (line : TraceLine) → slice_get lines place ≡ Some line
    → count_by (names_caller lines caller) (take (place + 1) lines)
    ≡ count_by (names_caller lines caller) (take place lines) + cond (names_caller lines caller line) 1 0
counted lines place caller line found =
    ap (count_by (names_caller lines caller)) (take_more lines place line (slice_get_within lines place line found)
    ∙ ap (λ (l : TraceLine). take place lines ++ l ∷ []) (get_or_from_slice_get lines place line line found))
    ∙ sum_by_push (λ (l : TraceLine). cond (names_caller lines caller l) 1 0) (take place lines) line
