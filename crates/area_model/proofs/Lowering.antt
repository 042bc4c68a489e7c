-- For `lowered`: an area of a list that is in the way of a place.
use Rattle.std.proofs.Common.{◌≡◌, ℕ, ◌+◌, ◌<◌, ◌||◌, Bool, false, nat_le, List, ◌∷◌, ◌++◌, length, length-append, append_assoc, [], refl, ap, ◌∙◌, arith}
use Rattle.std.specs.List.{list_all}
use Rattle.std.proofs.lemmas.Bool.Decides.{nat_tests}
use Rattle.std.proofs.lemmas.List.{get_or_at}
use Rattle.std.proofs.lemmas.List.Folds.{list_all_at}
use Rattle.mm_types.specs.declared.area.Record.{Record}
use Rattle.area_rules.specs.Placement.{is_free}
use Rattle.area_rules.proofs.Placing.{free_each}

way_tests : (lo hi start pages : ℕ) → lo < start + pages → start < hi → (nat_le (start + pages) lo || nat_le hi start) ≡ false
way_tests lo hi start pages begins ends = grind (arith, nat_tests)

-- no place that has a page of an area of the list is free
pub way_of_one : (areas front back : List Record) (area : Record) (pages start : ℕ) → areas ≡ front ++ area ∷ back
    → area.span.lo < start + pages → start < area.span.hi → is_free areas pages start ≡ false
way_of_one areas front back area pages start parts begins ends =
    let clear : Record → Bool = λ a. nat_le (start + pages) a.span.lo || nat_le a.span.hi start in
    let within : length front < length (front ++ area ∷ back) = omega (arith, length-append front (area ∷ back)) in
    free_each areas pages start ∙ ap (λ (l : List Record). list_all clear l) parts
    ∙ list_all_at clear (front ++ area ∷ back) (length front) area within
    (ap clear (get_or_at front area back area (length front) refl) ∙ way_tests area.span.lo area.span.hi start pages begins ends)

-- one area less is left, and it stands behind
pub one_less : (areas old left : List Record) (area : Record) (behind : List Record) → areas ≡ old ++ behind → old ≡ left ++ area ∷ []
    → areas ≡ left ++ area ∷ behind
one_less areas old left area behind parts is =
    parts ∙ ap (λ (l : List Record). l ++ behind) is ∙ append_assoc left (area ∷ []) behind
