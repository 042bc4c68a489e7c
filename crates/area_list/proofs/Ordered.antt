-- For the function that finds where mprotect(2) stops: which area of a list in order has a page.
use Rattle.std.proofs.Common.{◌≡◌, ℕ, ◌<◌, ◌≤◌, Bool, true, false, cond, List, [], ◌∷◌, Option, Some, All, refl, sym, ap, subst, arith}
use Rattle.std.proofs.lemmas.Bool.Decides.{nat_tests}
use Rattle.std.proofs.lemmas.List.Elements.{All-head, All-tail}
use Rattle.mm_types.specs.declared.area.Record.{Record}
use Rattle.mm_types.specs.Records.{IsValid}
use Rattle.area_list.specs.Areas.{OfFirst, Neighbours, area_at, has_page}
use Rattle.area_list.proofs.Finding.{find_passes}

-- an area ends where the next begins, or below it
abbrev pub IsOrdered : List Record → Type 0
IsOrdered areas = Neighbours (λ (a b : Record). a.span.hi ≤ b.span.lo) areas

above_more : (first : Record) (low page : ℕ) (rest : Option Record) (area : Record) (test : Bool) → has_page first.span page ≡ test → IsValid first → low ≤ first.span.lo
    → (rest ≡ Some area → first.span.hi ≤ page) → cond test (Some first) rest ≡ Some area → low ≤ page
above_more first low page rest area true has valid above later found =
    let from : first.span.lo ≤ page = grind (arith, nat_tests) in omega arith
above_more first low page rest area false has valid above later found = let from = later found in omega (arith, valid.some_pages)

-- a page that an area has lies above what the first area lies above
pub page_above : (areas : List Record) (low page : ℕ) (area : Record) → All IsValid areas → IsOrdered areas → OfFirst (λ (b : Record). low ≤ b.span.lo) areas
    → area_at areas page ≡ Some area → low ≤ page
page_above [] low page area valid ordered above found = cc
page_above (first ∷ areas) low page area valid ordered above found =
    above_more first low page (area_at areas page) area (has_page first.span page) refl (All-head IsValid first areas valid) above
    (page_above areas first.span.hi page area (All-tail IsValid first areas valid) ordered.1 ordered.0) found

same_more : (first area : Record) (page other : ℕ) (rest rest_other : Option Record) (test : Bool) → has_page first.span page ≡ test → page ≤ other → other < area.span.hi
    → (rest ≡ Some area → first.span.hi ≤ page) → (rest ≡ Some area → rest_other ≡ Some area) → cond test (Some first) rest ≡ Some area
    → cond (has_page first.span other) (Some first) rest_other ≡ Some area
same_more first area page other rest rest_other true has behind within later same found =
    let is : first ≡ area = cc in
    let ends : other < first.span.hi = subst (λ (a : Record). other < a.span.hi) (sym is) within in
    let from : first.span.lo ≤ page = grind (arith, nat_tests) in
    let has_other : has_page first.span other ≡ true = grind (arith, nat_tests) in rw has_other (ap (λ a. Some a) is)
same_more first area page other rest rest_other false has behind within later same found =
    let above = later found in
    let past : has_page first.span other ≡ false = grind (arith, nat_tests) in rw past (same found)

-- the area that has a page has each page from there to its end
pub same_area : (areas : List Record) (page other : ℕ) (area : Record) → All IsValid areas → IsOrdered areas → area_at areas page ≡ Some area
    → page ≤ other → other < area.span.hi → area_at areas other ≡ Some area
same_area [] page other area valid ordered found behind within = cc
same_area (first ∷ areas) page other area valid ordered found behind within =
    same_more first area page other (area_at areas page) (area_at areas other) (has_page first.span page) refl behind within
    (page_above areas first.span.hi page area (All-tail IsValid first areas valid) ordered.1 ordered.0)
    (λ rest. same_area areas page other area (All-tail IsValid first areas valid) ordered.1 rest behind within) found

-- an area that has a page ends above it
pub ends_above : (areas : List Record) (page : ℕ) (area : Record) → area_at areas page ≡ Some area → page < area.span.hi
ends_above areas page area found =
    let has : has_page area.span page ≡ true = find_passes (λ (a : Record). has_page a.span page) areas area found in grind (arith, nat_tests)
