-- For the function that looks for a page that is not mapped.
use Rattle.std.proofs.Common.{◌≡◌, ℕ, ◌<◌, ◌≤◌, ◌&&◌, Bool, true, false, nat_le, List, Option, Some, None, is_none, All, inl, inr, arith}
use Rattle.std.proofs.lemmas.Bool.{cases_lt}
use Rattle.std.proofs.lemmas.Bool.Decides.{nat_tests}
use Rattle.mm_types.specs.declared.area.Record.{Record}
use Rattle.mm_types.specs.declared.area.Span.{Span}
use Rattle.mm_types.specs.Records.{IsValid}
use Rattle.area_list.specs.Areas.{area_at}
use Rattle.area_list.proofs.Ordered.{IsOrdered, same_area}
use Rattle.area_rules.specs.Mseal.{has_hole}
use Rattle.area_rules.proofs.Searching.{least_is, least_none}

mapped_tests : (lo page : ℕ) (unmapped : Bool) → (lo ≤ page → unmapped ≡ false) → (nat_le lo page && unmapped) ≡ false
mapped_tests lo page unmapped all = grind (arith, nat_tests)

-- each page of the span is mapped
pub no_hole : (span : Span) (areas : List Record)
    → ((page : ℕ) → span.lo ≤ page → page < span.hi → is_none (area_at areas page) ≡ false) → has_hole span areas ≡ false
unfolding has_hole
no_hole span areas all = rw (least_none (λ page. nat_le span.lo page && is_none (area_at areas page)) span.hi
    (λ page below. mapped_tests span.lo page (is_none (area_at areas page)) (λ from. all page from below)))

-- a page of the span is not mapped, and each before it is
pub hole_at : (span : Span) (areas : List Record) (hole : ℕ) → span.lo ≤ hole → hole < span.hi → area_at areas hole ≡ None
    → ((page : ℕ) → span.lo ≤ page → page < hole → is_none (area_at areas page) ≡ false) → has_hole span areas ≡ true
unfolding has_hole
hole_at span areas hole above below unmapped all = rw (least_is (λ page. nat_le span.lo page && is_none (area_at areas page)) span.hi hole
    below (rw unmapped (grind (arith, nat_tests))) (λ page less. mapped_tests span.lo page (is_none (area_at areas page)) (λ from. all page from less)))

mapped_by : (found : Option Record) (area : Record) → found ≡ Some area → is_none found ≡ false
mapped_by found area is = rw is

-- each page up to the end of an area, and those before
pub mapped_up_to : (areas : List Record) (lo page : ℕ) (area : Record) → All IsValid areas → IsOrdered areas → area_at areas page ≡ Some area
    → ((p : ℕ) → lo ≤ p → p < page → is_none (area_at areas p) ≡ false)
    → (p : ℕ) → lo ≤ p → p < area.span.hi → is_none (area_at areas p) ≡ false
mapped_up_to areas lo page area valid ordered found before p from within = elim (cases_lt p page) [
  | inl less ↦ before p from less
  | inr behind ↦ mapped_by (area_at areas p) area (same_area areas page p area valid ordered found behind within)
]
