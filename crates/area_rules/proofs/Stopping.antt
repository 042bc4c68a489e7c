-- For the function that finds where mprotect(2) stops.
use Rattle.std.proofs.Common.{◌≡◌, ℕ, ◌<◌, ◌≤◌, ◌&&◌, not, Bool, true, false, nat_le, List, Option, Some, None, All, inl, inr, arith}
use Rattle.std.proofs.lemmas.Bool.{cases_lt}
use Rattle.std.proofs.lemmas.Bool.Decides.{nat_tests}
use Rattle.mm_types.specs.declared.area.Prot.{Prot}
use Rattle.mm_types.specs.declared.area.Record.{Record}
use Rattle.mm_types.specs.declared.area.Span.{Span}
use Rattle.mm_types.specs.Records.{IsValid, holds_all}
use Rattle.area_list.specs.Areas.{area_at}
use Rattle.area_rules.specs.Mprotect.{may_have, stop_of}
use Rattle.area_list.proofs.Ordered.{IsOrdered, same_area}
use Rattle.area_rules.proofs.Searching.{least_is, least_none}

stop_tests : (lo page : ℕ) (may : Bool) → (lo ≤ page → may ≡ true) → (nat_le lo page && not may) ≡ false
stop_tests lo page may all = grind (arith, nat_tests)

-- each page of the range may have the protection
pub stop_at_end : (prot : Prot) (range : Span) (areas : List Record)
    → ((page : ℕ) → range.lo ≤ page → page < range.hi → may_have prot (area_at areas page) ≡ true) → stop_of prot range areas ≡ range.hi
unfolding stop_of
stop_at_end prot range areas all = rw (least_none (λ page. nat_le range.lo page && not (may_have prot (area_at areas page))) range.hi
    (λ page below. stop_tests range.lo page (may_have prot (area_at areas page)) (λ from. all page from below)))

-- a page of the range may not have it, and each before it may
pub stop_before : (prot : Prot) (range : Span) (areas : List Record) (stop : ℕ) → range.lo ≤ stop → stop < range.hi → may_have prot (area_at areas stop) ≡ false
    → ((page : ℕ) → range.lo ≤ page → page < stop → may_have prot (area_at areas page) ≡ true) → stop_of prot range areas ≡ stop
unfolding stop_of
stop_before prot range areas stop above below denied all = rw (least_is (λ page. nat_le range.lo page && not (may_have prot (area_at areas page))) range.hi stop
    below (grind (arith, nat_tests)) (λ page less. stop_tests range.lo page (may_have prot (area_at areas page)) (λ from. all page from less)))

pub may_not_unmapped : (prot : Prot) (found : Option Record) → found ≡ None → may_have prot found ≡ false
unfolding may_have
may_not_unmapped prot found is = rw is

pub may_by_area : (prot : Prot) (found : Option Record) (area : Record) (may : Bool) → found ≡ Some area → holds_all area.attr.most prot ≡ may → may_have prot found ≡ may
unfolding may_have
may_by_area prot found area may is holds = rw (is, holds)

-- each page up to the end of an area that may have it, and those before
pub may_up_to : (prot : Prot) (areas : List Record) (lo page : ℕ) (area : Record) → All IsValid areas → IsOrdered areas → area_at areas page ≡ Some area
    → holds_all area.attr.most prot ≡ true → ((p : ℕ) → lo ≤ p → p < page → may_have prot (area_at areas p) ≡ true)
    → (p : ℕ) → lo ≤ p → p < area.span.hi → may_have prot (area_at areas p) ≡ true
may_up_to prot areas lo page area valid ordered found holds before p from within = elim (cases_lt p page) [
  | inl less ↦ before p from less
  | inr behind ↦ may_by_area prot (area_at areas p) area true (same_area areas page p area valid ordered found behind within) holds
]
