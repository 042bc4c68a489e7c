-- For the law `protect_changes_the_prefix`: where mprotect(2) stops, and the list that it leaves.
use Rattle.std.proofs.Common.{◌≡◌, ◌≤◌, ◌<◌, ◌↔◌, subst, inl, inr, ℕ, Bool, true, false, not, ◌&&◌, if◌then◌else◌, nat_le, List, Option, Some, None, option_map, refl, ◌∙◌, sym, arith}
use Rattle.std.specs.Option.{unwrap_or, IfSome}
use Rattle.std.proofs.lemmas.Bool.{cases_lt, both_ways}
use Rattle.std.proofs.lemmas.Bool.Decides.{nat_tests}
use Rattle.mm_types.specs.declared.area.Span.{Span}
use Rattle.mm_types.specs.declared.area.Prot.{Prot}
use Rattle.mm_types.specs.declared.area.Record.{Record}
use Rattle.area_list.specs.declared.attributes.AttrChange.TheVariants.{Protection}
use Rattle.area_list.specs.Attributes.{may_become, changed_page}
use Rattle.area_list.specs.Areas.{IsCanonical, has_page, page_map, area_at}
use Rattle.area_list.specs.Laws.{AllMayBecome}
use Rattle.area_list.proofs.Holding.{lies_in}
use Rattle.area_list.proofs.Changed.{changed_canonical, page_map-changed}
use Rattle.area_list.proofs.Uniqueness.{canonical_unique}
use Rattle.area_rules.specs.Placement.{least_below}
use Rattle.area_rules.specs.Mprotect.{may_have, stop_of, protected_prefix, IsStop, prefix_of}
use Rattle.area_rules.proofs.Searching.{least_some, none_from_least}

-- the stop of a range
pub stop_is : (prot : Prot) (range : Span) (areas : List Record) → range.lo ≤ range.hi
    → IsStop prot range areas (stop_of prot range areas)
unfolding stop_of
stop_is prot range areas some = at (least_below stops range.hi) refl
  where
    stops : ℕ → Bool
    stops page = nat_le range.lo page && not (may_have prot (area_at areas page))

    goes_on : (lo page : ℕ) (may : Bool) → lo ≤ page → (nat_le lo page && not may) ≡ false → may ≡ true
    goes_on lo page may low h = grind (arith, nat_tests)

    stopped_at : (lo page : ℕ) (may : Bool) → (nat_le lo page && not may) ≡ true → (lo ≤ page) × (may ≡ false)
    stopped_at lo page may h = (grind (arith, nat_tests), grind (arith, nat_tests))

    at : (found : Option ℕ) → least_below stops range.hi ≡ found → IsStop prot range areas (unwrap_or found range.hi)
    at None none = record {
      begins = some;
      ends = omega arith;
      before = λ page low high. goes_on range.lo page (may_have prot (area_at areas page)) low
          (none_from_least stops range.hi none page high);
      stopped = λ less. absurd (omega arith);
    }
    at (Some stop) found =
        let least = least_some stops range.hi stop found in
        let here = stopped_at range.lo stop (may_have prot (area_at areas stop)) least.1 in
        record {
          begins = here.0;
          ends = omega (arith, least.0);
          before = λ page low high. goes_on range.lo page (may_have prot (area_at areas page)) low
              (least.2 page high);
          stopped = λ less. here.1;
        }

-- and no other page is one
only_stop : (prot : Prot) (range : Span) (areas : List Record) (one other : ℕ) → IsStop prot range areas one → IsStop prot range areas other
    → one < other → ⊥
only_stop prot range areas one other first second less =
    both_ways (may_have prot (area_at areas one)) (first.stopped (omega (arith, less, second.ends))) (second.before one first.begins less)

pub the_stop : (prot : Prot) (range : Span) (areas : List Record) (stop : ℕ) → range.lo ≤ range.hi
    → IsStop prot range areas stop ↔ (stop ≡ stop_of prot range areas)
the_stop prot range areas stop some =
    let is = stop_is prot range areas some in (
      λ found. elim (cases_lt stop (stop_of prot range areas)) [
        | inl less ↦ absurd (only_stop prot range areas stop (stop_of prot range areas) found is less)
        | inr more ↦ elim (cases_lt (stop_of prot range areas) stop) [
          | inl less ↦ absurd (only_stop prot range areas (stop_of prot range areas) stop is found less)
          | inr same ↦ omega (arith, more, same)
        ]
      ],
      λ same. subst (IsStop prot range areas) (sym same) is,
    )

allowed_there : (prot : Prot) (o : Option Record) → may_have prot o ≡ true
    → IfSome o (λ area. may_become (Protection prot) area.attr ≡ true)
unfolding may_have
allowed_there prot None may = tt
allowed_there prot (Some area) may = may

prefix_may : (prot : Prot) (range : Span) (areas : List Record) → range.lo ≤ range.hi
    → AllMayBecome (Protection prot) (prefix_of prot range areas) areas
prefix_may prot range areas some = λ page here.
    let within = lies_in (prefix_of prot range areas) page here in
    allowed_there prot (area_at areas page) ((stop_is prot range areas some).before page within.low within.high)

pub prefix_canonical : (end : ℕ) (prot : Prot) (range : Span) (areas : List Record) → range.lo ≤ range.hi
    → IsCanonical end areas → IsCanonical end (protected_prefix prot range areas)
unfolding protected_prefix
prefix_canonical end prot range areas some c =
    changed_canonical end (Protection prot) (prefix_of prot range areas) areas ((stop_is prot range areas some).begins) c
    (prefix_may prot range areas some)

pub page_map-prefix : (end : ℕ) (prot : Prot) (range : Span) (areas : List Record) (page : ℕ) → range.lo ≤ range.hi
    → IsCanonical end areas → page_map (protected_prefix prot range areas) page
    ≡ (if has_page (prefix_of prot range areas) page then option_map (changed_page (Protection prot)) (page_map areas page)
    else page_map areas page)
unfolding protected_prefix
page_map-prefix end prot range areas page some c =
    page_map-changed end (Protection prot) (prefix_of prot range areas) areas page ((stop_is prot range areas some).begins) c
    (prefix_may prot range areas some)

-- the list after mprotect(2) is the only canonical list with this map of pages
pub prefix_unique : (end : ℕ) (prot : Prot) (range : Span) (areas others : List Record) → range.lo ≤ range.hi
    → IsCanonical end areas → IsCanonical end others
    → ((page : ℕ) → page_map others page
    ≡ (if has_page (prefix_of prot range areas) page then option_map (changed_page (Protection prot)) (page_map areas page)
    else page_map areas page))
    → others ≡ protected_prefix prot range areas
prefix_unique end prot range areas others some c d alike =
    canonical_unique end others (protected_prefix prot range areas) d (prefix_canonical end prot range areas some c)
    (λ page. alike page ∙ sym (page_map-prefix end prot range areas page some c))
