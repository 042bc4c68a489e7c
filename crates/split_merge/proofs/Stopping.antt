-- For `area_at` and `stop_of`: where a new protection stops.
use Rattle.std.proofs.Common.{◌≡◌, ◌<◌, ℕ, Bool, true, false, ◌&&◌, nat_le, nat_lt, List, [], ◌∷◌, Option, Some, None, refl, ◌∙◌, sym, subst, arith}
use Rattle.std.specs.Bool.{then_some}
use Rattle.std.specs.List.{AllByRecursion as Each}
use Rattle.std.proofs.lemmas.Bool.{cond_both, cond-true, cond-false, and_right, leb-false, lt-leb, le-leb, ltb-true}
use Rattle.std.proofs.lemmas.Bool.Decides.{nat_tests}
use Rattle.std.proofs.lemmas.Option.{same_Some}
use Rattle.mm_types.specs.declared.area.Span.{Span}
use Rattle.mm_types.specs.declared.area.Record.{Record}
use Rattle.mm_types.specs.declared.call.Errno.TheVariants.{Enomem, Eacces}
use Rattle.area_list.specs.Areas.{has_page, area_at}
use Rattle.area_rules.specs.Mprotect.{stop_error}
use Rattle.area_list.proofs.Elements.{Each-also}
use Rattle.area_list.proofs.Order.{Before}
use Rattle.mm_types.specs.Records.{IsValid}
use Rattle.split_merge.specs.Finding.{first_from}
use Rattle.split_merge.proofs.Walking.{InOrder, rest_in_order}

above_page : (lo hi page : ℕ) → page < lo → (nat_le lo page && nat_lt page hi) ≡ false
above_page lo hi page above = grind (arith, nat_tests)

inside_page : (lo hi page : ℕ) → nat_le lo page ≡ true → page < hi → (nat_le lo page && nat_lt page hi) ≡ true
inside_page lo hi page begins ends = grind (arith, nat_tests)

-- no area has a page below all of them
none_at : (areas : List Record) (page : ℕ) → Each (λ area. page < area.span.lo) areas → area_at areas page ≡ None
none_at [] page above = refl
none_at (area ∷ areas) page above =
    cond-false (has_page area.span page) (Some area) (area_at areas page) (above_page area.span.lo area.span.hi page above.0)
    ∙ none_at areas page above.1

at_first : (area : Record) (areas : List Record) (page : ℕ) → InOrder (area ∷ areas) → page < area.span.hi
    → area_at (area ∷ areas) page ≡ then_some (nat_le area.span.lo page) area
at_first area areas page o ends = by (nat_le area.span.lo page) refl
  where
    by : (test : Bool) → nat_le area.span.lo page ≡ test → area_at (area ∷ areas) page ≡ then_some test area
    by true begins = cond-true (has_page area.span page) (Some area) (area_at areas page) (inside_page area.span.lo area.span.hi page begins ends)
    by false above = let below : page < area.span.lo = leb-false area.span.lo page above in
        none_at (area ∷ areas) page (
          below,
          Each-also IsValid (Before area) (λ next. page < next.span.lo)
              (λ next valid order. omega (arith, o.valid.0.some_pages)) areas o.valid.1 o.ordered.0,
        )

-- the first area that ends above a page has it, if it begins at or below it
pub at_found : (areas : List Record) (page : ℕ) (area : Record) → InOrder areas → first_from areas page ≡ Some area
    → area_at areas page ≡ then_some (nat_le area.span.lo page) area
at_found [] page area o found = cc
at_found (first ∷ areas) page area o found =
    cond_both (nat_lt page first.span.hi) (Some first) (first_from areas page)
    (λ found. found ≡ Some area → area_at (first ∷ areas) page ≡ then_some (nat_le area.span.lo page) area)
    (λ here is. subst (λ (a : Record). area_at (first ∷ areas) page ≡ then_some (nat_le a.span.lo page) a) (same_Some first area is)
    (at_first first areas page o (ltb-true page first.span.hi here)))
    (λ past is. cond-false (has_page first.span page) (Some first) (area_at areas page) (and_right (nat_le first.span.lo page) (nat_lt page first.span.hi) past)
    ∙ at_found areas page area (rest_in_order first areas o) is)
    found

-- and none has it where no area ends above it
pub at_none : (areas : List Record) (page : ℕ) → first_from areas page ≡ None → area_at areas page ≡ None
at_none [] page none = refl
at_none (first ∷ areas) page none =
    cond_both (nat_lt page first.span.hi) (Some first) (first_from areas page)
    (λ found. found ≡ None → area_at (first ∷ areas) page ≡ None)
    (λ here is. cc)
    (λ past is. cond-false (has_page first.span page) (Some first) (area_at areas page) (and_right (nat_le first.span.lo page) (nat_lt page first.span.hi) past)
    ∙ at_none areas page is)
    none

pub error_unmapped : (span : Span) (stop : ℕ) (found : Option Record) → stop < span.hi → found ≡ None → Some Enomem ≡ stop_error span stop found
unfolding stop_error
error_unmapped span stop found below is = rw is (sym (cond-false (nat_le span.hi stop) None (Some Enomem) (lt-leb span.hi stop below)))

pub error_denied : (span : Span) (stop : ℕ) (found : Option Record) (area : Record) → stop < span.hi → found ≡ Some area → Some Eacces ≡ stop_error span stop found
unfolding stop_error
error_denied span stop found area below is = rw is (sym (cond-false (nat_le span.hi stop) None (Some Eacces) (lt-leb span.hi stop below)))

pub error_none : (span : Span) (found : Option Record) → None ≡ stop_error span span.hi found
unfolding stop_error
error_none span found = sym (cond-true (nat_le span.hi span.hi) None _ (le-leb span.hi span.hi (omega arith)))
