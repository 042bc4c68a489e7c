-- For the law `merge_keeps_pages`: merging makes a list in order canonical, and keeps its page map.
use Rattle.std.proofs.Common.{◌^◌, ◌≡◌, ◌≤◌, ◌<◌, ◌+◌, ◌-◌, ◌⊎◌, ℕ, Bool, true, false, ◌||◌, if◌then◌else◌, nat_eq, List, [], ◌∷◌, Option, Some, refl, ap, ◌∙◌, sym, arith}
use Rattle.std.specs.List.{AllByRecursion as Each}
use Rattle.std.proofs.lemmas.Bool.{cond_both, and_parts, eqb-true}
use Rattle.std.proofs.lemmas.Bool.Decides.{nat_tests}
use mathlib.Core.Bool.{beq as same}
use Rattle.mm_types.specs.declared.area.Prot.{Prot}
use Rattle.mm_types.specs.declared.area.Attr.{Attr}
use Rattle.mm_types.specs.declared.area.Record.{Record}
use Rattle.mm_types.specs.Records.{IsValid}
use Rattle.area_list.specs.Areas.{MappedPage, OfFirst, Neighbours, IsCanonical, has_page, mapped_page, index_of, joins, same_prot, same_attr, page_map}
use Rattle.area_list.specs.Changes.{joined_area, merge_from, merge}
use Rattle.area_list.proofs.Parts.{Apart}
use Rattle.area_list.proofs.Order.{IsGood, Before, canonical_from_good}
use Rattle.area_list.proofs.Pages.{lies, page_map-cons}

same_bools : (x y : Bool) → same x y ≡ true → x ≡ y
same_bools true true h = refl
same_bools true false h = sym h
same_bools false true h = h
same_bools false false h = refl

same_prots : (a b : Prot) → same_prot a b ≡ true → a ≡ b
same_prots a b h =
    let read = and_parts (same a.read b.read) _ h in
    let write = and_parts (same a.write b.write) (same a.exec b.exec) read.1 in
    λ i. record {
      read = same_bools a.read b.read read.0 i;
      write = same_bools a.write b.write write.0 i;
      exec = same_bools a.exec b.exec write.1 i;
    }

same_attrs : (a b : Attr) → same_attr a b ≡ true → a ≡ b
same_attrs a b h =
    let prot = and_parts (same_prot a.prot b.prot) _ h in
    let most = and_parts (same_prot a.most b.most) _ prot.1 in
    let shared = and_parts (same a.shared b.shared) _ most.1 in
    let grows = and_parts (same a.grows b.grows) _ shared.1 in
    let sealed = and_parts (same a.sealed b.sealed) (same a.heap b.heap) grows.1 in
    λ i. record {
      prot = same_prots a.prot b.prot prot.0 i;
      most = same_prots a.most b.most most.0 i;
      shared = same_bools a.shared b.shared shared.0 i;
      grows = same_bools a.grows b.grows grows.0 i;
      sealed = same_bools a.sealed b.sealed sealed.0 i;
      heap = same_bools a.heap b.heap sealed.1 i;
    }

-- what it takes that two areas join
pub record Joins (a b : Record) : Type 0 where
  pub touch : a.span.hi ≡ b.span.lo
  pub attr : a.attr ≡ b.attr
  pub object : a.object ≡ b.object
  pub offset : (a.object ≡ 0) ⊎ (b.offset ≡ a.offset + (a.span.hi - a.span.lo))

pub joins_true : (a b : Record) → joins a b ≡ true → Joins a b
unfolding joins
joins_true a b h =
    let touch = and_parts (nat_eq a.span.hi b.span.lo) _ h in
    let attr = and_parts (same_attr a.attr b.attr) _ touch.1 in
    let object = and_parts (nat_eq a.object b.object) _ attr.1 in
    record {
      touch = eqb-true a.span.hi b.span.lo touch.0;
      attr = same_attrs a.attr b.attr attr.0;
      object = eqb-true a.object b.object object.0;
      offset = run_on a.object a.offset (a.span.hi - a.span.lo) b.offset object.1;
    }
  where
    run_on : (object offset pages next : ℕ) → (nat_eq object 0 || nat_eq next (offset + pages)) ≡ true
        → (object ≡ 0) ⊎ (next ≡ offset + pages)
    run_on object offset pages next h = grind (arith, nat_tests)

pub joined_valid : (a b : Record) → IsValid a → IsValid b → joins a b ≡ true → IsValid (joined_area a b)
joined_valid a b first second h =
    let j : Joins a b = joins_true a b h in
    record {
      some_pages = omega (arith, first.some_pages, second.some_pages, j.touch);
      below_end = second.below_end;
      allowed = first.allowed;
      anonymous = first.anonymous;
      backed = λ backed. long a.object a.offset a.span.lo a.span.hi b.offset b.span.lo b.span.hi backed j.touch
          first.some_pages second.some_pages j.offset
          (second.backed (λ none. backed (j.object ∙ none)));
    }
  where
    long : (object offset from mid next start to : ℕ) → (object ≡ 0 → ⊥) → mid ≡ start → from < mid → start < to
        → (object ≡ 0) ⊎ (next ≡ offset + (mid - from))
        → next + (to - start) ≤ 2 ^ 51 - 1 → offset + (to - from) ≤ 2 ^ 51 - 1
    long object offset from mid next start to backed touch some more run fits = grind (arith)

joined_good : (end : ℕ) (a b : Record) → IsGood end a → IsGood end b → joins a b ≡ true → IsGood end (joined_area a b)
joined_good end a b first second h =
    record { valid = joined_valid a b first.valid second.valid h; below_end = second.below_end }

-- what holds of each area, and of two as one where they join, holds of each after merging
pub merge_from_each : (P : Record → Type 0) → ((a b : Record) → P a → P b → joins a b ≡ true → P (joined_area a b))
    → (first : Record) (areas : List Record) → P first → Each P areas → Each P (merge_from first areas)
merge_from_each P keeps first [] p each = (p, tt)
merge_from_each P keeps first (next ∷ areas) p each =
    cond_both (joins first next) (merge_from (joined_area first next) areas) (first ∷ merge_from next areas) (Each P)
    (λ h. merge_from_each P keeps (joined_area first next) areas (keeps first next p each.0 h) each.1)
    (λ h. (p, merge_from_each P keeps next areas each.0 each.1))

pub merge_each : (P : Record → Type 0) → ((a b : Record) → P a → P b → joins a b ≡ true → P (joined_area a b))
    → (areas : List Record) → Each P areas → Each P (merge areas)
merge_each P keeps [] each = tt
merge_each P keeps (first ∷ areas) each = merge_from_each P keeps first areas each.0 each.1

-- what holds of an area, and of it with more pages after, holds of the first after merging
merge_from_first : (P : Record → Type 0) → ((a b : Record) → P a → P (joined_area a b))
    → (first : Record) (areas : List Record) → P first → OfFirst P (merge_from first areas)
merge_from_first P keeps first [] p = p
merge_from_first P keeps first (next ∷ areas) p =
    cond_both (joins first next) (merge_from (joined_area first next) areas) (first ∷ merge_from next areas) (OfFirst P)
    (λ h. merge_from_first P keeps (joined_area first next) areas (keeps first next p))
    (λ h. p)

apart_joined : (a b c : Record) → Apart a b → Apart a (joined_area b c)
unfolding joins
apart_joined a b c p = record { order = p.order; apart = p.apart }

merge_from_apart : (first : Record) (areas : List Record) → Neighbours Before (first ∷ areas)
    → Neighbours Apart (merge_from first areas)
merge_from_apart first [] order = (tt, tt)
merge_from_apart first (next ∷ areas) order =
    cond_both (joins first next) (merge_from (joined_area first next) areas) (first ∷ merge_from next areas)
    (Neighbours Apart)
    (λ h. merge_from_apart (joined_area first next) areas order.1)
    (λ h. (
      merge_from_first (Apart first) (apart_joined first) next areas (record { order = order.0; apart = h }),
      merge_from_apart next areas order.1,
    ))

pub merge_canonical : (end : ℕ) (areas : List Record) → Each (IsGood end) areas → Neighbours Before areas
    → IsCanonical end (merge areas)
merge_canonical end [] good order = canonical_from_good end [] tt tt
merge_canonical end (first ∷ areas) good order =
    canonical_from_good end (merge_from first areas)
    (merge_from_each (IsGood end) (joined_good end) first areas good.0 good.1)
    (merge_from_apart first areas order)

next_index : (object offset from mid next start page : ℕ) → mid ≡ start → from < mid → start ≤ page
    → (object ≡ 0) ⊎ (next ≡ offset + (mid - from))
    → (if nat_eq object 0 then 0 else next + (page - start))
    ≡ (if nat_eq object 0 then 0 else offset + (page - from))
next_index object offset from mid next start page touch some here run = grind (arith, nat_tests)

-- two areas that join map the pages of the second as the first would
pub mapped_page-joined_area : (a b : Record) (page : ℕ) → IsValid a → Joins a b → b.span.lo ≤ page → mapped_page page b ≡ mapped_page page a
unfolding mapped_page index_of
mapped_page-joined_area a b page valid j here =
    ap (λ object. record {
      attr = b.attr;
      object = object;
      index = if nat_eq object 0 then 0 else b.offset + (page - b.span.lo);
    }) (sym j.object)
    ∙ ap (λ index. record { attr = b.attr; object = a.object; index = index })
    (next_index a.object a.offset a.span.lo a.span.hi b.offset b.span.lo page j.touch valid.some_pages here
    j.offset)
    ∙ ap (λ attr. record {
      attr = attr;
      object = a.object;
      index = if nat_eq a.object 0 then 0 else a.offset + (page - a.span.lo);
    }) (sym j.attr)

joined_tests : (from mid start to page : ℕ) (c d : MappedPage) (rest : Option MappedPage) → mid ≡ start → from < mid
    → start < to → (start ≤ page → d ≡ c)
    → (if lies from to page then Some c else rest)
    ≡ (if lies from mid page then Some c else (if lies start to page then Some d else rest))
joined_tests from mid start to page c d rest touch some more same = grind (arith, nat_tests)

cell_of_joined : (a b : Record) (page : ℕ) → mapped_page page (joined_area a b) ≡ mapped_page page a
unfolding mapped_page index_of
cell_of_joined a b page = refl

page_map-joined_area : (a b : Record) (areas : List Record) (page : ℕ) → IsValid a → IsValid b → joins a b ≡ true
    → page_map (joined_area a b ∷ areas) page ≡ page_map (a ∷ (b ∷ areas)) page
page_map-joined_area a b areas page first second h =
    let j : Joins a b = joins_true a b h in
    page_map-cons (joined_area a b) areas page
    ∙ ap (λ c. if lies a.span.lo b.span.hi page then Some c else page_map areas page) (cell_of_joined a b page)
    ∙ joined_tests a.span.lo a.span.hi b.span.lo b.span.hi page (mapped_page page a) (mapped_page page b) (page_map areas page)
    j.touch first.some_pages second.some_pages (mapped_page-joined_area a b page first j)
    ∙ sym (page_map-cons a (b ∷ areas) page
    ∙ ap (λ o. if has_page a.span page then Some (mapped_page page a) else o) (page_map-cons b areas page))

page_map-merge_from : (first : Record) (areas : List Record) (page : ℕ) → IsValid first → Each IsValid areas
    → page_map (merge_from first areas) page ≡ page_map (first ∷ areas) page
page_map-merge_from first [] page valid each = refl
page_map-merge_from first (next ∷ areas) page valid each =
    cond_both (joins first next) (merge_from (joined_area first next) areas) (first ∷ merge_from next areas)
    (λ list. page_map list page ≡ page_map (first ∷ (next ∷ areas)) page)
    (λ h. page_map-merge_from (joined_area first next) areas page (joined_valid first next valid each.0 h) each.1
    ∙ page_map-joined_area first next areas page valid each.0 h)
    (λ h. page_map-cons first (merge_from next areas) page
    ∙ ap (λ o. if has_page first.span page then Some (mapped_page page first) else o)
    (page_map-merge_from next areas page each.0 each.1)
    ∙ sym (page_map-cons first (next ∷ areas) page))

pub page_map-merge : (areas : List Record) (page : ℕ) → Each IsValid areas
    → page_map (merge areas) page ≡ page_map areas page
page_map-merge [] page each = refl
page_map-merge (first ∷ areas) page each = page_map-merge_from first areas page each.0 each.1
