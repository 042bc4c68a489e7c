-- For the law `page_map_determines_list`: two canonical lists with one page map are equal.
use Rattle.std.proofs.Common.{◌≡◌, ◌≤◌, ◌<◌, ◌+◌, ◌-◌, ◌⊎◌, inl, inr, ℕ, Bool, true, ◌&&◌, ◌||◌, if◌then◌else◌, nat_eq, nat_le, nat_lt, List, [], ◌∷◌, Option, Some, None, refl, ap, ◌∙◌, sym, subst, arith}
use mathlib.Core.Bool.{beq as same_bool}
use Rattle.std.specs.List.{AllByRecursion as Each}
use Rattle.std.proofs.lemmas.Bool.{cases_lt, cond-true, and_from, le-leb, lt-ltb}
use Rattle.std.proofs.lemmas.Bool.Decides.{nat_tests}
use Rattle.std.proofs.lemmas.Option.{same_Some}
use Rattle.mm_types.specs.declared.area.Prot.{Prot}
use Rattle.mm_types.specs.declared.area.Attr.{Attr}
use Rattle.mm_types.specs.declared.area.Record.{Record}
use Rattle.mm_types.specs.Records.{IsValid}
use Rattle.area_list.specs.Areas.{MappedPage, IsCanonical, has_page, mapped_page, index_of, joins, same_prot, same_attr, page_map}
use Rattle.area_list.proofs.Elements.{Pairs, Each-weaker}
use Rattle.area_list.proofs.Parts.{Apart}
use Rattle.area_list.proofs.Order.{IsGood, good_from_canonical, pairs_from_canonical}
use Rattle.area_list.proofs.Pages.{lies, page_map-nil, page_map-cons}

-- a page below each area is not mapped
none_below : (areas : List Record) (page : ℕ) → Each (λ area. page < area.span.lo) areas
    → page_map areas page ≡ None
none_below [] page below = page_map-nil page
none_below (area ∷ areas) page below =
    page_map-cons area areas page
    ∙ not_there area.span.lo area.span.hi page (mapped_page page area) (page_map areas page) below.0
    ∙ none_below areas page below.1
  where
    not_there : (lo hi page : ℕ) (c : MappedPage) (rest : Option MappedPage) → page < lo
        → (if lies lo hi page then Some c else rest) ≡ rest
    not_there lo hi page c rest below = grind (arith, nat_tests)

-- a page of the first area is mapped by it
mapped_here : (area : Record) (areas : List Record) (page : ℕ) → area.span.lo ≤ page → page < area.span.hi
    → page_map (area ∷ areas) page ≡ Some (mapped_page page area)
mapped_here area areas page low high =
    page_map-cons area areas page
    ∙ cond-true (has_page area.span page) (Some (mapped_page page area)) (page_map areas page)
    (and_from (nat_le area.span.lo page) (nat_lt page area.span.hi) (le-leb area.span.lo page low)
    (lt-ltb page area.span.hi high))

-- a page after the first area is mapped by the rest
mapped_behind : (area : Record) (areas : List Record) (page : ℕ) → area.span.hi ≤ page
    → page_map (area ∷ areas) page ≡ page_map areas page
mapped_behind area areas page behind =
    page_map-cons area areas page
    ∙ passed area.span.lo area.span.hi page (mapped_page page area) (page_map areas page) behind
  where
    passed : (lo hi page : ℕ) (c : MappedPage) (rest : Option MappedPage) → hi ≤ page
        → (if lies lo hi page then Some c else rest) ≡ rest
    passed lo hi page c rest behind = grind (arith, nat_tests)

all_behind : (area : Record) (areas : List Record) (page : ℕ) → IsValid area → Each (Apart area) areas
    → page < area.span.lo → Each (λ r. page < r.span.lo) (area ∷ areas)
all_behind area areas page valid apart below = (
  below,
  Each-weaker (Apart area) (λ r. page < r.span.lo) (λ r p. omega (arith, p.order, valid.some_pages))
      areas apart,
)

-- the first area of the one list does not begin before that of the other
begins_no_lower : (a b : Record) (rest others : List Record) → IsValid a → IsValid b → Each (Apart b) others
    → ((page : ℕ) → page_map (a ∷ rest) page ≡ page_map (b ∷ others) page) → b.span.lo ≤ a.span.lo
begins_no_lower a b rest others first second apart alike = split (cases_lt a.span.lo b.span.lo)
  where
    split : (a.span.lo < b.span.lo) ⊎ (b.span.lo ≤ a.span.lo) → b.span.lo ≤ a.span.lo
    split (inl below) =
        let here = mapped_here a rest a.span.lo (omega arith) first.some_pages in
        let none = none_below (b ∷ others) a.span.lo (all_behind b others a.span.lo second apart below) in
        absurd (cc (here, none, alike a.span.lo))
    split (inr above) = above

-- what two areas share that begin at one page and map it alike
record Alike (a b : Record) : Type 0 where
  lo : a.span.lo ≡ b.span.lo
  attr : a.attr ≡ b.attr
  object : a.object ≡ b.object
  offset : a.offset ≡ b.offset

first_index : (area : Record) → IsValid area → index_of area area.span.lo ≡ area.offset
unfolding index_of
first_index area valid = at area.object area.offset area.span.lo (λ none. (valid.anonymous none).0)
  where
    at : (object offset lo : ℕ) → (object ≡ 0 → offset ≡ 0)
        → (if nat_eq object 0 then 0 else offset + (lo - lo)) ≡ offset
    at object offset lo none = grind (arith, nat_tests)

record SameCell (a b : Record) (page : ℕ) : Type 0 where
  attr : a.attr ≡ b.attr
  object : a.object ≡ b.object
  index : index_of a page ≡ index_of b page

same_cell : (a b : Record) (page : ℕ) → mapped_page page a ≡ mapped_page page b → SameCell a b page
unfolding mapped_page
same_cell a b page h = record {
  attr = ap (λ c. c.attr) h;
  object = ap (λ c. c.object) h;
  index = ap (λ c. c.index) h;
}

alike_from_cells : (a b : Record) → IsValid a → IsValid b → a.span.lo ≡ b.span.lo
    → mapped_page a.span.lo a ≡ mapped_page a.span.lo b → Alike a b
alike_from_cells a b first second lo h =
    let s : SameCell a b a.span.lo = same_cell a b a.span.lo h in
    record {
      lo = lo;
      attr = s.attr;
      object = s.object;
      offset = sym (first_index a first) ∙ s.index ∙ ap (index_of b) lo ∙ first_index b second;
    }

prot_same_self : (a : Prot) → same_prot a a ≡ true
prot_same_self a = both a.read a.write a.exec
  where
    both : (x y z : Bool) → (same_bool x x && (same_bool y y && same_bool z z)) ≡ true
    both x y z = grind arith

attr_same_self : (a : Attr) → same_attr a a ≡ true
attr_same_self a = both (same_prot a.prot a.prot) (same_prot a.most a.most) a.shared a.grows a.sealed a.heap
    (prot_same_self a.prot) (prot_same_self a.most)
  where
    both : (p q w x y z : Bool) → p ≡ true → q ≡ true
        → (p && (q && (same_bool w w && (same_bool x x && (same_bool y y && same_bool z z))))) ≡ true
    both p q w x y z first second = grind arith

-- an area goes on in the next where that maps its first page as the area would
joins_next : (a c b : Record) → IsValid a → IsValid c → Alike a b → a.span.hi ≡ c.span.lo
    → mapped_page c.span.lo c ≡ mapped_page c.span.lo b → joins a c ≡ true
unfolding joins index_of
joins_next a c b first second same touch h =
    let s : SameCell c b c.span.lo = same_cell c b c.span.lo h in
    let attr : a.attr ≡ c.attr = same.attr ∙ sym s.attr in
    tests a.span.lo a.span.hi c.span.lo a.object c.object b.object a.offset c.offset b.offset b.span.lo
    (same_attr a.attr c.attr)
    first.some_pages touch (subst (λ attr. same_attr a.attr attr ≡ true) attr (attr_same_self a.attr))
    (same.object ∙ sym s.object) (sym s.object) same.offset same.lo
    (λ none. (second.anonymous none).0) s.index
  where
    tests : (alo ahi clo aobj cobj bobj aoff coff boff blo : ℕ) (attr : Bool) → alo < ahi → ahi ≡ clo → attr ≡ true
        → aobj ≡ cobj → bobj ≡ cobj → aoff ≡ boff → alo ≡ blo
        → (cobj ≡ 0 → coff ≡ 0)
        → (if nat_eq cobj 0 then 0 else coff + (clo - clo)) ≡ (if nat_eq bobj 0 then 0 else boff + (clo - blo))
        → (nat_eq ahi clo && (attr && (nat_eq aobj cobj && (nat_eq aobj 0 || nat_eq coff (aoff + (ahi - alo))))))
        ≡ true
    tests alo ahi clo aobj cobj bobj aoff coff boff blo attr some touch agree first second offset lo none index =
        grind (arith, nat_tests)

-- the first area of the one list does not end before that of the other
ends_no_lower : (a b : Record) (rest others : List Record) → IsValid a → Each IsValid rest → Each (Apart a) rest
    → Pairs Apart rest → Alike a b
    → ((page : ℕ) → page_map (a ∷ rest) page ≡ page_map (b ∷ others) page) → b.span.hi ≤ a.span.hi
ends_no_lower a b rest others valid each apart pairs same alike = split (cases_lt a.span.hi b.span.hi)
  where
    long : a.span.hi < b.span.hi → (page : ℕ) → a.span.hi ≤ page → page < b.span.hi
        → page_map rest page ≡ Some (mapped_page page b)
    long shorter page behind within =
        sym (mapped_behind a rest page behind) ∙ alike page
        ∙ mapped_here b others page (omega (arith, same.lo, valid.some_pages)) within

    next : (rest : List Record)
        → ((page : ℕ) → a.span.hi ≤ page → page < b.span.hi → page_map rest page ≡ Some (mapped_page page b))
        → a.span.hi < b.span.hi
        → Each IsValid rest → Each (Apart a) rest → Pairs Apart rest → ⊥
    next [] goes shorter each apart pairs = let there = goes a.span.hi (omega arith) shorter in
        let none = page_map-nil a.span.hi in cc
    next (c ∷ more) goes shorter each apart pairs = at (cases_lt a.span.hi c.span.lo)
      where
        at : (a.span.hi < c.span.lo) ⊎ (c.span.lo ≤ a.span.hi) → ⊥
        at (inl gap) =
            let there = goes a.span.hi (omega arith) shorter in
            let none = none_below (c ∷ more) a.span.hi (all_behind c more a.span.hi each.0 pairs.0 gap) in cc
        at (inr close) =
            let touch : a.span.hi ≡ c.span.lo = omega (arith, apart.0.order) in
            let there = goes c.span.lo (omega arith) (omega arith) in
            let here = mapped_here c more c.span.lo (omega arith) each.0.some_pages in
            let join = joins_next a c b valid each.0 same touch
            (same_Some (mapped_page c.span.lo c) (mapped_page c.span.lo b) (sym here ∙ there)) in
            let no = apart.0.apart in cc

    split : (a.span.hi < b.span.hi) ⊎ (b.span.hi ≤ a.span.hi) → b.span.hi ≤ a.span.hi
    split (inl shorter) = absurd (next rest (long shorter) shorter each apart pairs)
    split (inr longer) = longer

Alike-flip : (a b : Record) → Alike a b → Alike b a
Alike-flip a b same = record {
  lo = sym same.lo;
  attr = sym same.attr;
  object = sym same.object;
  offset = sym same.offset;
}

-- the first areas of two lists with one page map are equal
first_same : (a b : Record) (rest others : List Record) → Each IsValid (a ∷ rest) → Pairs Apart (a ∷ rest)
    → Each IsValid (b ∷ others) → Pairs Apart (b ∷ others)
    → ((page : ℕ) → page_map (a ∷ rest) page ≡ page_map (b ∷ others) page) → a ≡ b
first_same a b rest others each pairs each' pairs' alike =
    let lower = begins_no_lower a b rest others each.0 each'.0 pairs'.0 alike in
    let higher = begins_no_lower b a others rest each'.0 each.0 pairs.0 (λ page. sym (alike page)) in
    let lo : a.span.lo ≡ b.span.lo = omega arith in
    let here = mapped_here a rest a.span.lo (omega arith) each.0.some_pages in
    let there = mapped_here b others a.span.lo (omega arith) (omega (arith, lo, each'.0.some_pages)) in
    let same : Alike a b = alike_from_cells a b each.0 each'.0 lo
    (same_Some (mapped_page a.span.lo a) (mapped_page a.span.lo b) (sym here ∙ alike a.span.lo ∙ there)) in
    let shorter = ends_no_lower a b rest others each.0 each.1 pairs.0 pairs.1 same alike in
    let longer = ends_no_lower b a others rest each'.0 each'.1 pairs'.0 pairs'.1 (Alike-flip a b same)
    (λ page. sym (alike page)) in
    let hi : a.span.hi ≡ b.span.hi = omega arith in
    λ i. record {
      span = record { lo = lo i; hi = hi i };
      attr = same.attr i;
      object = same.object i;
      offset = same.offset i;
    }

-- what is left after equal first areas has one page map too
rest_alike : (a : Record) (rest others : List Record) → Each (Apart a) rest → Each (Apart a) others
    → ((page : ℕ) → page_map (a ∷ rest) page ≡ page_map (a ∷ others) page) → (page : ℕ)
    → page_map rest page ≡ page_map others page
rest_alike a rest others apart apart' alike page = split (cases_lt page a.span.hi)
  where
    split : (page < a.span.hi) ⊎ (a.span.hi ≤ page) → page_map rest page ≡ page_map others page
    split (inl below) =
        none_below rest page (Each-weaker (Apart a) (λ r. page < r.span.lo) (λ r p. omega (arith, p.order)) rest
        apart)
        ∙ sym (none_below others page
        (Each-weaker (Apart a) (λ r. page < r.span.lo) (λ r p. omega (arith, p.order)) others apart'))
    split (inr behind) = sym (mapped_behind a rest page behind) ∙ alike page ∙ mapped_behind a others page behind

some_here : (a : Record) (rest : List Record) → IsValid a
    → ((page : ℕ) → page_map (a ∷ rest) page ≡ page_map [] page) → ⊥
some_here a rest valid alike = let here = mapped_here a rest a.span.lo (omega arith) valid.some_pages in
    cc (here, alike a.span.lo, page_map-nil a.span.lo)

same_from_page_map : (rest others : List Record) → Each IsValid rest → Pairs Apart rest → Each IsValid others
    → Pairs Apart others
    → ((page : ℕ) → page_map rest page ≡ page_map others page) → rest ≡ others
same_from_page_map [] [] each pairs each' pairs' alike = refl
same_from_page_map [] (b ∷ others) each pairs each' pairs' alike =
    absurd (some_here b others each'.0 (λ page. sym (alike page)))
same_from_page_map (a ∷ rest) [] each pairs each' pairs' alike = absurd (some_here a rest each.0 alike)
same_from_page_map (a ∷ rest) (b ∷ others) each pairs each' pairs' alike =
    let first : a ≡ b = first_same a b rest others each pairs each' pairs' alike in
    let apart : Each (Apart a) others = subst (λ r. Each (Apart r) others) (sym first) pairs'.0 in
    let alike' = subst (λ r. (page : ℕ) → page_map (a ∷ rest) page ≡ page_map (r ∷ others) page) (sym first)
    alike in
    ap (λ list. a ∷ list) (same_from_page_map rest others each.1 pairs.1 each'.1 pairs'.1
    (rest_alike a rest others pairs.0 apart alike'))
    ∙ ap (λ r. r ∷ others) first

valid_from_canonical : (end : ℕ) (areas : List Record) → IsCanonical end areas → Each IsValid areas
valid_from_canonical end areas c =
    Each-weaker (IsGood end) IsValid (λ area g. g.valid) areas (good_from_canonical end areas c)

pub canonical_unique : (end : ℕ) (areas others : List Record) → IsCanonical end areas → IsCanonical end others
    → ((page : ℕ) → page_map areas page ≡ page_map others page) → areas ≡ others
canonical_unique end areas others c d alike = same_from_page_map areas others
    (valid_from_canonical end areas c) (pairs_from_canonical end areas c) (valid_from_canonical end others d)
    (pairs_from_canonical end others d) alike
