-- For the law `growth_maps_one_page`: what a touch that grows changes, and what it answers.
use Rattle.std.proofs.Common.{◌≡◌, ◌≢◌, ◌+◌, ◌-◌, ℕ, Bool, true, false, ◌&&◌, if◌then◌else◌, nat_eq, nat_le, nat_lt, List, [], ◌∷◌, map, find, Option, Some, None, option_map, refl, ap, ◌∙◌, sym, subst, arith}
use Rattle.std.specs.List.{AllByRecursion as Each}
use Rattle.std.specs.Option.{IsSomeAnd, option_map_or}
use Rattle.std.proofs.lemmas.Bool.{cond_both, cond-true, cond-false, and_parts, eqb-true}
use Rattle.std.proofs.lemmas.Bool.Decides.{nat_tests}
use Rattle.std.proofs.lemmas.List.Elements.{All-from_recursion, recursion_from_All}
use Rattle.mm_types.specs.declared.area.Access.{Access}
use Rattle.mm_types.specs.declared.area.Page.{Page}
use Rattle.mm_types.specs.declared.area.Record.{Record}
use Rattle.mm_types.specs.declared.call.Call.TheVariants.{Touch}
use Rattle.mm_types.specs.declared.call.Errno.TheVariants.{Efault}
use Rattle.mm_types.specs.declared.call.Reply.TheVariants.{Refused}
use Rattle.mm_types.specs.declared.config.Config.{Config}
use Rattle.area_list.specs.Areas.{MappedPage, page_of, IsCanonical, has_page, index_of, mapped_page, page_map, area_at}
use Rattle.area_list.proofs.Finding.{find_passes, find_keeps}
use Rattle.area_list.proofs.Holding.{Finds, each_found, inside}
use Rattle.area_list.proofs.Order.{IsGood, good_from_canonical, pairs_from_canonical}
use Rattle.area_list.proofs.Pages.{page_map-cons}
use Rattle.area_rules.specs.Accesses.{permits}
use Rattle.area_rules.specs.Growing.{is_above, grower, grows, grown_to, grown_at, grown_list, grown, touch}
use Rattle.area_rules.specs.Laws.{IsGrownReply}
use Rattle.area_rules.specs.Steps.{step, IsReady}
use Rattle.area_rules.specs.Tables.{AddressSpace, Outcome}
use Rattle.area_rules.proofs.Cases.{IsGrower, grower_is}
use Rattle.area_rules.proofs.Growing.{grown_canonical}
use Rattle.area_rules.proofs.Stepping.{grower_above}
use Rattle.area_rules.proofs.Unmapped.{free_unmapped}

-- no touch is refused by a seal
pub step-touch : (config : Config) (space : AddressSpace) (page : Page) (access : Access)
    → step config space (Touch page access) ≡ touch config space page.0 access
unfolding step
step-touch config space page access = refl

-- what may grow has no object
abbrev IsPrivate : Record → Type 0
IsPrivate area = area.attr.grows ≡ true → area.object ≡ 0

-- an area that would grow into a page begins at the next
above_parts : (page : ℕ) (area : Record) → is_above page area ≡ true → (area.attr.grows ≡ true) × (area.span.lo ≡ page + 1)
above_parts page area above =
    let parts = and_parts area.attr.grows (nat_eq area.span.lo (page + 1)) above in
    (parts.0, eqb-true area.span.lo (page + 1) parts.1)

-- all other pages of an area that grows are as before
grown_cell : (page other : ℕ) (area : Record) (rest : Option MappedPage) → IsPrivate area → other ≢ page
    → (if has_page (grown_at page area).span other then Some (mapped_page other (grown_at page area)) else rest)
    ≡ (if has_page area.span other then Some (mapped_page other area) else rest)
unfolding mapped_page index_of
grown_cell page other area rest private apart =
    cond_both (is_above page area) (grown_to page area) area
    (λ (a : Record). (if has_page a.span other then Some (mapped_page other a) else rest)
    ≡ (if has_page area.span other then Some (mapped_page other area) else rest))
    (λ above. let parts = above_parts page area above in
    tests area.span.lo area.span.hi parts.1 (λ i. record {
      attr = area.attr;
      object = area.object;
      index = index area.object (area.offset + (other - page)) (area.offset + (other - area.span.lo)) (private parts.0) i;
    }))
    (λ stays. refl)
  where
    index : (object a b : ℕ) → object ≡ 0 → (if nat_eq object 0 then 0 else a) ≡ (if nat_eq object 0 then 0 else b)
    index object a b none = grind (arith, nat_tests)

    tests : {c d : MappedPage} (lo hi : ℕ) → lo ≡ page + 1 → c ≡ d
        → (if nat_le page other && nat_lt other hi then Some c else rest)
        ≡ (if nat_le lo other && nat_lt other hi then Some d else rest)
    tests {c = c} {d = d} lo hi begins same = grind (arith, nat_tests)

-- and so all other pages of the list
grown_others : (page other : ℕ) (areas : List Record) → Each IsPrivate areas → other ≢ page
    → page_map (map (grown_at page) areas) other ≡ page_map areas other
grown_others page other [] private apart = refl
grown_others page other (area ∷ areas) private apart =
    page_map-cons (grown_at page area) (map (grown_at page) areas) other
    ∙ ap (λ o. if has_page (grown_at page area).span other then Some (mapped_page other (grown_at page area)) else o)
    (grown_others page other areas private.1 apart)
    ∙ grown_cell page other area (page_map areas other) private.0 apart
    ∙ sym (page_map-cons area areas other)

-- what each area of the grown list has, the area that grew has
keeps_more : (P : Record → Type 0) (page : ℕ) (first area : Record) (rest : Option Record) (above : Bool)
    → is_above page first ≡ above → P (grown_at page first) → (rest ≡ Some area → P (grown_to page area))
    → (if above then Some first else rest) ≡ Some area → P (grown_to page area)
keeps_more P page first area rest true above here later found =
    let same : first ≡ area = cc in
    subst (λ (a : Record). P (grown_to page a)) same
    (subst P (cond-true (is_above page first) (grown_to page first) first above) here)
keeps_more P page first area rest false below here later found = later found

-- over the whole list
grown_keeps : (P : Record → Type 0) (page : ℕ) (areas : List Record) (area : Record) → Each P (map (grown_at page) areas)
    → find (is_above page) areas ≡ Some area → P (grown_to page area)
grown_keeps P page [] area each found = cc
grown_keeps P page (first ∷ areas) area each found =
    keeps_more P page first area (find (is_above page) areas) (is_above page first) refl each.0
    (grown_keeps P page areas area each.1) found

-- the area that grows, where one does
record Growth (config : Config) (areas : List Record) (page : ℕ) (access : Access) : Type 0 where
  area : Record
  found : grower config areas page ≡ Some area
  allowed : permits area.attr.prot access ≡ true

-- by the test of growth
growth : (config : Config) (areas : List Record) (page : ℕ) (access : Access) → grows config areas page access ≡ true
    → Growth config areas page access
unfolding grows
growth config areas page access does = at (grower config areas page) refl does
  where
    at : (found : Option Record) → grower config areas page ≡ found
        → option_map_or (λ area. permits area.attr.prot access) found false ≡ true → Growth config areas page access
    at (Some area) is allowed = record { area = area; found = is; allowed = allowed }
    at None is allowed = cc

-- a touch that does not grow is refused, and changes nothing
pub touch_refused : (config : Config) (space : AddressSpace) (page : Page) (access : Access)
    → grows config space.areas page.0 access ≡ false
    → step config space (Touch page access) ≡ record { space = space; reply = Refused Efault }
unfolding touch
touch_refused config space page access stays =
    step-touch config space page access ∙ cond-false (grows config space.areas page.0 access) _ _ stays

-- the page that grows was not mapped
pub touched_free : (config : Config) (space : AddressSpace) (page : Page) (access : Access)
    → grows config space.areas page.0 access ≡ true → page_map space.areas page.0 ≡ None
touched_free config space page access does =
    let one = growth config space.areas page.0 access does in
    let g = grower_is config space.areas page.0 one.area one.found in
    free_unmapped space.areas 2 (page.0 - 1) page.0 g.free (omega arith) (omega arith)

-- one cell, for private anonymous memory
same_index : (object a b : ℕ) → object ≡ 0 → (if nat_eq object 0 then 0 else a) ≡ (if nat_eq object 0 then 0 else b)
same_index object a b none = grind (arith, nat_tests)

module _ (config : Config) (space : AddressSpace) (page : ℕ) (ready : IsReady config space) (area : Record)
    (g : IsGrower config space.areas page area) where
  parts : (area.attr.grows ≡ true) × (area.span.lo ≡ page + 1)
  parts = above_parts page area (find_passes (is_above page) space.areas area g.above)

  -- the area that grows has no object
  private : area.object ≡ 0
  private = find_keeps IsPrivate (is_above page) space.areas area ready.private g.above parts.0

  -- it is valid
  good : IsGood (page_of config.limit) area
  good = find_keeps (IsGood (page_of config.limit)) (is_above page) space.areas area
      (All-from_recursion (IsGood (page_of config.limit)) space.areas
      (good_from_canonical (page_of config.limit) space.areas ready.sound.canonical)) g.above

  -- the page above is one of the area's
  finds : area_at space.areas (page + 1) ≡ Some area
  finds = find_keeps (Finds space.areas) (is_above page) space.areas area
      (All-from_recursion (Finds space.areas) space.areas
      (each_found space.areas (pairs_from_canonical (page_of config.limit) space.areas ready.sound.canonical)))
      g.above (page + 1)
      (inside area.span (page + 1) (omega (arith, parts.1)) (omega (arith, parts.1, good.valid.some_pages)))

  -- the touched page is one of the grown area's
  grown_finds : area_at (grown_list page space.areas) page ≡ Some (grown_to page area)
  unfolding grown_list
  grown_finds =
      let end = page_of config.limit in
      let low = grower_above config space.areas page area ready.valid g in
      let canonical : IsCanonical end (map (grown_at page) space.areas) =
      unfold grown_list in grown_canonical end page space.areas ready.sound.canonical ready.private low g.free in
      grown_keeps (Finds (map (grown_at page) space.areas)) page space.areas area
      (each_found (map (grown_at page) space.areas) (pairs_from_canonical end (map (grown_at page) space.areas) canonical))
      g.above page
      (inside (grown_to page area).span page (omega arith) (omega (arith, parts.1, good.valid.some_pages)))

  -- both pages are mapped alike
  same_cell : mapped_page page (grown_to page area) ≡ mapped_page (page + 1) area
  unfolding mapped_page index_of
  same_cell = λ i. record {
    attr = area.attr;
    object = area.object;
    index = same_index area.object (area.offset + (page - page)) (area.offset + (page + 1 - area.span.lo)) private i;
  }

  -- so the touched page is mapped as the one above
  grown_page : page_map (grown_list page space.areas) page ≡ page_map space.areas (page + 1)
  unfolding page_map
  grown_page =
      ap (option_map (mapped_page page)) grown_finds ∙ ap (λ cell. Some cell) same_cell
      ∙ sym (ap (option_map (mapped_page (page + 1))) finds)

  -- the page above is mapped to memory that grows and allows the access
  growing_above : (access : Access) → permits area.attr.prot access ≡ true → IsSomeAnd (page_map space.areas (page + 1))
      (λ mapped. (mapped.attr.grows ≡ true) × (permits mapped.attr.prot access ≡ true) × (mapped.object ≡ 0))
  unfolding page_map mapped_page
  growing_above access allowed = subst (λ (o : Option Record). IsSomeAnd (option_map (mapped_page (page + 1)) o)
      (λ mapped. (mapped.attr.grows ≡ true) × (permits mapped.attr.prot access ≡ true) × (mapped.object ≡ 0)))
      (sym finds) (parts.0, allowed, private)

  -- all other pages are as before
  pub grown_elsewhere : (other : ℕ) → other ≢ page → page_map (grown_list page space.areas) other ≡ page_map space.areas other
  unfolding grown_list
  grown_elsewhere other apart = grown_others page other space.areas (recursion_from_All IsPrivate space.areas ready.private) apart

module _ (config : Config) (space : AddressSpace) (page : Page) (access : Access) (ready : IsReady config space)
    (does : grows config space.areas page.0 access ≡ true) where
  -- what holds of the growth holds of the step
  by_growth : (P : Outcome → Type 0)
      → ((area : Record) → IsGrower config space.areas page.0 area → permits area.attr.prot access ≡ true
      → P (grown space page.0 (Some area)))
      → P (step config space (Touch page access))
  unfolding touch
  by_growth P holds =
      let one = growth config space.areas page.0 access does in
      subst P (sym (step-touch config space page access ∙ cond-true (grows config space.areas page.0 access) _ _ does
      ∙ ap (grown space page.0) one.found))
      (holds one.area (grower_is config space.areas page.0 one.area one.found) one.allowed)

  -- the page above is mapped to memory that grows
  pub page_above : IsSomeAnd (page_map space.areas (page.0 + 1))
      (λ mapped. (mapped.attr.grows ≡ true) × (permits mapped.attr.prot access ≡ true) × (mapped.object ≡ 0))
  page_above =
      let one = growth config space.areas page.0 access does in
      growing_above config space page.0 ready one.area (grower_is config space.areas page.0 one.area one.found) access
      one.allowed

  -- the touched page is mapped as the one above
  pub touched_page : page_map (step config space (Touch page access)).space.areas page.0
      ≡ page_map space.areas (page.0 + 1)
  touched_page = by_growth (λ o. page_map o.space.areas page.0 ≡ page_map space.areas (page.0 + 1))
      (λ area g allowed. grown_page config space page.0 ready area g)

  -- all other pages are as before
  pub touched_others : (other : ℕ) → other ≢ page.0
      → page_map (step config space (Touch page access)).space.areas other ≡ page_map space.areas other
  touched_others other apart = by_growth (λ o. page_map o.space.areas other ≡ page_map space.areas other)
      (λ area g allowed. grown_elsewhere config space page.0 ready area g other apart)

  -- the reply is the area that grew
  pub touched_reply : IsGrownReply (step config space (Touch page access)).space.areas page.0
      (step config space (Touch page access)).reply
  touched_reply = by_growth (λ o. IsGrownReply o.space.areas page.0 o.reply)
      (λ area g allowed. record {
        area = grown_to page.0 area;
        found = grown_finds config space page.0 ready area g;
        answer = refl;
      })
