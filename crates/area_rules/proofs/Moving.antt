-- For the law `move_carries_the_pages`: a move of mremap(2) carries the pages of its range.
use Rattle.std.proofs.Common.{◌≡◌, ◌≤◌, ◌<◌, ◌+◌, ◌-◌, ◌*◌, ◌⊎◌, inl, inr, ℕ, Bool, true, false, not, ◌&&◌, ◌||◌, if◌then◌else◌, nat_eq, nat_lt, nat_le, min, List, [], ◌∷◌, length, Option, Some, None, option_map, refl, ap, ◌∙◌, sym, subst, arith}
use Rattle.std.specs.Option.{option_and_then}
use Rattle.std.specs.List.{AllByRecursion as Each}
use Rattle.std.proofs.lemmas.Bool.{and_parts, le-ltb, not_from_true, cond-true, cond-false}
use Rattle.std.proofs.lemmas.Bool.Decides.{nat_tests}
use Rattle.mm_types.specs.declared.area.Record.{Record}
use Rattle.mm_types.specs.declared.call.Reply.TheVariants.{Addr}
use Rattle.mm_types.specs.declared.config.Config.{Config}
use Rattle.mm_types.specs.declared.config.TheConstants.{PAGE_SIZE}
use Rattle.area_list.specs.Areas.{MappedPage, IsCanonical, page_of, has_page, index_of, mapped_page, page_map, area_at}
use Rattle.area_list.specs.Changes.{put}
use Rattle.area_rules.specs.Placement.{is_free}
use Rattle.area_rules.specs.Tables.{AddressSpace, Outcome, unless_refused, pages_of, has_too_many_areas}
use Rattle.mm_types.specs.Rows.{first_row}
use Rattle.area_rules.specs.Munmap.{range_of}
use Rattle.area_rules.specs.declared.mremap_request.Moved.{Moved}
use Rattle.area_rules.specs.declared.mremap_request.MremapArgs.{MremapArgs}
use Rattle.area_rules.specs.Mremap.{moves_to, lengthens, old_range, new_range, mremap_rows, carried_area, moved_list, moved, has_room, mremap_change, remaps_seal, mremap_list_rows, mremap_changed, mremap_done, mremap}
use Rattle.area_list.specs.Areas.{overlap}
use Rattle.area_rules.specs.Laws.{moved_range, MovesTo, IsMove}
use Rattle.area_list.proofs.Order.{good_from_canonical, pairs_from_canonical}
use Rattle.area_list.proofs.Cutting.{page_map-cut}
use Rattle.area_list.proofs.Putting.{page_map-put}
use Rattle.area_rules.proofs.Rows.{rows_false}
use Rattle.area_rules.proofs.Fitting.{place_free}
use Rattle.area_list.proofs.Holding.{inside, Finds, each_found, found_keeps}
use Rattle.area_rules.proofs.RemapLaws.{IsRemappable, remappable_from_rows, IsOld, old_area, stay_within, changes_place, found_place, some_range, moved_good, moved_canonical}

-- an area has none of so many pages from this start on
abbrev IsClear : (pages start : ℕ) → Record → Type 0
IsClear pages start area = (start + pages ≤ area.span.lo) ⊎ (area.span.hi ≤ start)

each_clear : (areas : List Record) (pages start : ℕ) → is_free areas pages start ≡ true
    → Each (IsClear pages start) areas
unfolding is_free
each_clear [] pages start free = tt
each_clear (area ∷ areas) pages start free =
    let parts = and_parts (nat_le (start + pages) area.span.lo || nat_le area.span.hi start) _ free in
    (clear area.span.lo area.span.hi (start + pages) start parts.0, each_clear areas pages start parts.1)
  where
    clear : (lo hi end start : ℕ) → (nat_le end lo || nat_le hi start) ≡ true → (end ≤ lo) ⊎ (hi ≤ start)
    clear lo hi end start h = grind (arith, nat_tests)

-- what a page of the new range is mapped to
abbrev pub carried_page : Record → MremapArgs → (start page : ℕ) → MappedPage
carried_page area args start page = record {
  attr = area.attr;
  object = area.object;
  index = if nat_eq area.object 0 then 0 else index_of area (page_of args.old) + (page - start);
}

carried_cell : (area : Record) (args : MremapArgs) (start page : ℕ)
    → mapped_page page (carried_area area (page_of args.old) (moved_range args start))
    ≡ carried_page area args start page
unfolding mapped_page carried_area index_of
carried_cell area args start page = refl

-- a page that stays has the index that it had
stay_cell : (area : Record) (args : MremapArgs) (start count : ℕ) → area.span.lo ≤ page_of args.old
    → carried_page area args start (start + count) ≡ mapped_page (page_of args.old + count) area
unfolding mapped_page index_of
stay_cell area args start count begins = λ i. record {
  attr = area.attr;
  object = area.object;
  index = tests area.object area.offset area.span.lo (page_of args.old) start count begins i;
}
  where
    tests : (object offset lo low start count : ℕ) → lo ≤ low
        → (if nat_eq object 0 then 0
        else (if nat_eq object 0 then 0 else offset + (low - lo)) + ((start + count) - start))
        ≡ (if nat_eq object 0 then 0 else offset + ((low + count) - lo))
    tests object offset lo low start count begins = grind (arith, nat_tests)

-- the change of a range that moves is the move
change_moves : (config : Config) (areas : List Record) (area : Record) (args : MremapArgs) (start : ℕ)
    → MovesTo config areas args start → mremap_change config areas area args ≡ Some (moved areas area args start)
unfolding mremap_change
change_moves config areas area args start (inl fixed) =
    cond-true (moves_to args) _ _ fixed.0 ∙ ap (λ page. Some (moved areas area args page)) fixed.1
change_moves config areas area args start (inr found) =
    cond-false (moves_to args) _ _ found.0
    ∙ cond-false (not (lengthens args)) _ _ (not_from_true (lengthens args) found.1)
    ∙ cond-false (has_room config areas args) _ _ found.2
    ∙ ap (option_map (moved areas area args)) found.3

few_rows : (config : Config) (areas : List Record) (args : MremapArgs) (change : Moved) → length change.areas ≤ config.areas
    → remaps_seal areas args ≡ false → first_row (mremap_list_rows config areas args change) ≡ None
few_rows config areas args change few unsealed =
    cond-false (has_too_many_areas config change.areas) _ _ (le-ltb config.areas (length change.areas) few)
    ∙ cond-false (remaps_seal areas args) _ _ unsealed

-- and so mremap(2) leaves the moved list, where it is not too long and no seal refuses
pub mremap_moves : (config : Config) (space : AddressSpace) (area : Record) (args : MremapArgs) (start : ℕ)
    → IsMove config space.areas area args start → length (moved_list space.areas area args start) ≤ config.areas
    → remaps_seal space.areas args ≡ false → mremap config space args
    ≡ record {
      space = record space { areas = moved_list space.areas area args start };
      reply = Addr (PAGE_SIZE * start);
    }
unfolding mremap mremap_changed mremap_done
mremap_moves config space area args start move few unsealed =
    let made : Moved = moved space.areas area args start in
    let change : Option Moved = option_and_then (λ a. mremap_change config space.areas a args)
    (area_at space.areas (page_of args.old)) in
    let last : Option Moved → Outcome = mremap_changed config space args in
    ap (λ o. unless_refused space o (last change)) move.accepted
    ∙ ap last (ap (option_and_then (λ a. mremap_change config space.areas a args)) move.found
    ∙ change_moves config space.areas area args start move.place)
    ∙ ap (λ o. unless_refused space o (mremap_done space made)) (few_rows config space.areas args made few unsealed)

module _ (config : Config) (areas : List Record) (area : Record) (args : MremapArgs) (start : ℕ)
    (move : IsMove config areas area args start) where
  remappable : IsRemappable config areas args
  remappable = remappable_from_rows config areas args (rows_false (mremap_rows config areas args) move.accepted)

  old_one : IsOld (page_of config.limit) areas args area
  old_one = old_area (page_of config.limit) areas args area move.canonical move.found

  stay : page_of args.old + min (pages_of args.old_len) (pages_of args.new_len) ≤ area.span.hi
  stay = stay_within config (page_of config.limit) areas args area move.canonical remappable move.found
      (changes_place config areas args start move.place)

  pub move_canonical : IsCanonical (page_of config.limit) (moved_list areas area args start)
  move_canonical =
      moved_canonical config areas args area start move.valid move.canonical remappable move.found move.place

  beside_at : MovesTo config areas args start → overlap (old_range args) (moved_range args start) ≡ false
  unfolding range_of
  beside_at (inl fixed) =
      subst (λ page. overlap (old_range args) (moved_range args page) ≡ false) fixed.1
      (second (moves_to args) (overlap (old_range args) (new_range args)) fixed.0 remappable.beside)
    where
      second : (a b : Bool) → a ≡ true → (a && b) ≡ false → b ≡ false
      second a b is h = grind arith
  beside_at (inr found) =
      let free = place_free config areas (pages_of args.new_len) 0 start
      (found_place config areas args start found.3) in
      let clear = found_keeps (IsClear (pages_of args.new_len) start) areas (page_of args.old) area
      (each_clear areas (pages_of args.new_len) start free) move.found in
      tests area.span.lo area.span.hi (page_of args.old) (pages_of args.old_len) (pages_of args.new_len) start
      old_one.begins stay found.1 clear
    where
      tests : (lo hi low old new start : ℕ) → lo ≤ low → low + min old new ≤ hi → nat_lt old new ≡ true
          → (start + new ≤ lo) ⊎ (hi ≤ start) → (nat_lt low (start + new) && nat_lt start (low + old)) ≡ false
      tests lo hi low old new start begins ends longer clear = grind (arith, nat_tests)

  pub move_beside : overlap (old_range args) (moved_range args start) ≡ false
  move_beside = beside_at move.place

  -- the map of pages after a move
  page_map-moved : (page : ℕ) → page_map (moved_list areas area args start) page
      ≡ (if has_page (old_range args) page then None
      else (if has_page (moved_range args start) page then Some (carried_page area args start page)
      else page_map areas page))
  unfolding moved_list carried_area
  page_map-moved page =
      let end = page_of config.limit in
      let carried = carried_area area (page_of args.old) (moved_range args start) in
      page_map-cut (old_range args) (put carried areas) page (some_range args.old args.old_len remappable.some_old)
      ∙ ap (λ o. if has_page (old_range args) page then None else o)
      (page_map-put end carried areas page
      (moved_good config areas args area start move.valid move.canonical remappable move.found move.place)
      (good_from_canonical end areas move.canonical)
      ∙ ap (λ cell. if has_page (moved_range args start) page then Some cell else page_map areas page)
      (carried_cell area args start page))

  pub move_left : (page : ℕ) → has_page (old_range args) page ≡ true
      → page_map (moved_list areas area args start) page ≡ None
  move_left page old = page_map-moved page ∙ cond-true (has_page (old_range args) page) None _ old

  pub move_reached : (page : ℕ) → has_page (moved_range args start) page ≡ true
      → page_map (moved_list areas area args start) page ≡ Some (carried_page area args start page)
  unfolding range_of
  move_reached page new =
      page_map-moved page
      ∙ cond-false (has_page (old_range args) page) None _
      (not_both (page_of args.old) (page_of args.old + pages_of args.old_len) start
      (start + pages_of args.new_len) page move_beside new)
      ∙ cond-true (has_page (moved_range args start) page) _ (page_map areas page) new
    where
      not_both : (lo hi from to page : ℕ) → (nat_lt lo to && nat_lt from hi) ≡ false
          → (nat_le from page && nat_lt page to) ≡ true → (nat_le lo page && nat_lt page hi) ≡ false
      not_both lo hi from to page apart there = grind (arith, nat_tests)

  pub move_carried : (count : ℕ) → count < min (pages_of args.old_len) (pages_of args.new_len)
      → page_map (moved_list areas area args start) (start + count) ≡ page_map areas (page_of args.old + count)
  unfolding page_map
  move_carried count some =
      let page = page_of args.old + count in
      let finds : Finds areas area = found_keeps (Finds areas) areas (page_of args.old) area
      (each_found areas (pairs_from_canonical (page_of config.limit) areas move.canonical)) move.found in
      let here = finds page (inside area.span page (omega (arith, old_one.begins)) (omega (arith, stay))) in
      move_reached (start + count) (inside (moved_range args start) (start + count) (omega arith) (omega arith))
      ∙ ap (λ cell. Some cell) (stay_cell area args start count old_one.begins)
      ∙ sym (ap (option_map (mapped_page page)) here)

  pub move_others : (page : ℕ) → has_page (old_range args) page ≡ false
      → has_page (moved_range args start) page ≡ false
      → page_map (moved_list areas area args start) page ≡ page_map areas page
  move_others page old new =
      page_map-moved page ∙ cond-false (has_page (old_range args) page) None _ old
      ∙ cond-false (has_page (moved_range args start) page) _ (page_map areas page) new
