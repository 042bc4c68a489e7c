-- For the law `sealed_pages_stay`: no call changes a sealed page.
use Rattle.std.proofs.Common.{◌≡◌, ◌≢◌, ◌<◌, ◌≤◌, ◌+◌, ◌-◌, ℕ, Bool, true, false, not, ◌&&◌, ◌||◌, if◌then◌else◌, nat_le, nat_lt, List, [], ◌∷◌, Option, Some, None, option_map, refl, ap, ◌∙◌, sym, subst, arith, inl, inr}
use Rattle.std.specs.List.{list_any}
use Rattle.std.specs.Option.{is_some}
use Rattle.std.proofs.lemmas.Bool.{cond_both, cond-false, and_parts, or_parts, ltb-true}
use Rattle.std.proofs.lemmas.Bool.Decides.{nat_tests}
use Rattle.std.proofs.lemmas.Option.{same_Some}
use Rattle.mm_types.specs.declared.area.Access.{Access}
use Rattle.mm_types.specs.declared.area.Prot.{Prot}
use Rattle.mm_types.specs.declared.area.Record.{Record}
use Rattle.mm_types.specs.declared.area.Span.{Span}
use Rattle.mm_types.specs.declared.call.Call.{Call}
use Rattle.mm_types.specs.declared.call.Call.TheVariants.{Mmap, Munmap, Mprotect, Mremap, Touch, Brk, Mseal}
use Rattle.mm_types.specs.declared.call.MmapArgs.{MmapArgs}
use Rattle.mm_types.specs.declared.call.Reply.{Reply}
use Rattle.mm_types.specs.declared.call.Reply.TheVariants.{Addr, Zero}
use Rattle.mm_types.specs.declared.config.Config.{Config}
use Rattle.mm_types.specs.declared.flags.TheConstants.{MAP_FIXED, MREMAP_FIXED}
use Rattle.mm_types.specs.Flags.{has_flag}
use Rattle.mm_types.specs.Rows.{first_row}
use Rattle.area_list.specs.declared.attributes.AttrChange.TheVariants.{Seal}
use Rattle.area_list.specs.Attributes.{changed_page}
use Rattle.area_list.specs.Areas.{MappedPage, page_of, has_page, page_map, area_at}
use Rattle.area_list.specs.Changes.{cut, put}
use Rattle.area_list.proofs.Changed.{page_map-changed}
use Rattle.area_list.proofs.Cutting.{page_map-cut}
use Rattle.area_list.proofs.Order.{IsGood, good_from_canonical}
use Rattle.area_list.proofs.Putting.{page_map-put}
use Rattle.area_rules.specs.Tables.{AddressSpace, Outcome, pages_of}
use Rattle.area_rules.specs.Placement.{bounds_of, place, is_free}
use Rattle.area_rules.specs.Brk.{pages_between, heap_area, brk}
use Rattle.area_rules.specs.Growing.{touch}
use Rattle.area_rules.specs.Mmap.{is_noreplace, is_fixed, is_taken, start_of, new_area, mapped_list, mmap_done, mmap_unsealed}
use Rattle.area_rules.specs.Munmap.{range_of, munmap_unsealed}
use Rattle.area_rules.specs.Mprotect.{protect_request_rows, mprotect_unsealed, prefix_of}
use Rattle.area_rules.specs.declared.mremap_request.MremapArgs.{MremapArgs}
use Rattle.area_rules.specs.Mremap.{mremap_args, moves_to, lengthens, old_range, new_range, carried_area, moved_list, shrunk_list, added_range, has_room, lengthened_list, mremap_done, mremap_unsealed}
use Rattle.area_rules.specs.Mseal.{mseal}
use Rattle.area_rules.specs.Seals.{has_sealed}
use Rattle.area_rules.specs.Guarded.{guarded_ranges, is_sealed_off}
use Rattle.area_rules.specs.Steps.{step_unsealed, step, IsReady}
use Rattle.area_rules.specs.Laws.{moved_range, MovesTo}
use Rattle.area_rules.proofs.Fitting.{place_free}
use Rattle.area_rules.proofs.Guarding.{step_cases}
use Rattle.area_rules.proofs.Cases.{IsMappable, mmap_cases, munmap_cases, mprotect_cases, grower_is, touch_cases, brk_cases, mseal_cases}
use Rattle.area_rules.proofs.NewArea.{new_area_good}
use Rattle.area_rules.proofs.ProtectLaws.{stop_is, page_map-prefix}
use Rattle.area_rules.proofs.RemapLaws.{IsRemappable, mremap_cases, change_both, found_place, some_range, moved_good, grown_good}
use Rattle.area_rules.proofs.Stepping.{in_order, all_may_seal, room_above, raised_good}
use Rattle.area_rules.proofs.Touching.{grown_elsewhere}
use Rattle.area_rules.proofs.Unmapped.{free_unmapped, mapped_outside, sealed_outside}

-- Where the seals leave a call its outcome, its ranges have no sealed page:
-- the fixed range of an mmap
mmap_left : (areas : List Record) (args : MmapArgs) (address : ℕ) → has_flag args.flags MAP_FIXED ≡ true
    → is_sealed_off areas (Mmap args) (Addr address) ≡ false → has_sealed (range_of args.addr args.len) areas ≡ false
unfolding is_sealed_off guarded_ranges
mmap_left areas args address fixed left = at (has_flag args.flags MAP_FIXED) fixed left
  where
    at : (flag : Bool) → flag ≡ true
        → list_any (λ range. has_sealed range areas) (if not flag then [] else range_of args.addr args.len ∷ []) ≡ false
        → has_sealed (range_of args.addr args.len) areas ≡ false
    at true is left = (or_parts (has_sealed (range_of args.addr args.len) areas) false left).0
    at false is left = cc

-- that of a munmap
munmap_left : (areas : List Record) (addr len : ℕ) → is_sealed_off areas (Munmap addr len) Zero ≡ false
    → has_sealed (range_of addr len) areas ≡ false
unfolding is_sealed_off guarded_ranges
munmap_left areas addr len left = (or_parts (has_sealed (range_of addr len) areas) false left).0

-- that of an mprotect
mprotect_left : (areas : List Record) (addr len : ℕ) (prot : Prot) (reply : Reply)
    → first_row (protect_request_rows addr len) ≡ None → is_sealed_off areas (Mprotect addr len prot) reply ≡ false
    → has_sealed (range_of addr len) areas ≡ false
unfolding is_sealed_off guarded_ranges
mprotect_left areas addr len prot reply request left = at (first_row (protect_request_rows addr len)) request left
  where
    at : (answer : Option Reply) → answer ≡ None
        → list_any (λ range. has_sealed range areas) (if is_some answer then [] else range_of addr len ∷ []) ≡ false
        → has_sealed (range_of addr len) areas ≡ false
    at None is left = (or_parts (has_sealed (range_of addr len) areas) false left).0
    at (Some reply) is left = cc

-- an mremap by its arguments as one
abbrev remap_call : MremapArgs → Call
remap_call args = Mremap args.old args.old_len args.new_len args.flags args.new

-- the old range of an mremap, and its fixed new one
mremap_left : (areas : List Record) (args : MremapArgs) (address : ℕ) → is_sealed_off areas (remap_call args) (Addr address) ≡ false
    → (has_sealed (old_range args) areas ≡ false) × (moves_to args ≡ true → has_sealed (new_range args) areas ≡ false)
unfolding is_sealed_off guarded_ranges
mremap_left areas args address left = at (has_flag args.flags MREMAP_FIXED) left
  where
    at : (flag : Bool)
        → list_any (λ range. has_sealed range areas) (old_range args ∷ (if flag then new_range args ∷ [] else [])) ≡ false
        → (has_sealed (old_range args) areas ≡ false) × (flag ≡ true → has_sealed (new_range args) areas ≡ false)
    at true left =
        let parts = or_parts (has_sealed (old_range args) areas) (has_sealed (new_range args) areas || false) left in
        (parts.0, λ fixed. (or_parts (has_sealed (new_range args) areas) false parts.1).0)
    at false left = ((or_parts (has_sealed (old_range args) areas) false left).0, λ fixed. cc)

-- a page outside a span lies outside one within that
within_outside : (inner outer : Span) (page : ℕ) → outer.lo ≤ inner.lo → inner.hi ≤ outer.hi → has_page outer page ≡ false
    → has_page inner page ≡ false
within_outside inner outer page low high outside = tests inner.lo inner.hi outer.lo outer.hi page low high outside
  where
    tests : (lo hi from to page : ℕ) → from ≤ lo → hi ≤ to → (nat_le from page && nat_lt page to) ≡ false
        → (nat_le lo page && nat_lt page hi) ≡ false
    tests lo hi from to page low high outside = grind (arith, nat_tests)

-- a seal keeps a sealed page
sealed_again : (mapped : MappedPage) → mapped.attr.sealed ≡ true → changed_page Seal mapped ≡ mapped
sealed_again mapped sealed = λ i. record mapped { attr = record mapped.attr { sealed = sym sealed i } }

module _ (config : Config) (space : AddressSpace) (page : ℕ) (mapped : MappedPage) (ready : IsReady config space)
    (here : page_map space.areas page ≡ Some mapped) (sealed : mapped.attr.sealed ≡ true) where
  -- the page is mapped as before
  abbrev Stays : List Record → Type 0
  Stays areas = page_map areas page ≡ Some mapped

  -- the page lies outside a span that has no sealed page
  off_sealed : (span : Span) → has_sealed span space.areas ≡ false → has_page span page ≡ false
  off_sealed span none = sealed_outside span space.areas page mapped here sealed none

  -- and outside a place that is free
  off_free : (pages start : ℕ) (span : Span) → is_free space.areas pages start ≡ true → start ≤ span.lo
      → span.hi ≤ start + pages → has_page span page ≡ false
  off_free pages start span free low high = mapped_outside space.areas pages start page mapped span here free low high

  -- and so it stays where such spans are cut out, or taken
  cut_stays : (span : Span) → span.lo < span.hi → has_page span page ≡ false → Stays (cut span space.areas)
  cut_stays span some outside =
      page_map-cut span space.areas page some ∙ cond-false (has_page span page) None (page_map space.areas page) outside
      ∙ here

  -- or put over
  put_stays : (area : Record) → IsGood (page_of config.limit) area → has_page area.span page ≡ false
      → Stays (put area space.areas)
  put_stays area good outside =
      page_map-put (page_of config.limit) area space.areas page good
      (good_from_canonical (page_of config.limit) space.areas ready.sound.canonical)
      ∙ cond-false (has_page area.span page) _ (page_map space.areas page) outside ∙ here

  -- the page lies outside the place of an mmap at a fixed address
  off_fixed : (args : MmapArgs) (start address : ℕ) (flag : Bool) → has_flag args.flags MAP_FIXED ≡ flag
      → IsMappable config space args start → is_sealed_off space.areas (Mmap args) (Addr address) ≡ false
      → is_fixed args ≡ true
      → has_page (record { lo = page_of args.addr; hi = page_of args.addr + pages_of args.len }) page ≡ false
  unfolding range_of is_fixed is_taken
  off_fixed args start address true is m left fixed =
      off_sealed (range_of args.addr args.len) (mmap_left space.areas args address is left)
  off_fixed args start address false is m left fixed =
      let noreplace : is_noreplace args ≡ true = second (has_flag args.flags MAP_FIXED) (is_noreplace args) is fixed in
      off_free (pages_of args.len) (page_of args.addr)
      (record { lo = page_of args.addr; hi = page_of args.addr + pages_of args.len })
      (not_both (is_noreplace args) (is_free space.areas (pages_of args.len) (page_of args.addr)) noreplace m.kept)
      (omega arith) (omega arith)
    where
      second : (a b : Bool) → a ≡ false → (a || b) ≡ true → b ≡ true
      second a b is h = grind arith

      not_both : (a b : Bool) → a ≡ true → (a && not b) ≡ false → b ≡ true
      not_both a b is h = grind arith

  -- and so at any place
  off_start : (args : MmapArgs) (start address : ℕ) → IsMappable config space args start
      → is_sealed_off space.areas (Mmap args) (Addr address) ≡ false
      → has_page (record { lo = start; hi = start + pages_of args.len }) page ≡ false
  unfolding start_of
  off_start args start address m left =
      cond_both (is_fixed args) (Some (page_of args.addr)) (place (bounds_of config) space.areas (pages_of args.len) args.addr)
      (λ o. o ≡ Some start → has_page (record { lo = start; hi = start + pages_of args.len }) page ≡ false)
      (λ fixed is. subst (λ lo. has_page (record { lo = lo; hi = lo + pages_of args.len }) page ≡ false)
      (same_Some (page_of args.addr) start is)
      (off_fixed args start address (has_flag args.flags MAP_FIXED) refl m left fixed))
      (λ free is. off_free (pages_of args.len) start (record { lo = start; hi = start + pages_of args.len })
      (place_free config space.areas (pages_of args.len) args.addr start is) (omega arith) (omega arith)) m.found

  -- what the step leaves of the list, where the seals leave the outcome
  abbrev Left : Call → Outcome → Type 0
  Left call o = is_sealed_off space.areas call o.reply ≡ false → Stays o.space.areas

  -- mmap keeps the page
  mmap_stays : (args : MmapArgs) → Left (Mmap args) (mmap_unsealed config space args)
  unfolding mmap_done mapped_list new_area
  mmap_stays args = mmap_cases (Left (Mmap args)) config space args (λ errno left. here)
      (λ start m left. put_stays (new_area config space.objects args start)
      (new_area_good config space.areas space.objects args start ready.valid m.accepted m.found)
      (off_start args start _ m left))

  -- munmap keeps it
  munmap_stays : (addr len : ℕ) → Left (Munmap addr len) (munmap_unsealed config space addr len)
  munmap_stays addr len = munmap_cases (Left (Munmap addr len)) config space addr len (λ errno left. here)
      (λ c left. cut_stays (range_of addr len) c.some_pages
      (off_sealed (range_of addr len) (munmap_left space.areas addr len left)))

  -- mprotect keeps it
  mprotect_stays : (addr len : ℕ) (prot : Prot) → Left (Mprotect addr len prot) (mprotect_unsealed config space addr len prot)
  mprotect_stays addr len prot =
      mprotect_cases (Left (Mprotect addr len prot)) config space addr len prot (λ reply left. here)
      (λ p left. let range = range_of addr len in
      let stop = stop_is prot range space.areas (in_order addr len) in
      page_map-prefix (page_of config.limit) prot range space.areas page (in_order addr len) ready.sound.canonical
      ∙ cond-false (has_page (prefix_of prot range space.areas) page) _ (page_map space.areas page)
      (within_outside (prefix_of prot range space.areas) range page (omega arith) stop.ends
      (off_sealed range (mprotect_left space.areas addr len prot _ p.request left)))
      ∙ here)

  -- the page lies outside the new range of a move
  off_moved : (args : MremapArgs) (start : ℕ) → (moves_to args ≡ true → has_sealed (new_range args) space.areas ≡ false)
      → MovesTo config space.areas args start → has_page (moved_range args start) page ≡ false
  unfolding range_of
  off_moved args start new (inl fixed) = subst (λ lo. has_page (moved_range args lo) page ≡ false) fixed.1
      (off_sealed (new_range args) (new fixed.0))
  off_moved args start new (inr found) = off_free (pages_of args.new_len) start (moved_range args start)
      (place_free config space.areas (pages_of args.new_len) 0 start (found_place config space.areas args start found.3))
      (omega arith) (omega arith)

  -- a move keeps it
  moved_stays : (area : Record) (args : MremapArgs) (start : ℕ) → IsRemappable config space.areas args
      → area_at space.areas (page_of args.old) ≡ Some area → has_sealed (old_range args) space.areas ≡ false
      → (moves_to args ≡ true → has_sealed (new_range args) space.areas ≡ false) → MovesTo config space.areas args start
      → Stays (moved_list space.areas area args start)
  unfolding moved_list carried_area
  moved_stays area args start r found old new moves =
      let carried = carried_area area (page_of args.old) (moved_range args start) in
      page_map-cut (old_range args) (put carried space.areas) page (some_range args.old args.old_len r.some_old)
      ∙ cond-false (has_page (old_range args) page) None _ (off_sealed (old_range args) old)
      ∙ put_stays carried (moved_good config space.areas args area start ready.valid ready.sound.canonical r found moves)
      (off_moved args start new moves)

  -- shrinking keeps it
  shrunk_stays : (args : MremapArgs) → has_sealed (old_range args) space.areas ≡ false → Stays (shrunk_list space.areas args)
  unfolding shrunk_list range_of
  shrunk_stays args old =
      let gone : Span = record {
        lo = page_of args.old + pages_of args.new_len;
        hi = page_of args.old + pages_of args.old_len;
      } in
      cond_both (nat_lt (pages_of args.new_len) (pages_of args.old_len)) (cut gone space.areas) space.areas Stays
      (λ less. cut_stays gone (omega (arith, ltb-true (pages_of args.new_len) (pages_of args.old_len) less))
      (within_outside gone (old_range args) page (omega arith) (omega arith) (off_sealed (old_range args) old)))
      (λ same. here)

  -- lengthening in place keeps it
  lengthened_stays : (area : Record) (args : MremapArgs) → IsRemappable config space.areas args
      → area_at space.areas (page_of args.old) ≡ Some area → lengthens args ≡ true → has_room config space.areas args ≡ true
      → Stays (lengthened_list space.areas area args)
  unfolding lengthened_list has_room added_range carried_area
  lengthened_stays area args r found more room =
      let old = pages_of args.old_len in
      let new = pages_of args.new_len in
      let longer : old < new = ltb-true old new more in
      let free = (and_parts (nat_le (page_of args.old + new) (page_of config.limit)) _ room).1 in
      put_stays (carried_area area (added_range args).lo (added_range args))
      (grown_good config space.areas args area ready.valid ready.sound.canonical r found more room)
      (off_free (new - old) (page_of args.old + old) (added_range args) free (omega arith) (omega arith))

  -- so mremap keeps it
  mremap_stays : (args : MremapArgs) → Left (remap_call args) (mremap_unsealed config space args)
  unfolding mremap_done
  mremap_stays args = mremap_cases (Left (remap_call args)) config space args (λ errno left. here)
      (λ area change found r e few left. let ranges = mremap_left space.areas args _ left in
      change_both Stays config space.areas area args change
      (λ start moves. moved_stays area args start r found ranges.0 ranges.1 moves)
      (shrunk_stays args ranges.0) (λ more room. lengthened_stays area args r found more room) e)

  -- a touch keeps it
  touch_stays : (touched : ℕ) (access : Access) → Stays (touch config space touched access).space.areas
  touch_stays touched access = touch_cases (λ o. Stays o.space.areas) config space touched access here
      (λ area found allowed. let g = grower_is config space.areas touched area found in
      grown_elsewhere config space touched ready area g page (apart g.free) ∙ here)
    where
      apart : is_free space.areas 2 (touched - 1) ≡ true → page ≢ touched
      apart free same =
          let none : page_map space.areas page ≡ None =
          free_unmapped space.areas 2 (touched - 1) page free (omega (arith, same)) (omega (arith, same)) in
          absurd (cc)

  -- brk keeps it
  brk_stays : (addr : ℕ) → Stays (brk config space addr).space.areas
  unfolding heap_area
  brk_stays addr = brk_cases (λ o. Stays o.space.areas) config space addr here (λ same. here)
      (λ l. cut_stays (pages_between addr space.brk) l.below (off_sealed (pages_between addr space.brk) l.unsealed))
      (λ r. let room = room_above config space addr r.room in
      put_stays (heap_area (pages_between space.brk addr)) (raised_good config space addr ready.valid r)
      (off_free (pages_of addr + 1 - pages_of space.brk) (pages_of space.brk) (pages_between space.brk addr) room.free
      (omega arith) (omega (arith, r.above))))

  -- mseal keeps it
  mseal_stays : (addr len flags : ℕ) → Stays (mseal config space addr len flags).space.areas
  mseal_stays addr len flags = mseal_cases (λ o. Stays o.space.areas) config space addr len flags (λ errno. here)
      (λ none. here)
      (λ s. let range = range_of addr len in
      page_map-changed (page_of config.limit) Seal range space.areas page (in_order addr len) ready.sound.canonical
      (all_may_seal range space.areas)
      ∙ cond_both (has_page range page) (option_map (changed_page Seal) (page_map space.areas page))
      (page_map space.areas page) (λ o. o ≡ Some mapped)
      (λ within. ap (option_map (changed_page Seal)) here ∙ ap (λ m. Some m) (sealed_again mapped sealed))
      (λ outside. here))

  -- so each call keeps it, where the seals leave its outcome
  unsealed_stays : (call : Call) → Left call (step_unsealed config space call)
  unfolding step_unsealed
  unsealed_stays (Mmap args) = mmap_stays args
  unsealed_stays (Munmap addr len) = munmap_stays addr len
  unsealed_stays (Mprotect addr len prot) = mprotect_stays addr len prot
  unsealed_stays (Mremap old old_len new_len flags new) = mremap_stays (mremap_args old old_len new_len flags new)
  unsealed_stays (Touch touched access) = λ left. touch_stays touched.0 access
  unsealed_stays (Brk addr) = λ left. brk_stays addr
  unsealed_stays (Mseal addr len flags) = λ left. mseal_stays addr len flags

-- and so does the step
pub sealed_stay : (config : Config) (space : AddressSpace) (call : Call) (page : ℕ) (mapped : MappedPage)
    → IsReady config space → page_map space.areas page ≡ Some mapped → mapped.attr.sealed ≡ true
    → page_map (step config space call).space.areas page ≡ Some mapped
sealed_stay config space call page mapped ready here sealed =
    step_cases config space (λ o. page_map o.space.areas page ≡ Some mapped) call here
    (unsealed_stays config space page mapped ready here sealed call)
