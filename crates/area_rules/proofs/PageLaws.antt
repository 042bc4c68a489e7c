-- For the laws of `page_laws`: which pages each call changes, and to what.
use Rattle.std.proofs.Common.{◌≡◌, ◌≢◌, ◌<◌, ◌≤◌, ◌+◌, ◌-◌, ◌*◌, ℕ, true, false, ◌&&◌, if◌then◌else◌, nat_eq, nat_lt, nat_le, List, Option, Some, None, option_map, refl, ap, ◌∙◌, sym, subst, arith}
use Rattle.std.proofs.lemmas.Bool.{cond_both, cond-true, cond-false, leb-true, ltb-true, ltb-false, eqb-true, false_from_ne_true}
use Rattle.std.proofs.lemmas.Bool.Decides.{nat_tests}
use Rattle.mm_types.specs.declared.area.Prot.{Prot}
use Rattle.mm_types.specs.declared.area.Record.{Record}
use Rattle.mm_types.specs.declared.area.Span.{Span}
use Rattle.mm_types.specs.declared.call.Call.{Call}
use Rattle.mm_types.specs.declared.call.Call.TheVariants.{Mmap, Munmap, Mprotect, Mremap}
use Rattle.mm_types.specs.declared.call.Errno.{Errno}
use Rattle.mm_types.specs.declared.call.Errno.TheVariants.{Eperm, Enomem, Eacces, Einval}
use Rattle.mm_types.specs.declared.call.MmapArgs.{MmapArgs}
use Rattle.mm_types.specs.declared.call.Reply.{Reply}
use Rattle.mm_types.specs.declared.call.Reply.TheVariants.{Addr, Zero, Refused}
use Rattle.mm_types.specs.declared.config.Config.{Config}
use Rattle.mm_types.specs.declared.config.TheConstants.{PAGE_SIZE}
use Rattle.mm_types.specs.Rows.{first_row}
use Rattle.area_list.specs.declared.attributes.AttrChange.TheVariants.{Protection}
use Rattle.area_list.specs.Attributes.{changed_page}
use Rattle.area_list.specs.Areas.{page_of, has_page, overlap, index_of, mapped_page, page_map, area_at}
use Rattle.area_list.specs.Changes.{cut}
use Rattle.area_list.proofs.Cutting.{page_map-cut}
use Rattle.area_list.proofs.Holding.{lies_in, inside}
use Rattle.area_list.proofs.Order.{good_from_canonical}
use Rattle.area_list.proofs.Putting.{page_map-put}
use Rattle.area_rules.specs.declared.mremap_request.Moved.{Moved}
use Rattle.area_rules.specs.declared.mremap_request.MremapArgs.{MremapArgs}
use Rattle.area_rules.specs.Laws.{moved_range, IsMove}
use Rattle.area_rules.specs.Mmap.{new_area, mapped_list, mmap_done}
use Rattle.area_rules.specs.Mprotect.{may_have, stop_of, protected_prefix, protect_request_rows, mprotect_rows, stop_error, stopped_reply, mprotect_done, mprotect, prefix_of}
use Rattle.area_rules.specs.Mremap.{lengthens, old_range, mremap_rows, carried_area, moved, shrunk_list, added_range, has_room, lengthened_list, mremap_change, mremap_done, mremap_unsealed}
use Rattle.area_rules.specs.Munmap.{range_of}
use Rattle.area_rules.specs.Pages.{mmap_page, runs_on}
use Rattle.area_rules.specs.Steps.{step_unsealed, step, IsReady}
use Rattle.area_rules.specs.Tables.{AddressSpace, Outcome, unless_refused, unless_answered, pages_of}
use Rattle.area_rules.proofs.Cases.{IsMappable, IsCuttable, mmap_cases, munmap_cases}
use Rattle.area_rules.proofs.Guarding.{step_cases}
use Rattle.area_rules.proofs.Moving.{carried_page, move_beside, move_left, move_reached, move_carried, move_others}
use Rattle.area_rules.proofs.NewArea.{new_area_good}
use Rattle.area_rules.proofs.ProtectLaws.{stop_is, page_map-prefix}
use Rattle.area_rules.proofs.RemapLaws.{IsRemappable, old_area, change_cases, mremap_cases, grown_good}
use Rattle.area_rules.proofs.Rows.{unless_answered-gives}
use Rattle.area_rules.proofs.Sealing.{no_page}
use Rattle.area_rules.proofs.Stepping.{in_order}

-- the page of a replied address
replied_page : (start address : ℕ) → Addr (PAGE_SIZE * start) ≡ Addr address → page_of address ≡ start
replied_page start address is = let same : 4096 * start ≡ address = cc in omega arith

module _ (config : Config) (space : AddressSpace) (addr len : ℕ) where
  -- what holds of each of munmap's outcomes holds of the step
  by_munmap : (P : Outcome → Type 0) → ((errno : Errno) → P (record { space = space; reply = Refused errno }))
      → (IsCuttable config space.areas addr len
      → P (record { space = record space { areas = cut (range_of addr len) space.areas }; reply = Zero }))
      → P (step config space (Munmap addr len))
  unfolding step_unsealed
  by_munmap P refused done =
      step_cases config space P (Munmap addr len) (refused Eperm)
      (λ left. munmap_cases P config space addr len refused done)

  -- the pages of the range are not mapped
  pub unmapped_pages : (page : ℕ) → (step config space (Munmap addr len)).reply ≡ Zero
      → page_map (step config space (Munmap addr len)).space.areas page
      ≡ (if has_page (range_of addr len) page then None else page_map space.areas page)
  unmapped_pages page = by_munmap
      (λ o. o.reply ≡ Zero → page_map o.space.areas page
      ≡ (if has_page (range_of addr len) page then None else page_map space.areas page))
      (λ errno is. cc) (λ c is. page_map-cut (range_of addr len) space.areas page c.some_pages)

  -- else nothing changes
  pub unmapped_kept : (step config space (Munmap addr len)).reply ≢ Zero → (step config space (Munmap addr len)).space ≡ space
  unmapped_kept = by_munmap (λ o. o.reply ≢ Zero → o.space ≡ space) (λ errno h. refl) (λ c h. absurd (h refl))

-- an mprotect that answers zero comes to the end of its range
zero_ends : (range : Span) (stop : ℕ) (area : Option Record) → stopped_reply (stop_error range stop area) ≡ Zero → range.hi ≤ stop
unfolding stop_error
zero_ends range stop area =
    cond_both (nat_le range.hi stop) None (Some _) (λ (o : Option Errno). stopped_reply o ≡ Zero → range.hi ≤ stop)
    (λ past is. leb-true range.hi stop past) (λ before is. cc)

-- a page that may have a protection is mapped
may_mapped : (prot : Prot) (page : ℕ) (found : Option Record) → may_have prot found ≡ true
    → option_map (mapped_page page) found ≢ None
unfolding may_have
may_mapped prot page None may none = cc
may_mapped prot page (Some area) may none = cc

module _ (config : Config) (space : AddressSpace) (addr len : ℕ) (prot : Prot) where
  -- what holds of each of mprotect's outcomes holds of the step
  pub by_mprotect : (P : Outcome → Type 0) → ((errno : Errno) → P (record { space = space; reply = Refused errno }))
      → (len ≡ 0 → P (record { space = space; reply = Zero })) → P (mprotect_done space (range_of addr len) prot)
      → P (step config space (Mprotect addr len prot))
  unfolding step mprotect mprotect_rows protect_request_rows
  by_mprotect P refused empty done =
      unless_answered-gives P space (mprotect_rows config space.areas addr len prot) _ (
        λ misplaced. refused Einval,
        λ aligned. (
          λ none. empty (eqb-true len 0 none),
          λ some. (
            λ past. refused Enomem,
            λ within. (
              λ sealed. refused Eperm,
              λ unsealed. (
                λ many. refused Enomem,
                λ few. done,
              ),
            ),
          ),
        ),
      )

  -- where it answers zero, it stops at the end of its range
  protected_end : (mprotect_done space (range_of addr len) prot).reply ≡ Zero
      → stop_of prot (range_of addr len) space.areas ≡ (range_of addr len).hi
  protected_end is =
      let range = range_of addr len in
      let stop = stop_of prot range space.areas in
      let past = zero_ends range stop (area_at space.areas stop) is in
      omega (arith, past, (stop_is prot range space.areas (in_order addr len)).ends)

  -- the pages before the stop have the protection
  pub before_stop : (page : ℕ) → IsReady config space
      → page_map (protected_prefix prot (range_of addr len) space.areas) page
      ≡ (if has_page (prefix_of prot (range_of addr len) space.areas) page
      then option_map (changed_page (Protection prot)) (page_map space.areas page) else page_map space.areas page)
  before_stop page ready = page_map-prefix (page_of config.limit) prot (range_of addr len) space.areas page
      (in_order addr len) ready.sound.canonical

  -- an empty range has no page
  none_there : (page : ℕ) → len ≡ 0 → has_page (range_of addr len) page ≡ false
  none_there page none = false_from_ne_true (has_page (range_of addr len) page)
      (λ here. no_page addr page (subst (λ n. has_page (range_of addr n) page ≡ true) none here))

  -- the pages of the range have the protection
  pub protected_pages : (page : ℕ) → IsReady config space → (step config space (Mprotect addr len prot)).reply ≡ Zero
      → page_map (step config space (Mprotect addr len prot)).space.areas page
      ≡ (if has_page (range_of addr len) page then option_map (changed_page (Protection prot)) (page_map space.areas page)
      else page_map space.areas page)
  protected_pages page ready =
      let range = range_of addr len in
      let changed = option_map (changed_page (Protection prot)) (page_map space.areas page) in
      by_mprotect
      (λ o. o.reply ≡ Zero → page_map o.space.areas page ≡ (if has_page range page then changed else page_map space.areas page))
      (λ errno is. cc)
      (λ none is. sym (cond-false (has_page range page) changed (page_map space.areas page) (none_there page none)))
      (λ is. subst (λ hi. page_map (protected_prefix prot range space.areas) page
      ≡ (if has_page (record { lo = range.lo; hi = hi }) page then changed else page_map space.areas page))
      (protected_end is) (before_stop page ready))

  -- which were all mapped
  pub protected_mapped : (page : ℕ) → (step config space (Mprotect addr len prot)).reply ≡ Zero
      → has_page (range_of addr len) page ≡ true → page_map space.areas page ≢ None
  unfolding page_map
  protected_mapped page =
      let range = range_of addr len in
      by_mprotect (λ o. o.reply ≡ Zero → has_page range page ≡ true → page_map space.areas page ≢ None) (λ errno is. cc)
      (λ none is here. absurd (no_page addr page (subst (λ n. has_page (range_of addr n) page ≡ true) none here)))
      (λ is here. let lies = lies_in range page here in
      may_mapped prot page (area_at space.areas page) ((stop_is prot range space.areas (in_order addr len)).before page lies.low
      (omega (arith, lies.high, protected_end is))))

  -- where no test answers, the pages before the stop have the protection
  pub protected_stopped : (page : ℕ) → IsReady config space → first_row (mprotect_rows config space.areas addr len prot) ≡ None
      → page_map (step config space (Mprotect addr len prot)).space.areas page
      ≡ (if has_page (prefix_of prot (range_of addr len) space.areas) page
      then option_map (changed_page (Protection prot)) (page_map space.areas page) else page_map space.areas page)
  unfolding step mprotect
  protected_stopped page ready none =
      subst (λ answer. Stops (unless_answered space answer (mprotect_done space (range_of addr len) prot))) (sym none)
      (before_stop page ready)
    where
      Stops : Outcome → Type 0
      Stops o = page_map o.space.areas page
          ≡ (if has_page (prefix_of prot (range_of addr len) space.areas) page
          then option_map (changed_page (Protection prot)) (page_map space.areas page) else page_map space.areas page)

  -- else nothing changes
  pub protected_kept : first_row (mprotect_rows config space.areas addr len prot) ≢ None
      → (step config space (Mprotect addr len prot)).space ≡ space
  unfolding step mprotect
  protected_kept some = at (first_row (mprotect_rows config space.areas addr len prot)) some
    where
      at : (answer : Option Reply) → answer ≢ None
          → (unless_answered space answer (mprotect_done space (range_of addr len) prot)).space ≡ space
      at (Some reply) some = refl
      at None some = absurd (some refl)

module _ (config : Config) (space : AddressSpace) (args : MmapArgs) where
  -- what holds of each of mmap's outcomes holds of the step
  by_mmap : (P : Outcome → Type 0) → ((errno : Errno) → P (record { space = space; reply = Refused errno }))
      → ((start : ℕ) → IsMappable config space args start → P (mmap_done config space args start))
      → P (step config space (Mmap args))
  unfolding step_unsealed
  by_mmap P refused done =
      step_cases config space P (Mmap args) (refused Eperm)
      (λ left. mmap_cases P config space args refused done)

  -- the pages of the list with the new area
  placed_pages : (start page : ℕ) → IsReady config space → IsMappable config space args start
      → page_map (mapped_list config space args start) page
      ≡ (if has_page (record { lo = start; hi = start + pages_of args.len }) page
      then Some (mmap_page config space.objects args start page) else page_map space.areas page)
  unfolding mapped_list new_area mapped_page index_of mmap_page
  placed_pages start page ready m =
      page_map-put (page_of config.limit) (new_area config space.objects args start) space.areas page
      (new_area_good config space.areas space.objects args start ready.valid m.accepted m.found)
      (good_from_canonical (page_of config.limit) space.areas ready.sound.canonical)

  -- the pages at the address are mapped to what was asked for
  pub mapped_pages : (address page : ℕ) → IsReady config space → (step config space (Mmap args)).reply ≡ Addr address
      → page_map (step config space (Mmap args)).space.areas page
      ≡ (if has_page (range_of address args.len) page then Some (mmap_page config space.objects args (page_of address) page)
      else page_map space.areas page)
  unfolding range_of mmap_done
  mapped_pages address page ready = by_mmap
      (λ o. o.reply ≡ Addr address → page_map o.space.areas page
      ≡ (if has_page (range_of address args.len) page then Some (mmap_page config space.objects args (page_of address) page)
      else page_map space.areas page))
      (λ errno is. cc)
      (λ start m is. subst (λ lo. page_map (mapped_list config space args start) page
      ≡ (if has_page (record { lo = lo; hi = lo + pages_of args.len }) page
      then Some (mmap_page config space.objects args lo page) else page_map space.areas page))
      (sym (replied_page start address is)) (placed_pages start page ready m))

  -- else nothing changes
  pub mapped_kept : ((address : ℕ) → (step config space (Mmap args)).reply ≢ Addr address)
      → (step config space (Mmap args)).space ≡ space
  unfolding mmap_done
  mapped_kept = by_mmap (λ o. ((address : ℕ) → o.reply ≢ Addr address) → o.space ≡ space) (λ errno h. refl)
      (λ start m h. absurd (h (PAGE_SIZE * start) refl))

-- what a change by mremap makes of each page
record Remaps (areas : List Record) (args : MremapArgs) (change : Moved) : Type 0 where
  carried : (count : ℕ) → count < pages_of args.old_len → count < pages_of args.new_len
      → page_map change.areas (change.page + count) ≡ page_map areas (page_of args.old + count)
  added : (count : ℕ) → pages_of args.old_len ≤ count → count < pages_of args.new_len
      → page_map change.areas (change.page + count) ≡ option_map (runs_on count) (page_map areas (page_of args.old))
  left : (page : ℕ) → has_page (old_range args) page ≡ true → has_page (moved_range args change.page) page ≡ false
      → page_map change.areas page ≡ None
  others : (page : ℕ) → has_page (old_range args) page ≡ false → has_page (moved_range args change.page) page ≡ false
      → page_map change.areas page ≡ page_map areas page
  beside : change.page ≢ page_of args.old → overlap (old_range args) (moved_range args change.page) ≡ false

-- the page of an area that is found
found_page : (areas : List Record) (page : ℕ) (area : Record) → area_at areas page ≡ Some area
    → page_map areas page ≡ Some (mapped_page page area)
unfolding page_map
found_page areas page area found = ap (option_map (mapped_page page)) found

-- a page past the old length of a moved range goes on as the first page of the old one
moved_on : (area : Record) (args : MremapArgs) (start count : ℕ)
    → carried_page area args start (start + count) ≡ runs_on count (mapped_page (page_of args.old) area)
unfolding mapped_page runs_on
moved_on area args start count = λ i. record {
  attr = area.attr;
  object = area.object;
  index = index area.object (index_of area (page_of args.old)) i;
}
  where
    index : (object first : ℕ) → (if nat_eq object 0 then 0 else first + ((start + count) - start))
        ≡ (if nat_eq object 0 then 0 else first + count)
    index object first = grind (arith, nat_tests)

-- a move
moved_remaps : (config : Config) (areas : List Record) (area : Record) (args : MremapArgs) (start : ℕ)
    → IsMove config areas area args start → Remaps areas args (moved areas area args start)
moved_remaps config areas area args start move = record {
  carried = λ count old new. move_carried config areas area args start move count (omega (arith, old, new));
  added = λ count past new.
      move_reached config areas area args start move (start + count)
      (inside (moved_range args start) (start + count) (omega arith) (omega (arith, new)))
      ∙ ap (λ cell. Some cell) (moved_on area args start count)
      ∙ sym (ap (option_map (runs_on count)) (found_page areas (page_of args.old) area move.found));
  left = λ page old new. move_left config areas area args start move page old;
  others = λ page old new. move_others config areas area args start move page old new;
  beside = λ apart. move_beside config areas area args start move;
}

-- the pages that a range gives back where it shrinks in place
abbrev gone_range : MremapArgs → Span
gone_range args = record { lo = page_of args.old + pages_of args.new_len; hi = page_of args.old + pages_of args.old_len }

-- the pages of a list that is shrunk
shrunk_pages : (areas : List Record) (args : MremapArgs) (page : ℕ)
    → page_map (shrunk_list areas args) page ≡ (if has_page (gone_range args) page then None else page_map areas page)
unfolding shrunk_list
shrunk_pages areas args page =
    let shorter = nat_lt (pages_of args.new_len) (pages_of args.old_len) in
    cond_both shorter (cut (gone_range args) areas) areas
    (λ list. page_map list page ≡ (if has_page (gone_range args) page then None else page_map areas page))
    (λ less. page_map-cut (gone_range args) areas page (omega (arith, ltb-true (pages_of args.new_len) (pages_of args.old_len) less)))
    (λ same. sym (cond-false (has_page (gone_range args) page) None (page_map areas page)
    (empty (page_of args.old) (pages_of args.new_len) (pages_of args.old_len) same)))
  where
    empty : (low new old : ℕ) → nat_lt new old ≡ false → (nat_le (low + new) page && nat_lt page (low + old)) ≡ false
    empty low new old same = grind (arith, nat_tests)

-- shrinking in place, or the same length
shrunk_remaps : (areas : List Record) (args : MremapArgs) → lengthens args ≡ false
    → Remaps areas args (record { areas = shrunk_list areas args; page = page_of args.old })
unfolding range_of
shrunk_remaps areas args same =
    let low = page_of args.old in
    let old = pages_of args.old_len in
    let new = pages_of args.new_len in
    record {
      carried = λ count here there.
          shrunk_pages areas args (low + count)
          ∙ cond-false (has_page (gone_range args) (low + count)) None (page_map areas (low + count))
          (before low old new count there);
      added = λ count past there. absurd (omega (arith, past, there, ltb-false old new same));
      left = λ page here out.
          shrunk_pages areas args page
          ∙ cond-true (has_page (gone_range args) page) None (page_map areas page) (behind low old new page here out);
      others = λ page out outside.
          shrunk_pages areas args page
          ∙ cond-false (has_page (gone_range args) page) None (page_map areas page) (elsewhere low old new page out);
      beside = λ apart. absurd (apart refl);
    }
  where
    before : (low old new count : ℕ) → count < new → (nat_le (low + new) (low + count) && nat_lt (low + count) (low + old)) ≡ false
    before low old new count there = grind (arith, nat_tests)

    behind : (low old new page : ℕ) → (nat_le low page && nat_lt page (low + old)) ≡ true
        → (nat_le low page && nat_lt page (low + new)) ≡ false → (nat_le (low + new) page && nat_lt page (low + old)) ≡ true
    behind low old new page here out = grind (arith, nat_tests)

    elsewhere : (low old new page : ℕ) → (nat_le low page && nat_lt page (low + old)) ≡ false
        → (nat_le (low + new) page && nat_lt page (low + old)) ≡ false
    elsewhere low old new page out = grind (arith, nat_tests)

-- the added pages go on as the first page of the range
added_on : (area : Record) (low old count : ℕ) (span : Span) → area.span.lo ≤ low → old ≤ count → span.lo ≡ low + old
    → mapped_page (low + count) (carried_area area span.lo span) ≡ runs_on count (mapped_page low area)
unfolding mapped_page index_of carried_area runs_on
added_on area low old count span begins past from = λ i. record {
  attr = area.attr;
  object = area.object;
  index = index area.object area.offset area.span.lo span.lo begins from i;
}
  where
    index : (object offset lo start : ℕ) → lo ≤ low → start ≡ low + old
        → (if nat_eq object 0 then 0
        else (if nat_eq object 0 then 0 else offset + (start - lo)) + ((low + count) - start))
        ≡ (if nat_eq object 0 then 0 else (if nat_eq object 0 then 0 else offset + (low - lo)) + count)
    index object offset lo start begins from = grind (arith, nat_tests)

module _ (config : Config) (space : AddressSpace) (args : MremapArgs) (area : Record) (ready : IsReady config space)
    (r : IsRemappable config space.areas args) (found : area_at space.areas (page_of args.old) ≡ Some area)
    (more : lengthens args ≡ true) (room : has_room config space.areas args ≡ true) where
  -- the pages of a list in which a range is lengthened in place
  lengthened_pages : (page : ℕ) → page_map (lengthened_list space.areas area args) page
      ≡ (if has_page (added_range args) page
      then Some (mapped_page page (carried_area area (added_range args).lo (added_range args))) else page_map space.areas page)
  unfolding lengthened_list carried_area
  lengthened_pages page =
      page_map-put (page_of config.limit) (carried_area area (added_range args).lo (added_range args)) space.areas page
      (grown_good config space.areas args area ready.valid ready.sound.canonical r found more room)
      (good_from_canonical (page_of config.limit) space.areas ready.sound.canonical)

  -- lengthening in place
  lengthened_remaps : Remaps space.areas args (record { areas = lengthened_list space.areas area args; page = page_of args.old })
  unfolding range_of added_range
  lengthened_remaps =
      let low = page_of args.old in
      let old = pages_of args.old_len in
      let new = pages_of args.new_len in
      let longer : old < new = ltb-true old new more in
      record {
        carried = λ count here there.
            lengthened_pages (low + count)
            ∙ cond-false (has_page (added_range args) (low + count)) _ (page_map space.areas (low + count))
            (before low old new count here);
        added = λ count past there.
            lengthened_pages (low + count)
            ∙ cond-true (has_page (added_range args) (low + count)) _ (page_map space.areas (low + count))
            (inside (added_range args) (low + count) (omega (arith, past)) (omega (arith, there)))
            ∙ ap (λ cell. Some cell) (added_on area low old count (added_range args)
            (old_area (page_of config.limit) space.areas args area ready.sound.canonical found).begins past refl)
            ∙ sym (ap (option_map (runs_on count)) (found_page space.areas low area found));
        left = λ page here out. absurd (none_left low old new page longer here out);
        others = λ page out outside.
            lengthened_pages page
            ∙ cond-false (has_page (added_range args) page) _ (page_map space.areas page) (elsewhere low old new page outside);
        beside = λ apart. absurd (apart refl);
      }
    where
      before : (low old new count : ℕ) → count < old → (nat_le (low + old) (low + count) && nat_lt (low + count) (low + new)) ≡ false
      before low old new count here = grind (arith, nat_tests)

      none_left : (low old new page : ℕ) → old < new → (nat_le low page && nat_lt page (low + old)) ≡ true
          → (nat_le low page && nat_lt page (low + new)) ≡ false → ⊥
      none_left low old new page longer here out = grind (arith, nat_tests)

      elsewhere : (low old new page : ℕ) → (nat_le low page && nat_lt page (low + new)) ≡ false
          → (nat_le (low + old) page && nat_lt page (low + new)) ≡ false
      elsewhere low old new page out = grind (arith, nat_tests)

-- so each change of mremap
change_remaps : (config : Config) (space : AddressSpace) (args : MremapArgs) (area : Record) (change : Moved)
    → IsReady config space → area_at space.areas (page_of args.old) ≡ Some area
    → first_row (mremap_rows config space.areas args) ≡ None → IsRemappable config space.areas args
    → mremap_change config space.areas area args ≡ Some change → Remaps space.areas args change
change_remaps config space args area change ready found accepted r = change_cases (Remaps space.areas args) config space.areas area args change
    (λ start moves. moved_remaps config space.areas area args start (record {
      valid = ready.valid;
      canonical = ready.sound.canonical;
      found = found;
      accepted = accepted;
      place = moves;
    }))
    (λ same. shrunk_remaps space.areas args same)
    (λ more room. lengthened_remaps config space args area ready r found more room)

-- an mremap by its arguments as one
abbrev pub remap : MremapArgs → Call
remap args = Mremap args.old args.old_len args.new_len args.flags args.new

module _ (config : Config) (space : AddressSpace) (args : MremapArgs) where
  -- what holds of each refusal, and of the outcome of each change that all its rows let pass, holds of the outcome of mremap
  by_rows : (P : Outcome → Type 0) → ((errno : Errno) → P (record { space = space; reply = Refused errno }))
      → ((area : Record) (change : Moved) → area_at space.areas (page_of args.old) ≡ Some area
      → first_row (mremap_rows config space.areas args) ≡ None → IsRemappable config space.areas args
      → mremap_change config space.areas area args ≡ Some change → P (mremap_done space change))
      → P (mremap_unsealed config space args)
  unfolding mremap_unsealed
  by_rows P refused done = mremap_accepted (first_row (mremap_rows config space.areas args)) refl
    where
      refusing : (refusal : Option Errno) (errno : Errno) (rest : Outcome) → refusal ≡ Some errno → P (unless_refused space refusal rest)
      refusing refusal errno rest is = subst (λ o. P (unless_refused space o rest)) (sym is) (refused errno)

      refused_row : (errno : Errno) → first_row (mremap_rows config space.areas args) ≡ Some errno → P (mremap_unsealed config space args)
      refused_row errno is = refusing (first_row (mremap_rows config space.areas args)) errno _ is

      mremap_accepted : (refusal : Option Errno) → first_row (mremap_rows config space.areas args) ≡ refusal → P (mremap_unsealed config space args)
      mremap_accepted None is =
          mremap_cases P config space args refused (λ area change found r e few. done area change found is r e)
      mremap_accepted (Some errno) is = refused_row errno is

  -- what holds of each of mremap's outcomes holds of the step
  by_mremap : (P : Outcome → Type 0) → ((errno : Errno) → P (record { space = space; reply = Refused errno }))
      → ((area : Record) (change : Moved) → area_at space.areas (page_of args.old) ≡ Some area
      → first_row (mremap_rows config space.areas args) ≡ None → IsRemappable config space.areas args
      → mremap_change config space.areas area args ≡ Some change → P (mremap_done space change))
      → P (step config space (remap args))
  unfolding step_unsealed
  by_mremap P refused done =
      step_cases config space P (remap args) (refused Eperm) (λ left. by_rows P refused done)

  -- what the step makes of each page
  step_remaps : (address : ℕ) → IsReady config space → (step config space (remap args)).reply ≡ Addr address
      → Remaps space.areas args (record { areas = (step config space (remap args)).space.areas; page = page_of address })
  unfolding mremap_done
  step_remaps address ready = by_mremap
      (λ o. o.reply ≡ Addr address → Remaps space.areas args (record { areas = o.space.areas; page = page_of address }))
      (λ errno is. cc)
      (λ area change found accepted r e is.
      subst (λ page. Remaps space.areas args (record { areas = change.areas; page = page }))
      (sym (replied_page change.page address is)) (change_remaps config space args area change ready found accepted r e))

  -- the first page of the old range was mapped
  pub remapped_first : (address : ℕ) → (step config space (remap args)).reply ≡ Addr address
      → page_map space.areas (page_of args.old) ≢ None
  remapped_first address = by_mremap (λ o. o.reply ≡ Addr address → page_map space.areas (page_of args.old) ≢ None)
      (λ errno is. cc)
      (λ area change found accepted r e is none. let some = found_page space.areas (page_of args.old) area found in cc)

  -- else nothing changes
  pub remapped_kept : ((address : ℕ) → (step config space (remap args)).reply ≢ Addr address)
      → (step config space (remap args)).space ≡ space
  unfolding mremap_done
  remapped_kept = by_mremap (λ o. ((address : ℕ) → o.reply ≢ Addr address) → o.space ≡ space) (λ errno h. refl)
      (λ area change found accepted r e h. absurd (h (PAGE_SIZE * change.page) refl))

  -- the same by the ranges of the call
  pub remapped_carried : (address count : ℕ) → IsReady config space → (step config space (remap args)).reply ≡ Addr address
      → count < pages_of args.old_len → count < pages_of args.new_len
      → page_map (step config space (remap args)).space.areas (page_of address + count) ≡ page_map space.areas (page_of args.old + count)
  remapped_carried address count ready is = (step_remaps address ready is).carried count

  pub remapped_added : (address count : ℕ) → IsReady config space → (step config space (remap args)).reply ≡ Addr address
      → pages_of args.old_len ≤ count → count < pages_of args.new_len
      → page_map (step config space (remap args)).space.areas (page_of address + count)
      ≡ option_map (runs_on count) (page_map space.areas (page_of args.old))
  remapped_added address count ready is = (step_remaps address ready is).added count

  pub remapped_left : (address page : ℕ) → IsReady config space → (step config space (remap args)).reply ≡ Addr address
      → has_page (range_of args.old args.old_len) page ≡ true → has_page (range_of address args.new_len) page ≡ false
      → page_map (step config space (remap args)).space.areas page ≡ None
  unfolding range_of
  remapped_left address page ready is = (step_remaps address ready is).left page

  pub remapped_others : (address page : ℕ) → IsReady config space → (step config space (remap args)).reply ≡ Addr address
      → has_page (range_of args.old args.old_len) page ≡ false → has_page (range_of address args.new_len) page ≡ false
      → page_map (step config space (remap args)).space.areas page ≡ page_map space.areas page
  unfolding range_of
  remapped_others address page ready is = (step_remaps address ready is).others page

  pub remapped_beside : (address : ℕ) → IsReady config space → (step config space (remap args)).reply ≡ Addr address
      → page_of address ≢ page_of args.old → overlap (range_of args.old args.old_len) (range_of address args.new_len) ≡ false
  unfolding range_of
  remapped_beside address ready is = (step_remaps address ready is).beside
