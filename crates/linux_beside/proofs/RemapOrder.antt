-- What mremap leaves of a list in order.
use Rattle.std.proofs.Common.{arith, sym, subst, ap, ◌∙◌}
use Rattle.std.proofs.lemmas.Bool.Decides.{nat_tests}
use Rattle.std.specs.Prelude.{ℕ, zero, suc, ◌≡◌, ◌<◌, ◌≤◌, ◌+◌, ◌-◌, ◌*◌, ◌/◌, ◌%◌, ◌^◌, min, max, Bool, true, false, not, ◌&&◌, ◌||◌, if◌then◌else◌, nat_eq, nat_le, nat_lt, List, [], ◌∷◌, Option, Some, None, IfSome, is_none, Result, Ok, Err, refl}
use Rattle.std.specs.Option.{option_map_or}
use Rattle.mm_types.specs.declared.config.TheConstants.{PAGE_SIZE}
use Rattle.area_list.specs.Areas.{mapped_page}
use Rattle.area_list.proofs.Finding.{find_passes}
use Rattle.area_list.proofs.Pages.{page_map-nil}
use Rattle.linux_rules.specs.declared.area.AnonVma.{AnonVma}
use Rattle.linux_rules.specs.declared.area.Vma.{Vma}
use Rattle.linux_rules.specs.declared.errors.TheConstants.{EPERM, ENOMEM, EFAULT, EINVAL}
use Rattle.linux_rules.specs.declared.kernel.Kernel.{Kernel}
use Rattle.linux_rules.specs.Accounts.{lacks_memory}
use Rattle.linux_rules.specs.Areas.{find_vma, vma_lookup, vma_before, vma_from, replaced, is_aligned, pages_of}
use Rattle.linux_rules.specs.Doing.{LinuxSpace, Did, Doing, ◌>>=◌, ◌>>◌, go_on, done, refuse_if, or_refuse, caught_as, areas_now}
use Rattle.linux_rules.specs.Merging.{Merged, merge_new_range}
use Rattle.linux_rules.specs.Mremap.{Remap, is_mremap_fixed, keeps_old, may_move, names_place, unmap_pages, area_now, becomes, index_at, is_unwritten, not_source, joins_nothing, copy_vma, emptied, with_account, accounts_again, unmap_old, lacks_areas_to_move, move_vma, is_trace_file, place_and_move, is_expandable, merged_here, expand_here, expand, vrm_overlaps, lacks_areas, check_range, check_prep, cut_to, mremap_to, shifted_addr, first_place, is_over, remap_from, is_near_limit, is_bad_place, new_mremap, old_mremap_to, check_place_early, old_mremap, mremap}
use Rattle.linux_rules.specs.Munmap.{munmap}
use Rattle.linux_rules.specs.Searching.{searched_place, fixed_place, get_unmapped_area}
use Rattle.linux_beside.specs.Forgetting.{forgotten}
use Rattle.linux_beside.specs.InOrder.{AreInOrder, AreInOrderFrom}
use Rattle.linux_beside.proofs.SplitLemmas.{NoneAcross, has, maps_to, maps_first}
use Rattle.linux_beside.proofs.RemovalLemmas.{found_across}
use Rattle.linux_beside.proofs.LookUps.{IsOneOf, IsPut, found_in, nothing_below, put_over}
use Rattle.linux_beside.proofs.MunmapLemmas.{unmapped, keeps_order}
use Rattle.linux_beside.proofs.Merges.{HasRoom, IsMergedInto, lies, page_in, merged_new, before_is}
use Rattle.linux_beside.proofs.Orderly.{tested, went_on, LeavesOne, put_merged}
use Rattle.linux_beside.proofs.MapOrder.{place_keeps}
use Rattle.linux_beside.proofs.SearchRoom.{searched_free}

-- a page that no area has is mapped to nothing, and the other way round
maps_none : (areas : List Vma) (page : ℕ) → vma_lookup areas page ≡ None → maps_to areas page ≡ None
maps_none [] page none = page_map-nil page
maps_none (first ∷ areas) page none = maps_first first areas page ∙ case (has first page) (λ is. maps_none areas page is) none
  where
    case : (here : Bool) → (vma_lookup areas page ≡ None → maps_to areas page ≡ None) → (if here then Some first else vma_lookup areas page) ≡ None
        → (if here then Some (mapped_page page (forgotten first)) else maps_to areas page) ≡ None
    case true later is = absurd (cc)
    case false later is = later is

none_mapped : (areas : List Vma) (page : ℕ) → maps_to areas page ≡ None → vma_lookup areas page ≡ None
none_mapped [] page none = refl
none_mapped (first ∷ areas) page none = case (has first page) (λ is. none_mapped areas page is) (sym (maps_first first areas page) ∙ none)
  where
    case : (here : Bool) → (maps_to areas page ≡ None → vma_lookup areas page ≡ None)
        → (if here then Some (mapped_page page (forgotten first)) else maps_to areas page) ≡ None → (if here then Some first else vma_lookup areas page) ≡ None
    case true later is = absurd (cc)
    case false later is = later is

-- munmap makes nothing mapped
unmap_free : (kernel : Kernel) (space : LinuxSpace) (addr len page : ℕ) → AreInOrder space.areas → vma_lookup space.areas page ≡ None
    → vma_lookup (munmap kernel addr len space).space.areas page ≡ None
unmap_free kernel space addr len page order none = none_mapped did.space.areas page (at did.result refl)
  where
    did : Did Unit
    did = munmap kernel addr len space

    inside : (test : Bool) → (if test then None else maps_to space.areas page) ≡ None
    inside true = refl
    inside false = maps_none space.areas page none

    at : (r : Result Unit ℕ) → did.result ≡ r → maps_to did.space.areas page ≡ None
    at (Ok value) is = (unmapped kernel space addr len order).unmaps page is ∙ inside (nat_le (addr / PAGE_SIZE) page && nat_lt page (addr / PAGE_SIZE + pages_of len))
    at (Err error) is = (unmapped kernel space addr len order).keeps page error is ∙ maps_none space.areas page none

-- munmap of some pages makes room
unmap_room : (kernel : Kernel) (space : LinuxSpace) (lo pages : ℕ) → 0 < pages → pages < 2 ^ 52 → AreInOrder space.areas
    → (unmap_pages kernel lo pages space).result ≡ Ok tt → HasRoom lo (lo + pages) (unmap_pages kernel lo pages space).space.areas
unfolding pages_of
unmap_room kernel space lo pages some few order is = record {
  order = keeps_order kernel space (PAGE_SIZE * lo) (PAGE_SIZE * pages) order;
  some = omega arith;
  free = λ page from below. none_mapped (unmap_pages kernel lo pages space).space.areas page
      ((unmapped kernel space (PAGE_SIZE * lo) (PAGE_SIZE * pages) order).unmaps page is
      ∙ at page (nat_le (PAGE_SIZE * lo / PAGE_SIZE) page && nat_lt page (PAGE_SIZE * lo / PAGE_SIZE + pages_of (PAGE_SIZE * pages))) (within page from below));
}
  where
    begin : PAGE_SIZE * lo / PAGE_SIZE ≡ lo
    begin = omega arith

    whole : pages_of (PAGE_SIZE * pages) ≡ pages
    whole = omega arith

    within : (page : ℕ) → lo ≤ page → page < lo + pages
        → (nat_le (PAGE_SIZE * lo / PAGE_SIZE) page && nat_lt page (PAGE_SIZE * lo / PAGE_SIZE + pages_of (PAGE_SIZE * pages))) ≡ true
    within page from below = rw (begin, whole) (both page from below)
      where
        both : (page : ℕ) → lo ≤ page → page < lo + pages → (nat_le lo page && nat_lt page (lo + pages)) ≡ true
        both page from below = grind (arith, nat_tests)

    at : (page : ℕ) (test : Bool) → test ≡ true → (if test then None else maps_to space.areas page) ≡ None
    at page true is = refl
    at page false is = absurd (cc)

-- an area becomes another with the same pages
becomes_order : (old new : Vma) (space : LinuxSpace) → AreInOrder space.areas → IsOneOf 0 old space.areas → new.lo ≡ old.lo → new.hi ≡ old.hi
    → AreInOrder (becomes old new space).space.areas
becomes_order old new space order one begin end = put.order
  where
    put : IsPut new space.areas (replaced old new space.areas)
    put = let some = one.some in put_over old new space.areas order one (omega arith)
        (λ page it. let in_it = page_in old page it in let a = in_it.0 in let b = in_it.1 in lies new page (omega arith) (omega arith))
        (λ page it off. let in_it = page_in new page it in let a = in_it.0 in let b = in_it.1 in let on = lies old page (omega arith) (omega arith) in absurd (cc))

emptied_begins : (kernel : Kernel) (vma : Vma) (lo hi : ℕ) → (emptied kernel vma lo hi).lo ≡ vma.lo
emptied_begins kernel vma lo hi = case (nat_eq vma.lo lo && nat_eq vma.hi hi)
  where
    left : Vma
    left = record vma { flags = record (vma.flags) { account = vma.flags.account && not kernel.rules.loses_accounts } }

    case : (whole : Bool) → (if whole then record left { anon = None; pgoff = if nat_eq vma.file 0 && kernel.rules.keeps_copies_apart then vma.lo else vma.pgoff }
        else left).lo ≡ vma.lo
    case true = refl
    case false = refl

emptied_ends : (kernel : Kernel) (vma : Vma) (lo hi : ℕ) → (emptied kernel vma lo hi).hi ≡ vma.hi
emptied_ends kernel vma lo hi = case (nat_eq vma.lo lo && nat_eq vma.hi hi)
  where
    left : Vma
    left = record vma { flags = record (vma.flags) { account = vma.flags.account && not kernel.rules.loses_accounts } }

    case : (whole : Bool) → (if whole then record left { anon = None; pgoff = if nat_eq vma.file 0 && kernel.rules.keeps_copies_apart then vma.lo else vma.pgoff }
        else left).hi ≡ vma.hi
    case true = refl
    case false = refl

again_order : (wanted : Bool) (o : Option Vma) (space : LinuxSpace) → AreInOrder space.areas → IfSome o (λ v. IsOneOf 0 v space.areas)
    → AreInOrder (accounts_again wanted o space).space.areas
again_order wanted None space order one = order
again_order true (Some vma) space order one = becomes_order vma (with_account true vma) space order one refl refl
again_order false (Some vma) space order one = order

-- the area that is found above a page
above_is : (page : ℕ) (areas : List Vma) → AreInOrder areas → IfSome (find_vma areas page) (λ v. IsOneOf 0 v areas)
above_is page areas order = at (find_vma areas page) refl
  where
    at : (found : Option Vma) → find_vma areas page ≡ found → IfSome found (λ v. IsOneOf 0 v areas)
    at None is = tt
    at (Some vma) is = found_in (λ v. nat_lt page v.hi) 0 vma areas order is

-- unmaps the old range
old_order : (kernel : Kernel) (vma : Vma) (lo olds : ℕ) (space : LinuxSpace) → AreInOrder space.areas → IsOneOf 0 vma space.areas
    → AreInOrder (unmap_old kernel vma lo olds space).space.areas
unfolding unmap_old
old_order kernel vma lo olds space order one = at did.result
  where
    first : LinuxSpace
    first = (becomes vma (with_account false vma) space).space

    first_is : AreInOrder first.areas
    first_is = becomes_order vma (with_account false vma) space order one refl refl

    did : Did Unit
    did = unmap_pages kernel lo olds first

    is : AreInOrder did.space.areas
    is = keeps_order kernel first (PAGE_SIZE * lo) (PAGE_SIZE * olds) first_is

    last : Bool → Doing Unit
    last back = areas_now >>= (λ areas. accounts_again (back && nat_lt (lo + olds) vma.hi) (find_vma areas (lo + olds)))

    last_is : (back : Bool) (space : LinuxSpace) → AreInOrder space.areas → AreInOrder (last back space).space.areas
    last_is back space order = again_order (back && nat_lt (lo + olds) vma.hi) (find_vma space.areas (lo + olds)) space order (above_is (lo + olds) space.areas order)

    backs : (back : Bool) → AreInOrder ((areas_now >>= (λ areas. accounts_again (back && nat_lt vma.lo lo) (vma_before areas lo) >> last back)) did.space).space.areas
    backs back = let again = accounts_again (back && nat_lt vma.lo lo) (vma_before did.space.areas lo) did.space in
        let ordered = again_order (back && nat_lt vma.lo lo) (vma_before did.space.areas lo) did.space is (before_is lo did.space.areas is) in
        went_on again.space again.result (λ value. last back) ordered (λ value same. last_is back again.space ordered)

    go : Bool → Doing Unit
    go gone = let back = vma.flags.account && (if nat_eq olds 0 then kernel.rules.moves_several else gone) in
        areas_now >>= (λ areas. accounts_again (back && nat_lt vma.lo lo) (vma_before areas lo) >> last back)

    at : (r : Result Unit ℕ) → AreInOrder (go_on (caught_as did.space r).space (caught_as did.space r).result go).space.areas
    at (Ok value) = backs (vma.flags.account && (if nat_eq olds 0 then kernel.rules.moves_several else true))
    at (Err error) = backs (vma.flags.account && (if nat_eq olds 0 then kernel.rules.moves_several else false))

-- copies to a place where there is room
copied : (kernel : Kernel) (vma : Vma) (page place news : ℕ) (keeps : Bool) (space : LinuxSpace) → HasRoom place (place + news) space.areas
    → LeavesOne (copy_vma kernel vma page place news keeps space)
unfolding copy_vma
copied kernel vma page place news keeps space room =
    put_merged new space.areas space (if joins_nothing kernel apart vma place news then None else merged) room (case (joins_nothing kernel apart vma place news))
  where
    apart : Bool
    apart = keeps && (is_unwritten vma && kernel.rules.keeps_copies_apart)

    new : Vma
    new = record { lo = place; hi = place + news; flags = vma.flags; file = vma.file; pgoff = if is_unwritten vma then place else index_at vma page; anon = vma.anon }

    from : Option AnonVma
    from = if kernel.rules.loses_written then None else vma.anon

    merged : Option Merged
    merged = merge_new_range kernel.rules space.areas (not_source apart vma (vma_before space.areas place)) (not_source apart vma (find_vma space.areas (place + news))) new from

    other : (o : Option Vma) → IfSome o (λ v. IsOneOf 0 v space.areas) → IfSome (not_source apart vma o) (λ v. IsOneOf 0 v space.areas)
    other None is = tt
    other (Some v) is = at (apart && nat_eq v.lo vma.lo)
      where
        at : (test : Bool) → IfSome (if test then None else Some v) (λ v. IsOneOf 0 v space.areas)
        at true = tt
        at false = is

    case : (nothing : Bool) → IfSome (if nothing then None else merged) (IsMergedInto space.areas)
    case true = tt
    case false = merged_new kernel.rules new space.areas (not_source apart vma (vma_before space.areas place)) (not_source apart vma (find_vma space.areas (place + news)))
        from room (other (vma_before space.areas place) (before_is place space.areas room.order))
        (other (find_vma space.areas (place + news)) (above_is (place + news) space.areas room.order))

-- moves to a place where there is room
move_order : (kernel : Kernel) (vma : Vma) (page olds news flags place : ℕ) (space : LinuxSpace) → HasRoom place (place + news) space.areas
    → AreInOrder (move_vma kernel vma page olds news flags place space).space.areas
unfolding move_vma
move_order kernel vma page olds news flags place space room =
    tested (lacks_areas_to_move kernel space.areas) ENOMEM (refuse_if lacks ENOMEM >> (copy_vma kernel vma page place news (keeps_old flags) >>= go)) space room.order (λ a.
    tested lacks ENOMEM (copy_vma kernel vma page place news (keeps_old flags) >>= go) space room.order (λ b.
    went_on did.space did.result go is.order (λ copy same. found (vma_lookup did.space.areas page) refl)))
  where
    lacks : Bool
    lacks = vma.flags.account && lacks_memory kernel (if keeps_old flags then news else news - olds)

    leaves : Vma → Doing Unit
    leaves source = if keeps_old flags then becomes source (emptied kernel source page (page + olds)) else unmap_old kernel source page olds

    go : Vma → Doing ℕ
    go copy = area_now page >>= (λ source. leaves source >> done place)

    did : Did Vma
    did = copy_vma kernel vma page place news (keeps_old flags) space

    is : LeavesOne did
    is = copied kernel vma page place news (keeps_old flags) space room

    left : (source : Vma) → IsOneOf 0 source did.space.areas → AreInOrder (leaves source did.space).space.areas
    left source one = case (keeps_old flags)
      where
        case : (keeps : Bool) → AreInOrder ((if keeps then becomes source (emptied kernel source page (page + olds)) else unmap_old kernel source page olds) did.space).space.areas
        case true = becomes_order source (emptied kernel source page (page + olds)) did.space is.order one (emptied_begins kernel source page (page + olds))
            (emptied_ends kernel source page (page + olds))
        case false = old_order kernel source page olds did.space is.order one

    found : (o : Option Vma) → vma_lookup did.space.areas page ≡ o → AreInOrder ((or_refuse o EFAULT >>= (λ source. leaves source >> done place)) did.space).space.areas
    found None same = is.order
    found (Some source) same = let last = leaves source did.space in
        let ordered = left source (found_in (λ v. has v page) 0 source did.space.areas is.order same) in
        went_on last.space last.result (λ value. done place) ordered (λ value it. ordered)

-- a step that succeeded, and what followed
went : {A B : Type 0} (after : LinuxSpace) (r : Result A ℕ) (next : A → Doing B) (value : B) → (go_on after r next).result ≡ Ok value
    → (v : A) × (r ≡ Ok v) × ((next v after).result ≡ Ok value)
went after (Ok v) next value is = (v, refl, is)
went after (Err error) next value is = absurd (cc)

passed : {A : Type 0} (test : Bool) (error : ℕ) (next : Doing A) (space : LinuxSpace) (value : A) → ((refuse_if test error >> next) space).result ≡ Ok value
    → (next space).result ≡ Ok value
passed true error next space value is = absurd (cc)
passed false error next space value is = is

-- the place that is returned
fixed_result : (kernel : Kernel) (pages addr place : ℕ) (space : LinuxSpace) → (fixed_place kernel pages addr space).result ≡ Ok place → addr / PAGE_SIZE ≡ place
unfolding fixed_place
fixed_result kernel pages addr place space is =
    let third : Doing ℕ = refuse_if (not (is_aligned addr)) EINVAL >> done (addr / PAGE_SIZE) in
    let second : Doing ℕ = refuse_if (nat_lt (kernel.config.limit - pages * PAGE_SIZE) addr) ENOMEM >> third in
    let last = passed (not (is_aligned addr)) EINVAL (done (addr / PAGE_SIZE)) space place
    (passed (nat_lt (kernel.config.limit - pages * PAGE_SIZE) addr) ENOMEM third space place
    (passed (nat_lt (2 ^ 64 - PAGE_SIZE) addr) (2 ^ 64 - addr) second space place is)) in cc

abbrev pub not_low : Kernel → ℕ → Doing ℕ
not_low kernel place = refuse_if (nat_lt place (kernel.config.min / PAGE_SIZE)) EPERM >> done place

not_low_is : (kernel : Kernel) (at place : ℕ) (space : LinuxSpace) → (not_low kernel at space).result ≡ Ok place → at ≡ place
not_low_is kernel at place space is = let last = passed (nat_lt at (kernel.config.min / PAGE_SIZE)) EPERM (done at) space place is in cc

fixed_at : (kernel : Kernel) (addr pages place index : ℕ) (is_file is_shared : Bool) (space : LinuxSpace)
    → (get_unmapped_area kernel addr pages true index is_file is_shared space).result ≡ Ok place → addr / PAGE_SIZE ≡ place
unfolding get_unmapped_area
fixed_at kernel addr pages place index is_file is_shared space is =
    let did = fixed_place kernel pages addr space in
    let rest = passed (nat_lt (kernel.config.limit / PAGE_SIZE) pages) ENOMEM (areas_now >>= (λ areas. fixed_place kernel pages addr >>= not_low kernel)) space place is in
    let found = went did.space did.result (not_low kernel) place rest in
    let same = not_low_is kernel found.0 place did.space found.2 in fixed_result kernel pages addr found.0 space found.1 ∙ same

searched_at : (kernel : Kernel) (addr pages place index : ℕ) (is_file is_shared : Bool) (space : LinuxSpace)
    → (get_unmapped_area kernel addr pages false index is_file is_shared space).result ≡ Ok place
    → searched_place kernel space.areas pages (addr / PAGE_SIZE) index is_file is_shared ≡ Some place
unfolding get_unmapped_area
searched_at kernel addr pages place index is_file is_shared space is =
    let did : Did ℕ = or_refuse (searched_place kernel space.areas pages (addr / PAGE_SIZE) index is_file is_shared) ENOMEM space in
    let rest = passed (nat_lt (kernel.config.limit / PAGE_SIZE) pages) ENOMEM
    (areas_now >>= (λ areas. or_refuse (searched_place kernel areas pages (addr / PAGE_SIZE) index is_file is_shared) ENOMEM >>= not_low kernel)) space place is in
    let found = went did.space did.result (not_low kernel) place rest in
    let same = not_low_is kernel found.0 place did.space found.2 in
    at (searched_place kernel space.areas pages (addr / PAGE_SIZE) index is_file is_shared) found.0 found.1 ∙ ap (λ (n : ℕ). Some n) same
  where
    at : (o : Option ℕ) (n : ℕ) → (or_refuse o ENOMEM space).result ≡ Ok n → o ≡ Some n
    at None n is = absurd (cc)
    at (Some m) n is = cc

placed_room : (kernel : Kernel) (addr pages index : ℕ) (fixed is_file is_shared : Bool) (place : ℕ) (space : LinuxSpace) → AreInOrder space.areas → 0 < pages
    → (fixed ≡ true → HasRoom (addr / PAGE_SIZE) (addr / PAGE_SIZE + pages) space.areas)
    → (get_unmapped_area kernel addr pages fixed index is_file is_shared space).result ≡ Ok place → HasRoom place (place + pages) space.areas
placed_room kernel addr pages index true is_file is_shared place space order some room is =
    subst (λ (at : ℕ). HasRoom at (at + pages) space.areas) (fixed_at kernel addr pages place index is_file is_shared space is) (room refl)
placed_room kernel addr pages index false is_file is_shared place space order some room is = record {
  order = order;
  some = omega arith;
  free = searched_free kernel space.areas pages (addr / PAGE_SIZE) index is_file is_shared place order (searched_at kernel addr pages place index is_file is_shared space is);
}

-- moves to a place that is fixed and free, or searched
placed_order : (kernel : Kernel) (vma : Vma) (page olds news flags new_addr : ℕ) (space : LinuxSpace) → AreInOrder space.areas → 0 < news
    → (is_mremap_fixed flags ≡ true → HasRoom (new_addr / PAGE_SIZE) (new_addr / PAGE_SIZE + news) space.areas)
    → AreInOrder (place_and_move kernel vma page olds news flags new_addr space).space.areas
unfolding place_and_move
placed_order kernel vma page olds news flags new_addr space order some room =
    went_on did.space did.result (move_vma kernel vma page olds news flags) (subst (λ (s : LinuxSpace). AreInOrder s.areas) (sym kept) order) (λ place is.
    subst (λ (s : LinuxSpace). AreInOrder (move_vma kernel vma page olds news flags place s).space.areas) (sym kept)
    (move_order kernel vma page olds news flags place space
    (placed_room kernel new_addr news (index_at vma page) (is_mremap_fixed flags) (is_trace_file kernel vma) vma.flags.mayshare place space order some room is)))
  where
    did : Did ℕ
    did = get_unmapped_area kernel new_addr news (is_mremap_fixed flags) (index_at vma page) (is_trace_file kernel vma) vma.flags.mayshare space

    kept : did.space ≡ space
    kept = place_keeps kernel new_addr news (is_mremap_fixed flags) (index_at vma page) (is_trace_file kernel vma) vma.flags.mayshare space

-- behind an area nothing is looked up before the next one
next_free : (low page at : ℕ) (areas : List Vma) → AreInOrderFrom low areas → NoneAcross page areas → page ≤ at
    → option_map_or (λ next. nat_lt at next.lo) (vma_from areas page) true ≡ true → vma_lookup areas at ≡ None
next_free low page at [] order none from under = refl
next_free low page at (first ∷ areas) order none from under =
    case (nat_le page first.lo) refl (λ is. next_free first.hi page at areas order.2 none.1 from is) under
  where
    case : (test : Bool) → nat_le page first.lo ≡ test → (option_map_or (λ next. nat_lt at next.lo) (vma_from areas page) true ≡ true → vma_lookup areas at ≡ None)
        → option_map_or (λ next. nat_lt at next.lo) (if test then Some first else vma_from areas page) true ≡ true
        → (if has first at then Some first else vma_lookup areas at) ≡ None
    case true is later below = let some = order.1 in let less : at < first.lo = grind (arith, nat_tests) in
        let off : has first at ≡ false = grind (arith, nat_tests) in let rest = nothing_below first.hi at areas (omega arith) order.2 in rw off rest
    case false is later below = let begins : first.lo < page = grind (arith, nat_tests) in let ends = none.0 begins in
        let off : has first at ≡ false = grind (arith, nat_tests) in rw off (later below)

-- grows in place
here_order : (kernel : Kernel) (vma : Vma) (page more : ℕ) (space : LinuxSpace) → AreInOrder space.areas → IsOneOf 0 vma space.areas → 0 < more
    → is_expandable kernel space.areas vma more ≡ true → AreInOrder (expand_here kernel vma page more space).space.areas
unfolding expand_here
here_order kernel vma page more space order one some may =
    tested (vma.flags.account && lacks_memory kernel more) ENOMEM (areas_now >>= (λ areas. go areas)) space order (λ a. grown merged
    (merged_new kernel.rules new space.areas (Some vma) (vma_from space.areas vma.hi) None room one (next_is (vma_from space.areas vma.hi) refl)))
  where
    new : Vma
    new = record { lo = vma.hi; hi = vma.hi + more; flags = vma.flags; file = vma.file; pgoff = index_at vma vma.hi; anon = vma.anon }

    go : List Vma → Doing ℕ
    go areas = merged_here (merge_new_range kernel.rules areas (Some vma) (vma_from areas vma.hi) new None) >> done page

    merged : Option Merged
    merged = merge_new_range kernel.rules space.areas (Some vma) (vma_from space.areas vma.hi) new None

    next_is : (o : Option Vma) → vma_from space.areas vma.hi ≡ o → IfSome o (λ v. IsOneOf 0 v space.areas)
    next_is None is = tt
    next_is (Some v) is = found_in (λ u. nat_le vma.hi u.lo) 0 v space.areas order is

    second : (a b c : Bool) → (a && (b && c)) ≡ true → b ≡ true
    second true true c is = refl
    second true false c is = absurd (cc)
    second false b c is = absurd (cc)

    near : option_map_or (λ next. nat_le (vma.hi + more) next.lo) (vma_from space.areas vma.hi) true ≡ true
    near = second (nat_le (vma.hi + more) (kernel.config.limit / PAGE_SIZE)) _ (nat_le (kernel.config.min / PAGE_SIZE) vma.lo) may

    below : (at : ℕ) → at < vma.hi + more → (o : Option Vma) → option_map_or (λ next. nat_le (vma.hi + more) next.lo) o true ≡ true
        → option_map_or (λ next. nat_lt at next.lo) o true ≡ true
    below at under None is = refl
    below at under (Some v) is = grind (arith, nat_tests)

    last : vma_lookup space.areas (vma.hi - 1) ≡ Some vma
    last = let begin = one.some in one.looked (vma.hi - 1) (lies vma (vma.hi - 1) (omega arith) (omega arith))

    across : NoneAcross vma.hi space.areas
    across = let begin = one.some in found_across 0 (vma.hi - 1) vma.hi space.areas vma order (omega arith) (omega arith) last (λ under. omega arith)

    room : HasRoom new.lo new.hi space.areas
    room = record {
      order = order;
      some = omega arith;
      free = λ at from under. next_free 0 vma.hi at space.areas order across from (below at under (vma_from space.areas vma.hi) near);
    }

    grown : (o : Option Merged) → IfSome o (IsMergedInto space.areas) → AreInOrder ((merged_here o >> done page) space).space.areas
    grown None is = order
    grown (Some m) is = is.order

-- grows in place, or else moves
expand_order : (kernel : Kernel) (vma : Vma) (page olds news flags : ℕ) (space : LinuxSpace) → AreInOrder space.areas → IsOneOf 0 vma space.areas → olds < news
    → is_mremap_fixed flags ≡ false → AreInOrder (expand kernel vma page olds news flags space).space.areas
unfolding expand
expand_order kernel vma page olds news flags space order one more free = case (nat_eq (vma.hi - page) olds) (is_expandable kernel space.areas vma (news - olds)) refl
  where
    moves : AreInOrder ((refuse_if (not (may_move flags)) ENOMEM >> place_and_move kernel vma page olds news flags 0) space).space.areas
    moves = tested (not (may_move flags)) ENOMEM (place_and_move kernel vma page olds news flags 0) space order (λ a.
        placed_order kernel vma page olds news flags 0 space order (omega arith) (λ fixed. absurd (cc)))

    case : (whole may : Bool) → is_expandable kernel space.areas vma (news - olds) ≡ may → AreInOrder ((if whole && may then expand_here kernel vma page (news - olds)
        else (refuse_if (not (may_move flags)) ENOMEM >> place_and_move kernel vma page olds news flags 0)) space).space.areas
    case true true is = here_order kernel vma page (news - olds) space order one (omega arith) is
    case true false is = moves
    case false may is = moves

-- tests that change nothing
range_keeps : (vma : Vma) (page olds kept news : ℕ) (space : LinuxSpace) → (check_range vma page olds kept news space).space ≡ space
unfolding check_range
range_keeps vma page olds kept news space = case (nat_eq olds 0 && not (vma.flags.shared || vma.flags.mayshare)) (nat_lt (vma.hi - page) kept)
    (not (nat_eq news kept) && nat_le (2 ^ 64) (page - vma.lo + vma.pgoff + news))
  where
    case : (a b c : Bool) → ((refuse_if a EINVAL >> (refuse_if b EFAULT >> refuse_if c EINVAL)) space).space ≡ space
    case true b c = refl
    case false true c = refl
    case false false true = refl
    case false false false = refl

prep_keeps : (vma : Vma) (page olds news flags : ℕ) (space : LinuxSpace) → (check_prep vma page olds news flags space).space ≡ space
unfolding check_prep
prep_keeps vma page olds news flags space = case vma.flags.sealed (not (names_place flags) && nat_le news olds)
  where
    case : (sealed shrinks : Bool) → ((refuse_if sealed EPERM >> (if shrinks then done tt else check_range vma page olds (min olds news) news)) space).space ≡ space
    case true shrinks = refl
    case false true = refl
    case false false = range_keeps vma page olds (min olds news) news space

-- what is behind a test
checked : {A : Type 0} (did : Did Unit) (space : LinuxSpace) (next : Doing A) → did.space ≡ space → AreInOrder space.areas → AreInOrder (next space).space.areas
    → AreInOrder (go_on did.space did.result (λ value. next)).space.areas
checked did space next same order rest = went_on did.space did.result (λ value. next) (subst (λ (s : LinuxSpace). AreInOrder s.areas) (sym same) order)
    (λ value is. subst (λ (s : LinuxSpace). AreInOrder (next s).space.areas) (sym same) rest)

-- cuts off the rest, and what was free stays so
cut_order : (kernel : Kernel) (page olds news : ℕ) (space : LinuxSpace) → AreInOrder space.areas → AreInOrder (cut_to kernel page olds news space).space.areas
cut_order kernel page olds news space order = case (nat_lt news olds)
  where
    case : (less : Bool) → AreInOrder ((if less then unmap_pages kernel (page + news) (olds - news) else done tt) space).space.areas
    case true = keeps_order kernel space (PAGE_SIZE * (page + news)) (PAGE_SIZE * (olds - news)) order
    case false = order

cut_room : (kernel : Kernel) (page olds news lo hi : ℕ) (space : LinuxSpace) → HasRoom lo hi space.areas → HasRoom lo hi (cut_to kernel page olds news space).space.areas
cut_room kernel page olds news lo hi space room = case (nat_lt news olds)
  where
    case : (less : Bool) → HasRoom lo hi ((if less then unmap_pages kernel (page + news) (olds - news) else done tt) space).space.areas
    case true = record {
      order = keeps_order kernel space (PAGE_SIZE * (page + news)) (PAGE_SIZE * (olds - news)) room.order;
      some = room.some;
      free = λ at from below. unmap_free kernel space (PAGE_SIZE * (page + news)) (PAGE_SIZE * (olds - news)) at room.order (room.free at from below);
    }
    case false = room

-- the area at a page by then, and what follows
looked_now : {A : Type 0} (page : ℕ) (next : Vma → Doing A) (space : LinuxSpace) → AreInOrder space.areas
    → ((vma : Vma) → vma_lookup space.areas page ≡ Some vma → AreInOrder (next vma space).space.areas) → AreInOrder ((area_now page >>= next) space).space.areas
looked_now page next space order each = at (vma_lookup space.areas page) refl
  where
    at : (o : Option Vma) → vma_lookup space.areas page ≡ o → AreInOrder ((or_refuse o EFAULT >>= next) space).space.areas
    at None is = order
    at (Some vma) is = each vma is

-- moves to a place, and unmaps what lies there
to_order : (kernel : Kernel) (page olds news flags new : ℕ) (space : LinuxSpace) → AreInOrder space.areas → 0 < news → news < 2 ^ 52
    → AreInOrder (mremap_to kernel page olds news flags new space).space.areas
unfolding mremap_to
to_order kernel page olds news flags new space order some few = case (is_mremap_fixed flags) refl
  where
    back : PAGE_SIZE * new / PAGE_SIZE ≡ new
    back = omega arith

    moves : Vma → Doing ℕ
    moves vma = place_and_move kernel vma page (min olds news) news flags (PAGE_SIZE * new)

    after : Doing ℕ
    after = area_now page >>= (λ here. cut_to kernel page olds news >> (area_now page >>= moves))

    rest : (space : LinuxSpace) → AreInOrder space.areas → (is_mremap_fixed flags ≡ true → HasRoom new (new + news) space.areas) → AreInOrder (after space).space.areas
    rest space order room = looked_now page (λ here. cut_to kernel page olds news >> (area_now page >>= moves)) space order (λ here is.
        let did = cut_to kernel page olds news space in let ordered = cut_order kernel page olds news space order in
        went_on did.space did.result (λ value. area_now page >>= moves) ordered (λ value same.
        looked_now page moves did.space ordered (λ vma it. placed_order kernel vma page (min olds news) news flags (PAGE_SIZE * new) did.space ordered some (λ fixed.
        subst (λ (at : ℕ). HasRoom at (at + news) did.space.areas) (sym back) (cut_room kernel page olds news new (new + news) space (room fixed))))))

    case : (fixed : Bool) → is_mremap_fixed flags ≡ fixed → AreInOrder (((if fixed then unmap_pages kernel new news else done tt) >> after) space).space.areas
    case true is = let did = unmap_pages kernel new news space in let ordered = keeps_order kernel space (PAGE_SIZE * new) (PAGE_SIZE * news) order in
        went_on did.space did.result (λ value. after) ordered (λ value same. rest did.space ordered (λ fixed. unmap_room kernel space new news some few order same))
    case false is = rest space order (λ fixed. absurd (cc))

-- several areas
several_order : (kernel : Kernel) (flags start end rounds page target : ℕ) (last first : Option ℕ) (space : LinuxSpace) → AreInOrder space.areas → end < 2 ^ 52
    → start ≤ page → AreInOrder (remap_from kernel flags start end rounds page target last first space).space.areas
unfolding remap_from
several_order kernel flags start end zero page target last first space order few from = ended first
  where
    ended : (o : Option ℕ) → AreInOrder (first_place o space).space.areas
    ended None = order
    ended (Some place) = order
several_order kernel flags start end (suc rounds) page target last first space order few from =
    case (nat_le end page) (is_over end (find_vma space.areas page)) refl refl
    (λ next to before begin after ordered past. several_order kernel flags start end rounds next to before begin after ordered few past)
  where
    Rest : Type 0
    Rest = (next to : ℕ) (before begin : Option ℕ) (after : LinuxSpace) → AreInOrder after.areas → start ≤ next
        → AreInOrder (remap_from kernel flags start end rounds next to before begin after).space.areas

    ended : (o : Option ℕ) → AreInOrder (first_place o space).space.areas
    ended None = order
    ended (Some place) = order

    move : (vma : Vma) (lo pages : ℕ) → Doing ℕ
    move vma lo pages = mremap_to kernel lo pages pages flags (shifted_addr last vma.lo target) >>= (λ place.
        remap_from kernel flags start end rounds vma.hi (place + pages) (Some vma.hi) (Some (option_map_or (λ place. place) first place)))

    body : Vma → Doing ℕ
    body vma = refuse_if (is_none last && nat_lt start vma.lo) EFAULT >> (let lo = max vma.lo start in let pages = min end vma.hi - lo in
        check_prep vma lo pages pages flags >> move vma lo pages)

    round : Rest → (vma : Vma) → find_vma space.areas page ≡ Some vma → page < end → vma.lo < end → AreInOrder (body vma space).space.areas
    round rest vma found under begins = let lo = max vma.lo start in let pages = min end vma.hi - lo in
        tested (is_none last && nat_lt start vma.lo) EFAULT (check_prep vma lo pages pages flags >> move vma lo pages) space order (λ a.
        checked (check_prep vma lo pages pages flags space) space (move vma lo pages) (prep_keeps vma lo pages pages flags space) order (moved lo pages some few_pages))
      where
        above : page < vma.hi
        above = ends (found_passes found)
          where
            found_passes : find_vma space.areas page ≡ Some vma → nat_lt page vma.hi ≡ true
            found_passes is = find_passes (λ v. nat_lt page v.hi) space.areas vma is

            ends : nat_lt page vma.hi ≡ true → page < vma.hi
            ends is = grind (arith, nat_tests)

        one : vma.lo < vma.hi
        one = (found_in (λ v. nat_lt page v.hi) 0 vma space.areas order found).some

        some : 0 < min end vma.hi - max vma.lo start
        some = let a = above in let b = one in omega arith

        few_pages : min end vma.hi - max vma.lo start < 2 ^ 52
        few_pages = omega arith

        moved : (lo pages : ℕ) → 0 < pages → pages < 2 ^ 52 → AreInOrder (move vma lo pages space).space.areas
        moved lo pages any small = let past = above in let to = shifted_addr last vma.lo target in let did = mremap_to kernel lo pages pages flags to space in
            let ordered = to_order kernel lo pages pages flags to space order any small in
            went_on did.space did.result (λ place. remap_from kernel flags start end rounds vma.hi (place + pages) (Some vma.hi)
            (Some (option_map_or (λ place. place) first place))) ordered (λ place is.
            rest vma.hi (place + pages) (Some vma.hi) (Some (option_map_or (λ place. place) first place)) did.space ordered (omega arith))

    found : Rest → page < end → (o : Option Vma) → find_vma space.areas page ≡ o → is_over end o ≡ false
        → AreInOrder ((or_refuse o EFAULT >>= body) space).space.areas
    found rest under None is over = order
    found rest under (Some vma) is over = round rest vma is under (grind (arith, nat_tests))

    case : (passed over : Bool) → nat_le end page ≡ passed → is_over end (find_vma space.areas page) ≡ over → Rest
        → AreInOrder ((if passed || over then first_place first else (or_refuse (find_vma space.areas page) EFAULT >>= body)) space).space.areas
    case true over past is rest = ended first
    case false true past is rest = ended first
    case false false past is rest = found rest (grind (arith, nat_tests)) (find_vma space.areas page) refl is

first_false : (a b : Bool) → (a || b) ≡ false → a ≡ false
first_false false b is = refl
first_false true b is = absurd (cc)

-- the new length, where it is tested
length_is : (odd : Bool) (news limit : ℕ) → limit < 2 ^ 64 → (odd || (nat_eq news 0 || nat_lt (limit / PAGE_SIZE) news)) ≡ false → (0 < news) × (news < 2 ^ 52)
length_is true news limit small is = absurd (cc)
length_is false news limit small is = let some : 0 < news = grind (arith, nat_tests) in let less : news ≤ limit / PAGE_SIZE = grind (arith, nat_tests) in (some, omega arith)

new_order : (kernel : Kernel) (args : Remap) (space : LinuxSpace) → kernel.config.limit < 2 ^ 64 → AreInOrder space.areas
    → AreInOrder (new_mremap kernel args space).space.areas
unfolding new_mremap
new_order kernel args space small order =
    tested (not (is_aligned args.addr) || (nat_eq args.news 0 || nat_lt (kernel.config.limit / PAGE_SIZE) args.news)) EINVAL second space order (λ size.
    tested (names_place args.flags && is_bad_place kernel args) EINVAL (areas_now >>= third) space order (λ b.
    tested (is_near_limit kernel args.flags space.areas) ENOMEM last space order (λ c.
    let sized = length_is (not (is_aligned args.addr)) args.news kernel.config.limit small size in
    case (is_mremap_fixed args.flags && nat_eq args.olds args.news) sized.0 sized.1)))
  where
    page : ℕ
    page = args.addr / PAGE_SIZE

    flags : ℕ
    flags = args.flags

    shrink : Doing ℕ
    shrink = cut_to kernel page args.olds args.news >> done page

    act : Vma → Doing ℕ
    act vma = if names_place flags then mremap_to kernel page args.olds args.news flags (args.new_addr / PAGE_SIZE)
        else (if nat_lt args.olds args.news then expand kernel vma page args.olds args.news flags else shrink)

    one : Vma → Doing ℕ
    one vma = check_prep vma page args.olds args.news flags >> act vma

    several : Doing ℕ
    several = let end = (page + args.olds) % 2 ^ 52 in remap_from kernel flags page end (end - page) page (args.new_addr / PAGE_SIZE) None None

    last : Doing ℕ
    last = if is_mremap_fixed flags && nat_eq args.olds args.news then several else (area_now page >>= one)

    third : List Vma → Doing ℕ
    third areas = refuse_if (is_near_limit kernel flags areas) ENOMEM >> last

    second : Doing ℕ
    second = refuse_if (names_place flags && is_bad_place kernel args) EINVAL >> (areas_now >>= third)

    acts : (vma : Vma) → IsOneOf 0 vma space.areas → 0 < args.news → args.news < 2 ^ 52 → (places grows : Bool) → names_place flags ≡ places → nat_lt args.olds args.news ≡ grows
        → AreInOrder ((if places then mremap_to kernel page args.olds args.news flags (args.new_addr / PAGE_SIZE)
        else (if grows then expand kernel vma page args.olds args.news flags else shrink)) space).space.areas
    acts vma is some few true grows p g = to_order kernel page args.olds args.news flags (args.new_addr / PAGE_SIZE) space order some few
    acts vma is some few false true p g = expand_order kernel vma page args.olds args.news flags space order is (grind (arith, nat_tests))
        (first_false (is_mremap_fixed flags) (keeps_old flags) p)
    acts vma is some few false false p g = let did = cut_to kernel page args.olds args.news space in let ordered = cut_order kernel page args.olds args.news space order in
        went_on did.space did.result (λ value. done page) ordered (λ value same. ordered)

    case : (many : Bool) → 0 < args.news → args.news < 2 ^ 52 → AreInOrder ((if many then several else (area_now page >>= one)) space).space.areas
    case true some few = let end = (page + args.olds) % 2 ^ 52 in
        several_order kernel flags page end (end - page) page (args.new_addr / PAGE_SIZE) None None space order (omega arith) (omega arith)
    case false some few = looked_now page one space order (λ vma is.
        checked (check_prep vma page args.olds args.news flags space) space (act vma) (prep_keeps vma page args.olds args.news flags space) order
        (acts vma (found_in (λ v. has v page) 0 vma space.areas order is) some few (names_place flags) (nat_lt args.olds args.news) refl refl))

-- up to 6.16: moves to a place
old_to_order : (kernel : Kernel) (args : Remap) (space : LinuxSpace) → kernel.config.limit < 2 ^ 64 → 0 < args.news → AreInOrder space.areas
    → AreInOrder (old_mremap_to kernel args space).space.areas
unfolding old_mremap_to
old_to_order kernel args space small some order =
    tested (not (is_aligned args.new_addr) || (nat_lt (kernel.config.limit / PAGE_SIZE) args.news || nat_lt (kernel.config.limit - PAGE_SIZE * args.news) args.new_addr)) EINVAL
    second space order (λ size.
    tested (vrm_overlaps args) EINVAL (areas_now >>= third) space order (λ b.
    tested (lacks_areas kernel space.areas) ENOMEM start space order (λ c.
    case (is_mremap_fixed args.flags) refl (few (not (is_aligned args.new_addr)) (nat_lt (kernel.config.limit - PAGE_SIZE * args.news) args.new_addr) size))))
  where
    page : ℕ
    page = args.addr / PAGE_SIZE

    kept : ℕ
    kept = min args.olds args.news

    place : Vma → Doing ℕ
    place vma = place_and_move kernel vma page kept args.news args.flags args.new_addr

    at : Vma → Doing ℕ
    at vma = check_range vma page kept kept args.news >> place vma

    after : Doing ℕ
    after = cut_to kernel page args.olds args.news >> (area_now page >>= at)

    start : Doing ℕ
    start = (if is_mremap_fixed args.flags then unmap_pages kernel (args.new_addr / PAGE_SIZE) args.news else done tt) >> after

    third : List Vma → Doing ℕ
    third areas = refuse_if (lacks_areas kernel areas) ENOMEM >> start

    second : Doing ℕ
    second = refuse_if (vrm_overlaps args) EINVAL >> (areas_now >>= third)

    few : (odd far : Bool) → (odd || (nat_lt (kernel.config.limit / PAGE_SIZE) args.news || far)) ≡ false → args.news < 2 ^ 52
    few true far is = absurd (cc)
    few false true is = absurd (not_so (nat_lt (kernel.config.limit / PAGE_SIZE) args.news) is)
      where
        not_so : (a : Bool) → (a || true) ≡ false → ⊥
        not_so true is = absurd (cc)
        not_so false is = absurd (cc)
    few false false is = let less : args.news ≤ kernel.config.limit / PAGE_SIZE = grind (arith, nat_tests) in omega arith

    rest : (space : LinuxSpace) → AreInOrder space.areas → (is_mremap_fixed args.flags ≡ true → HasRoom (args.new_addr / PAGE_SIZE) (args.new_addr / PAGE_SIZE + args.news) space.areas)
        → AreInOrder (after space).space.areas
    rest space order room = let did = cut_to kernel page args.olds args.news space in let ordered = cut_order kernel page args.olds args.news space order in
        went_on did.space did.result (λ value. area_now page >>= at) ordered (λ value same.
        looked_now page at did.space ordered (λ vma is.
        checked (check_range vma page kept kept args.news did.space) did.space (place vma) (range_keeps vma page kept kept args.news did.space) ordered
        (placed_order kernel vma page kept args.news args.flags args.new_addr did.space ordered some (λ fixed.
        cut_room kernel page args.olds args.news (args.new_addr / PAGE_SIZE) (args.new_addr / PAGE_SIZE + args.news) space (room fixed)))))

    case : (fixed : Bool) → is_mremap_fixed args.flags ≡ fixed → args.news < 2 ^ 52
        → AreInOrder (((if fixed then unmap_pages kernel (args.new_addr / PAGE_SIZE) args.news else done tt) >> after) space).space.areas
    case true is less = let lo = args.new_addr / PAGE_SIZE in let did = unmap_pages kernel lo args.news space in
        let ordered = keeps_order kernel space (PAGE_SIZE * lo) (PAGE_SIZE * args.news) order in
        went_on did.space did.result (λ value. after) ordered (λ value same. rest did.space ordered (λ fixed. unmap_room kernel space lo args.news some less order same))
    case false is less = rest space order (λ fixed. absurd (cc))

early_keeps : (kernel : Kernel) (args : Remap) (areas : List Vma) (wanted : Bool) (space : LinuxSpace)
    → ((if wanted then check_place_early kernel args areas else done tt) space).space ≡ space
early_keeps kernel args areas wanted space = case wanted (names_place args.flags && not (is_aligned args.new_addr)) (names_place args.flags && lacks_areas kernel areas)
  where
    case : (wanted odd lacks : Bool) → ((if wanted then (refuse_if odd EINVAL >> refuse_if lacks ENOMEM) else done tt) space).space ≡ space
    case true true lacks = refl
    case true false true = refl
    case true false false = refl
    case false odd lacks = refl

old_order_whole : (kernel : Kernel) (args : Remap) (same : Bool) (space : LinuxSpace) → kernel.config.limit < 2 ^ 64 → AreInOrder space.areas
    → AreInOrder (old_mremap kernel args same space).space.areas
unfolding old_mremap
old_order_whole kernel args same space small order =
    tested (is_mremap_fixed flags && not (may_move flags)) EINVAL second space order (λ a.
    tested (keeps_old flags && (not (may_move flags) || not same)) EINVAL third space order (λ b.
    tested (not (is_aligned args.addr) || nat_eq args.news 0) EINVAL (areas_now >>= fourth) space order (λ size.
    checked ((if kernel.rules.limits_before_lookup then check_place_early kernel args space.areas else done tt) space) space (area_now page >>= one)
    (early_keeps kernel args space.areas kernel.rules.limits_before_lookup space) order
    (looked_now page one space order (λ vma is.
    tested vma.flags.sealed EPERM (act vma) space order (λ c.
    acts vma (found_in (λ v. has v page) 0 vma space.areas order is) (some (not (is_aligned args.addr)) size) (names_place flags) (nat_le args.news args.olds) refl refl))))))
  where
    page : ℕ
    page = args.addr / PAGE_SIZE

    flags : ℕ
    flags = args.flags

    shrink : Doing ℕ
    shrink = cut_to kernel page args.olds args.news >> done page

    grow : Vma → Doing ℕ
    grow vma = check_range vma page args.olds args.olds args.news >> expand kernel vma page args.olds args.news flags

    act : Vma → Doing ℕ
    act vma = if names_place flags then old_mremap_to kernel args else (if nat_le args.news args.olds then shrink else grow vma)

    one : Vma → Doing ℕ
    one vma = refuse_if vma.flags.sealed EPERM >> act vma

    fourth : List Vma → Doing ℕ
    fourth areas = (if kernel.rules.limits_before_lookup then check_place_early kernel args areas else done tt) >> (area_now page >>= one)

    third : Doing ℕ
    third = refuse_if (not (is_aligned args.addr) || nat_eq args.news 0) EINVAL >> (areas_now >>= fourth)

    second : Doing ℕ
    second = refuse_if (keeps_old flags && (not (may_move flags) || not same)) EINVAL >> third

    some : (odd : Bool) → (odd || nat_eq args.news 0) ≡ false → 0 < args.news
    some true is = absurd (cc)
    some false is = grind (arith, nat_tests)

    acts : (vma : Vma) → IsOneOf 0 vma space.areas → 0 < args.news → (places shrinks : Bool) → names_place flags ≡ places → nat_le args.news args.olds ≡ shrinks
        → AreInOrder ((if places then old_mremap_to kernel args else (if shrinks then shrink else grow vma)) space).space.areas
    acts vma is more true shrinks p s = old_to_order kernel args space small more order
    acts vma is more false true p s = let did = cut_to kernel page args.olds args.news space in let ordered = cut_order kernel page args.olds args.news space order in
        went_on did.space did.result (λ value. done page) ordered (λ value it. ordered)
    acts vma is more false false p s =
        checked (check_range vma page args.olds args.olds args.news space) space (expand kernel vma page args.olds args.news flags)
        (range_keeps vma page args.olds args.olds args.news space) order
        (expand_order kernel vma page args.olds args.news flags space order is (grind (arith, nat_tests)) (first_false (is_mremap_fixed flags) (keeps_old flags) p))

pub mremap_order : (kernel : Kernel) (space : LinuxSpace) (addr old_len new_len flags new_addr : ℕ) → kernel.config.limit < 2 ^ 64
    → AreInOrder space.areas → AreInOrder (mremap kernel addr old_len new_len flags new_addr space).space.areas
unfolding mremap
mremap_order kernel space addr old_len new_len flags new_addr small order = ended did.space did.result (case kernel.rules.moves_several)
  where
    args : Remap
    args = record { addr = addr; olds = pages_of old_len; news = pages_of new_len; flags = flags; new_addr = new_addr }

    did : Did ℕ
    did = (if kernel.rules.moves_several then new_mremap kernel args else old_mremap kernel args (nat_eq old_len new_len)) space

    case : (new : Bool) → AreInOrder ((if new then new_mremap kernel args else old_mremap kernel args (nat_eq old_len new_len)) space).space.areas
    case true = new_order kernel args space small order
    case false = old_order_whole kernel args (nat_eq old_len new_len) space small order

    ended : (after : LinuxSpace) (r : Result ℕ ℕ) → AreInOrder after.areas → AreInOrder (go_on after r (λ page. done (PAGE_SIZE * page))).space.areas
    ended after (Ok page) is = is
    ended after (Err error) is = is
