-- mremap(2): mm/mremap.c.
use Rattle.std.specs.Prelude.{ℕ, zero, suc, ◌+◌, ◌-◌, ◌*◌, ◌/◌, ◌%◌, ◌^◌, min, max, Bool, true, false, not, ◌&&◌, ◌||◌, if◌then◌else◌, nat_eq, nat_lt, nat_le, List, length, Option, Some, None, is_none}
use Rattle.std.specs.Option.{option_map_or}
use Rattle.mm_types.specs.Flags.{has_flag}
use Rattle.mm_types.specs.declared.config.TheConstants.{PAGE_SIZE}
use Rattle.mm_types.specs.declared.flags.TheConstants.{MREMAP_MAYMOVE, MREMAP_FIXED, MREMAP_DONTUNMAP}
use Rattle.linux_rules.specs.declared.area.Vma.{Vma}
use Rattle.linux_rules.specs.declared.errors.TheConstants.{EPERM, ENOMEM, EFAULT, EINVAL}
use Rattle.linux_rules.specs.declared.kernel.Kernel.{Kernel}
use Rattle.linux_rules.specs.Accounts.{lacks_memory}
use Rattle.linux_rules.specs.Areas.{find_vma, vma_lookup, vma_before, vma_from, replaced, is_aligned, pages_of}
use Rattle.linux_rules.specs.Doing.{Doing, ◌>>=◌, ◌>>◌, done, refuse, refuse_if, or_refuse, caught, areas_now, set_areas}
use Rattle.linux_rules.specs.Merging.{Merged, merge_new_range}
use Rattle.linux_rules.specs.Mmap.{merged_or_new}
use Rattle.linux_rules.specs.Munmap.{munmap}
use Rattle.linux_rules.specs.Searching.{get_unmapped_area}

-- struct vma_remap_struct, the arguments: addresses in bytes, lengths as pages
pub record Remap : Type 0 where
  pub addr : ℕ
  pub olds : ℕ
  pub news : ℕ
  pub flags : ℕ
  pub new_addr : ℕ

-- MREMAP_FIXED
abbrev pub is_mremap_fixed : ℕ → Bool
is_mremap_fixed flags = has_flag flags MREMAP_FIXED

-- MREMAP_DONTUNMAP
abbrev pub keeps_old : ℕ → Bool
keeps_old flags = has_flag flags MREMAP_DONTUNMAP

-- MREMAP_MAYMOVE
abbrev pub may_move : ℕ → Bool
may_move flags = has_flag flags MREMAP_MAYMOVE

-- vrm_implies_new_addr: the new address is read, as the place for MREMAP_FIXED, as a hint for MREMAP_DONTUNMAP
abbrev pub names_place : ℕ → Bool
names_place flags = is_mremap_fixed flags || keeps_old flags

-- do_munmap of pages
abbrev pub unmap_pages : Kernel → ℕ → ℕ → Doing Unit
unmap_pages kernel lo pages = munmap kernel (PAGE_SIZE * lo) (PAGE_SIZE * pages)

-- vma_lookup: the area that has a page by then, or EFAULT
abbrev pub area_now : ℕ → Doing Vma
area_now page = do
  areas ← areas_now
  or_refuse (vma_lookup areas page) EFAULT

-- an area becomes another in its place
abbrev pub becomes : Vma → Vma → Doing Unit
becomes old new = do
  areas ← areas_now
  set_areas (replaced old new areas)

-- linear_page_index: the page of its object that an area maps at a page
abbrev pub index_at : Vma → ℕ → ℕ
index_at vma page = vma.pgoff + (page - vma.lo)

-- copy_vma, faulted_in_anon_vma: anonymous memory that was never written
abbrev pub is_unwritten : Vma → Bool
is_unwritten vma = nat_eq vma.file 0 && is_none vma.anon

-- copy_vma: a neighbour of the copy, unless it is the source and the two have to stay apart
abbrev pub not_source : Bool → Vma → Option Vma → Option Vma
not_source apart vma None = None
not_source apart vma (Some other) = if apart && nat_eq other.lo vma.lo then None else Some other

-- copy_vma: whether a copy that has to stay apart joins nothing at all: in 6.1 (mm/mmap.c) where it touches its source
abbrev pub joins_nothing : Kernel → Bool → Vma → ℕ → ℕ → Bool
joins_nothing kernel apart vma place news = apart && (not kernel.rules.joins_beside_source && (nat_eq place vma.hi || nat_eq (place + news) vma.lo))

-- copy_vma: the same memory at a new place, where it may join its neighbours. What was never written gets the page offset of its new place.
-- Where keeps_copies_apart holds (mm/mremap.c), a copy of MREMAP_DONTUNMAP that was never written doesn't join its source. In 6.16 and 6.17
-- (mm/vma.c, vma_expand) the area that it joins doesn't take its anon_vma, nor is asked whether a fork made that.
unfoldable pub copy_vma : Kernel → Vma → ℕ → ℕ → ℕ → Bool → Doing Vma
copy_vma kernel vma page place news keeps = do
  areas ← areas_now
  let apart = keeps && (is_unwritten vma && kernel.rules.keeps_copies_apart) in
      let new : Vma = record { lo = place; hi = place + news; flags = vma.flags; file = vma.file; pgoff = if is_unwritten vma then place else index_at vma page; anon = vma.anon } in
      merged_or_new new areas (if joins_nothing kernel apart vma place news then None
      else merge_new_range kernel.rules areas (not_source apart vma (vma_before areas place)) (not_source apart vma (find_vma areas (place + news))) new
      (if kernel.rules.loses_written then None else vma.anon))

-- dontunmap_complete: what MREMAP_DONTUNMAP leaves. In 6.15 and 6.16 (mm/mremap.c) it loses its account. An area that is left whole counts as
-- never written, at the page offset of its place where keeps_copies_apart holds.
abbrev pub emptied : Kernel → Vma → ℕ → ℕ → Vma
emptied kernel vma lo hi = let left = record vma { flags = record (vma.flags) { account = vma.flags.account && not kernel.rules.loses_accounts } } in
    if nat_eq vma.lo lo && nat_eq vma.hi hi
    then record left { anon = None; pgoff = if nat_eq vma.file 0 && kernel.rules.keeps_copies_apart then vma.lo else vma.pgoff }
    else left

-- an area with its account, or without
abbrev pub with_account : Bool → Vma → Vma
with_account accounted vma = record vma { flags = record (vma.flags) { account = accounted } }

-- unmap_source_vma: a piece that stays is accounted again
abbrev pub accounts_again : Bool → Option Vma → Doing Unit
accounts_again wanted None = done tt
accounts_again wanted (Some vma) = if wanted then becomes vma (with_account true vma) else done tt

-- unmap_source_vma: unmaps the old range of a move. The whole area's account is taken off first, and given back to the pieces that stay,
-- unless the munmap fails. It fails for an old length of 0, after which the pieces get it back since 6.17 alone (mm/mremap.c).
unfoldable pub unmap_old : Kernel → Vma → ℕ → ℕ → Doing Unit
unmap_old kernel vma lo olds = do
  becomes vma (with_account false vma)
  gone ← caught (unmap_pages kernel lo olds)
  let back = vma.flags.account && (if nat_eq olds 0 then kernel.rules.moves_several else gone) in do
    areas ← areas_now
    accounts_again (back && nat_lt vma.lo lo) (vma_before areas lo)
    areas ← areas_now
    accounts_again (back && nat_lt (lo + olds) vma.hi) (find_vma areas (lo + olds))

-- prep_move_vma: whether the limit leaves too few areas for a move: up to 6.18 (mm/mremap.c) fewer than four, in 7.2 fewer than two
abbrev pub lacks_areas_to_move : Kernel → List Vma → Bool
lacks_areas_to_move kernel areas = if kernel.rules.limits_each_mremap then nat_lt kernel.config.areas (length areas + 2)
    else nat_le (kernel.config.areas - 3) (length areas)

-- move_vma: copies the area, and empties or unmaps the old range. Returns the page of the new place.
unfoldable pub move_vma : Kernel → Vma → ℕ → ℕ → ℕ → ℕ → ℕ → Doing ℕ
move_vma kernel vma page olds news flags place = do
  areas ← areas_now
  refuse_if (lacks_areas_to_move kernel areas) ENOMEM
  refuse_if (vma.flags.account && lacks_memory kernel (if keeps_old flags then news else news - olds)) ENOMEM
  copy ← copy_vma kernel vma page place news (keeps_old flags)
  source ← area_now page
  if keeps_old flags then becomes source (emptied kernel source page (page + olds)) else unmap_old kernel source page olds
  done place

-- get_unmapped_area, vma->vm_file: whether a file of the trace is mapped; shared anonymous memory has a file of its own, in memory
abbrev pub is_trace_file : Kernel → Vma → Bool
is_trace_file kernel vma = not (nat_eq vma.file 0) && nat_le vma.file (length kernel.config.files)

-- vrm_set_new_addr, move_vma: moves to a place that is fixed or searched
unfoldable pub place_and_move : Kernel → Vma → ℕ → ℕ → ℕ → ℕ → ℕ → Doing ℕ
place_and_move kernel vma page olds news flags new_addr = do
  place ← get_unmapped_area kernel new_addr news (is_mremap_fixed flags) (index_at vma page) (is_trace_file kernel vma) vma.flags.mayshare
  move_vma kernel vma page olds news flags place

-- vma_expandable: whether so many pages behind the area are free
abbrev pub is_expandable : Kernel → List Vma → Vma → ℕ → Bool
is_expandable kernel areas vma more = nat_le (vma.hi + more) (kernel.config.limit / PAGE_SIZE)
    && (option_map_or (λ next. nat_le (vma.hi + more) next.lo) (vma_from areas vma.hi) true && nat_le (kernel.config.min / PAGE_SIZE) vma.lo)

-- expand_vma_in_place: what the merge left; with none it fails
abbrev pub merged_here : Option Merged → Doing Unit
merged_here (Some merged) = set_areas merged.areas
merged_here None = refuse ENOMEM

-- expand_vma_in_place: the pages behind the area join it, and the next area too where that fits
unfoldable pub expand_here : Kernel → Vma → ℕ → ℕ → Doing ℕ
expand_here kernel vma page more = do
  refuse_if (vma.flags.account && lacks_memory kernel more) ENOMEM
  areas ← areas_now
  let new : Vma = record { lo = vma.hi; hi = vma.hi + more; flags = vma.flags; file = vma.file; pgoff = index_at vma vma.hi; anon = vma.anon } in
      merged_here (merge_new_range kernel.rules areas (Some vma) (vma_from areas vma.hi) new None)
  done page

-- expand_vma: grows in place, or else moves
unfoldable pub expand : Kernel → Vma → ℕ → ℕ → ℕ → ℕ → Doing ℕ
expand kernel vma page olds news flags = do
  areas ← areas_now
  if nat_eq (vma.hi - page) olds && is_expandable kernel areas vma (news - olds) then expand_here kernel vma page (news - olds) else do
    refuse_if (not (may_move flags)) ENOMEM
    place_and_move kernel vma page olds news flags 0

-- vrm_overlaps: the two ranges share bytes, with sums that wrap
abbrev pub vrm_overlaps : Remap → Bool
vrm_overlaps args = nat_lt args.new_addr ((args.addr + PAGE_SIZE * args.olds) % 2 ^ 64) && nat_lt args.addr ((args.new_addr + PAGE_SIZE * args.news) % 2 ^ 64)

-- check_mremap_params (mremap_to): whether the limit leaves too few areas for a move to a place: map_count + 2 >= sysctl_max_map_count - 3
abbrev pub lacks_areas : Kernel → List Vma → Bool
lacks_areas kernel areas = nat_le (kernel.config.areas - 3) (length areas + 2)

-- check_prep_vma, vma_to_resize: an old length of 0 is for shared memory; the range lies within the area; its page offset doesn't wrap
unfoldable pub check_range : Vma → ℕ → ℕ → ℕ → ℕ → Doing Unit
check_range vma page olds kept news = do
  refuse_if (nat_eq olds 0 && not (vma.flags.shared || vma.flags.mayshare)) EINVAL
  refuse_if (nat_lt (vma.hi - page) kept) EFAULT
  refuse_if (not (nat_eq news kept) && nat_le (2 ^ 64) (page - vma.lo + vma.pgoff + news)) EINVAL

-- check_prep_vma, since 6.17
unfoldable pub check_prep : Vma → ℕ → ℕ → ℕ → ℕ → Doing Unit
check_prep vma page olds news flags = do
  refuse_if vma.flags.sealed EPERM
  if not (names_place flags) && nat_le news olds then done tt else check_range vma page olds (min olds news) news

-- shrink_vma: unmaps what the old range has above the new length
abbrev pub cut_to : Kernel → ℕ → ℕ → ℕ → Doing Unit
cut_to kernel page olds news = if nat_lt news olds then unmap_pages kernel (page + news) (olds - news) else done tt

-- mremap_to, since 6.17: unmaps what lies at a fixed place, cuts off the rest of a longer range, and moves
unfoldable pub mremap_to : Kernel → ℕ → ℕ → ℕ → ℕ → ℕ → Doing ℕ
mremap_to kernel page olds news flags new = do
  if is_mremap_fixed flags then unmap_pages kernel new news else done tt
  here ← area_now page
  cut_to kernel page olds news
  vma ← area_now page
  place_and_move kernel vma page (min olds news) news flags (PAGE_SIZE * new)

-- remap_move: where a later area goes, with the hole before it
abbrev pub shifted_addr : Option ℕ → ℕ → ℕ → ℕ
shifted_addr None lo target = target
shifted_addr (Some last) lo target = target + (lo - last)

-- remap_move: the place of the first area, or EFAULT if there was none
abbrev pub first_place : Option ℕ → Doing ℕ
first_place None = refuse EFAULT
first_place (Some place) = done place

-- remap_move: no area is left to move
abbrev pub is_over : ℕ → Option Vma → Bool
is_over end vma = option_map_or (λ vma. nat_le end vma.lo) vma true

-- remap_move, since 6.17: moves area after area, and keeps the holes between them. It takes at most as many rounds as the range has pages.
unfoldable pub remap_from : Kernel → ℕ → ℕ → ℕ → ℕ → (page target : ℕ) → (last first : Option ℕ) → Doing ℕ
remap_from kernel flags start end zero page target last first = first_place first
remap_from kernel flags start end (suc rounds) page target last first = do
  areas ← areas_now
  if nat_le end page || is_over end (find_vma areas page) then first_place first else do
    vma ← or_refuse (find_vma areas page) EFAULT
    refuse_if (is_none last && nat_lt start vma.lo) EFAULT
    let lo = max vma.lo start in let pages = min end vma.hi - lo in do
      check_prep vma lo pages pages flags
      place ← mremap_to kernel lo pages pages flags (shifted_addr last vma.lo target)
      remap_from kernel flags start end rounds vma.hi (place + pages) (Some vma.hi) (Some (option_map_or (λ place. place) first place))

-- do_mremap: whether the limit leaves too few areas to begin with. Up to 6.18 only a move to a place is tested; in 7.2 (mm/mremap.c,
-- check_map_count_against_split_early) every call is, and needs room for four areas more, or five with MREMAP_DONTUNMAP.
abbrev pub is_near_limit : Kernel → ℕ → List Vma → Bool
is_near_limit kernel flags areas = if kernel.rules.limits_each_mremap then nat_lt kernel.config.areas (length areas + (if keeps_old flags then 5 else 4))
    else names_place flags && lacks_areas kernel areas

-- check_mremap_params, since 6.17: the tests of a new address
abbrev pub is_bad_place : Kernel → Remap → Bool
is_bad_place kernel args = nat_lt (kernel.config.limit - PAGE_SIZE * args.news) args.new_addr || (not (is_aligned args.new_addr)
    || (not (may_move args.flags) || (keeps_old args.flags && not (nat_eq args.olds args.news) || vrm_overlaps args)))

-- do_mremap, since 6.17. Returns the page.
unfoldable pub new_mremap : Kernel → Remap → Doing ℕ
new_mremap kernel args = let page = args.addr / PAGE_SIZE in let flags = args.flags in do
  refuse_if (not (is_aligned args.addr) || (nat_eq args.news 0 || nat_lt (kernel.config.limit / PAGE_SIZE) args.news)) EINVAL
  refuse_if (names_place flags && is_bad_place kernel args) EINVAL
  areas ← areas_now
  refuse_if (is_near_limit kernel flags areas) ENOMEM
  if is_mremap_fixed flags && nat_eq args.olds args.news
      then (let end = (page + args.olds) % 2 ^ 52 in remap_from kernel flags page end (end - page) page (args.new_addr / PAGE_SIZE) None None)
      else (do
        vma ← area_now page
        check_prep vma page args.olds args.news flags
        if names_place flags then mremap_to kernel page args.olds args.news flags (args.new_addr / PAGE_SIZE)
            else (if nat_lt args.olds args.news then expand kernel vma page args.olds args.news flags else do
              cut_to kernel page args.olds args.news
              done page))

-- mremap_to, up to 6.16
unfoldable pub old_mremap_to : Kernel → Remap → Doing ℕ
old_mremap_to kernel args = let page = args.addr / PAGE_SIZE in do
  refuse_if (not (is_aligned args.new_addr) || (nat_lt (kernel.config.limit / PAGE_SIZE) args.news || nat_lt (kernel.config.limit - PAGE_SIZE * args.news) args.new_addr)) EINVAL
  refuse_if (vrm_overlaps args) EINVAL
  areas ← areas_now
  refuse_if (lacks_areas kernel areas) ENOMEM
  if is_mremap_fixed args.flags then unmap_pages kernel (args.new_addr / PAGE_SIZE) args.news else done tt
  cut_to kernel page args.olds args.news
  vma ← area_now page
  check_range vma page (min args.olds args.news) (min args.olds args.news) args.news
  place_and_move kernel vma page (min args.olds args.news) args.news args.flags args.new_addr

-- check_mremap_params, in 6.16 (mm/mremap.c): a new address is tested for its alignment, and the limit, before the area is looked up
abbrev pub check_place_early : Kernel → Remap → List Vma → Doing Unit
check_place_early kernel args areas = do
  refuse_if (names_place args.flags && not (is_aligned args.new_addr)) EINVAL
  refuse_if (names_place args.flags && lacks_areas kernel areas) ENOMEM

-- the system call mremap, up to 6.16. Returns the page. `same` says that both lengths are equal in bytes.
unfoldable pub old_mremap : Kernel → Remap → Bool → Doing ℕ
old_mremap kernel args same = let page = args.addr / PAGE_SIZE in let flags = args.flags in do
  refuse_if (is_mremap_fixed flags && not (may_move flags)) EINVAL
  refuse_if (keeps_old flags && (not (may_move flags) || not same)) EINVAL
  refuse_if (not (is_aligned args.addr) || nat_eq args.news 0) EINVAL
  areas ← areas_now
  if kernel.rules.limits_before_lookup then check_place_early kernel args areas else done tt
  vma ← area_now page
  refuse_if vma.flags.sealed EPERM
  if names_place flags then old_mremap_to kernel args
      else (if nat_le args.news args.olds then (do
        cut_to kernel page args.olds args.news
        done page) else (do
          check_range vma page args.olds args.olds args.news
          expand kernel vma page args.olds args.news flags))

-- mremap: in the new order, or the old one (mm/mremap.c, 6.17). Returns the address.
unfoldable pub mremap : Kernel → (addr old_len new_len flags new_addr : ℕ) → Doing ℕ
mremap kernel addr old_len new_len flags new_addr = let args : Remap = record { addr = addr; olds = pages_of old_len; news = pages_of new_len; flags = flags; new_addr = new_addr } in do
  page ← if kernel.rules.moves_several then new_mremap kernel args else old_mremap kernel args (nat_eq old_len new_len)
  done (PAGE_SIZE * page)
