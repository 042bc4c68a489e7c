-- Where a mapping goes: mm/mmap.c, mm/vma.c, mm/huge_memory.c and arch/x86/kernel/sys_x86_64.c.
use Rattle.std.specs.Prelude.{ℕ, ◌+◌, ◌-◌, ◌*◌, ◌/◌, ◌%◌, ◌^◌, min, max, Bool, true, not, ◌&&◌, ◌||◌, if◌then◌else◌, nat_eq, nat_lt, nat_le, List, [], ◌∷◌, filter, map, Option, Some, None, option_and_then}
use Rattle.std.specs.List.{list_all}
use Rattle.std.specs.Option.{option_map_or, option_or}
use Rattle.mm_types.specs.declared.config.TheConstants.{PAGE_SIZE}
use Rattle.linux_rules.specs.declared.area.Vma.{Vma}
use Rattle.linux_rules.specs.declared.errors.TheConstants.{EPERM, ENOMEM, EINVAL}
use Rattle.linux_rules.specs.declared.kernel.Kernel.{Kernel}
use Rattle.linux_rules.specs.Areas.{find_vma, vma_from, is_aligned}
use Rattle.linux_rules.specs.Doing.{Doing, ◌>>=◌, ◌>>◌, done, refuse_if, or_refuse, areas_now}

-- stack_guard_gap, in pages
abbrev pub GUARD : ℕ
GUARD = 256

-- the pages of 2 MiB
abbrev pub HUGE : ℕ
HUGE = 512

-- vm_start_gap: where an area begins, with the 256 pages below a stack-like one
abbrev pub start_gap : Vma → ℕ
start_gap vma = if vma.flags.growsdown then vma.lo - GUARD else vma.lo

-- find_vma_intersection finds nothing: no area has one of so many pages from a start on
abbrev pub is_free : List Vma → ℕ → ℕ → Bool
is_free areas pages start = list_all (λ vma. nat_le (start + pages) vma.lo || nat_le vma.hi start) areas

-- unmapped_area, unmapped_area_topdown: free, and the next area above keeps its guard, wherever the gap ends
unfoldable pub is_room : List Vma → ℕ → ℕ → Bool
is_room areas pages start = is_free areas pages start && option_map_or (λ above. nat_le (start + pages) (start_gap above)) (vma_from areas (start + pages)) true

-- the greatest of some numbers, if there is one
abbrev pub greatest : List ℕ → Option ℕ
greatest [] = None
greatest (n ∷ ns) = Some (option_map_or (max n) (greatest ns) n)

-- the least of some numbers, if there is one
abbrev pub least : List ℕ → Option ℕ
least [] = None
least (n ∷ ns) = Some (option_map_or (min n) (least ns) n)

-- mmap_min_addr, as a page, for searches and hints: the greater of vm.mmap_min_addr and the built-in lowest
abbrev pub lowest_for_hints : Kernel → ℕ
lowest_for_hints kernel = max (kernel.config.min / PAGE_SIZE) kernel.machine.lowest_built

-- vm_unmapped_area_info, low_limit: the lowest page of a search; in 6.1 page 1 (arch/x86/kernel/sys_x86_64.c)
abbrev pub lowest_searched : Kernel → ℕ
lowest_searched kernel = if kernel.rules.search_has_min then max 1 (lowest_for_hints kernel) else 1

-- where the highest room may end: at the top, or where an area or its guard begins
abbrev pub ends_below : List Vma → ℕ → List ℕ
ends_below areas top = top ∷ filter (λ end. nat_le end top) (map start_gap areas)

-- unmapped_area_topdown: the highest room below mmap_base
unfoldable pub search_down : Kernel → List Vma → ℕ → Option ℕ
search_down kernel areas pages = greatest (filter (is_room areas pages)
    (map (λ end. end - pages) (filter (λ end. nat_le (lowest_searched kernel + pages) end) (ends_below areas (kernel.config.top / PAGE_SIZE)))))

-- where the lowest room may begin: at a third of user memory, or where an area ends
abbrev pub begins_above : List Vma → ℕ → List ℕ
begins_above areas bottom = bottom ∷ filter (λ begin. nat_le bottom begin) (map (λ vma. vma.hi) areas)

-- unmapped_area: the lowest room from TASK_UNMAPPED_BASE on
unfoldable pub search_up : Kernel → List Vma → ℕ → Option ℕ
search_up kernel areas pages = let limit = kernel.config.limit / PAGE_SIZE in
    least (filter (λ start. nat_le (start + pages) limit && is_room areas pages start) (begins_above areas (limit / 3 + 1)))

-- arch_get_unmapped_area_topdown, the hint as a page: it is taken if the next area, with its guard, begins above
unfoldable pub takes_hint : Kernel → List Vma → ℕ → ℕ → Bool
takes_hint kernel areas pages hint = not (nat_eq hint 0) && (nat_le (hint + pages) (kernel.config.limit / PAGE_SIZE)
    && option_map_or (λ above. nat_le (hint + pages) (start_gap above)) (find_vma areas hint) true)

-- arch_get_unmapped_area_topdown: at the hint, else as high as there is room, else as low
unfoldable pub topdown : Kernel → List Vma → ℕ → ℕ → Option ℕ
topdown kernel areas pages hint = if takes_hint kernel areas pages hint then Some hint
    else option_or (search_down kernel areas pages) (search_up kernel areas pages)

-- __thp_get_unmapped_area: what is added to a place so that it is aligned as the offset is: at least one page, at most 2 MiB
abbrev pub to_aligned : ℕ → ℕ → ℕ
to_aligned index found = let less = (index + HUGE * found - found) % HUGE in if nat_eq less 0 then HUGE else less

-- __thp_get_unmapped_area: looks for room for 2 MiB more, and takes the place in it that is aligned as the offset is
unfoldable pub huge_place : Kernel → List Vma → ℕ → ℕ → ℕ → Option ℕ
huge_place kernel areas pages hint index = let aligned = (index + HUGE - 1) / HUGE * HUGE in
    if nat_lt (index + pages) (aligned + HUGE) then None
    else option_and_then (λ found. Some (if not (nat_eq hint 0) && nat_eq found hint then hint else found + to_aligned index found))
    (topdown kernel areas (pages + HUGE) hint)

-- __get_unmapped_area, whether thp_get_unmapped_area is asked: for files whose system aligns, and since 6.7 (mm/mmap.c) for private anonymous
-- memory of a multiple of 2 MiB without a hint
abbrev pub asks_for_huge : Kernel → ℕ → ℕ → (is_file is_shared : Bool) → Bool
asks_for_huge kernel pages hint is_file is_shared = if is_file then kernel.machine.files_are_huge
    else not is_shared && (nat_eq hint 0 && (kernel.rules.aligns_anonymous && nat_eq (pages % HUGE) 0))

-- __get_unmapped_area: the place that a search finds, with a hint or without
unfoldable pub searched_place : Kernel → List Vma → ℕ → ℕ → ℕ → (is_file is_shared : Bool) → Option ℕ
searched_place kernel areas pages hint index is_file is_shared =
    option_or (if asks_for_huge kernel pages hint is_file is_shared then huge_place kernel areas pages hint (if is_file then index else 0) else None)
    (topdown kernel areas pages hint)

-- __get_unmapped_area, a fixed address: IS_ERR_VALUE takes the last page for an error; then the end and the alignment are tested
unfoldable pub fixed_place : Kernel → ℕ → ℕ → Doing ℕ
fixed_place kernel pages addr = do
  refuse_if (nat_lt (2 ^ 64 - PAGE_SIZE) addr) (2 ^ 64 - addr)
  refuse_if (nat_lt (kernel.config.limit - pages * PAGE_SIZE) addr) ENOMEM
  refuse_if (not (is_aligned addr)) EINVAL
  done (addr / PAGE_SIZE)

-- __get_unmapped_area: the page of the place, fixed or searched, and then security_mmap_addr
unfoldable pub get_unmapped_area : Kernel → ℕ → ℕ → (is_fixed : Bool) → ℕ → (is_file is_shared : Bool) → Doing ℕ
get_unmapped_area kernel addr pages is_fixed index is_file is_shared = do
  refuse_if (nat_lt (kernel.config.limit / PAGE_SIZE) pages) ENOMEM
  areas ← areas_now
  place ← if is_fixed then fixed_place kernel pages addr
      else or_refuse (searched_place kernel areas pages (addr / PAGE_SIZE) index is_file is_shared) ENOMEM
  refuse_if (nat_lt place (kernel.config.min / PAGE_SIZE)) EPERM
  done place
