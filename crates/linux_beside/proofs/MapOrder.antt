-- What mmap and brk leave of a list in order.
use Rattle.std.proofs.Common.{arith, sym, subst}
use Rattle.std.proofs.lemmas.Bool.Decides.{nat_tests}
use Rattle.std.specs.Prelude.{ℕ, ◌≡◌, ◌<◌, ◌≤◌, ◌+◌, ◌-◌, ◌*◌, ◌/◌, ◌%◌, ◌^◌, Bool, true, false, not, ◌&&◌, ◌||◌, if◌then◌else◌, nat_eq, nat_le, nat_lt, List, length, Option, Some, None, IfSome, is_none, is_some, Result, Ok, Err, refl}
use Rattle.mm_types.specs.declared.call.MmapArgs.{MmapArgs}
use Rattle.mm_types.specs.declared.config.TheConstants.{PAGE_SIZE}
use Rattle.mm_types.specs.declared.files.FileRow.{FileRow}
use Rattle.mm_types.specs.declared.flags.TheConstants.{MAP_SHARED, MAP_PRIVATE, MAP_ANONYMOUS, MAP_POPULATE, MAP_FIXED_NOREPLACE}
use Rattle.linux_rules.specs.declared.area.Vma.{Vma}
use Rattle.linux_rules.specs.declared.area.VmFlags.{VmFlags}
use Rattle.linux_rules.specs.declared.errors.TheConstants.{EPERM, EBADF, ENOMEM, EACCES, EEXIST, EINVAL, EOVERFLOW, EOPNOTSUPP}
use Rattle.linux_rules.specs.declared.kernel.Kernel.{Kernel}
use Rattle.linux_rules.specs.Accounts.{lacks_memory}
use Rattle.linux_rules.specs.AnonVmas.{anon_vma_prepare}
use Rattle.linux_rules.specs.Areas.{find_vma, vma_before, vma_from, is_aligned, pages_of}
use Rattle.linux_rules.specs.Doing.{LinuxSpace, Did, Doing, ◌>>=◌, ◌>>◌, go_on, done, refuse_if, or_refuse, caught_as, areas_now}
use Rattle.linux_rules.specs.Merging.{merges_left, merges_right, merge_new_range}
use Rattle.linux_rules.specs.Mmap.{asks, file_of_call, file_number, is_fixed, address_of, common_flags, overflows, file_flags, anonymous_flags, flags_of, is_accountable, accounted_pages, new_object, mapped_object, old_left, left_neighbour, merged_or_new, put_new, mmap_region, first_index, populate, mmap}
use Rattle.linux_rules.specs.Munmap.{gather_vmas, remove}
use Rattle.linux_rules.specs.Searching.{GUARD, is_free, searched_place, fixed_place, get_unmapped_area}
use Rattle.linux_rules.specs.Brk.{brk_now, set_brk, heap_flags, next_begins_below, lower_brk, is_too_near, in_heap, raise_brk, move_brk, brk}
use Rattle.linux_beside.specs.InOrder.{AreInOrder}
use Rattle.linux_beside.proofs.RemovalLemmas.{removed}
use Rattle.linux_beside.proofs.LookUps.{IsOneOf}
use Rattle.linux_beside.proofs.MunmapLemmas.{IsGathered, gathered}
use Rattle.linux_beside.proofs.Merges.{HasRoom, merged_new, before_is, from_is}
use Rattle.linux_beside.proofs.Orderly.{tested, went_on, LeavesOne, one_refused, put_merged, hole, written_is, removed_order, IsClearOf, gathered_clear, clear_again}

-- the previous area as a neighbour is one of the list
neighbour_is : (kernel : Kernel) (prev next : Option Vma) (new : Vma) (areas : List Vma) → IfSome prev (λ v. IsOneOf 0 v areas)
    → IfSome (left_neighbour kernel prev next new) (λ v. IsOneOf 0 v areas)
unfolding old_left
neighbour_is kernel prev next new areas one = case kernel.rules.replaces_last (old prev next one)
  where
    may : (test : Bool) (v : Vma) → IsOneOf 0 v areas → IfSome (if test then Some v else None) (λ v. IsOneOf 0 v areas)
    may true v is = is
    may false v is = tt

    old : (prev next : Option Vma) → IfSome prev (λ v. IsOneOf 0 v areas) → IfSome (old_left kernel prev next new) (λ v. IsOneOf 0 v areas)
    old None next is = tt
    old (Some v) None is = is
    old (Some v) (Some right) is = may (not (merges_right kernel.rules right new None) || merges_left kernel.rules v (record new { anon = right.anon }) None) v is

    case : (test : Bool) → IfSome (old_left kernel prev next new) (λ v. IsOneOf 0 v areas)
        → IfSome (if test then prev else old_left kernel prev next new) (λ v. IsOneOf 0 v areas)
    case true is = one
    case false is = is

-- a new area where there is room
new_put : (kernel : Kernel) (new : Vma) (space : LinuxSpace) → HasRoom new.lo new.hi space.areas → LeavesOne (put_new kernel new space)
unfolding put_new
new_put kernel new space room = let prev = vma_before space.areas new.lo in let next = vma_from space.areas new.hi in
    put_merged new space.areas space (merge_new_range kernel.rules space.areas (left_neighbour kernel prev next new) next new None) room
    (merged_new kernel.rules new space.areas (left_neighbour kernel prev next new) next None room
    (neighbour_is kernel prev next new space.areas (before_is new.lo space.areas room.order)) (from_is new.hi space.areas room.order))

-- a new object changes no list
object_areas : (kernel : Kernel) (flags : VmFlags) (file pages : ℕ) (space : LinuxSpace) → (mapped_object kernel flags file pages space).space.areas ≡ space.areas
unfolding mapped_object
object_areas kernel flags file pages space = case (flags.shared && nat_eq file 0) (not flags.noreserve && lacks_memory kernel pages)
  where
    case : (shared lacks : Bool) → ((if shared then refuse_if lacks ENOMEM >> new_object kernel pages else done file) space).space.areas ≡ space.areas
    case true true = refl
    case true false = refl
    case false lacks = refl

-- mmap_region: what lies there goes, and a new area comes
region_is : (kernel : Kernel) (lo pages : ℕ) (flags : VmFlags) (file index : ℕ) (space : LinuxSpace) → 0 < pages → AreInOrder space.areas
    → LeavesOne (mmap_region kernel lo pages flags file index space)
unfolding mmap_region
region_is kernel lo pages flags file index space some order = after got.result refl
  where
    hi : ℕ
    hi = lo + pages

    got : Did (List Vma)
    got = gather_vmas kernel lo hi space

    is_got : IsGathered lo hi space got
    is_got = gathered kernel lo hi space (omega arith) order

    put : ℕ → Doing Vma
    put number = put_new kernel (record { lo = lo; hi = lo + pages; flags = record flags { account = is_accountable flags }; file = number; pgoff = index; anon = None })

    mapped : (space : LinuxSpace) → HasRoom lo hi space.areas → LeavesOne ((mapped_object kernel flags file pages >>= put) space)
    mapped space room = at did.result
      where
        did : Did ℕ
        did = mapped_object kernel flags file pages space

        has_room : HasRoom lo hi did.space.areas
        has_room = subst (λ (list : List Vma). HasRoom lo hi list) (sym (object_areas kernel flags file pages space)) room

        at : (r : Result ℕ ℕ) → LeavesOne (go_on did.space r put)
        at (Err error) = one_refused did.space error has_room.order
        at (Ok number) = new_put kernel (record { lo = lo; hi = lo + pages; flags = record flags { account = is_accountable flags }; file = number; pgoff = index; anon = None })
            did.space has_room

    charged : (gone : List Vma) (lacks : Bool) (space : LinuxSpace) → IsClearOf lo hi gone space.areas
        → LeavesOne ((refuse_if lacks ENOMEM >> (remove gone >> (mapped_object kernel flags file pages >>= put))) space)
    charged gone true space clear = one_refused space ENOMEM clear.order
    charged gone false space clear = mapped (record space { areas = removed gone space.areas }) clear.room

    early : (gone : List Vma) (last lacks : Bool) (space : LinuxSpace) → IsClearOf lo hi gone space.areas
        → LeavesOne (((if last then done tt else remove gone) >> (refuse_if lacks ENOMEM >> (remove gone >> (mapped_object kernel flags file pages >>= put)))) space)
    early gone true lacks space clear = charged gone lacks space clear
    early gone false lacks space clear = charged gone lacks (record space { areas = removed gone space.areas }) (clear_again lo hi gone space.areas clear)

    go : List Vma → Doing Vma
    go gone = (if kernel.rules.replaces_last then done tt else remove gone) >>
        (refuse_if (is_accountable flags && lacks_memory kernel (if kernel.rules.replaces_last then pages - accounted_pages gone else pages)) ENOMEM
        >> (remove gone >> (mapped_object kernel flags file pages >>= put)))

    after : (r : Result (List Vma) ℕ) → got.result ≡ r → LeavesOne (go_on got.space r go)
    after (Err error) is = one_refused got.space error is_got.order
    after (Ok gone) is = early gone kernel.rules.replaces_last
        (is_accountable flags && lacks_memory kernel (if kernel.rules.replaces_last then pages - accounted_pages gone else pages)) got.space
        (gathered_clear lo hi space got gone (omega arith) is_got is)

-- the tests of a mapping's flags change nothing
flags_keep : (args : MmapArgs) (file : Option FileRow) (flags : VmFlags) (space : LinuxSpace) → (flags_of args file flags space).space ≡ space
unfolding file_flags anonymous_flags
flags_keep args (Some file) flags space = case (overflows args) (not (asks args MAP_SHARED || asks args MAP_PRIVATE))
    (asks args MAP_SHARED && (asks args MAP_PRIVATE && asks args MAP_FIXED_NOREPLACE)) (asks args MAP_SHARED && (args.prot.write && not file.write))
    (not file.read) flags.growsdown
  where
    got : VmFlags
    got = if not (asks args MAP_SHARED) then flags else record flags {
      shared = file.write;
      mayshare = true;
      may = record { read = true; write = file.write; exec = true };
    }

    case : (a b c d e f : Bool) → ((refuse_if a EOVERFLOW >> (refuse_if b EINVAL >> (refuse_if c EOPNOTSUPP >> (refuse_if d EACCES >> (refuse_if e EACCES
        >> (refuse_if f EINVAL >> done got)))))) space).space ≡ space
    case true b c d e f = refl
    case false true c d e f = refl
    case false false true d e f = refl
    case false false false true e f = refl
    case false false false false true f = refl
    case false false false false false true = refl
    case false false false false false false = refl
flags_keep args None flags space = case (asks args MAP_SHARED) (asks args MAP_PRIVATE) flags.growsdown (not (asks args MAP_PRIVATE))
  where
    case : (shared private grows none : Bool) → ((if shared
        then refuse_if private EINVAL >> (refuse_if grows EINVAL >> done (record flags { shared = true; mayshare = true }))
        else refuse_if none EINVAL >> done flags) space).space ≡ space
    case true true grows none = refl
    case true false true none = refl
    case true false false none = refl
    case false private grows true = refl
    case false private grows false = refl

-- nor does the search
fixed_keeps : (kernel : Kernel) (pages addr : ℕ) (space : LinuxSpace) → (fixed_place kernel pages addr space).space ≡ space
unfolding fixed_place
fixed_keeps kernel pages addr space = case (nat_lt (2 ^ 64 - PAGE_SIZE) addr) (nat_lt (kernel.config.limit - pages * PAGE_SIZE) addr) (not (is_aligned addr))
  where
    case : (a b c : Bool) → ((refuse_if a (2 ^ 64 - addr) >> (refuse_if b ENOMEM >> (refuse_if c EINVAL >> done (addr / PAGE_SIZE)))) space).space ≡ space
    case true b c = refl
    case false true c = refl
    case false false true = refl
    case false false false = refl

pub place_keeps : (kernel : Kernel) (addr pages : ℕ) (fixed : Bool) (index : ℕ) (is_file is_shared : Bool) (space : LinuxSpace)
    → (get_unmapped_area kernel addr pages fixed index is_file is_shared space).space ≡ space
unfolding get_unmapped_area
place_keeps kernel addr pages fixed index is_file is_shared space = case (nat_lt (kernel.config.limit / PAGE_SIZE) pages)
  where
    low : ℕ → Doing ℕ
    low place = refuse_if (nat_lt place (kernel.config.min / PAGE_SIZE)) EPERM >> done place

    last : (place : ℕ) (test : Bool) (after : LinuxSpace) → ((refuse_if test EPERM >> done place) after).space ≡ after
    last place true after = refl
    last place false after = refl

    on : (did : Did ℕ) → did.space ≡ space → (r : Result ℕ ℕ) → (go_on did.space r low).space ≡ space
    on did same (Err error) = same
    on did same (Ok place) = let kept = last place (nat_lt place (kernel.config.min / PAGE_SIZE)) did.space in cc

    look : Doing ℕ
    look = areas_now >>= (λ areas. (if fixed then fixed_place kernel pages addr
        else or_refuse (searched_place kernel areas pages (addr / PAGE_SIZE) index is_file is_shared) ENOMEM) >>= low)

    found : (o : Option ℕ) → (or_refuse o ENOMEM space).space ≡ space
    found None = refl
    found (Some place) = refl

    either : (test : Bool) → ((if test then fixed_place kernel pages addr
        else or_refuse (searched_place kernel space.areas pages (addr / PAGE_SIZE) index is_file is_shared) ENOMEM) space).space ≡ space
    either true = fixed_keeps kernel pages addr space
    either false = found (searched_place kernel space.areas pages (addr / PAGE_SIZE) index is_file is_shared)

    place : Did ℕ
    place = (if fixed then fixed_place kernel pages addr
        else or_refuse (searched_place kernel space.areas pages (addr / PAGE_SIZE) index is_file is_shared) ENOMEM) space

    case : (test : Bool) → ((refuse_if test ENOMEM >> look) space).space ≡ space
    case true = refl
    case false = on place (either fixed) place.result

-- what mmap does with its place and its flags
abbrev pub mapped_at : Kernel → MmapArgs → ℕ → VmFlags → Doing ℕ
mapped_at kernel args start flags = mmap_region kernel start (pages_of args.len) flags (file_number kernel args) (first_index (file_of_call kernel args) args start)
    >>= (λ vma. populate args flags vma >>= (λ written. done (PAGE_SIZE * start)))

abbrev pub flagged_at : Kernel → MmapArgs → List Vma → ℕ → Doing ℕ
flagged_at kernel args areas start = refuse_if (asks args MAP_FIXED_NOREPLACE && not (is_free areas (pages_of args.len) start)) EEXIST
    >> (flags_of args (file_of_call kernel args) (common_flags kernel args) >>= mapped_at kernel args start)

abbrev pub placed_in : Kernel → MmapArgs → List Vma → Doing ℕ
placed_in kernel args areas = refuse_if (nat_lt kernel.config.areas (length areas)) ENOMEM
    >> (get_unmapped_area kernel (address_of kernel args) (pages_of args.len) (is_fixed args) (args.offset / PAGE_SIZE)
    (is_some (file_of_call kernel args)) (asks args MAP_SHARED) >>= flagged_at kernel args areas)

mapped_order : (kernel : Kernel) (args : MmapArgs) (start : ℕ) (flags : VmFlags) (space : LinuxSpace) → 0 < pages_of args.len → AreInOrder space.areas
    → AreInOrder (mapped_at kernel args start flags space).space.areas
mapped_order kernel args start flags space some order = went_on did.space did.result filled is_region.order (λ vma same. fills vma same)
  where
    did : Did Vma
    did = mmap_region kernel start (pages_of args.len) flags (file_number kernel args) (first_index (file_of_call kernel args) args start) space

    is_region : LeavesOne did
    is_region = region_is kernel start (pages_of args.len) flags (file_number kernel args) (first_index (file_of_call kernel args) args start) space some order

    filled : Vma → Doing ℕ
    filled vma = populate args flags vma >>= (λ written. done (PAGE_SIZE * start))

    at : (written : Did Vma) → AreInOrder written.space.areas → (r : Result Vma ℕ) → AreInOrder (go_on written.space r (λ vma. done (PAGE_SIZE * start))).space.areas
    at written is (Err error) = is
    at written is (Ok vma) = is

    wanted : (test : Bool) (vma : Vma) → IsOneOf 0 vma did.space.areas → AreInOrder ((if test then anon_vma_prepare vma else done vma) did.space).space.areas
    wanted true vma one = (written_is vma did.space is_region.order one).order
    wanted false vma one = is_region.order

    fills : (vma : Vma) → did.result ≡ Ok vma → AreInOrder (filled vma did.space).space.areas
    fills vma same = let written = populate args flags vma did.space in
        at written (wanted (asks args MAP_POPULATE && (flags.access.write && not flags.shared)) vma (is_region.one vma same)) written.result

pub mmap_order : (kernel : Kernel) (space : LinuxSpace) (args : MmapArgs) → AreInOrder space.areas → AreInOrder (mmap kernel args space).space.areas
unfolding mmap
mmap_order kernel space args order =
    tested (not (is_aligned args.offset)) EINVAL second space order (λ a.
    tested (not (asks args MAP_ANONYMOUS) && is_none (file_of_call kernel args)) EBADF third space order (λ b.
    tested (nat_eq args.len 0) EINVAL fourth space order (λ c.
    tested (nat_eq (pages_of args.len) 0) ENOMEM (areas_now >>= placed_in kernel args) space order (λ none.
    tested (nat_lt kernel.config.areas (length space.areas)) ENOMEM search space order (λ e.
    went_on did.space did.result (flagged_at kernel args space.areas) (subst (λ (s : LinuxSpace). AreInOrder s.areas) (sym kept) order) (λ start is.
    subst (λ (s : LinuxSpace). AreInOrder (flagged_at kernel args space.areas start s).space.areas) (sym kept) (at start (grind (arith, nat_tests)))))))))
  where
    search : Doing ℕ
    search = get_unmapped_area kernel (address_of kernel args) (pages_of args.len) (is_fixed args) (args.offset / PAGE_SIZE)
        (is_some (file_of_call kernel args)) (asks args MAP_SHARED) >>= flagged_at kernel args space.areas

    did : Did ℕ
    did = get_unmapped_area kernel (address_of kernel args) (pages_of args.len) (is_fixed args) (args.offset / PAGE_SIZE)
        (is_some (file_of_call kernel args)) (asks args MAP_SHARED) space

    kept : did.space ≡ space
    kept = place_keeps kernel (address_of kernel args) (pages_of args.len) (is_fixed args) (args.offset / PAGE_SIZE)
        (is_some (file_of_call kernel args)) (asks args MAP_SHARED) space

    flagged : Did VmFlags
    flagged = flags_of args (file_of_call kernel args) (common_flags kernel args) space

    is_flagged : flagged.space ≡ space
    is_flagged = flags_keep args (file_of_call kernel args) (common_flags kernel args) space

    at : (start : ℕ) → 0 < pages_of args.len → AreInOrder (flagged_at kernel args space.areas start space).space.areas
    at start some = tested (asks args MAP_FIXED_NOREPLACE && not (is_free space.areas (pages_of args.len) start)) EEXIST
        (flags_of args (file_of_call kernel args) (common_flags kernel args) >>= mapped_at kernel args start) space order (λ free.
        went_on flagged.space flagged.result (mapped_at kernel args start) (subst (λ (s : LinuxSpace). AreInOrder s.areas) (sym is_flagged) order) (λ flags is.
        subst (λ (s : LinuxSpace). AreInOrder (mapped_at kernel args start flags s).space.areas) (sym is_flagged)
        (mapped_order kernel args start flags space some order)))

    fourth : Doing ℕ
    fourth = refuse_if (nat_eq (pages_of args.len) 0) ENOMEM >> (areas_now >>= placed_in kernel args)

    third : Doing ℕ
    third = refuse_if (nat_eq args.len 0) EINVAL >> fourth

    second : Doing ℕ
    second = refuse_if (not (asks args MAP_ANONYMOUS) && is_none (file_of_call kernel args)) EBADF >> third

-- brk, downwards
lowered_order : (kernel : Kernel) (address old new : ℕ) (space : LinuxSpace) → AreInOrder space.areas → AreInOrder (lower_brk kernel address old new space).space.areas
unfolding lower_brk
lowered_order kernel address old new space order =
    tested (not (next_begins_below old (find_vma space.areas new))) ENOMEM (gather_vmas kernel new old >>= go) space order (λ reaches.
    went_on did.space did.result go (is_got reaches).order (λ gone is. removed_order gone did.space.areas (is_got reaches).order))
  where
    go : List Vma → Doing Unit
    go gone = remove gone >> set_brk address

    did : Did (List Vma)
    did = gather_vmas kernel new old space

    some : (found : Option Vma) → not (next_begins_below old found) ≡ false → 0 < old
    some None is = absurd (cc)
    some (Some vma) is = above vma.lo (nat_lt vma.lo old) refl is
      where
        above : (lo : ℕ) (test : Bool) → nat_lt lo old ≡ test → not test ≡ false → 0 < old
        above lo true is met = grind (arith, nat_tests)
        above lo false is met = absurd (cc)

    is_got : not (next_begins_below old (find_vma space.areas new)) ≡ false → IsGathered new old space did
    is_got reaches = gathered kernel new old space (some (find_vma space.areas new) reaches) order

-- a fixed place lies within user memory
fits : (kernel : Kernel) (addr pages place : ℕ) (space : LinuxSpace) → (get_unmapped_area kernel addr pages true 0 false false space).result ≡ Ok place
    → addr ≤ kernel.config.limit - pages * PAGE_SIZE
unfolding get_unmapped_area fixed_place
fits kernel addr pages place space is = case (nat_lt (kernel.config.limit / PAGE_SIZE) pages) (nat_lt (2 ^ 64 - PAGE_SIZE) addr)
    (nat_lt (kernel.config.limit - pages * PAGE_SIZE) addr) refl is
  where
    low : ℕ → Doing ℕ
    low place = refuse_if (nat_lt place (kernel.config.min / PAGE_SIZE)) EPERM >> done place

    case : (a b c : Bool) → nat_lt (kernel.config.limit - pages * PAGE_SIZE) addr ≡ c → ((refuse_if a ENOMEM >> (areas_now >>= (λ areas.
        (refuse_if b (2 ^ 64 - addr) >> (refuse_if c ENOMEM >> (refuse_if (not (is_aligned addr)) EINVAL >> done (addr / PAGE_SIZE)))) >>= low))) space).result ≡ Ok place
        → addr ≤ kernel.config.limit - pages * PAGE_SIZE
    case true b c fits is = absurd (cc)
    case false true c fits is = absurd (cc)
    case false false true fits is = absurd (cc)
    case false false false fits is = grind (arith, nat_tests)

-- a length has fewer pages than there are
few_pages : (len : ℕ) → pages_of len < 2 ^ 52
unfolding pages_of
few_pages len = omega arith

-- so the break that grows doesn't wrap
rises : (limit old new : ℕ) → limit < 2 ^ 64 → old < 2 ^ 52 → new < 2 ^ 52 → nat_eq old new ≡ false
    → PAGE_SIZE * old ≤ limit - (new + 2 ^ 52 - old) % 2 ^ 52 * PAGE_SIZE → old < new
rises limit old new small a b other fits = case (nat_lt old new) refl
  where
    case : (test : Bool) → nat_lt old new ≡ test → old < new
    case true is = grind (arith, nat_tests)
    case false is = let less : new < old = grind (arith, nat_tests) in absurd (wraps less)
      where
        wraps : new < old → ⊥
        wraps less = let whole : (new + 2 ^ 52 - old) % 2 ^ 52 ≡ new + 2 ^ 52 - old = omega arith in
            let fit : PAGE_SIZE * old ≤ limit - (new + 2 ^ 52 - old) * PAGE_SIZE = rw whole at fits in omega arith

-- whether the next area is far enough
far : (new : ℕ) (above : Option Vma) → is_too_near new above ≡ false → IfSome above (λ v. new < v.lo)
far new None is = tt
far new (Some v) is = gap v.flags.growsdown is
  where
    gap : (grows : Bool) → (nat_lt v.lo (new + 1 + GUARD) && nat_lt (if grows then v.lo - GUARD else v.lo) (new + 1)) ≡ false → new < v.lo
    gap true is = grind (arith, nat_tests)
    gap false is = grind (arith, nat_tests)

-- brk, upwards
raised_order : (kernel : Kernel) (address old new : ℕ) (space : LinuxSpace) → kernel.config.limit < 2 ^ 64 → old < 2 ^ 52 → new < 2 ^ 52
    → nat_eq old new ≡ false → AreInOrder space.areas → AreInOrder (raise_brk kernel address old new space).space.areas
unfolding raise_brk
raised_order kernel address old new space small few fewer other order =
    went_on did.space did.result (λ place. grow) (subst (λ (s : LinuxSpace). AreInOrder s.areas) (sym kept) order) (λ place is.
    subst (λ (s : LinuxSpace). AreInOrder (grow s).space.areas) (sym kept) (grown (rises kernel.config.limit old new small few fewer other
    (fits kernel (PAGE_SIZE * old) ((new + 2 ^ 52 - old) % 2 ^ 52) place space is))))
  where
    heap : Vma
    heap = record { lo = old; hi = new; flags = heap_flags; file = 0; pgoff = old; anon = None }

    did : Did ℕ
    did = get_unmapped_area kernel (PAGE_SIZE * old) ((new + 2 ^ 52 - old) % 2 ^ 52) true 0 false false space

    kept : did.space ≡ space
    kept = place_keeps kernel (PAGE_SIZE * old) ((new + 2 ^ 52 - old) % 2 ^ 52) true 0 false false space

    put : List Vma → Doing Unit
    put areas = merged_or_new heap areas (merge_new_range kernel.rules areas (in_heap kernel (vma_before areas old)) None heap None) >>= (λ vma. set_brk address)

    tests : List Vma → Doing Unit
    tests areas = refuse_if (is_too_near new (find_vma areas old)) ENOMEM
        >> (refuse_if (nat_lt kernel.config.areas (length areas) || lacks_memory kernel (new - old)) ENOMEM >> put areas)

    grow : Doing Unit
    grow = areas_now >>= tests

    below : (o : Option Vma) → IfSome o (λ v. IsOneOf 0 v space.areas) → IfSome (in_heap kernel o) (λ v. IsOneOf 0 v space.areas)
    below None is = tt
    below (Some v) is = at (nat_le (PAGE_SIZE * v.hi) kernel.config.heap)
      where
        at : (test : Bool) → IfSome (if test then None else Some v) (λ v. IsOneOf 0 v space.areas)
        at true = tt
        at false = is

    has_room : old < new → is_too_near new (find_vma space.areas old) ≡ false → HasRoom old new space.areas
    has_room some near = record {
      order = order;
      some = some;
      free = λ page from under. hole 0 old page space.areas order from (lower (find_vma space.areas old) page under (far new (find_vma space.areas old) near));
    }
      where
        lower : (o : Option Vma) (page : ℕ) → page < new → IfSome o (λ v. new < v.lo) → IfSome o (λ v. page < v.lo)
        lower None page under is = tt
        lower (Some v) page under is = omega arith

    grown : old < new → AreInOrder (grow space).space.areas
    grown some = tested (is_too_near new (find_vma space.areas old)) ENOMEM
        (refuse_if (nat_lt kernel.config.areas (length space.areas) || lacks_memory kernel (new - old)) ENOMEM >> put space.areas) space order (λ near.
        tested (nat_lt kernel.config.areas (length space.areas) || lacks_memory kernel (new - old)) ENOMEM (put space.areas) space order (λ few.
        let merged = merge_new_range kernel.rules space.areas (in_heap kernel (vma_before space.areas old)) None heap None in
        let room = has_room some near in
        let one = put_merged heap space.areas space merged room
        (merged_new kernel.rules heap space.areas (in_heap kernel (vma_before space.areas old)) None None room (below (vma_before space.areas old) (before_is old space.areas order)) tt) in
        let last = merged_or_new heap space.areas merged space in
        went_on last.space last.result (λ vma. set_brk address) one.order (λ vma is. one.order)))

moved_order : (kernel : Kernel) (address before : ℕ) (space : LinuxSpace) → kernel.config.limit < 2 ^ 64 → AreInOrder space.areas
    → AreInOrder (move_brk kernel address before space).space.areas
unfolding move_brk
moved_order kernel address before space small order = case (nat_lt address kernel.config.heap) (nat_eq (pages_of before) (pages_of address)) (nat_le address before) refl
  where
    case : (under same down : Bool) → nat_eq (pages_of before) (pages_of address) ≡ same
        → AreInOrder ((if under then done tt else (if same then set_brk address else (if down then lower_brk kernel address (pages_of before) (pages_of address)
        else raise_brk kernel address (pages_of before) (pages_of address)))) space).space.areas
    case true same down is = order
    case false true down is = order
    case false false true is = lowered_order kernel address (pages_of before) (pages_of address) space order
    case false false false is = raised_order kernel address (pages_of before) (pages_of address) space small (few_pages before) (few_pages address) is order

pub brk_order : (kernel : Kernel) (space : LinuxSpace) (address : ℕ) → kernel.config.limit < 2 ^ 64 → AreInOrder space.areas
    → AreInOrder (brk kernel address space).space.areas
unfolding brk
brk_order kernel space address small order = at did.result
  where
    did : Did Unit
    did = move_brk kernel address space.brk space

    at : (r : Result Unit ℕ) → AreInOrder (go_on (caught_as did.space r).space (caught_as did.space r).result (λ moved. brk_now)).space.areas
    at (Ok value) = moved_order kernel address space.brk space small order
    at (Err error) = moved_order kernel address space.brk space small order
