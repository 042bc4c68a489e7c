-- Areas in a list, by address, and the few ways in which the kernel changes one.
use Rattle.std.specs.Prelude.{ℕ, ◌+◌, ◌-◌, ◌/◌, ◌%◌, ◌^◌, Bool, not, ◌&&◌, if◌then◌else◌, nat_eq, nat_lt, nat_le, List, [], ◌∷◌, length, filter, find, Option, None}
use Rattle.std.specs.List.{last_or}
use Rattle.mm_types.specs.declared.config.TheConstants.{PAGE_SIZE}
use Rattle.linux_rules.specs.declared.area.Vma.{Vma}
use Rattle.linux_rules.specs.declared.errors.TheConstants.{ENOMEM}
use Rattle.linux_rules.specs.declared.kernel.Kernel.{Kernel}
use Rattle.linux_rules.specs.Doing.{Doing, ◌>>=◌, ◌>>◌, done, refuse_if, areas_now, set_areas}

-- find_vma: the first area that ends above a page
abbrev pub find_vma : List Vma → ℕ → Option Vma
find_vma areas page = find (λ vma. nat_lt page vma.hi) areas

-- vma_lookup: the area that has a page
abbrev pub vma_lookup : List Vma → ℕ → Option Vma
vma_lookup areas page = find (λ vma. nat_le vma.lo page && nat_lt page vma.hi) areas

-- vma_prev of an iterator: the last area that begins below a page
abbrev pub vma_before : List Vma → ℕ → Option Vma
vma_before areas page = last_or None (filter (λ vma. nat_lt vma.lo page) areas)

-- vma_next of an iterator: the first area that begins at a page or above
abbrev pub vma_from : List Vma → ℕ → Option Vma
vma_from areas page = find (λ vma. nat_le page vma.lo) areas

-- for_each_vma_range: the areas with a page in a range
abbrev pub vmas_in : List Vma → ℕ → ℕ → List Vma
vmas_in areas lo hi = filter (λ vma. nat_lt vma.lo hi && nat_lt lo vma.hi) areas

-- vma_iter_clear: the list without the area that begins at a page
abbrev pub without_vma : ℕ → List Vma → List Vma
without_vma page areas = filter (λ vma. not (nat_eq vma.lo page)) areas

-- vma_iter_store: the list with one more area, in its place
abbrev pub with_vma : Vma → List Vma → List Vma
with_vma vma [] = vma ∷ []
with_vma vma (first ∷ areas) = if nat_lt first.lo vma.lo then first ∷ with_vma vma areas else vma ∷ first ∷ areas

-- the list with another area in the place of one
abbrev pub replaced : Vma → Vma → List Vma → List Vma
replaced old new areas = with_vma new (without_vma old.lo areas)

-- the part of an area below a page
abbrev pub lower_part : Vma → ℕ → Vma
lower_part vma page = record vma { hi = page }

-- the part of an area from a page on
abbrev pub upper_part : Vma → ℕ → Vma
upper_part vma page = record vma { lo = page; pgoff = vma.pgoff + (page - vma.lo) }

-- PAGE_ALIGN: a length as whole pages, in 64 bits
unfoldable pub pages_of : ℕ → ℕ
pages_of len = (len + (PAGE_SIZE - 1)) % 2 ^ 64 / PAGE_SIZE

-- whether an address is a multiple of the page size (offset_in_page is 0)
abbrev pub is_aligned : ℕ → Bool
is_aligned address = nat_eq (address % PAGE_SIZE) 0

-- __split_vma: an area becomes two at a page. The upper one is returned.
abbrev pub split_at : Vma → ℕ → Doing Vma
split_at vma page = do
  areas ← areas_now
  set_areas (with_vma (upper_part vma page) (replaced vma (lower_part vma page) areas))
  done (upper_part vma page)

-- whether there are as many areas as there may be: map_count >= sysctl_max_map_count
abbrev pub at_limit : Kernel → List Vma → Bool
at_limit kernel areas = nat_le kernel.config.areas (length areas)

-- split_vma: the same, or ENOMEM at the limit
abbrev pub split_vma : Kernel → Vma → ℕ → Doing Vma
split_vma kernel vma page = do
  areas ← areas_now
  refuse_if (at_limit kernel areas) ENOMEM
  split_at vma page
