-- munmap(2): mm/vma.c (mm/mmap.c up to 6.10).
use Rattle.std.specs.Prelude.{ℕ, ◌+◌, ◌-◌, ◌/◌, Bool, not, ◌&&◌, ◌||◌, if◌then◌else◌, nat_eq, nat_lt, nat_le, List, fold, Option, Some, None}
use Rattle.std.specs.List.{list_any}
use Rattle.mm_types.specs.declared.config.TheConstants.{PAGE_SIZE}
use Rattle.linux_rules.specs.declared.area.Vma.{Vma}
use Rattle.linux_rules.specs.declared.errors.TheConstants.{EPERM, ENOMEM, EINVAL}
use Rattle.linux_rules.specs.declared.kernel.Kernel.{Kernel}
use Rattle.linux_rules.specs.Areas.{vma_lookup, vmas_in, without_vma, split_at, at_limit, is_aligned, pages_of}
use Rattle.linux_rules.specs.Doing.{Doing, ◌>>=◌, ◌>>◌, done, refuse_if, areas_now, set_areas}

-- vms_gather_munmap_vmas: the first area is split where the range begins inside it. A hole in the middle of an area makes two of it, so it is
-- refused at the limit. The seal is tested before the split.
unfoldable pub split_first : Kernel → ℕ → ℕ → Vma → Doing Unit
split_first kernel lo hi first = if nat_le lo first.lo then done tt else do
  areas ← areas_now
  refuse_if (nat_lt hi first.hi && at_limit kernel areas) ENOMEM
  refuse_if first.flags.sealed EPERM
  upper ← split_at first lo
  done tt

-- vms_gather_munmap_vmas: the last area is split where the range ends inside it
unfoldable pub split_last : ℕ → Vma → Doing Unit
split_last hi last = if nat_le last.hi hi then done tt else do
  upper ← split_at last hi
  done tt

-- a change of an area, where there is one
abbrev pub to_each : (Vma → Doing Unit) → Option Vma → Doing Unit
to_each change None = done tt
to_each change (Some vma) = change vma

-- vms_gather_munmap_vmas: the areas that a range is to lose, split off at its ends. A sealed area ends it with EPERM when it is reached, and
-- the split below stays.
unfoldable pub gather_vmas : Kernel → ℕ → ℕ → Doing (List Vma)
gather_vmas kernel lo hi = do
  areas ← areas_now
  to_each (split_first kernel lo hi) (vma_lookup areas lo)
  areas ← areas_now
  refuse_if (list_any (λ vma. vma.flags.sealed) (vmas_in areas lo hi)) EPERM
  to_each (split_last hi) (vma_lookup areas (hi - 1))
  areas ← areas_now
  done (vmas_in areas lo hi)

-- vms_complete_munmap_vmas: these areas are removed
abbrev pub remove : List Vma → Doing Unit
remove gone = do
  areas ← areas_now
  set_areas (fold (λ areas vma. without_vma vma.lo areas) areas gone)

-- do_vmi_munmap, its first tests: a range that isn't aligned, is empty, or passes the end of user memory
unfoldable pub is_bad_range : Kernel → ℕ → ℕ → Bool
is_bad_range kernel addr len = not (is_aligned addr) || (nat_lt kernel.config.limit addr || (nat_lt (kernel.config.limit - addr) len || nat_eq (pages_of len) 0))

-- do_vmi_munmap: munmap of a range in bytes
unfoldable pub munmap : Kernel → ℕ → ℕ → Doing Unit
munmap kernel addr len = do
  refuse_if (is_bad_range kernel addr len) EINVAL
  gone ← gather_vmas kernel (addr / PAGE_SIZE) (addr / PAGE_SIZE + pages_of len)
  remove gone
