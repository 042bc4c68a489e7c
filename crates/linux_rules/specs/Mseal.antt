-- mseal(2), area by area: mm/mseal.c.
use Rattle.std.specs.Prelude.{ℕ, zero, suc, ◌/◌, min, max, Bool, true, false, not, ◌&&◌, ◌||◌, if◌then◌else◌, nat_eq, nat_lt, nat_le, List, Some, None}
use Rattle.mm_types.specs.declared.config.TheConstants.{PAGE_SIZE}
use Rattle.linux_rules.specs.declared.area.Vma.{Vma}
use Rattle.linux_rules.specs.declared.area.VmFlags.{VmFlags}
use Rattle.linux_rules.specs.declared.errors.TheConstants.{ENOMEM, EINVAL, ENOSYS}
use Rattle.linux_rules.specs.declared.kernel.Kernel.{Kernel}
use Rattle.linux_rules.specs.Areas.{vma_lookup, is_aligned, pages_of}
use Rattle.linux_rules.specs.Doing.{Doing, ◌>>=◌, ◌>>◌, done, refuse_if, or_refuse, areas_now}
use Rattle.linux_rules.specs.Mprotect.{modify_flags, split_off, end_page}

-- range_contains_unmapped (check_mm_seal): whether each page of the range is mapped, in at most as many rounds as there are pages
unfoldable pub is_mapped : List Vma → ℕ → ℕ → ℕ → Bool
is_mapped areas end zero page = nat_le end page
is_mapped areas end (suc rounds) page = if nat_le end page then true
    else elim (vma_lookup areas page) as (λ found. Bool) [ None ↦ false | Some vma ↦ is_mapped areas end rounds vma.hi ]

-- the flags of an area once it is sealed
abbrev pub sealed_flags : Vma → VmFlags
sealed_flags vma = record (vma.flags) { sealed = true }

-- mseal_apply: an area that isn't sealed yet is sealed from an address up to another, and may join its neighbours. An address that lies
-- below the area is a stale one: then it joins nothing.
unfoldable pub seal_one : Kernel → Vma → ℕ → ℕ → Doing Vma
seal_one kernel vma begin stop = if vma.flags.sealed then done vma
    else (if nat_le vma.lo begin then modify_flags kernel vma begin stop (sealed_flags vma)
    else split_off kernel vma vma.lo stop (sealed_flags vma))

-- where the next area is sealed from: its begin; in 6.17 up to 6.18.15 (mm/mseal.c) where the last one ended before it was merged
abbrev pub next_begin : Kernel → (fresh stale : ℕ) → ℕ
next_begin kernel fresh stale = if kernel.rules.has_stale_seal then stale else fresh

-- mseal_apply: area by area from a page up to the end, in at most as many rounds as there are pages
unfoldable pub mseal_from : Kernel → ℕ → ℕ → (page begin : ℕ) → Doing Unit
mseal_from kernel end zero page begin = done tt
mseal_from kernel end (suc rounds) page begin = if nat_le end page then done tt else do
  areas ← areas_now
  vma ← or_refuse (vma_lookup areas page) ENOMEM
  last ← seal_one kernel vma begin (min vma.hi end)
  let next = max (min vma.hi end) last.hi in mseal_from kernel end rounds next (next_begin kernel next (min vma.hi end))

-- do_mseal, since 6.10
unfoldable pub mseal : Kernel → ℕ → ℕ → ℕ → Doing Unit
mseal kernel addr len flags = do
  refuse_if (not kernel.rules.has_mseal) ENOSYS
  refuse_if (not (nat_eq flags 0) || not (is_aligned addr)) EINVAL
  refuse_if (not (nat_eq len 0) && nat_eq (pages_of len) 0) EINVAL
  refuse_if (nat_lt (end_page addr len) (addr / PAGE_SIZE)) EINVAL
  areas ← areas_now
  refuse_if (not (is_mapped areas (end_page addr len) (pages_of len) (addr / PAGE_SIZE))) ENOMEM
  mseal_from kernel (end_page addr len) (pages_of len) (addr / PAGE_SIZE) (addr / PAGE_SIZE)
