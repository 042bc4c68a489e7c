-- mprotect(2), area by area: mm/mprotect.c.
use Rattle.std.specs.Prelude.{ℕ, zero, suc, ◌+◌, ◌-◌, ◌*◌, ◌/◌, ◌%◌, ◌^◌, min, max, Bool, not, ◌&&◌, ◌||◌, if◌then◌else◌, nat_eq, nat_lt, nat_le, Option, Some, None, is_none}
use Rattle.mm_types.specs.declared.area.Prot.{Prot}
use Rattle.mm_types.specs.declared.config.TheConstants.{PAGE_SIZE}
use Rattle.mm_types.specs.Records.{holds_all}
use Rattle.linux_rules.specs.declared.area.Vma.{Vma}
use Rattle.linux_rules.specs.declared.area.VmFlags.{VmFlags}
use Rattle.linux_rules.specs.declared.errors.TheConstants.{EPERM, ENOMEM, EACCES, EINVAL}
use Rattle.linux_rules.specs.declared.kernel.Kernel.{Kernel}
use Rattle.linux_rules.specs.Accounts.{lacks_memory}
use Rattle.linux_rules.specs.Areas.{vma_lookup, vma_before, replaced, split_vma, is_aligned, pages_of}
use Rattle.linux_rules.specs.Doing.{Doing, ◌>>=◌, ◌>>◌, done, refuse_if, or_refuse, areas_now, set_areas}
use Rattle.linux_rules.specs.Merging.{Merged, merge_existing_range, same_flags}

-- vma_modify: split_vma where the range begins, unless the area begins there; returns the upper part
abbrev pub cut_below : Kernel → Vma → ℕ → Doing Vma
cut_below kernel vma lo = if nat_lt vma.lo lo then split_vma kernel vma lo else done vma

-- vma_modify: split_vma where the range ends, unless the area ends there; returns the lower part
abbrev pub cut_above : Kernel → Vma → ℕ → Doing Vma
cut_above kernel vma hi = if nat_lt hi vma.hi then (do
  upper ← split_vma kernel vma hi
  done (record vma { hi = hi })) else done vma

-- vma_modify: a range of an area becomes an area of its own, with these flags. If the second split meets the limit, the first one stays.
unfoldable pub split_off : Kernel → Vma → ℕ → ℕ → VmFlags → Doing Vma
split_off kernel vma lo hi flags = do
  middle ← cut_below kernel vma lo
  part ← cut_above kernel middle hi
  areas ← areas_now
  set_areas (replaced part (record part { flags = flags }) areas)
  done (record part { flags = flags })

-- what a merge left, or else the range on its own
abbrev pub merged_or : Option Merged → Doing Vma → Doing Vma
merged_or (Some merged) split = do
  set_areas merged.areas
  done merged.vma
merged_or None split = split

-- vma_modify_flags, and the flags that its caller then sets: a range of an area joins its neighbours, or is split off
unfoldable pub modify_flags : Kernel → Vma → ℕ → ℕ → VmFlags → Doing Vma
modify_flags kernel vma lo hi flags = do
  areas ← areas_now
  merged_or (merge_existing_range kernel.rules areas (vma_before areas lo) vma lo hi flags) (split_off kernel vma lo hi flags)

-- arch_override_mprotect_pkey: memory that may only be executed gets a protection key, where the processor has them
abbrev pub key_of : Kernel → Prot → Bool
key_of kernel prot = kernel.machine.has_keys && (prot.exec && not (prot.read || prot.write))

-- mprotect_fixup: private memory that becomes writable is accounted from then on
abbrev pub becomes_accounted : VmFlags → Prot → Bool
becomes_accounted flags prot = prot.write && not (flags.account || (flags.access.write || (flags.shared || flags.noreserve)))

-- mprotect_fixup: whether the account stays. After 6.1, anonymous memory that was never written loses it when it becomes unwritable.
abbrev pub stays_accounted : Kernel → Vma → Prot → Bool
stays_accounted kernel vma prot = vma.flags.account && (prot.write || not (kernel.rules.unaccounts && (nat_eq vma.file 0 && is_none vma.anon)))

-- the flags of an area with another protection
unfoldable pub flags_with : Kernel → Vma → Prot → VmFlags
flags_with kernel vma prot = record (vma.flags) {
  access = prot;
  pkey = key_of kernel prot;
  account = becomes_accounted vma.flags prot || stays_accounted kernel vma prot;
}

-- mprotect_fixup: whether the protection leaves the flags as they are
abbrev pub changes_nothing : Kernel → Vma → Prot → Bool
changes_nothing kernel vma prot = same_flags vma.flags (record (vma.flags) { access = prot; pkey = key_of kernel prot })

-- mprotect_fixup: a range of one area
unfoldable pub mprotect_fixup : Kernel → Prot → Vma → ℕ → ℕ → Doing Vma
mprotect_fixup kernel prot vma lo hi = do
  refuse_if vma.flags.sealed EPERM
  if changes_nothing kernel vma prot then done vma else do
    refuse_if (becomes_accounted vma.flags prot && lacks_memory kernel (hi - lo)) ENOMEM
    modify_flags kernel vma lo hi (flags_with kernel vma prot)

-- do_mprotect_pkey, its loop: area by area from a page up to the end. A hole, a denied right or a seal ends it, and the areas before stay
-- changed. It takes at most as many rounds as the range has pages.
unfoldable pub mprotect_from : Kernel → Prot → ℕ → ℕ → ℕ → Doing Unit
mprotect_from kernel prot end zero page = done tt
mprotect_from kernel prot end (suc rounds) page = if nat_le end page then done tt else do
  areas ← areas_now
  vma ← or_refuse (vma_lookup areas page) ENOMEM
  refuse_if (not (holds_all vma.flags.may prot)) EACCES
  last ← mprotect_fixup kernel prot vma page (min vma.hi end)
  mprotect_from kernel prot end rounds (max (min vma.hi end) last.hi)

-- the page at which a range ends, in 64 bits
abbrev pub end_page : ℕ → ℕ → ℕ
end_page addr len = (addr + PAGE_SIZE * pages_of len) % 2 ^ 64 / PAGE_SIZE

-- do_mprotect_pkey: mprotect of a range in bytes
unfoldable pub mprotect : Kernel → ℕ → ℕ → Prot → Doing Unit
mprotect kernel addr len prot = do
  refuse_if (not (is_aligned addr)) EINVAL
  if nat_eq len 0 then done tt else do
    refuse_if (nat_le (end_page addr len) (addr / PAGE_SIZE)) ENOMEM
    mprotect_from kernel prot (end_page addr len) (end_page addr len - addr / PAGE_SIZE) (addr / PAGE_SIZE)
