-- Which areas merge, and how: mm/vma.c (mm/mmap.c up to 6.10).
use mathlib.Core.Bool.{beq as same}
use Rattle.std.specs.Prelude.{ℕ, ◌+◌, ◌-◌, Bool, true, false, not, ◌&&◌, ◌||◌, if◌then◌else◌, nat_eq, List, Option, Some, None, is_none, is_some}
use Rattle.std.specs.Option.{option_map_or, option_or}
use Rattle.mm_types.specs.declared.area.Prot.{Prot}
use Rattle.linux_rules.specs.declared.area.AnonVma.{AnonVma}
use Rattle.linux_rules.specs.declared.area.Vma.{Vma}
use Rattle.linux_rules.specs.declared.area.VmFlags.{VmFlags}
use Rattle.linux_rules.specs.declared.kernel.Rules.{Rules}
use Rattle.linux_rules.specs.Areas.{vma_from, without_vma, replaced, with_vma, lower_part, upper_part}

-- whether two have the same access rights
abbrev pub same_prot : Prot → Prot → Bool
same_prot a b = same a.read b.read && (same a.write b.write && same a.exec b.exec)

-- whether two have the same flags, access rights apart
abbrev pub same_but_access : VmFlags → VmFlags → Bool
same_but_access a b = same_prot a.may b.may && (same a.shared b.shared && (same a.mayshare b.mayshare && (same a.growsdown b.growsdown
    && (same a.account b.account && (same a.noreserve b.noreserve && (same a.nohugepage b.nohugepage && (same a.pkey b.pkey && same a.sealed b.sealed)))))))

-- whether two have the same flags
abbrev pub same_flags : VmFlags → VmFlags → Bool
same_flags a b = same_prot a.access b.access && same_but_access a b

-- whether two have one anon_vma, or neither has one
abbrev pub same_anon : Option AnonVma → Option AnonVma → Bool
same_anon None None = true
same_anon (Some a) (Some b) = nat_eq a.number b.number
same_anon _ _ = false

-- whether a fork made it: the area's chain of anon_vmas isn't singular
abbrev pub is_forked : Option AnonVma → Bool
is_forked anon = option_map_or (λ a. a.forked) anon false

-- is_mergeable_vma: the flags and the file are the same
abbrev pub is_mergeable_vma : Vma → Vma → Bool
is_mergeable_vma target new = same_flags target.flags new.flags && nat_eq target.file new.file

-- is_mergeable_anon_vma up to Linux 6.15: the range has none, and the area has one that no fork made; or both have the same
abbrev pub is_mergeable_anon_old : Option AnonVma → Option AnonVma → Bool
is_mergeable_anon_old target new = (is_none new && (is_some target && not (is_forked target))) || same_anon target new

-- is_mergeable_anon_vma since Linux 6.16: either of the two may have none, if no fork made the other's. `from` is the anon_vma of the area
-- that the range's pages come from, if any.
abbrev pub is_mergeable_anon_new : Option AnonVma → Option AnonVma → Option AnonVma → Bool
is_mergeable_anon_new None (Some new) from = not (is_forked from)
is_mergeable_anon_new (Some target) None from = not target.forked
is_mergeable_anon_new target new from = same_anon target new

-- is_mergeable_anon_vma of a version (mm/vma.c, 6.16)
abbrev pub is_mergeable_anon : Rules → Vma → Vma → Option AnonVma → Bool
is_mergeable_anon rules target new from = if rules.merges_unfaulted then is_mergeable_anon_new target.anon new.anon from
    else is_mergeable_anon_old target.anon new.anon

-- can_vma_merge_left (can_vma_merge_after): a range may join the area that ends where it begins
abbrev pub merges_left : Rules → Vma → Vma → Option AnonVma → Bool
merges_left rules prev new from = nat_eq prev.hi new.lo && (is_mergeable_vma prev new
    && (is_mergeable_anon rules prev new from && nat_eq (prev.pgoff + (prev.hi - prev.lo)) new.pgoff))

-- can_vma_merge_right (can_vma_merge_before): a range may join the area that begins where it ends
abbrev pub merges_right : Rules → Vma → Vma → Option AnonVma → Bool
merges_right rules next new from = nat_eq next.lo new.hi && (is_mergeable_vma next new
    && (is_mergeable_anon rules next new from && nat_eq next.pgoff (new.pgoff + (new.hi - new.lo))))

-- can_vma_merge_right, where the range joins the left area too: one of the two neighbours has no anon_vma, or both have the same
abbrev pub neighbours_agree : Vma → Vma → Bool
neighbours_agree prev next = is_none prev.anon || (is_none next.anon || same_anon prev.anon next.anon)

-- vma_merge_*_range, merge_left: the area on the left that a range joins, if it does
unfoldable pub merge_left : Rules → Option Vma → Vma → Option AnonVma → Option Vma
merge_left rules None new from = None
merge_left rules (Some prev) new from = if merges_left rules prev new from then Some prev else None

-- vma_merge_*_range, merge_right: the area on the right that it joins, if it does; beside one on the left only where these two agree
unfoldable pub right_of : Rules → Option Vma → Option Vma → Vma → Option AnonVma → Option Vma
right_of rules left None new from = None
right_of rules left (Some next) new from =
    if merges_right rules next new from && option_map_or (λ prev. neighbours_agree prev next) left true then Some next else None

-- dup_anon_vma: an area without an anon_vma takes the other's
abbrev pub with_anon_of : Vma → Option AnonVma → Vma
with_anon_of target anon = record target { anon = option_or target.anon anon }

-- vma_set_range: an area that begins at a lower page
abbrev pub from_page : Vma → ℕ → Vma
from_page vma page = record vma { lo = page; pgoff = vma.pgoff - (vma.lo - page) }

-- what a merge leaves: the area that has the range now, and the list
pub record Merged : Type 0 where
  pub vma : Vma
  pub areas : List Vma

-- vma_merge_new_range, commit_merge: a free range joins the area on its left, on its right, or both
abbrev pub merge_new_of : Vma → List Vma → Option Vma → Option Vma → Option AnonVma → Option Merged
merge_new_of new areas None None from = None
merge_new_of new areas (Some prev) None from = let joined = with_anon_of (record prev { hi = new.hi }) from in
    Some (record { vma = joined; areas = replaced prev joined areas })
merge_new_of new areas None (Some next) from = let joined = with_anon_of (from_page next new.lo) from in
    Some (record { vma = joined; areas = replaced next joined areas })
merge_new_of new areas (Some prev) (Some next) from = let joined = with_anon_of (with_anon_of (record prev { hi = next.hi }) next.anon) from in
    Some (record { vma = joined; areas = replaced prev joined (without_vma next.lo areas) })

-- vma_merge_new_range: the same between these neighbours. `from` is the anon_vma of the area that its pages are copied from, if they are.
unfoldable pub merge_new_range : Rules → List Vma → Option Vma → Option Vma → Vma → Option AnonVma → Option Merged
merge_new_range rules areas prev next new from = let left = merge_left rules prev new from in
    merge_new_of new areas left (right_of rules left next new from) from

-- commit_merge, adjust: the list without a range of an area that reaches one end of it, or both
abbrev pub without_range : Vma → ℕ → ℕ → List Vma → List Vma
without_range middle lo hi areas = if nat_eq lo middle.lo
    then (if nat_eq hi middle.hi then without_vma middle.lo areas else replaced middle (upper_part middle hi) areas)
    else replaced middle (lower_part middle lo) areas

-- vma_merge_existing_range, commit_merge: a range of an area leaves it, and joins the area on its left, on its right, or both
abbrev pub merge_existing_of : Vma → ℕ → ℕ → List Vma → Option Vma → Option Vma → Option Merged
merge_existing_of middle lo hi areas None None = None
merge_existing_of middle lo hi areas (Some prev) None = let joined = with_anon_of (record prev { hi = hi }) middle.anon in
    Some (record { vma = joined; areas = replaced prev joined (without_range middle lo hi areas) })
merge_existing_of middle lo hi areas None (Some next) = let joined = with_anon_of (from_page next lo) middle.anon in
    Some (record { vma = joined; areas = with_vma joined (without_vma next.lo (without_range middle lo hi areas)) })
merge_existing_of middle lo hi areas (Some prev) (Some next) =
    let joined = with_anon_of (record prev { hi = next.hi }) (option_or next.anon middle.anon) in
    Some (record { vma = joined; areas = replaced prev joined (without_vma next.lo (without_vma middle.lo areas)) })

-- the range as an area of its own, with the flags that it gets
abbrev pub part_with : Vma → ℕ → ℕ → VmFlags → Vma
part_with middle lo hi flags = record (upper_part middle lo) { hi = hi; flags = flags }

-- vma_merge_existing_range: a range that gets other flags joins its neighbours; the middle of an area joins nothing
unfoldable pub merge_existing_range : Rules → List Vma → Option Vma → Vma → ℕ → ℕ → VmFlags → Option Merged
merge_existing_range rules areas prev middle lo hi flags = let new = part_with middle lo hi flags in
    let left = merge_left rules (if nat_eq lo middle.lo then prev else None) new middle.anon in
    let right = right_of rules left (if nat_eq hi middle.hi then vma_from areas hi else None) new middle.anon in
    merge_existing_of middle lo hi areas left right
