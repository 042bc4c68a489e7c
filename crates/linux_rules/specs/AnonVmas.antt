-- What a write to private memory leaves in an area: mm/rmap.c, and find_mergeable_anon_vma of mm/vma.c (mm/mmap.c up to 6.10).
use Rattle.std.specs.Prelude.{◌+◌, ◌-◌, Bool, false, not, ◌&&◌, if◌then◌else◌, nat_eq, Option, Some, None, is_some, Ok}
use Rattle.std.specs.Option.{option_map_or, option_or}
use Rattle.linux_rules.specs.declared.area.AnonVma.{AnonVma}
use Rattle.linux_rules.specs.declared.area.Vma.{Vma}
use Rattle.linux_rules.specs.Areas.{vma_before, vma_from, replaced}
use Rattle.linux_rules.specs.Doing.{LinuxSpace, Doing}
use Rattle.linux_rules.specs.Merging.{same_but_access, is_forked}

-- anon_vma_compatible: two neighbours that could be one area if they had the same access rights
abbrev pub anon_vma_compatible : Vma → Vma → Bool
anon_vma_compatible a b = nat_eq a.hi b.lo && (nat_eq a.file b.file
    && (same_but_access a.flags b.flags && nat_eq b.pgoff (a.pgoff + (b.lo - a.lo))))

-- reusable_anon_vma: a neighbour's anon_vma, unless a fork made it
abbrev pub reusable : Bool → Vma → Option AnonVma
reusable compatible old = if compatible && not (is_forked old.anon) then old.anon else None

-- find_mergeable_anon_vma: the next area's if it can be reused, else the previous one's
unfoldable pub mergeable_anon : LinuxSpace → Vma → Option AnonVma
mergeable_anon space vma = option_or
    (option_map_or (λ next. reusable (anon_vma_compatible vma next) next) (vma_from space.areas vma.hi) None)
    (option_map_or (λ prev. reusable (anon_vma_compatible prev vma) prev) (vma_before space.areas vma.lo) None)

-- __anon_vma_prepare: an area that is written to has an anon_vma from then on, a neighbour's or a new one
unfoldable pub anon_vma_prepare : Vma → Doing Vma
anon_vma_prepare vma space = if is_some vma.anon then record { space = space; result = Ok vma }
    else (let anon = mergeable_anon space vma in
    let written = record vma { anon = option_or anon (Some (record { number = space.anons; forked = false })) } in
    record {
      space = record space { areas = replaced vma written space.areas; anons = if is_some anon then space.anons else space.anons + 1 };
      result = Ok written;
    })
