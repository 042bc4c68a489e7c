-- What the profile has of Linux's areas, and what follows for merging.
use Rattle.std.specs.Prelude.{◌≡◌, false, true, if◌then◌else◌, nat_eq, Option}
use Rattle.mm_types.specs.declared.area.Record.{Record}
use Rattle.area_list.specs.Areas.{joins}
use Rattle.linux_rules.specs.declared.area.AnonVma.{AnonVma}
use Rattle.linux_rules.specs.declared.area.Vma.{Vma}
use Rattle.linux_rules.specs.declared.kernel.Rules.{Rules}
use Rattle.linux_rules.specs.Merging.{merges_left, merges_right}

-- an area without what the profile lacks: accounts, anon_vma, page offsets of anonymous memory, keys, and the flags that only keep apart
abbrev pub forgotten : Vma → Record
forgotten vma = record {
  span = record { lo = vma.lo; hi = vma.hi };
  attr = record { prot = vma.flags.access; most = vma.flags.may; shared = vma.flags.mayshare; grows = vma.flags.growsdown; sealed = vma.flags.sealed; heap = false };
  object = vma.file;
  offset = if nat_eq vma.file 0 then 0 else vma.pgoff;
}

-- a range that Linux joins to the area on its left, the profile joins too
abbrev pub JoinsOnTheLeft : Type 0
JoinsOnTheLeft = (rules : Rules) (prev new : Vma) (from : Option AnonVma) → merges_left rules prev new from ≡ true
    → joins (forgotten prev) (forgotten new) ≡ true

-- and one that Linux joins to the area on its right
abbrev pub JoinsOnTheRight : Type 0
JoinsOnTheRight = (rules : Rules) (next new : Vma) (from : Option AnonVma) → merges_right rules next new from ≡ true
    → joins (forgotten new) (forgotten next) ≡ true
