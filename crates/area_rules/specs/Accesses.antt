-- Which accesses a protection allows.
use Rattle.std.specs.Prelude.{Bool, ◌||◌}
use Rattle.mm_types.specs.declared.area.Access.{Access}
use Rattle.mm_types.specs.declared.area.Access.TheVariants.{Read, Write, Exec}
use Rattle.mm_types.specs.declared.area.Prot.{Prot}

-- whether a protection allows an access: to read takes any of the three
unfoldable pub permits : Prot → Access → Bool
permits prot Read = prot.read || (prot.write || prot.exec)
permits prot Write = prot.write
permits prot Exec = prot.exec
