-- Which table a kind stands for.
use Rattle.flag_table.specs.Tables.{FlagNames, prot_flags, map_flags, mremap_flags}
use Rattle.flag_table.specs.declared.kind.Kind.{Kind}
use Rattle.flag_table.specs.declared.kind.Kind.TheVariants.{Prot, Map, Mremap}

-- the table of each kind
abbrev pub table_of_kind : Kind → FlagNames
table_of_kind Prot = prot_flags
table_of_kind Map = map_flags
table_of_kind Mremap = mremap_flags
