-- For `push_mapping`: its bits have names.
use Rattle.std.proofs.Common.{arith}
use Rattle.maps_read.proofs.Mapped.{prot_rows, flags_say}
use Rattle.maps_read.proofs.mappings.push_mapping.Goals as goal

pub print-requires : goal.print-requires
print-requires c = (omega arith, rw (c.prot_table.ensures, c.prot_bits.ensures) (prot_rows c.args.area.now.attr.prot))

pub print-requires-2 : goal.print-requires-2
print-requires-2 c = (omega arith, rw (c.map_table.ensures, c.flags_of.ensures) (flags_say c.args.area.now).rows)
