-- For `descriptor`: its goals.
use Rattle.std.proofs.Common.{rules, arith}
use Rattle.std.proofs.lemmas.Int.{ints, to_z_pos}
use Rattle.trace_reader.specs.Fields.{descriptor}
use Rattle.trace_reader.proofs.fields.descriptor.Goals as goal

pub overflow_cast-result : goal.overflow_cast-result
overflow_cast-result c = omega (arith, ints, c.in_ok-fd.ensures.within)

pub returns : goal.returns
unfolding descriptor
returns c = search (rules, to_z_pos)
