-- What the writer's state shows after a fill: `GraceWriter::fill`.
use Rattle.std.proofs.Common.{refl}
use Rattle.grace_core.proofs.WriterStates.{rows_of-set}
use Rattle.grace_core.proofs.writer_state.GraceWriter.fill.Goals as goal

pub returns : goal.returns
returns c = rw (← c.self.view_is, rows_of-set c.self.inside.words.items c.args.row.0 c.args.word) refl
