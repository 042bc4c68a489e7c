-- The proof of `read_again`: the last read is within its piece, and all before it moved no byte.
use Rattle.std.specs.Io.{ReadsAtMost}
use Rattle.std.specs.Io.KnownBytes.{ReadConsumes}
use Rattle.io_edge.proofs.standard.read_again.Given as goal

abbrev pub invariant-loop : goal.invariant-loop
invariant-loop g l =
    ReadsAtMost l.ended l.into × ReadConsumes (g.I.Read.remaining l.fn.input) (g.I.Read.remaining l.input) l.ended l.into
