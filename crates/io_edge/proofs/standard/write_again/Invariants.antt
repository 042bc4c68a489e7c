-- The proof of `write_again`: the last write is within its piece, and all before it moved no byte.
use Rattle.std.specs.Prelude.{◌<◌, length, IfOk}
use Rattle.std.specs.Io.{WritesAtMost}
use Rattle.std.specs.Io.KnownBytes.{WriteAppends}
use Rattle.io_edge.proofs.standard.write_again.Given as goal

abbrev pub invariant-loop : goal.invariant-loop
invariant-loop g l =
    WritesAtMost l.ended l.piece × IfOk l.ended (λ count. 0 < length l.piece → 0 < count)
    × WriteAppends (g.W.Write.contents l.fn.output) (g.W.Write.contents l.output) l.ended l.piece
