-- The proof of `take_bytes`: what its loop keeps, and that it ends.
use Rattle.std.proofs.Common.{◌≡◌, ◌≤◌, ◌+◌, ◌-◌, length, vec_len}
use Rattle.std.specs.Io.KnownBytes.{Consumes}
use Rattle.vma_replay.proofs.reading.take_bytes.Given as goal

-- what was taken so far is in `bytes`, and no take failed
abbrev pub invariant-loop-piece : goal.invariant-loop-piece
invariant-loop-piece g l = record {
  moved : Consumes (g.S.Source.seen l.fn.source).left (g.S.Source.seen l.source).left l.bytes.items;
  calm : (g.S.Source.seen l.source).faults ≡ (g.S.Source.seen l.fn.source).faults;
  piece : length l.piece ≡ 65536;
  bounded : vec_len l.bytes ≤ l.most + 1;
}

abbrev pub decreases-loop-piece : goal.decreases-loop-piece
decreases-loop-piece g l = l.most + 1 - vec_len l.bytes
