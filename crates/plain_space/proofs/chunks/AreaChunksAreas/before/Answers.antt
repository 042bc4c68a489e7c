-- For `AreaChunks::before` of chunks.rt: its goals.
use Rattle.std.proofs.Common.{subst, sym}
use Rattle.plain_space.specs.Internal.Chunks.{AscendApart}
use Rattle.plain_space.proofs.InOrder.{apart}
use Rattle.plain_space.proofs.chunks.AreaChunksAreas.before.Goals as goal

pub last_before-requires : goal.last_before-requires
last_before-requires c = subst AscendApart (sym c.as_slice.ensures.value)
    (apart _ c.self.inside.store.chunks.items c.self.invariant.sane.filled c.self.invariant.kept.canonical)
