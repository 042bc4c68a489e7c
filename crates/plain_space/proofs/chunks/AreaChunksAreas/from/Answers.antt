-- For `AreaChunks::from` of chunks.rt: its goals.
use Rattle.std.proofs.Common.{subst, sym}
use Rattle.plain_space.specs.Internal.Chunks.{AscendApart}
use Rattle.plain_space.proofs.InOrder.{apart}
use Rattle.plain_space.proofs.chunks.AreaChunksAreas.from.Goals as goal

pub first_from-requires : goal.first_from-requires
first_from-requires c = subst AscendApart (sym c.as_slice.ensures.value)
    (apart _ c.self.inside.store.chunks.items c.self.invariant.sane.filled c.self.invariant.kept.canonical)
