-- For `AreaChunks::place_high` of chunks.rt: its goals.
use Rattle.std.proofs.Common.{subst, sym}
use Rattle.plain_space.specs.Internal.Chunks.{AscendApart}
use Rattle.plain_space.proofs.InOrder.{apart}
use Rattle.plain_space.proofs.chunks.AreaChunksAreas.place_high.Goals as goal

pub place_high-requires : goal.place_high-requires
place_high-requires c = subst AscendApart (sym c.as_slice.ensures.value)
    (apart _ c.self.inside.store.chunks.items c.self.invariant.sane.filled c.self.invariant.kept.canonical)
