-- For `Chunk::from` of chunk.rt: its goals.
use Rattle.std.proofs.Common.{slice_get, ap, ◌∙◌}
use Rattle.split_merge.specs.Finding.{first_from}
use Rattle.split_merge.specs.Sorted.{ends_by}
use Rattle.plain_space.proofs.InOrder.{from_is}
use Rattle.plain_space.proofs.chunk.Chunk.from.Goals as goal

pub returns : goal.returns
returns c =
    let areas = c.self.inside.items.items in
    c.area_at.ensures
    ∙ ap (λ list. slice_get list c.ends_by-place.result) c.as_slice-2.ensures.value
    ∙ ap (slice_get areas) (c.ends_by-place.ensures.value ∙ ap (ends_by c.args.page) c.as_slice.ensures.value)
    ∙ from_is areas c.args.page
    ∙ ap (λ list. first_from list c.args.page) c.self.view_is
