-- For `Chunk::before` of chunk.rt: its goals.
use Rattle.std.specs.List.{last_or}
use Rattle.std.proofs.Common.{None, take, subst, sym, ap, ◌∙◌}
use Rattle.split_merge.specs.Finding.{last_before}
use Rattle.split_merge.specs.Sorted.{begins_below, BeginsAscend}
use Rattle.split_merge.proofs.Going.{ascending_pairs}
use Rattle.plain_space.proofs.InOrder.{front_is}
use Rattle.plain_space.proofs.chunk.Chunk.before.Goals as goal

pub returns : goal.returns
returns c =
    let areas = c.self.inside.items.items in
    c.last_of.ensures
    ∙ ap (λ list. last_or None (take c.begins_below-place.result list)) c.as_slice-2.ensures.value
    ∙ ap (λ place. last_or None (take place areas)) (c.begins_below-place.ensures.value ∙ ap (begins_below c.args.page) c.as_slice.ensures.value)
    ∙ ap (last_or None) (front_is areas c.args.page (ascending_pairs areas (subst BeginsAscend (sym c.self.view_is) c.requires.begins)))
    ∙ ap (λ list. last_before list c.args.page) c.self.view_is
