-- For `first_from` of finding.rt: its goals.
use Rattle.std.proofs.Common.{[], sym, ap, ◌∙◌, subst}
use Rattle.std.proofs.lemmas.List.{get_or_read}
use Rattle.split_merge.specs.Finding.{first_from}
use Rattle.plain_space.specs.Internal.Gaps.{IsAscending}
use Rattle.plain_space.proofs.Among.{ascending_at, found_from, none_found_from}
use Rattle.plain_space.proofs.finding.first_from.Goals as goal

pub from-requires : goal.from-requires
from-requires c =
    let chunks = c.args.chunks.now in
    let place = c.ending_by-place.result in
    subst IsAscending (sym (get_or_read chunks place c.index-chunks-place.result c.if-place-chunks.true c.index-chunks-place.is []))
    (ascending_at chunks place c.requires c.if-place-chunks.true)

pub returns-then-place-chunks : goal.returns-then-place-chunks
returns-then-place-chunks c =
    let chunks = c.args.chunks.now in
    let place = c.ending_by-place.result in
    c.from.ensures
    ∙ ap (λ chunk. first_from chunk c.args.page) (get_or_read chunks place c.index-chunks-place.result c.if-place-chunks.true c.index-chunks-place.is [])
    ∙ found_from chunks c.args.page place c.requires c.ending_by-place.ensures.value c.if-place-chunks.true

pub returns-else-place-chunks : goal.returns-else-place-chunks
returns-else-place-chunks c =
    sym (none_found_from c.args.chunks.now c.args.page c.ending_by-place.result c.requires c.ending_by-place.ensures.value c.if-place-chunks.false)
