-- For `last_before` of finding.rt: its goals.
use Rattle.std.proofs.Common.{◌<◌, ◌-◌, [], length, sym, ap, ◌∙◌, subst, arith}
use Rattle.std.proofs.lemmas.List.{get_or_read}
use Rattle.split_merge.specs.Finding.{last_before}
use Rattle.plain_space.specs.Internal.Gaps.{IsAscending}
use Rattle.plain_space.proofs.Among.{ascending_at, found_before, none_found_before}
use Rattle.plain_space.proofs.finding.last_before.Goals as goal

pub before-requires : goal.before-requires
before-requires c =
    let chunks = c.args.chunks.now in
    let count = c.beginning_below-count.result in
    let within : count - 1 < length chunks = omega (arith, c.if-count-gt0.true, c.beginning_below-count.ensures.within) in
    subst IsAscending (sym (get_or_read chunks (count - 1) c.index-chunks-count.result within c.index-chunks-count.is []))
    (ascending_at chunks (count - 1) c.requires within)

pub returns-then-count-gt0 : goal.returns-then-count-gt0
returns-then-count-gt0 c =
    let chunks = c.args.chunks.now in
    let count = c.beginning_below-count.result in
    let within : count - 1 < length chunks = omega (arith, c.if-count-gt0.true, c.beginning_below-count.ensures.within) in
    c.before-then-count-gt0.ensures
    ∙ ap (λ chunk. last_before chunk c.args.page) (get_or_read chunks (count - 1) c.index-chunks-count.result within c.index-chunks-count.is [])
    ∙ found_before chunks c.args.page count c.requires c.beginning_below-count.ensures.value c.if-count-gt0.true

pub returns-else-count-gt0 : goal.returns-else-count-gt0
returns-else-count-gt0 c =
    sym (none_found_before c.args.chunks.now c.args.page c.beginning_below-count.result c.requires c.beginning_below-count.ensures.value c.if-count-gt0.false)
