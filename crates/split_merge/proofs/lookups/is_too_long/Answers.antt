-- For `is_too_long` of lookups.rt: its goals.
use Rattle.std.proofs.Common.{◌≡◌, nat_lt, List, length, ap, ◌∙◌, arith}
use Rattle.mm_types.specs.declared.area.Record.{Record}
use Rattle.split_merge.specs.Plans.{applied}
use Rattle.split_merge.proofs.Ascending.{ascending}
use Rattle.split_merge.proofs.Counting.{plan_counts}
use Rattle.split_merge.proofs.lookups.is_too_long.Goals as goal

pub count_after-requires-clause-olds : goal.count_after-requires-clause-olds
count_after-requires-clause-olds g c = let areas : List Record = g.A.Areas.list c.args.areas.now in
    let counts = plan_counts c.args.plan.now.changes areas (ascending _ areas c.requires.canonical) c.requires.plan in
    omega (arith, counts.olds_few, c.count.ensures)

pub returns : goal.returns
returns g c = let areas : List Record = g.A.Areas.list c.args.areas.now in
    let plan = c.args.plan.now.changes in
    let counts = plan_counts plan areas (ascending _ areas c.requires.canonical) c.requires.plan in
    let same : c.count_after.result ≡ length (applied plan areas) = omega (arith, counts.count, c.count.ensures, c.count_after.ensures) in
    ap (λ most. nat_lt most c.count_after.result) c.from.ensures ∙ ap (nat_lt c.args.most) same
