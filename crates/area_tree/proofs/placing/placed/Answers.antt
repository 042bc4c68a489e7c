-- For `placed`: where the first search finds no place, the second follows it.
use Rattle.std.proofs.Common.{max, ◌≡◌, arith}
use Rattle.area_rules.specs.declared.placement.TheConstants.{FLOOR}
use Rattle.area_tree.proofs.Fitting.{high_placed, low_placed}
use Rattle.area_tree.proofs.placing.placed.Goals as goal

pub returns-in-Some-clause-place : goal.returns-in-Some-clause-place
returns-in-Some-clause-place c = λ records spans.
    high_placed records c.args.bounds c.args.len c.args.tree.now.pairs c.highest.result c.in-Some.start spans c.highest.ensures.start c.in-Some.is

pub returns-in-None-clause-place : goal.returns-in-None-clause-place
returns-in-None-clause-place c = λ records spans.
    let low : c.max.result ≡ max FLOOR c.args.bounds.low = omega (arith, c.max.ensures) in
    low_placed records c.args.bounds c.args.len c.max.result c.args.tree.now.pairs c.highest.result c.lowest.result spans
    c.highest.ensures.start c.in-None.is low c.lowest.ensures.start
