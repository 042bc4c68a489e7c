-- For `query`: its goals.
use Rattle.std.proofs.Common.{◌∙◌, ℕ, ◌+◌, ◌*◌, ◌/◌, nat_lt, length, ap, arith}
use Rattle.std.specs.Bool.{then_some}
use Rattle.maps_read.proofs.Searching.{above_from, below_to, found_is, halved}
use Rattle.maps_read.proofs.querying.query.Goals as goal

pub loop-size-preserved-then-above : goal.loop-size-preserved-then-above
loop-size-preserved-then-above g c =
    let lines = c.args.maps.now in
    let size = c.loop-size.size in
    let steps = c.loop-size.invariant.steps in
    record {
      within = omega arith;
      below = c.loop-size.invariant.below;
      above = above_from c.args.address (c.loop-size.first + size / 2) lines c.count-count.ensures.order (omega arith) c.if-above.ensures.answer;
      steps = (steps.0 + 1, omega arith, halved steps.0 size (size / 2) (2 * length lines + 1) (omega arith) (omega arith) steps.2);
    }

pub loop-size-preserved : goal.loop-size-preserved
loop-size-preserved g c =
    let lines = c.args.maps.now in
    let size = c.loop-size.size in
    let steps = c.loop-size.invariant.steps in
    record {
      within = omega arith;
      below = below_to c.args.address (c.loop-size.first + size / 2) lines c.count-count.ensures.order (omega arith) c.if-above.ensures.answer;
      above = λ k d low here. c.loop-size.invariant.above k d (omega arith) here;
      steps = (steps.0 + 1, omega arith, halved steps.0 size _ (2 * length lines + 1) (omega arith) (omega arith) steps.2);
    }

pub returns-clause-first : goal.returns-clause-first
returns-clause-first g c =
    let lines = c.args.maps.now in
    let found = found_is c.args.address c.loop-size.first lines (omega arith) c.loop-size.invariant.below
    (λ k d low here. c.loop-size.invariant.above k d (omega arith) here) in
    c.then_some.ensures ∙ ap (λ (n : ℕ). then_some (nat_lt c.loop-size.first n) c.loop-size.first) c.count-count.ensures.lines ∙ found
