-- The rows that a tree leaves out: `leave_out`.
use Rattle.std.proofs.Common.{ℕ, ◌≡◌, ◌<◌, ◌≤◌, ◌+◌, ◌∙◌, List, set, arith, sym, ap, subst}
use Rattle.std.proofs.lemmas.List.{ext_get_or, set-get_or}
use Rattle.grace_core.specs.Core.{since_at}
use Rattle.grace_core.specs.Steps.{since_from}
use Rattle.grace_core.proofs.Leaving.{length-since_from, left_more, left_after, same_more}
use Rattle.grace_core.proofs.writer_state.leave_out.Goals as goal
use Rattle.grace_core.proofs.writer_state.leave_out.Goals.{then-leaves_out, else-leaves_out}

pub loop-place-preserved : goal.loop-place-preserved
loop-place-preserved c =
    let old = c.args.old.now in
    let new = c.args.new.now in
    let first = c.args.since.now in
    let place = c.loop-place.place in
    let done = λ (after : List ℕ). (k : ℕ) → k < place + 1 → since_at after k ≡ since_at (since_from 0 old new first) k in
    let left = λ (after : List ℕ). (k : ℕ) → place + 1 ≤ k → since_at after k ≡ since_at first k in
    elim c.if-leaves_out.branch [
      | then-leaves_out w ↦
          let is = sym (w.since-is ∙ ap (λ (n : ℕ). set c.loop-place.since place n) w.number.ensures) in
          record {
            new = subst done is (left_more old new first c.loop-place.since place c.loop-place-test.true c.loop-place.auto.since
                c.loop-place.invariant.new c.loop-place.invariant.old (sym c.leaves_out.ensures ∙ w.if-leaves_out.true));
            old = subst left is (left_after old new first c.loop-place.since place c.loop-place-test.true c.loop-place.auto.since
                c.loop-place.invariant.new c.loop-place.invariant.old);
          }
      | else-leaves_out w ↦
          let is = sym (w.since-is ∙ set-get_or c.loop-place.since place 0) in
          record {
            new = subst done is (same_more old new first c.loop-place.since place c.loop-place-test.true c.loop-place.auto.since
                c.loop-place.invariant.new c.loop-place.invariant.old (sym c.leaves_out.ensures ∙ w.if-leaves_out.false));
            old = subst left is (λ k after. c.loop-place.invariant.old k (omega arith));
          }
    ]

pub returns : goal.returns
returns c =
    let target = since_from 0 c.args.old.now c.args.new.now c.args.since.now in
    let long = length-since_from 0 c.args.old.now c.args.new.now c.args.since.now in
    ext_get_or 0 c.loop-place.since target (omega (arith, long, c.loop-place.auto.since))
    (λ k within. c.loop-place.invariant.new k (omega (arith, within, c.loop-place.auto.since, c.loop-place-test.false)))
