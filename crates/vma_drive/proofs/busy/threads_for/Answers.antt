-- The proof of `threads_for`: at the next caller, and after the last.
use Rattle.std.proofs.Common.{◌≡◌, ◌∙◌, refl, arith, length, slice_get, Some}
use Rattle.std.proofs.lemmas.Option.{slice_get_read, slice_get_within}
use Rattle.vma_drive.specs.Internal.Rounds.{IsBusy}
use Rattle.vma_drive.proofs.Apart.{Shares, Tells, closest_after, closest_first, closest_idle, shares_all, tells_busy}
use Rattle.vma_drive.proofs.busy.threads_for.Goals.{then-has_line+in-Some, then-has_line+in_default, else-has_line}
use Rattle.vma_drive.proofs.busy.threads_for.Goals as goal

pub loop-caller-preserved : goal.loop-caller-preserved
loop-caller-preserved c =
    let pass : slice_get c.args.passes.now c.loop-caller.caller ≡ Some c.index-passes-caller.result =
    slice_get_read c.args.passes.now _ c.loop-caller.caller c.index-passes-caller.result refl c.loop-caller-test.true c.index-passes-caller.is in
    let line : Tells c.args.round.places.now c.args.round.rounds.now c.args.round.number c.args.passes.now c.loop-caller.caller c.has_line.result =
    tells_busy c.args.round.places.now _ _ c.args.passes.now c.loop-caller.caller _ c.has_line.result pass
    (omega (arith, c.loop-caller-test.true, c.requires.round.places)) c.has_line.ensures in
    elim c.if-has_line.branch [
      | then-has_line+in-Some w ↦ closest_after _ _ _ _ _ _ _ _ c.loop-caller.invariant (line.0 w.if-has_line.true)
          w.in-Some.is (w.closest-is ∙ w.min-closest.ensures) w.last-is
      | then-has_line+in_default w ↦ closest_first _ _ _ _ _ _ _ c.loop-caller.invariant (line.0 w.if-has_line.true)
          w.in_default.not-Some w.closest-is w.last-is
      | else-has_line w ↦ closest_idle _ _ _ _ _ _ _ c.loop-caller.invariant
          (λ busy. absurd (let yes = line.1 busy in let no = w.if-has_line.false in cc)) w.closest-is w.last-is
    ]

shares : (c : goal.After-div_ceil) → Shares (IsBusy c.args.round.places.now c.args.round.rounds.now c.args.round.number c.args.passes.now) (length c.args.passes.now) c.div_ceil.result
shares c = shares_all _ _ _ _ _ _ c.requires.some c.loop-caller.invariant (omega (arith, c.loop-caller-test.false, c.loop-caller.auto.caller-end))
    (λ caller busy. slice_get_within c.args.passes.now caller _ busy.2) c.div_ceil.ensures

pub returns-clause-apart : goal.returns-clause-apart
returns-clause-apart c = (shares c).apart

pub returns-clause-fewest : goal.returns-clause-fewest
returns-clause-fewest c = (shares c).fewest
