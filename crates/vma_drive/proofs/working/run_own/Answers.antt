-- The proof of `run_own`: the line at the next place is the next of the caller's lines.
use Rattle.std.proofs.Common.{ℕ, List, get_or, subst, arith, ap, sym, ◌∙◌}
use Rattle.std.specs.Prelude.{Vec}
use Rattle.std.specs.declared.alloc.Global.{Global}
use Rattle.history.specs.Histories.{lines_of}
use Rattle.vma_drive.specs.Internal.Rounds.{RanRound}
use Rattle.vma_drive.proofs.Operations.{stopped}
use Rattle.vma_drive.proofs.OwnLines.{run_none, run_line, run_stop, shown_stand, shown_is, place_in, some_left}
use Rattle.vma_drive.proofs.working.run_own.Goals as goal

pub loop-index-init : goal.loop-index-init
loop-index-init g c = record {
  pass = c.requires.pass;
  to = run_none _ _ _ _ _ _ c.args.pass.now c.requires.has (omega (arith, c.requires.has.left, c.left.ensures));
}

pub bounds-round-place : goal.bounds-round-place
bounds-round-place g c =
    let low = place_in c.args.round.lines.now _ c.as_slice-own.result.now c.loop-index.index
    (shown_stand c.args.round.lines.now c.args.round.places.now c.args.caller c.index-round-caller.result c.as_slice-own.result.now c.requires.places c.requires.caller.0 c.index-round-caller.is (c.as_slice-own.ensures.value ∙ ap (λ (v : Vec ℕ Global). v.items) (sym c.index-round-caller.is))) c.loop-index-test.true in
    omega (arith, low, c.requires.rounds)

pub bounds-round-place-in-loop-index : goal.bounds-round-place-in-loop-index
bounds-round-place-in-loop-index g c =
    place_in c.args.round.lines.now _ c.as_slice-own.result.now c.loop-index.index
    (shown_stand c.args.round.lines.now c.args.round.places.now c.args.caller c.index-round-caller.result c.as_slice-own.result.now c.requires.places c.requires.caller.0 c.index-round-caller.is (c.as_slice-own.ensures.value ∙ ap (λ (v : Vec ℕ Global). v.items) (sym c.index-round-caller.is))) c.loop-index-test.true

pub returns-then-round-place-clause-ran : goal.returns-then-round-place-clause-ran
returns-then-round-place-clause-ran g c =
    λ own its. subst (λ (l : List ℕ). RanRound (lines_of c.args.round.lines.now c.args.caller) c.args.round.rounds.now l c.args.round.number
    (get_or c.args.round.owed.now c.args.caller 0) c.args.pass.now c.loop-index.pass)
    (shown_is c.args.round.places.now c.args.caller own c.index-round-caller.result c.as_slice-own.result.now its c.index-round-caller.is (c.as_slice-own.ensures.value ∙ ap (λ (v : Vec ℕ Global). v.items) (sym c.index-round-caller.is))) c.loop-index.invariant.to.ran

pub returns-clause-ran : goal.returns-clause-ran
returns-clause-ran g c =
    λ own its. subst (λ (l : List ℕ). RanRound (lines_of c.args.round.lines.now c.args.caller) c.args.round.rounds.now l c.args.round.number
    (get_or c.args.round.owed.now c.args.caller 0) c.args.pass.now c.loop-index.pass)
    (shown_is c.args.round.places.now c.args.caller own c.index-round-caller.result c.as_slice-own.result.now its c.index-round-caller.is (c.as_slice-own.ensures.value ∙ ap (λ (v : Vec ℕ Global). v.items) (sym c.index-round-caller.is))) c.loop-index.invariant.to.ran

pub run_told-requires-clause-left : goal.run_told-requires-clause-left
run_told-requires-clause-left g c =
    some_left c.args.round.lines.now _ _ c.as_slice-own.result.now _ _ c.loop-index.index _ _
    (shown_stand c.args.round.lines.now c.args.round.places.now c.args.caller c.index-round-caller.result c.as_slice-own.result.now c.requires.places c.requires.caller.0 c.index-round-caller.is (c.as_slice-own.ensures.value ∙ ap (λ (v : Vec ℕ Global). v.items) (sym c.index-round-caller.is))) c.loop-index-test.true c.loop-index.invariant.to c.requires.left

pub returns-in_default-clause-ran : goal.returns-in_default-clause-ran
returns-in_default-clause-ran g c =
    λ own its. subst (λ (l : List ℕ). RanRound (lines_of c.args.round.lines.now c.args.caller) c.args.round.rounds.now l c.args.round.number
    (get_or c.args.round.owed.now c.args.caller 0) c.args.pass.now c.run_told.new.pass)
    (shown_is c.args.round.places.now c.args.caller own c.index-round-caller.result c.as_slice-own.result.now its c.index-round-caller.is (c.as_slice-own.ensures.value ∙ ap (λ (v : Vec ℕ Global). v.items) (sym c.index-round-caller.is)))
    (run_stop _ _ _ _ _ _ _ _ _ c.loop-index.invariant.to c.run_told.ensures.later (stopped _ _ c.in_default.not-Ok c.run_told.ensures.err)).ran

pub loop-index-preserved : goal.loop-index-preserved
loop-index-preserved g c =
    record {
      pass = c.run_told.ensures.pass;
      to = run_line c.args.round.lines.now _ _ _ _ _ _ _ _ _ _
          (shown_stand c.args.round.lines.now c.args.round.places.now c.args.caller c.index-round-caller.result c.as_slice-own.result.now c.requires.places c.requires.caller.0 c.index-round-caller.is (c.as_slice-own.ensures.value ∙ ap (λ (v : Vec ℕ Global). v.items) (sym c.index-round-caller.is))) c.loop-index-test.true c.loop-index.invariant.to c.run_told.ensures.later c.in-Ok.ensures.ok c.if-round-place.false;
    }

pub run_told-requires-clause-op : goal.run_told-requires-clause-op
run_told-requires-clause-op g c =
    c.requires.lines _ _ (place_in c.args.round.lines.now _ c.as_slice-own.result.now c.loop-index.index
    (shown_stand c.args.round.lines.now c.args.round.places.now c.args.caller c.index-round-caller.result c.as_slice-own.result.now c.requires.places c.requires.caller.0 c.index-round-caller.is (c.as_slice-own.ensures.value ∙ ap (λ (v : Vec ℕ Global). v.items) (sym c.index-round-caller.is))) c.loop-index-test.true)
