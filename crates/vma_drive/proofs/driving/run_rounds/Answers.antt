-- The proof of `run_rounds`: before each round, and after the last.
use Rattle.std.proofs.Common.{◌∙◌, sym, arith}
use Rattle.vma_drive.proofs.Standing.{callers_are, may_tell_at, has_mid, has_new, begun_new, grown_new, at_next, begun_at, grown_at, done_at}
use Rattle.vma_drive.proofs.OwnLines.{places_in}
use Rattle.vma_drive.proofs.driving.run_rounds.Goals as goal

pub tell_round-requires-clause-left : goal.tell_round-requires-clause-left
tell_round-requires-clause-left g c = may_tell_at g.N.SpaceName.name c.args.lines.now c.args.places.now c.args.rounds.now c.args.tellings.now c.requires.settled
    c.loop-number.passes c.loop-number.owed c.loop-number.number c.loop-number.invariant

pub run_workers-requires-clause-has : goal.run_workers-requires-clause-has
run_workers-requires-clause-has g c lifetimes outlives = has_mid g.N.SpaceName.name c.args.lines.now c.args.places.now c.args.rounds.now c.args.tellings.now c.requires.settled
    c.loop-number.passes c.tell_round.new.passes
    c.loop-number.owed c.tell_round.new.owed c.loop-number.number c.loop-number.invariant c.tell_round.ensures.passes c.tell_round.auto.owed
    c.tell_round.ensures.moved c.tell_round.ensures.owed

pub is_whole-requires : goal.is_whole-requires
is_whole-requires g c = record {
  places = c.requires.settled.places_are.all ∙ sym (callers_are g.N.SpaceName.name c.args.lines.now c.args.places.now c.args.rounds.now c.args.tellings.now c.requires.settled
      c.run_workers.new.passes c.run_workers.ensures.passes);
  owed = c.tell_round.auto.owed ∙ c.loop-number.invariant.owed_all ∙ c.loop-number.invariant.passes_are.all ∙ sym c.run_workers.ensures.passes.all;
  within = places_in c.args.lines.now _ c.args.places.now c.args.rounds.now c.requires.settled.places_are c.requires.settled.rounds_are.all;
  left = λ caller pass found. (has_new g.N.SpaceName.name c.args.lines.now c.args.places.now c.args.rounds.now c.args.tellings.now c.requires.settled
      c.loop-number.passes c.tell_round.new.passes
      c.loop-number.owed c.tell_round.new.owed c.loop-number.number c.loop-number.invariant c.tell_round.ensures.passes c.tell_round.auto.owed
      c.tell_round.ensures.moved c.tell_round.ensures.owed
      c.run_workers.new.passes c.tell_round.ensures.heard c.run_workers.ensures.passes c.run_workers.ensures.ran caller pass found).left;
}

pub returns-then-not-is_whole-clause-begun : goal.returns-then-not-is_whole-clause-begun
returns-then-not-is_whole-clause-begun g c = begun_new g.N.SpaceName.name c.args.lines.now c.args.places.now c.args.rounds.now c.args.tellings.now c.requires.settled
    c.loop-number.passes c.tell_round.new.passes
    c.loop-number.owed c.tell_round.new.owed c.loop-number.number c.loop-number.invariant c.tell_round.ensures.passes c.tell_round.auto.owed
    c.tell_round.ensures.moved c.tell_round.ensures.owed
    c.run_workers.new.passes c.tell_round.ensures.heard c.run_workers.ensures.passes c.run_workers.ensures.ran

pub returns-then-not-is_whole-clause-grown : goal.returns-then-not-is_whole-clause-grown
returns-then-not-is_whole-clause-grown g c = grown_new g.N.SpaceName.name c.args.lines.now c.args.places.now c.args.rounds.now c.args.tellings.now c.requires.settled
    c.loop-number.passes c.tell_round.new.passes
    c.loop-number.owed c.tell_round.new.owed c.loop-number.number c.loop-number.invariant c.tell_round.ensures.passes c.tell_round.auto.owed
    c.tell_round.ensures.moved c.tell_round.ensures.owed
    c.run_workers.new.passes c.tell_round.ensures.heard c.run_workers.ensures.passes c.run_workers.ensures.ran

pub loop-number-preserved : goal.loop-number-preserved
loop-number-preserved g c = at_next g.N.SpaceName.name c.args.lines.now c.args.places.now c.args.rounds.now c.args.tellings.now c.requires.settled
    c.loop-number.passes c.tell_round.new.passes
    c.loop-number.owed c.tell_round.new.owed c.loop-number.number c.loop-number.invariant c.tell_round.ensures.passes c.tell_round.auto.owed
    c.tell_round.ensures.moved c.tell_round.ensures.owed
    c.run_workers.new.passes c.tell_round.ensures.heard c.run_workers.ensures.passes c.run_workers.ensures.ran (c.is_whole.ensures.0 c.if-not-is_whole.false)

pub returns-clause-begun : goal.returns-clause-begun
returns-clause-begun g c = begun_at g.N.SpaceName.name c.args.lines.now c.args.places.now c.args.rounds.now c.args.tellings.now c.requires.settled
    c.loop-number.passes c.loop-number.owed c.loop-number.number c.loop-number.invariant

pub returns-clause-grown : goal.returns-clause-grown
returns-clause-grown g c = grown_at g.N.SpaceName.name c.args.lines.now c.args.places.now c.args.rounds.now c.args.tellings.now c.requires.settled
    c.loop-number.passes c.loop-number.owed c.loop-number.number c.loop-number.invariant

pub returns-clause-done : goal.returns-clause-done
returns-clause-done g c = done_at g.N.SpaceName.name c.args.lines.now c.args.places.now c.args.rounds.now c.args.tellings.now c.requires.settled
    c.loop-number.passes c.loop-number.owed c.loop-number.number c.loop-number.invariant
    (λ k d within. let low = c.count_rounds-number-end.ensures.above k d within in omega (arith, low, c.loop-number-test.false))
