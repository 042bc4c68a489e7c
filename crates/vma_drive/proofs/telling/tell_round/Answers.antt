-- The proof of `tell_round`: at a telling of the round, at another, and after the last.
use Rattle.std.proofs.Common.{ℕ, ◌≡◌, ◌+◌, suc, List, get_or, subst, sym, arith}
use Rattle.std.proofs.lemmas.Option.{slice_get-get_or, slice_get_within}
use Rattle.fault_path.specs.Passes.{PassView}
use Rattle.vma_drive.specs.declared.rounds.Telling.{Telling}
use Rattle.vma_drive.proofs.ToldFirst.{ToldTo, Tell, may_tell, told_skip, told_more, told_all}
use Rattle.vma_drive.proofs.telling.tell_round.Goals as goal
use Rattle.vma_drive.proofs.telling.tell_round.Goals.{then-telling-round, else-telling-round}

pub pass_note-requires-clause-left : goal.pass_note-requires-clause-left
pass_note-requires-clause-left g c =
    let t : Telling = get_or c.args.tellings.now c.loop-telling.telling-index (record { round = 0; teller = 0; hearer = 0 }) in
    (may_tell g.N.SpaceName.name c.args.tellings.now c.args.passes.now c.args.owed.now c.args.round
    c.loop-telling.passes c.loop-telling.owed c.loop-telling.telling-index t c.loop-telling.invariant (slice_get-get_or c.args.tellings.now c.loop-telling.telling-index (record { round = 0; teller = 0; hearer = 0 }) c.loop-telling-test.true) c.if-telling-round.true (c.requires.callers c.loop-telling.telling-index (record { round = 0; teller = 0; hearer = 0 }) c.loop-telling-test.true).0 c.requires.left).1

pub overflow_sub-owed : goal.overflow_sub-owed
overflow_sub-owed g c =
    let t : Telling = get_or c.args.tellings.now c.loop-telling.telling-index (record { round = 0; teller = 0; hearer = 0 }) in
    (may_tell g.N.SpaceName.name c.args.tellings.now c.args.passes.now c.args.owed.now c.args.round
    c.loop-telling.passes c.loop-telling.owed c.loop-telling.telling-index t c.loop-telling.invariant (slice_get-get_or c.args.tellings.now c.loop-telling.telling-index (record { round = 0; teller = 0; hearer = 0 }) c.loop-telling-test.true) c.if-telling-round.true (c.requires.callers c.loop-telling.telling-index (record { round = 0; teller = 0; hearer = 0 }) c.loop-telling-test.true).0 c.requires.left).0

next : (k : ℕ) → k + 1 ≡ suc k
next k = omega arith

pub loop-telling-preserved : goal.loop-telling-preserved
loop-telling-preserved g c =
    let t : Telling = get_or c.args.tellings.now c.loop-telling.telling-index (record { round = 0; teller = 0; hearer = 0 }) in
    elim c.if-telling-round.branch [
      | then-telling-round w ↦
          let tell : Tell g.N.SpaceName.name c.args.tellings.now c.args.passes.now c.args.owed.now c.args.round c.loop-telling.passes w.pass_note.new.passes t = record {
            passes_are = w.pass_note.ensures.passes;
            all = w.pass_note.auto.passes;
            moved = w.pass_note.ensures.moved;
            heard = w.pass_note.ensures.heard;
          } in
          subst (λ (l : List PassView). ToldTo g.N.SpaceName.name c.args.tellings.now
          c.args.passes.now l c.args.owed.now c.if-telling-round.owed c.args.round (c.loop-telling.telling-index + 1)) (sym w.passes-is)
          (subst (λ (l : List ℕ). ToldTo g.N.SpaceName.name c.args.tellings.now
          c.args.passes.now w.pass_note.new.passes c.args.owed.now l c.args.round (c.loop-telling.telling-index + 1)) (sym w.owed-is)
          (told_more g.N.SpaceName.name c.args.tellings.now c.args.passes.now c.args.owed.now c.args.round c.loop-telling.passes w.pass_note.new.passes c.loop-telling.owed
          c.loop-telling.telling-index (c.loop-telling.telling-index + 1) t c.loop-telling.invariant (slice_get-get_or c.args.tellings.now c.loop-telling.telling-index (record { round = 0; teller = 0; hearer = 0 }) c.loop-telling-test.true) w.if-telling-round.true
          (next c.loop-telling.telling-index) (c.requires.callers c.loop-telling.telling-index (record { round = 0; teller = 0; hearer = 0 }) c.loop-telling-test.true).0 (may_tell g.N.SpaceName.name c.args.tellings.now c.args.passes.now c.args.owed.now c.args.round
          c.loop-telling.passes c.loop-telling.owed c.loop-telling.telling-index t c.loop-telling.invariant (slice_get-get_or c.args.tellings.now c.loop-telling.telling-index (record { round = 0; teller = 0; hearer = 0 }) c.loop-telling-test.true) w.if-telling-round.true (c.requires.callers c.loop-telling.telling-index (record { round = 0; teller = 0; hearer = 0 }) c.loop-telling-test.true).0 c.requires.left).0 tell))
      | else-telling-round w ↦
          subst (λ (l : List PassView). ToldTo g.N.SpaceName.name c.args.tellings.now
          c.args.passes.now l c.args.owed.now c.if-telling-round.owed c.args.round (c.loop-telling.telling-index + 1)) (sym w.passes-is)
          (subst (λ (l : List ℕ). ToldTo g.N.SpaceName.name c.args.tellings.now
          c.args.passes.now c.loop-telling.passes c.args.owed.now l c.args.round (c.loop-telling.telling-index + 1)) (sym w.owed-is)
          (told_skip g.N.SpaceName.name c.args.tellings.now c.args.passes.now c.args.owed.now c.args.round c.loop-telling.passes c.loop-telling.owed
          c.loop-telling.telling-index (c.loop-telling.telling-index + 1) t c.loop-telling.invariant (slice_get-get_or c.args.tellings.now c.loop-telling.telling-index (record { round = 0; teller = 0; hearer = 0 }) c.loop-telling-test.true) w.if-telling-round.false
          (next c.loop-telling.telling-index)))
    ]

pub returns-clause-owed : goal.returns-clause-owed
returns-clause-owed g c = told_all g.N.SpaceName.name c.args.tellings.now c.args.passes.now c.args.owed.now c.args.round c.loop-telling.passes c.loop-telling.owed
    c.loop-telling.telling-index c.loop-telling.invariant c.loop-telling-test.false

pub returns-clause-heard : goal.returns-clause-heard
returns-clause-heard g c = λ index telling teller hearer at now was its.
    c.loop-telling.invariant.heard index telling teller hearer
    (omega (arith, slice_get_within c.args.tellings.now index telling at, c.loop-telling-test.false)) at now was its
