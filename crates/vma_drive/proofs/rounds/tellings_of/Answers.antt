-- The proof of `tellings_of`: at the next line, and after the last.
use Rattle.std.proofs.Common.{◌+◌, ◌∙◌, List, sym, ap, subst}
use Rattle.std.specs.Prelude.{Vec}
use Rattle.std.specs.declared.alloc.Global.{Global}
use Rattle.std.proofs.lemmas.Option.{slice_get-get_or}
use Rattle.trace_reader.specs.declared.trace.TraceLine.{TraceLine}
use Rattle.history.specs.declared.callers.TheConstants.{MOST_THREADS}
use Rattle.history.specs.Threads.{counts_below}
use Rattle.vma_drive.specs.Internal.Rounds.{AreTellings}
use Rattle.vma_drive.specs.declared.rounds.Telling.{Telling}
use Rattle.vma_drive.proofs.NamedLines.{name_stands}
use Rattle.vma_drive.proofs.AllTold.{ToldOf, told_of_skip, told_of_push, told_of_all}
use Rattle.vma_drive.proofs.rounds.tellings_of.Goals as goal
use Rattle.vma_drive.proofs.rounds.tellings_of.Goals.{in-Some+in_ok-push, in_default}

pub place_of-requires-clause-some : goal.place_of-requires-clause-some
place_of-requires-clause-some c = name_stands c.items-lines.result.now c.loop-place.place _ _ c.items-lines.ensures.kept.named
    (slice_get-get_or c.items-lines.result.now c.loop-place.place _ c.loop-place-test.true) c.in-Some.is

pub loop-place-preserved : goal.loop-place-preserved
loop-place-preserved c = elim c.match-line.branch [
  | in-Some+in_ok-push w ↦
      told_of_push c.items-lines.result.now c.args.rounds.now c.loop-place.tellings.items c.match-line.tellings.items c.loop-place.place w.in-Some.number
      w.place_of.result w.caller-teller.result w.caller-hearer.result _ _ c.items-lines.ensures.kept.numbered c.items-lines.ensures.threads c.loop-place.invariant
      c.loop-place-test.true w.in-Some.is w.place_of.ensures
      (w.caller-teller.ensures.caller c.items-lines.result.now (c.requires.callers ∙ ap (counts_below MOST_THREADS) (sym c.items-lines.ensures.lines))) (w.caller-hearer.ensures.caller c.items-lines.result.now (c.requires.callers ∙ ap (counts_below MOST_THREADS) (sym c.items-lines.ensures.lines)))
      (ap (λ (v : Vec Telling Global). v.items) w.tellings-is ∙ w.in_ok-push.ensures.items)
  | in_default w ↦
      subst (λ (v : Vec Telling Global). ToldOf c.items-lines.result.now c.args.rounds.now v.items (c.loop-place.place + 1)) (sym w.tellings-is)
      (told_of_skip c.items-lines.result.now c.args.rounds.now c.loop-place.tellings.items c.loop-place.place _ c.loop-place.invariant
      (slice_get-get_or c.items-lines.result.now c.loop-place.place _ c.loop-place-test.true) w.in_default.is)
]

pub returns : goal.returns
returns c = subst (λ (l : List TraceLine). AreTellings l c.args.rounds.now c.loop-place.tellings.items) c.items-lines.ensures.lines
    (told_of_all c.items-lines.result.now c.args.rounds.now c.loop-place.tellings.items c.loop-place.place c.loop-place.invariant
    c.loop-place-test.false)
