-- The proof of `rounds_of`: before the first line, at the next, and after the last.
use Rattle.std.proofs.Common.{ℕ, length, ◌∙◌, ap, List, arith, subst, sym}
use Rattle.std.proofs.lemmas.Option.{slice_get-get_or}
use Rattle.trace_reader.specs.declared.trace.TraceLine.{TraceLine}
use Rattle.history.specs.declared.callers.TheConstants.{MOST_THREADS}
use Rattle.history.specs.Threads.{counts_below}
use Rattle.vma_drive.specs.Internal.Rounds.{AreRounds}
use Rattle.vma_drive.proofs.Rounding.{rounded_none, rounded_at, rounded_all, name_low, round_few}
use Rattle.vma_drive.proofs.rounds.rounds_of.Goals as goal

pub loop-line-init : goal.loop-line-init
loop-line-init c = rounded_none c.items-lines.result.now c.new-rounds.result.items (omega arith)

pub round_of-round-requires-clause-named : goal.round_of-round-requires-clause-named
round_of-round-requires-clause-named c =
    name_low c.items-lines.result.now c.loop-line.line-index _ _ c.items-lines.ensures.kept.numbered c.items-lines.ensures.kept.named
    (slice_get-get_or c.items-lines.result.now c.loop-line.line-index _ c.loop-line-test.true)
    (ap (λ (l : List ℕ). length l) c.as_slice.ensures.value ∙ c.loop-line.invariant.all)

pub round_of-round-requires-clause-few : goal.round_of-round-requires-clause-few
round_of-round-requires-clause-few c = (
  (let low = c.loop-line.invariant.reached_low c.caller-caller.result in omega (arith, low, c.loop-line-test.true, c.items-lines.ensures.kept.few)),
  λ k d within.
      let low = round_few _ _ _ c.as_slice.result.now c.loop-line.line-index k d c.loop-line.invariant c.as_slice.ensures.value within in
      omega (arith, low, c.loop-line-test.true, c.items-lines.ensures.kept.few),
)

pub loop-line-preserved : goal.loop-line-preserved
loop-line-preserved c = rounded_at c.items-lines.result.now c.loop-line.rounds.items c.loop-line.reached c.as_slice.result.now c.push.new.self.items
    c.loop-line.line-index c.caller-caller.result c.round_of-round.result _ c.items-lines.ensures.kept.numbered c.items-lines.ensures.kept.named c.loop-line.invariant
    c.loop-line-test.true c.items-lines.ensures.threads (c.caller-caller.ensures.caller c.items-lines.result.now (c.requires ∙ ap (counts_below MOST_THREADS) (sym c.items-lines.ensures.lines))) c.round_of-round.ensures.reached
    c.round_of-round.ensures.least c.as_slice.ensures.value c.round_of-round.ensures.above c.in_ok-push.ensures.items

pub returns : goal.returns
returns c = subst (λ (l : List TraceLine). AreRounds l c.loop-line.rounds.items) c.items-lines.ensures.lines
    (rounded_all c.items-lines.result.now c.loop-line.rounds.items c.loop-line.reached c.loop-line.line-index c.loop-line.invariant
    (omega (arith, c.loop-line-test.false, c.loop-line.auto.line-index-end)) c.items-lines.ensures.kept.few)
