-- The proof of `tells_by_caller`: at the next line, and after the last.
use Rattle.std.proofs.Common.{ℕ, ◌+◌, ◌∙◌, List, ap, arith, subst, sym}
use Rattle.std.proofs.lemmas.Option.{slice_get-get_or, slice_get_within}
use Rattle.history.specs.declared.callers.TheConstants.{MOST_THREADS}
use Rattle.history.specs.Threads.{counts_below}
use Rattle.trace_reader.specs.declared.trace.TraceLine.{TraceLine}
use Rattle.vma_drive.specs.Naming.{tells}
use Rattle.vma_drive.proofs.NamedLines.{name_stands}
use Rattle.vma_drive.proofs.NamedCounts.{CountedTo, counted_none, counted_name, counted_skip, counted_all, few_counted}
use Rattle.vma_drive.proofs.naming.tells_by_caller.Goals as goal
use Rattle.vma_drive.proofs.naming.tells_by_caller.Goals.{in-Some, in_default}

pub loop-line-init : goal.loop-line-init
loop-line-init c = counted_none c.items-lines.result.now

pub place_of-requires-clause-some : goal.place_of-requires-clause-some
place_of-requires-clause-some c = name_stands c.items-lines.result.now c.loop-line.line-index _ _ c.items-lines.ensures.kept.named
    (slice_get-get_or c.items-lines.result.now c.loop-line.line-index _ c.loop-line-test.true) c.in-Some.is

pub offset_bounds-lines-place_of : goal.offset_bounds-lines-place_of
offset_bounds-lines-place_of c =
    let low = slice_get_within c.items-lines.result.now c.place_of.result c.place_of.ensures.0 c.place_of.ensures.1 in
    omega (arith, low, c.items-lines.ensures.kept.few)

pub bounds-lines-place_of : goal.bounds-lines-place_of
bounds-lines-place_of c = slice_get_within c.items-lines.result.now c.place_of.result c.place_of.ensures.0 c.place_of.ensures.1

pub loop-line-preserved : goal.loop-line-preserved
loop-line-preserved c = elim c.match-line.branch [
  | in-Some w ↦
      subst (λ (l : List ℕ). CountedTo c.items-lines.result.now l (c.loop-line.line-index + 1)) (sym w.tells-is)
      (counted_name c.items-lines.result.now c.loop-line.tells c.loop-line.line-index w.place_of.result w.in-Some.number w.caller.result _ _ c.items-lines.ensures.kept.numbered
      c.items-lines.ensures.threads c.loop-line.invariant c.loop-line-test.true w.in-Some.is w.place_of.ensures
      (w.caller.ensures.caller c.items-lines.result.now (c.requires ∙ ap (counts_below MOST_THREADS) (sym c.items-lines.ensures.lines))) w.caller.ensures.few)
  | in_default w ↦
      subst (λ (l : List ℕ). CountedTo c.items-lines.result.now l (c.loop-line.line-index + 1)) (sym w.tells-is)
      (counted_skip c.items-lines.result.now c.loop-line.tells c.loop-line.line-index _ c.loop-line.invariant c.loop-line-test.true w.in_default.is)
]

pub returns-clause-tells : goal.returns-clause-tells
returns-clause-tells c = λ caller low.
    counted_all c.items-lines.result.now c.loop-line.tells c.loop-line.line-index c.loop-line.invariant c.loop-line-test.false caller low
    ∙ ap (λ (l : List TraceLine). tells l caller) c.items-lines.ensures.lines

pub returns-clause-few : goal.returns-clause-few
returns-clause-few c caller low =
    omega (arith, few_counted c.items-lines.result.now c.loop-line.tells c.loop-line.line-index caller c.loop-line.invariant low, c.loop-line.auto.line-index-end, c.items-lines.ensures.kept.few)
