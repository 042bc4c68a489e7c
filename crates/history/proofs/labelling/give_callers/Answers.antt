-- For `give_callers`: its goals.
use Rattle.std.proofs.Common.{◌∙◌, List, All, ap, get_or, arith, subst, sym}
use Rattle.trace_reader.specs.declared.trace.TraceLine.{TraceLine}
use Rattle.history.specs.declared.callers.TheConstants.{MOST_THREADS}
use Rattle.history.specs.declared.items.Item.{Item}
use Rattle.history.specs.Labels.{labelled}
use Rattle.history.specs.Threads.{counts_below}
use Rattle.history.proofs.Regrouping.{give_more, give_done, given_caller, labelled_small}
use Rattle.history.proofs.Sorts.{Small}
use Rattle.history.proofs.labelling.give_callers.Goals as goal

pub loop-place-preserved : goal.loop-place-preserved
loop-place-preserved c =
    give_more c.items-lines.result.now c.items-lines.result.now c.args.items.now.items c.loop-place.items.items c.loop-place.place _ c.index_mut.result.now _
    c.loop-place.invariant
    (omega arith) (omega (arith, c.len.ensures))
    (given_caller c.items-lines.result.now (get_or c.items-lines.result.now c.loop-place.place _) c.index_mut.result.now _ c.caller.result
    (c.caller.ensures.caller c.items-lines.result.now
    (c.of-callers.ensures.counted ∙ ap (counts_below MOST_THREADS) (sym c.items-lines.ensures.lines))) c.index_mut.ensures.value)

pub returns-clause-given : goal.returns-clause-given
returns-clause-given c =
    c.truncate.ensures.items
    ∙ give_done c.items-lines.result.now c.items-lines.result.now c.args.items.now.items c.loop-place.items.items c.loop-place.place c.min-count.result
    c.loop-place.invariant
    c.loop-place-test.false c.loop-place.auto.place-end (omega (arith, c.min-count.ensures, c.len.ensures))
    ∙ ap (λ (l : List TraceLine). labelled l l c.args.items.now.items) c.items-lines.ensures.lines

pub returns-clause-small : goal.returns-clause-small
returns-clause-small c =
    let shown : List TraceLine = c.items-lines.result.now in
    subst (λ (l : List Item). All Small l)
    (sym (c.truncate.ensures.items
    ∙ give_done shown shown c.args.items.now.items c.loop-place.items.items c.loop-place.place c.min-count.result c.loop-place.invariant
    c.loop-place-test.false c.loop-place.auto.place-end (omega (arith, c.min-count.ensures, c.len.ensures))))
    (labelled_small shown shown c.args.items.now.items c.items-lines.ensures.threads)
