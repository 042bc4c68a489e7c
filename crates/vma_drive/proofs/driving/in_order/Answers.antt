-- The proof of `in_order`: the lines that were run are the parent's, which are all where no line forks.
use Rattle.std.proofs.Common.{ℕ, ◌≡◌, ◌≤◌, ◌∙◌, ap, sym, subst, List, length, take, not}
use Rattle.std.proofs.lemmas.List.Elements.{All-filter}
use Rattle.std.specs.Prelude.{OnOk}
use Rattle.trace_reader.specs.declared.trace.TraceLine.{TraceLine}
use Rattle.trace_reader.specs.Lines.{has_child}
use Rattle.trace_reader.specs.Values.{children_of}
use Rattle.history.specs.Histories.{AsksItself, AskThemselves}
use Rattle.history.specs.Parents.{parent_lines}
use Rattle.history.specs.Runs.{asked}
use Rattle.history.proofs.OneSpace.{whole_is_parent}
use Rattle.vma_drive.specs.Hearing.{done_by}
use Rattle.vma_drive.proofs.RanLines.{ran_none}
use Rattle.vma_drive.proofs.Unused.{begun_alone, late_alone}
use Rattle.vma_drive.proofs.driving.in_order.Goals as goal

pub returns-in_err-own-clause-begun : goal.returns-in_err-own-clause-begun
returns-in_err-own-clause-begun g c = (0, begun_alone _ _ _ _ c.requires.unused (ran_none c.args.pass.now (parent_lines c.args.trace.now.lines)))

pub returns-in_err-own-clause-late : goal.returns-in_err-own-clause-late
returns-in_err-own-clause-late g c = late_alone _ _ _ _ c.requires.unused (ran_none c.args.pass.now (parent_lines c.args.trace.now.lines))

pub in_order_with-requires-clause-lines : goal.in_order_with-requires-clause-lines
in_order_with-requires-clause-lines g c =
    let own : c.as_slice.result.now ≡ parent_lines c.args.trace.now.lines =
    c.as_slice.ensures.value ∙ c.in_ok-own.ensures ∙ ap parent_lines c.items-lines.ensures in
    subst (λ (l : List TraceLine). AskThemselves l) (sym own)
    (All-filter (λ line. not (has_child (children_of c.args.trace.now.lines) line.thread)) (λ line. AsksItself line.op) c.args.trace.now.lines
    c.requires.lines)

pub in_order_with-requires-else-has_forks-clause-left : goal.in_order_with-requires-else-has_forks-clause-left
in_order_with-requires-else-has_forks-clause-left g c = subst (λ (l : List TraceLine). length l ≤ c.args.pass.now.left)
    (sym (whole_is_parent c.items-lines.result.now c.args.trace.now.lines _ c.items-lines.ensures c.has_forks.ensures c.if-has_forks.false))
    c.requires.left

pub returns-else-has_forks-clause-begun : goal.returns-else-has_forks-clause-begun
returns-else-has_forks-clause-begun g c = subst
    (λ (l : List TraceLine). (count : ℕ) × (done_by c.in_order_with-else-has_forks.new.pass ≡ asked (take count l)))
    (whole_is_parent c.items-lines.result.now c.args.trace.now.lines _ c.items-lines.ensures c.has_forks.ensures c.if-has_forks.false)
    c.in_order_with-else-has_forks.ensures.begun

pub returns-else-has_forks-clause-done : goal.returns-else-has_forks-clause-done
returns-else-has_forks-clause-done g c = subst
    (λ (l : List TraceLine). OnOk c.in_order_with-else-has_forks.result (done_by c.in_order_with-else-has_forks.new.pass ≡ asked l))
    (whole_is_parent c.items-lines.result.now c.args.trace.now.lines _ c.items-lines.ensures c.has_forks.ensures c.if-has_forks.false)
    c.in_order_with-else-has_forks.ensures.done
