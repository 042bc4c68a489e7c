-- The proof of `print_alone`: line by line, or by the history that is made. The lines of the parent are those of the trace, since none forks.
use Rattle.std.proofs.Common.{◌≡◌, ◌∙◌, refl}
use Rattle.history.proofs.OneSpace.{all_of_parent}
use Rattle.vma_replay.proofs.Alone.{alone_history, alone_run, cut_whole, run_listed, run_told}
use Rattle.output.proofs.Pieces.{at_error, cut_none, printing_as, printing_then}
use Rattle.vma_replay.proofs.Parents.{legal_items}
use Rattle.vma_replay.proofs.in_turn.print_alone.Goals as goal

pub returns-in_err-own : goal.returns-in_err-own
returns-in_err-own g c = at_error _ _ _ _ c.from_residual.ensures.1 (cut_none _ _ _ _ refl)

pub turns_of-requires-clause-lines : goal.turns_of-requires-clause-lines
turns_of-requires-clause-lines g c = c.in_ok-own.ensures.own ∙ all_of_parent c.args.trace.now.lines c.requires.alone

pub run_history-requires-clause-run : goal.run_history-requires-clause-run
run_history-requires-clause-run g c = alone_run c.args.mode c.args.trace.now c.args.run.now c.requires.alone c.requires.run

pub print_history-requires-clause-legal : goal.print_history-requires-clause-legal
print_history-requires-clause-legal g c =
    legal_items c.args.mode c.args.trace.now c.args.run.now c.in_ok-own.own c.in_ok-history.history c.items-2.result.now c.requires.trace
    c.requires.run (c.in_ok-own.ensures.own ∙ all_of_parent c.args.trace.now.lines c.requires.alone)
    (alone_history c.args.mode c.args.trace.now c.args.run.now c.in_ok-history.history c.requires.alone c.in_ok-history.ensures) c.items-2.ensures

pub returns-in_err-print_turns : goal.returns-in_err-print_turns
returns-in_err-print_turns g c = at_error _ _ _ _ c.from_residual-in_err-print_turns.ensures.1
    (cut_whole _ _ _ _ _ _ _
    (run_told c.args.mode c.args.trace.now c.args.run.now c.items.result.now c.in-Some.turns c.items-areas.result.now
    (c.items.ensures.lines ∙ c.in_ok-own.ensures.own ∙ all_of_parent c.args.trace.now.lines c.requires.alone)
    c.in-Some.ensures (c.items-areas.ensures ∙ c.list.ensures)) c.in_err-print_turns.ensures.printing)

pub returns-in-Some : goal.returns-in-Some
returns-in-Some g c = printing_as _ _ _ _ _ _ _
    (run_told c.args.mode c.args.trace.now c.args.run.now c.items.result.now c.in-Some.turns c.items-areas.result.now
    (c.items.ensures.lines ∙ c.in_ok-own.ensures.own ∙ all_of_parent c.args.trace.now.lines c.requires.alone)
    c.in-Some.ensures (c.items-areas.ensures ∙ c.list.ensures))
    (printing_then _ _ _ _ _ _ _ _ _ c.in_ok-print_turns.ensures.printing c.print_maps.ensures.printing)

pub returns : goal.returns
returns g c = printing_as _ _ _ _ _ _ _
    (run_listed c.args.mode c.args.trace.now c.args.run.now c.in_ok-own.own c.in_ok-history.history c.items-2.result.now
    c.items-areas.result.now (c.in_ok-own.ensures.own ∙ all_of_parent c.args.trace.now.lines c.requires.alone)
    (alone_history c.args.mode c.args.trace.now c.args.run.now c.in_ok-history.history c.requires.alone c.in_ok-history.ensures) c.items-2.ensures
    (c.items-areas.ensures ∙ c.list.ensures)) c.print_history.ensures
