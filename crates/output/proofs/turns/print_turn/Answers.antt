-- The proof of `print_turn`: its start was appended, and then what it resulted in was printed.
use Rattle.std.proofs.Common.{ℕ, ◌∙◌, ◌++◌, ap, sym}
use Rattle.history.specs.Turns.{turn_item}
use Rattle.history.specs.declared.turns.Turn.{Turn}
use Rattle.output.specs.Output.{result_text, item_start}
use Rattle.trace_reader.specs.Values.{child_of}
use Rattle.output.proofs.InTurn.{reply_told}
use Rattle.output.proofs.Pieces.{printing_after, printing_as}
use Rattle.output.proofs.Fitting.{pushes_text, pushing_as, pushing_then}
use Rattle.output.proofs.turns.print_turn.Goals as goal

pub returns-in-Call-clause-printing : goal.returns-in-Call-clause-printing
returns-in-Call-clause-printing g c =
    printing_after _ _ _ _ _ _ _ _
    (c.in_ok-push_start.ensures.ok ∙ ap (λ (v : ℕ). c.args.piece.now.items ++ item_start c.args.line.now v) c.version.ensures)
    (printing_as _ _ _ _ _ _ _
    (reply_told c.args.files.now (child_of c.args.line.now.op) c.in-Call.entry.now.call c.in-Call.entry.now.reply
    ∙ ap (λ (t : Turn). result_text c.args.files.now (child_of c.args.line.now.op) (turn_item t).content) (sym c.in-Call.is))
    c.print_reply.ensures.printing)

pub returns-in-Call-clause-fits : goal.returns-in-Call-clause-fits
returns-in-Call-clause-fits g c =
    pushing_then _ _ _ _ _ _ _ _ _
    (pushes_text _ _ _ _ _
    (c.in_ok-push_start.ensures.ok ∙ ap (λ (v : ℕ). c.args.piece.now.items ++ item_start c.args.line.now v) c.version.ensures)
    c.in_ok-push_start.ensures.capacity)
    (pushing_as _ _ _ _ _ _ _
    (reply_told c.args.files.now (child_of c.args.line.now.op) c.in-Call.entry.now.call c.in-Call.entry.now.reply
    ∙ ap (λ (t : Turn). result_text c.args.files.now (child_of c.args.line.now.op) (turn_item t).content) (sym c.in-Call.is))
    c.print_reply.ensures.fits)
