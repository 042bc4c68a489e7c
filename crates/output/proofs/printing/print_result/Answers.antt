-- The proof of `print_result`: a reply, a verdict or a list was printed.
use Rattle.std.proofs.Common.{ap}
use Rattle.history.specs.declared.items.Content.TheVariants as contents
use Rattle.mm_types.specs.declared.area.Record.{Record}
use Rattle.output.specs.Output.{result_text}
use Rattle.std.specs.Prelude.{List}
use Rattle.trace_reader.specs.Values.{child_of}
use Rattle.output.proofs.InTurn.{reply_told, verdict_told}
use Rattle.output.proofs.Pieces.{printing_as}
use Rattle.output.proofs.Fitting.{pushing_as}
use Rattle.output.proofs.printing.print_result.Goals as goal

pub returns-in-Called-clause-printing : goal.returns-in-Called-clause-printing
returns-in-Called-clause-printing g c = rw c.in-Called.is
    (printing_as _ _ _ _ _ _ _ (reply_told c.args.files.now (child_of c.args.op) c.in-Called.field-0 c.in-Called.reply) c.print_reply.ensures.printing)

pub returns-in-Fault-clause-printing : goal.returns-in-Fault-clause-printing
returns-in-Fault-clause-printing g c = rw c.in-Fault.is
    (printing_as _ _ _ _ _ _ _ (verdict_told c.args.files.now (child_of c.args.op) c.in-Fault.page c.in-Fault.access c.in-Fault.verdict)
    c.print_verdict.ensures.printing)

pub returns-in-List-clause-printing : goal.returns-in-List-clause-printing
returns-in-List-clause-printing g c = rw c.in-List.is
    (printing_as _ _ _ _ _ _ _ (ap (λ (l : List Record). result_text c.args.files.now (child_of c.args.op) (contents.List l)) c.items.ensures)
    c.print_areas.ensures.printing)

pub returns-in-Called-clause-fits : goal.returns-in-Called-clause-fits
returns-in-Called-clause-fits g c = rw c.in-Called.is
    (pushing_as _ _ _ _ _ _ _ (reply_told c.args.files.now (child_of c.args.op) c.in-Called.field-0 c.in-Called.reply) c.print_reply.ensures.fits)

pub returns-in-Fault-clause-fits : goal.returns-in-Fault-clause-fits
returns-in-Fault-clause-fits g c = rw c.in-Fault.is
    (pushing_as _ _ _ _ _ _ _ (verdict_told c.args.files.now (child_of c.args.op) c.in-Fault.page c.in-Fault.access c.in-Fault.verdict)
    c.print_verdict.ensures.fits)

pub returns-in-List-clause-fits : goal.returns-in-List-clause-fits
returns-in-List-clause-fits g c = rw c.in-List.is
    (pushing_as _ _ _ _ _ _ _ (ap (λ (l : List Record). result_text c.args.files.now (child_of c.args.op) (contents.List l)) c.items.ensures)
    c.print_areas.ensures.fits)
