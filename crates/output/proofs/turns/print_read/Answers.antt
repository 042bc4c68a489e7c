-- The proof of `print_read`: a verdict or a list was printed.
use Rattle.trace_reader.specs.Values.{child_of}
use Rattle.output.proofs.InTurn.{verdict_told}
use Rattle.output.proofs.Pieces.{printing_as}
use Rattle.output.proofs.Fitting.{pushing_as}
use Rattle.output.proofs.turns.print_read.Goals as goal

pub returns-in-Fault-clause-printing : goal.returns-in-Fault-clause-printing
returns-in-Fault-clause-printing g c = rw c.in-Fault.is
    (printing_as _ _ _ _ _ _ _ (verdict_told c.args.files.now (child_of c.args.op) c.in-Fault.page c.in-Fault.access c.in-Fault.verdict)
    c.print_verdict.ensures.printing)

pub returns-in-Fault-clause-fits : goal.returns-in-Fault-clause-fits
returns-in-Fault-clause-fits g c = rw c.in-Fault.is
    (pushing_as _ _ _ _ _ _ _ (verdict_told c.args.files.now (child_of c.args.op) c.in-Fault.page c.in-Fault.access c.in-Fault.verdict)
    c.print_verdict.ensures.fits)
