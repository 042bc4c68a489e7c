-- The proof of `generated_run`: all lines of a load are the parent's.
use Rattle.vma_replay.proofs.Loads.{load_run}
use Rattle.vma_replay.proofs.generating.generated_run.Goals as goal

pub returns-clause-run : goal.returns-clause-run
returns-clause-run g c = load_run _ c.args.count c.args.seed c.run_serial.result c.in_ok-trace.ensures.trace c.run_serial.ensures.run
