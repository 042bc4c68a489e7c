-- For `measure`: the space has the name of what it is opened with.
use Rattle.vma_bench.proofs.faults.measure.Given as goal

abbrev pub ghosts-run : goal.ghosts-run
ghosts-run g a = record { name = a.ready }
