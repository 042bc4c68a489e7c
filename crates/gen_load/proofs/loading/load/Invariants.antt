-- The loop of `load`: the text so far and the lines that are left are the text of the load.
use Rattle.gen_load.proofs.Written.{IsLoading}
use Rattle.gen_load.proofs.loading.load.Given as goal

abbrev pub invariant-loop : goal.invariant-loop
invariant-loop l = IsLoading l.text.items l.counter l.count l.draws l.seed
