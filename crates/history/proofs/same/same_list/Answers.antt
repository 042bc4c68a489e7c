-- The proof of `same_list`: lists that agree at each place are the same.
use Rattle.std.proofs.Common.{refl, arith}
use Rattle.std.proofs.lemmas.List.{same_lists}
use Rattle.history.proofs.same.same_list.Goals as goal

pub returns : goal.returns
returns c = (λ _. same_lists c.args.a.now c.args.b.now (omega arith) (λ k d within. c.loop-place.invariant k d (omega arith)), λ _. refl)
