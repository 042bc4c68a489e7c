-- For `first_fork`: its goals.
use Rattle.std.proofs.Common.{◌≡◌, length, arith}
use Rattle.std.proofs.lemmas.Bool.Decides.{nat_tests}
use Rattle.output.proofs.Children.{fork_none}
use Rattle.output.proofs.forks.first_fork.Goals as goal

pub returns : goal.returns
returns c =
    let none : length c.loop-rest.rest.now ≡ 0 = grind (arith, nat_tests, c.is_empty.ensures, c.loop-rest-test.false) in
    fork_none _ _ c.loop-rest.rest.now _ none c.loop-rest.invariant.same
