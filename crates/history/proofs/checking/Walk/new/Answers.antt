-- The proof of `Walk::new`: the walk before the first item.
use Rattle.std.proofs.Common.{arith}
use Rattle.history.proofs.OneSpace.{space_threads}
use Rattle.history.proofs.Walking.{walked_none}
use Rattle.history.proofs.checking.Walk.new.Goals as goal

pub returns : goal.returns
returns c =
    let kept = c.new.ensures.kept in
    walked_none _ _ c.in_ok-new.ensures.first c.in_ok-begun.ensures
    (omega (arith, c.requires.valid.most_files, c.requires.begun, kept.few)) kept.numbered (space_threads _ kept)
