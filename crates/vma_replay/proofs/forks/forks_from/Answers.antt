-- The proof of `forks_from`: before the first item, at the next, and after the last.
use Rattle.vma_replay.specs.Forks.{fork_of}
use Rattle.output.proofs.Telling.{told_all, told_answers, told_next, told_none}
use Rattle.vma_replay.proofs.forks.forks_from.Goals as goal

pub loop-item-init : goal.loop-item-init
loop-item-init c = told_none fork_of _ _ _ _ c.in_ok-answered.ensures c.new-forks.ensures.items

pub next-requires : goal.next-requires
next-requires c = told_answers fork_of c.args.lines.now c.args.items.now c.loop-item.item-index c.loop-item.answered c.loop-item.forks.items
    c.item-item.result c.loop-item.invariant c.requires c.loop-item-test.true c.item-item.is

pub loop-item-preserved : goal.loop-item-preserved
loop-item-preserved c = told_next fork_of c.args.lines.now c.args.items.now c.loop-item.item-index c.loop-item.answered _ c.loop-item.forks.items _
    c.item-item.result c.next.result.now c.loop-item.invariant c.loop-item-test.true c.item-item.is c.next.ensures c.in_ok-push_fork.ensures

pub returns : goal.returns
returns c = told_all fork_of _ _ _ _ _ c.loop-item.invariant c.loop-item-test.false
