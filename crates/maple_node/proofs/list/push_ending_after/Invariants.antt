-- The loop of `push_ending_after`.
use Rattle.std.proofs.Common.{◌≡◌, ◌++◌, take}
use Rattle.maple_node.specs.Splices.{ending_after}
use Rattle.maple_node.proofs.list.push_ending_after.Given as goal

-- the items so far that end above the page were added
abbrev pub invariant-loop-item : goal.invariant-loop-item
invariant-loop-item l = l.list.items ≡ l.initial.list.items ++ ending_after l.page (take l.item-index l.items)
