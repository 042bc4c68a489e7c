-- For `push_ending_after`.
use Rattle.std.proofs.Common.{take, arith}
use Rattle.maple_node.specs.Splices.{ending_after}
use Rattle.maple_node.proofs.ItemLists.{length-ending_after, room_left}
use Rattle.maple_node.proofs.list.push_ending_after.Goals as goal

pub push-requires : goal.push-requires
push-requires c =
    let before = take c.loop-item.item-index c.args.items.now in (
      omega arith,
      room_left c.loop-item.item-index c.args.list.now.items c.loop-item.list.items (ending_after c.args.page before) c.args.items.now
          c.loop-item.invariant (length-ending_after c.args.page before) c.loop-item-test.true c.requires,
    )
