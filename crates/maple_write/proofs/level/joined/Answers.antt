-- For `joined`: there is room.
use Rattle.std.proofs.Common.{List, length, ap, arith, length-append}
use Rattle.maple_node.specs.declared.item.NodeItem.{NodeItem}
use Rattle.maple_node.specs.Levels.{is_leaf}
use Rattle.maple_write.proofs.Packing.{most_16}
use Rattle.maple_write.proofs.level.joined.Goals as goal

pub push_part-requires : goal.push_part-requires
push_part-requires c =
    let none = ap (λ (xs : List NodeItem). length xs) c.requires.none in
    omega (arith, none, most_16 (is_leaf c.args.state.now.level))

pub push_all-requires : goal.push_all-requires
push_all-requires c =
    let none = ap (λ (xs : List NodeItem). length xs) c.requires.none in
    omega (arith, none, most_16 (is_leaf c.args.state.now.level), c.push_part.ensures.most, c.as_slice.ensures.fits)

pub push_part-requires-2 : goal.push_part-requires-2
push_part-requires-2 c =
    let none = ap (λ (xs : List NodeItem). length xs) c.requires.none in
    let second = ap (λ (xs : List NodeItem). length xs) c.push_all.ensures in
    let joined = length-append c.push_part.new.list.items c.as_slice.result.now in
    omega (arith, none, most_16 (is_leaf c.args.state.now.level), c.push_part.ensures.most, c.as_slice.ensures.fits, second, joined)
