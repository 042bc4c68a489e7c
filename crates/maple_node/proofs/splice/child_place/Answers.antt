-- For `child_place`: a child stands at the place.
use Rattle.std.proofs.Common.{arith}
use Rattle.maple_node.proofs.Swapped.{near_room, near_more, near_there}
use Rattle.maple_node.proofs.splice.child_place.Goals as goal

pub offset_bounds-words-place : goal.offset_bounds-words-place
offset_bounds-words-place c = omega (arith, near_room _ _ _ c.loop-place.invariant, c.told-words)

pub bounds-words-place : goal.bounds-words-place
bounds-words-place c = omega (arith, near_room _ _ _ c.loop-place.invariant, c.told-words)

pub overflow_add-place : goal.overflow_add-place
overflow_add-place c = omega (arith, near_room _ _ _ c.loop-place.invariant, c.told-words)

pub loop-place-smaller : goal.loop-place-smaller
loop-place-smaller c = omega (arith, near_room _ _ _ c.loop-place.invariant, c.told-words)

pub loop-place-preserved : goal.loop-place-preserved
loop-place-preserved c = near_more c.args.page c.loop-place.place c.args.words.now c.loop-place.invariant c.loop-place-test.true

pub returns-clause-room : goal.returns-clause-room
returns-clause-room c = omega (arith, near_room _ _ _ c.loop-place.invariant, c.told-words)

pub returns-clause-place : goal.returns-clause-place
returns-clause-place c = (near_there c.args.page c.loop-place.place c.args.words.now c.loop-place.invariant c.loop-place-test.false).at

pub returns-clause-item : goal.returns-clause-item
returns-clause-item c = (near_there c.args.page c.loop-place.place c.args.words.now c.loop-place.invariant c.loop-place-test.false).item
