-- For `inner_words`.
use Rattle.std.proofs.Common.{ℕ, ◌∙◌, ap, false, arith, get_or}
use Rattle.maple_node.specs.declared.item.NodeItem.{NodeItem}
use Rattle.maple_node.specs.Words.{child_item}
use Rattle.maple_node.proofs.Packing.{made_next}
use Rattle.maple_node.proofs.Padded.{made_room, made_words}
use Rattle.maple_node.proofs.layout.Layout+10.inner_words.Goals as goal

pub push_item-requires : goal.push_item-requires
push_item-requires c = made_room false child_item c.args.children.now c.loop-child.words c.loop-child.child-index c.requires.few c.loop-child-test.true c.loop-child.invariant

pub loop-child-preserved : goal.loop-child-preserved
loop-child-preserved c =
    let child = get_or c.args.children.now c.loop-child.child-index (0, record { 0 = 0 }, 0) in
    let told : ℕ → NodeItem = λ word. record { end = child.0; word = word; gap = child.2 } in
    made_next false child_item c.args.children.now c.loop-child.words c.push_item.new.self c.loop-child.child-index (0, record { 0 = 0 }, 0)
    (told c.from.result) c.loop-child-test.true c.loop-child.invariant (ap told c.from.ensures) c.push_item.ensures

pub returns : goal.returns
returns c = c.into_words.ensures ∙ made_words false child_item c.args.children.now c.loop-child.words c.loop-child.child-index (omega arith) c.loop-child.invariant
