-- For `leaf_words`.
use Rattle.std.proofs.Common.{ℕ, ◌∙◌, ap, true, None, arith, get_or}
use Rattle.maple_node.specs.declared.item.NodeItem.{NodeItem}
use Rattle.maple_node.specs.Words.{entry_item}
use Rattle.maple_node.proofs.Packing.{made_next}
use Rattle.maple_node.proofs.Padded.{made_room, made_words}
use Rattle.maple_node.proofs.layout.Layout+16.leaf_words.Goals as goal

pub push_item-requires : goal.push_item-requires
push_item-requires c = made_room true entry_item c.args.entries.now c.loop-entry.words c.loop-entry.entry-index c.requires.few c.loop-entry-test.true c.loop-entry.invariant

pub loop-entry-preserved : goal.loop-entry-preserved
loop-entry-preserved c =
    let entry = get_or c.args.entries.now c.loop-entry.entry-index (0, None) in
    let told : ℕ → NodeItem = λ word. record { end = entry.0; word = word; gap = 0 } in
    made_next true entry_item c.args.entries.now c.loop-entry.words c.push_item.new.self c.loop-entry.entry-index (0, None) (told c.slot_word.result)
    c.loop-entry-test.true c.loop-entry.invariant (ap told c.slot_word.ensures) c.push_item.ensures

pub returns : goal.returns
returns c = c.into_words.ensures ∙ made_words true entry_item c.args.entries.now c.loop-entry.words c.loop-entry.entry-index (omega arith) c.loop-entry.invariant
