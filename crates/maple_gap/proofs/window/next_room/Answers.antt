-- For `next_room`: an item that may not have room is passed over, and none is left.
use Rattle.std.proofs.Common.{ℕ, ◌≡◌, ◌+◌, drop, false, sym, ap, ◌∙◌, arith}
use Rattle.maple_node.specs.declared.item.NodeItem.{NodeItem}
use Rattle.maple_node.specs.Nodes.{node_items}
use Rattle.maple_node.specs.Codec.{width_of, listed_at}
use Rattle.maple_node.proofs.Parts.{listed_none, listed_past}
use Rattle.maple_node.proofs.Spliced.{some_words}
use Rattle.maple_gap.specs.Internal.Searches.{may_have_room, chosen_from}
use Rattle.maple_gap.proofs.Choices.{chosen_step, chosen_none}
use Rattle.maple_gap.proofs.window.next_room.Goals as goal

pub loop-spot-preserved : goal.loop-spot-preserved
loop-spot-preserved c =
    let is = c.loop-spot.invariant in
    let window = c.args.window in
    let leaf = c.args.leaf in
    let words = c.args.words.now in
    let place = c.loop-spot.spot.place in
    let page = c.loop-spot.spot.page in
    let item = c.listed_at-item.ensures in
    let out : may_have_room window leaf page (listed_at leaf words place) ≡ false =
    sym (ap (may_have_room window leaf page) item) ∙ sym c.may_have.ensures ∙ c.if-may_have.false in
    record {
      within = c.loop-spot-test.true;
      width = is.width;
      above = omega (arith, is.above);
      same = λ side choice.
          is.same side choice
          ∙ chosen_step side window leaf choice page place words false (omega (arith, c.loop-spot-test.true, is.width, c.told-words)) c.if-words-spot-ne0.true out
          ∙ ap (λ (x : NodeItem). chosen_from side window leaf choice x.end (node_items leaf (drop (place + width_of leaf) words))) (sym item)
          ∙ ap (λ (n : ℕ). chosen_from side window leaf choice c.listed_at-item.result.end (node_items leaf (drop (place + n) words))) (sym is.width);
    }

pub returns-else-words-spot-ne0-clause-none : goal.returns-else-words-spot-ne0-clause-none
returns-else-words-spot-ne0-clause-none c =
    let is = c.loop-spot.invariant in
    λ side choice. is.same side choice
    ∙ chosen_none side c.args.window c.args.leaf choice c.loop-spot.spot.page c.loop-spot.spot.place c.args.words.now
    (listed_none c.args.leaf c.args.words.now c.loop-spot.spot.place
    (omega (arith, c.loop-spot-test.true, is.width, c.told-words, some_words c.args.leaf)) c.if-words-spot-ne0.false)

pub returns-after-loop-spot-clause-none : goal.returns-after-loop-spot-clause-none
returns-after-loop-spot-clause-none c =
    let is = c.loop-spot.invariant in
    λ side choice. is.same side choice
    ∙ chosen_none side c.args.window c.args.leaf choice c.loop-spot.spot.page c.loop-spot.spot.place c.args.words.now
    (listed_past c.args.leaf c.args.words.now c.loop-spot.spot.place (omega (arith, c.loop-spot-test.false, is.width, c.told-words)))
