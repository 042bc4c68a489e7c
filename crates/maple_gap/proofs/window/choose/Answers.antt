-- For `choose`: one item more that may have room.
use Rattle.std.proofs.Common.{ℕ, ◌≡◌, ◌+◌, drop, true, sym, ap, ◌∙◌, arith}
use Rattle.maple_node.specs.declared.item.NodeItem.{NodeItem}
use Rattle.maple_node.specs.Nodes.{node_items}
use Rattle.maple_node.specs.Codec.{width_of, listed_at}
use Rattle.maple_gap.specs.declared.window.Choice.{Choice}
use Rattle.maple_gap.specs.Internal.Searches.{chosen, chosen_from}
use Rattle.maple_gap.proofs.Choices.{chosen_step}
use Rattle.maple_gap.proofs.window.choose.Goals as goal

pub loop-spot-preserved : goal.loop-spot-preserved
loop-spot-preserved c =
    let room = c.in-Some.ensures.some in
    let side = c.args.side in
    let window = c.args.window in
    let leaf = c.args.leaf in
    let words = c.args.words.now in
    let choice = c.loop-spot.choice in
    let place = c.in-Some.spot.place in
    let page = c.in-Some.spot.page in
    let item = c.listed_at-item.ensures in
    let adds : c.add.new.self ≡ chosen side choice (record { start = page; item = listed_at leaf words place }) =
    c.add.ensures ∙ ap (λ (x : NodeItem). chosen side choice (record { start = page; item = x })) item in
    record {
      within = omega (arith, room.within, c.width_of.ensures, c.told-words);
      chosen_so = ap (λ (n : ℕ). chosen_from side window leaf c.add.new.self c.listed_at-item.result.end (node_items leaf (drop (place + n) words))) c.width_of.ensures
          ∙ ap (λ (x : NodeItem). chosen_from side window leaf c.add.new.self x.end (node_items leaf (drop (place + width_of leaf) words))) item
          ∙ ap (λ (more : Choice). chosen_from side window leaf more (listed_at leaf words place).end (node_items leaf (drop (place + width_of leaf) words))) adds
          ∙ sym (chosen_step side window leaf choice page place words true room.within room.some room.may)
          ∙ sym (room.same side choice)
          ∙ c.loop-spot.invariant.chosen_so;
    }
