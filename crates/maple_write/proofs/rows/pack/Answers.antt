-- For `pack`: a node more.
use Rattle.std.proofs.Common.{◌∙◌, ◌+◌, refl, arith}
use Rattle.maple_node.specs.Nodes.{words_of_items}
use Rattle.maple_node.specs.declared.item.NodeItem.{NodeItem}
use Rattle.std.proofs.Common.{List, take, drop, ◌-◌}
use Rattle.node_slots.specs.Seats.{writer_state, free_of}
use Rattle.maple_write.proofs.Writers.{fills_both, once_free}
use Rattle.maple_write.proofs.Packing.{part_of, pack_more}
use Rattle.maple_write.proofs.rows.pack.Goals as goal

pub put-node-requires-clause-ascends : goal.put-node-requires-clause-ascends
put-node-requires-clause-ascends c =
    let is = c.loop-place.invariant.packs in
    let place = c.loop-place.place in
    let within = c.share.ensures.within in
    let inside = is.within in
    (part_of c.args.leaf c.args.start c.loop-place.begin place (place + c.share.result) c.args.items.now (omega arith) (omega arith) is.begins
    c.requires.ascends c.requires.plain).ascends

pub put-node-requires-clause-plain : goal.put-node-requires-clause-plain
put-node-requires-clause-plain c =
    let is = c.loop-place.invariant.packs in
    let place = c.loop-place.place in
    let within = c.share.ensures.within in
    let inside = is.within in
    (part_of c.args.leaf c.args.start c.loop-place.begin place (place + c.share.result) c.args.items.now (omega arith) (omega arith) is.begins
    c.requires.ascends c.requires.plain).plain

pub loop-place-preserved : goal.loop-place-preserved
loop-place-preserved c =
    let old = c.args.writer.now in
    let before = c.loop-place.writer in
    let after = c.put-node.new.writer in
    let leaf = c.args.leaf in
    let items = c.args.items.now in
    let is = c.loop-place.invariant in
    let place = c.loop-place.place in
    let part : List NodeItem = take (place + c.share.result - place) (drop place items) in
    record {
      same = fills_both old before after is.same c.put-node.ensures.same;
      packs = pack_more (writer_state old).words (writer_state before).words (writer_state after).words (free_of old) (free_of before) (free_of after) leaf c.args.start
          c.loop-place.begin place (place + c.share.result) c.share.result items c.loop-place.packed.items c.push.new.self.items c.put-node.result (words_of_items leaf part)
          is.packs c.loop-place-test.true refl (record {
            some = c.share.ensures.some;
            within = c.share.ensures.within;
            full = c.share.ensures.full;
            over = c.share.ensures.left;
            one = c.share.ensures.one;
            two = c.share.ensures.two;
            three = c.share.ensures.three;
          }) c.requires.ascends c.requires.plain (once_free old) c.put-node.ensures.node c.put-node.ensures.items c.put-node.ensures.until
          c.put-node.ensures.words c.put-node.ensures.free c.put-node.ensures.taken c.push.ensures.items;
      left = c.put-node.ensures.left ∙ is.left;
    }
