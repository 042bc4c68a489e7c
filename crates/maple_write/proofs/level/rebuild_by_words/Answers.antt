-- For `rebuild_by_words`: the old node of the level is left, and the new one is built.
use Rattle.std.proofs.Common.{refl, ap, arith}
use Rattle.maple_node.specs.Nodes.{node_items}
use Rattle.maple_node.specs.Levels.{is_leaf, times_among}
use Rattle.node_slots.specs.declared.view.NodeView.{NodeView}
use Rattle.node_slots.specs.Built.{words_at}
use Rattle.maple_write.specs.Internal.Tables.{table_at, rows_between}
use Rattle.maple_write.specs.Internal.Stores.{level_in, old_nodes}
use Rattle.maple_write.proofs.Writers.{fills_none, fills_both}
use Rattle.maple_write.proofs.Steps.{upper_of}
use Rattle.maple_write.proofs.Rebuilding.{Rebuilt, kept_after, in_use}
use Rattle.maple_write.proofs.Renewing.{rebuilt_by_words}
use Rattle.maple_write.proofs.Descents.{descent_above}
use Rattle.maple_write.proofs.level.rebuild_by_words.Goals as goal
use Rattle.maple_write.proofs.level.rebuild_by_words.Goals.{After-pack_words-items}

pub leave_one-requires-clause-tower : goal.leave_one-requires-clause-tower
leave_one-requires-clause-tower c = (upper_of (table_at c.args.writer.now) (level_in c.args.state.now) c.requires.writing.partly c.requires.below).above

pub leave_one-requires-clause-apart : goal.leave_one-requires-clause-apart
leave_one-requires-clause-apart c =
    let level = level_in c.args.state.now in
    in_use c.args.writer.now level c.args.left.start c.args.left.item.end (node_items (is_leaf level.height) c.args.words.now)
    c.requires.writing.partly c.requires.below c.requires.renewed.cut

-- what is so of the level that was built
rebuilt_here : (c : After-pack_words-items) → Rebuilt (table_at c.args.writer.now) (table_at c.pack_words-items.new.writer) (level_in c.args.state.now)
    c.args.left.start c.args.left.item.end c.pack_words-items.result.items
rebuilt_here c =
    let leaves = c.leave_one.ensures in
    let packs = c.pack_words-items.ensures in
    rebuilt_by_words (table_at c.args.writer.now) (table_at c.leave_one.new.writer) (table_at c.pack_words-items.new.writer) (level_in c.args.state.now)
    c.pack_words-items.result.items c.args.left c.args.words.now c.requires.writing.partly c.requires.below c.requires.renewed
    (ap (λ (v : NodeView). v.known.writer_state.words) leaves.view) leaves.free leaves.gone_are packs.nodes packs.below packs.one packs.kept packs.same.long
    packs.taken packs.free packs.left

pub returns : goal.returns
returns c =
    let old = table_at c.args.writer.now in
    let level = level_in c.args.state.now in
    let left = c.leave_one.new.writer in
    let after = c.pack_words-items.new.writer in
    let leaves = c.leave_one.ensures in
    let above = c.requires.renewed.cut.above in
    let is = rebuilt_here (goal.at.returns c).After-pack_words-items in
    record {
      fills = fills_both c.args.writer.now left after (fills_none c.args.writer.now left leaves.view leaves.waits leaves.table) c.pack_words-items.ensures.same;
      writing = record {
        partly = is.partly;
        descent = descent_above old (words_at after) c.args.state.now c.args.left.item.end c.requires.writing.partly c.requires.below
            (omega arith)
            (kept_after old (table_at left) (table_at after) (λ row. times_among row (rows_between level.lo c.args.left.item.end (old_nodes old level)))
            (ap (λ (v : NodeView). v.known.writer_state.words) leaves.view) leaves.gone_are c.pack_words-items.ensures.kept)
            c.requires.writing.descent;
        fits = c.requires.writing.fits;
      };
      up = refl;
      begin = is.starts;
      under = is.under;
      entries = is.entries;
      free =
          let taken = c.pack_words-items.ensures.free in
          let one = c.pack_words-items.ensures.one in
          let back = leaves.free in
          omega arith;
    }
