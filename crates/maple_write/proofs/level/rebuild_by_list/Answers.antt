-- For `rebuild_by_list`: the old nodes of the level are left, and it is built.
use Rattle.std.proofs.Common.{◌∙◌, ◌≤◌, ◌<◌, List, length, refl, ap, sym, subst, arith}
use Rattle.maple_node.specs.declared.item.NodeItem.{NodeItem}
use Rattle.maple_node.specs.Nodes.{least_items, items_end}
use Rattle.maple_node.specs.Levels.{is_leaf, times_among}
use Rattle.node_slots.specs.declared.view.NodeView.{NodeView}
use Rattle.node_slots.specs.Built.{words_at}
use Rattle.maple_write.specs.Internal.Tables.{table_at, rows_between}
use Rattle.maple_write.specs.Internal.Stores.{level_in, old_nodes}
use Rattle.maple_write.proofs.Writers.{fills_none, fills_both}
use Rattle.maple_write.proofs.Steps.{upper_of}
use Rattle.maple_write.proofs.Rebuilding.{Rebuilt, kept_after, rebuilt, in_use}
use Rattle.maple_write.proofs.Descents.{descent_above}
use Rattle.maple_write.proofs.level.rebuild_by_list.Goals as goal
use Rattle.maple_write.proofs.level.rebuild_by_list.Goals.{After-pack-items}

pub leave_block-requires-clause-tower : goal.leave_block-requires-clause-tower
leave_block-requires-clause-tower c = (upper_of (table_at c.args.writer.now) (level_in c.args.state.now) c.requires.writing.partly c.requires.below).above

pub leave_block-requires-clause-apart : goal.leave_block-requires-clause-apart
leave_block-requires-clause-apart c =
    in_use c.args.writer.now (level_in c.args.state.now) c.rebalanced-edges.result.begin c.rebalanced-edges.result.end
    c.rebalanced-edges.new.items.items c.requires.writing.partly c.requires.below c.rebalanced-edges.ensures.cut

-- what is so of the level that was built
rebuilt_here : (c : After-pack-items) → Rebuilt (table_at c.args.writer.now) (table_at c.pack-items.new.writer) (level_in c.args.state.now)
    c.rebalanced-edges.result.begin c.rebalanced-edges.result.end c.pack-items.result.items
rebuilt_here c =
    let left = table_at c.leave_block.new.writer in
    let level = level_in c.args.state.now in
    let edges = c.rebalanced-edges.result in
    let same = c.as_slice.ensures.value in
    let cut = c.rebalanced-edges.ensures.cut in
    let leaves = c.leave_block.ensures in
    let packs = c.pack-items.ensures in
    let full : items_end edges.begin c.as_slice.result.now < level.tree.top.end → least_items (is_leaf level.height) ≤ length c.as_slice.result.now = λ less.
    let ends = ap (items_end edges.begin) same in
    let until = cut.ending in
    subst (λ (xs : List NodeItem). least_items (is_leaf level.height) ≤ length xs) (sym same) (c.rebalanced-edges.ensures.least (omega arith)) in
    rebuilt (table_at c.args.writer.now) left (table_at c.pack-items.new.writer) level edges.begin edges.end c.rebalanced-edges.new.items.items
    c.pack-items.result.items c.requires.writing.partly c.requires.below cut (packs.nodes level.tree.top.end full)
    (packs.below ∙ same) packs.some packs.few (ap (λ (v : NodeView). v.known.writer_state.words) leaves.view) leaves.free leaves.gone_are packs.kept
    packs.same.long packs.taken packs.free packs.left

pub returns : goal.returns
returns c =
    let old = table_at c.args.writer.now in
    let level = level_in c.args.state.now in
    let left = c.leave_block.new.writer in
    let after = c.pack-items.new.writer in
    let leaves = c.leave_block.ensures in
    let above = c.rebalanced-edges.ensures.cut.above in
    let is = rebuilt_here (goal.at.returns c).After-pack-items in
    record {
      fills = fills_both c.args.writer.now left after (fills_none c.args.writer.now left leaves.view leaves.waits leaves.table) c.pack-items.ensures.same;
      writing = record {
        partly = is.partly;
        descent = descent_above old (words_at after) c.args.state.now c.rebalanced-edges.result.end c.requires.writing.partly c.requires.below
            (omega arith)
            (kept_after old (table_at left) (table_at after) (λ row. times_among row (rows_between level.lo c.rebalanced-edges.result.end (old_nodes old level)))
            (ap (λ (v : NodeView). v.known.writer_state.words) leaves.view) leaves.gone_are c.pack-items.ensures.kept)
            c.requires.writing.descent;
        fits = c.requires.writing.fits;
      };
      up = refl;
      begin = is.starts;
      under = is.under;
      entries = is.entries;
      free =
          let taken = c.pack-items.ensures.free in
          let few = c.pack-items.ensures.few in
          let back = leaves.free in
          omega arith;
    }
