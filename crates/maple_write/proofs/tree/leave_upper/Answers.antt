-- For `leave_upper`: the nodes of one level more were left.
use Rattle.std.proofs.Common.{ℕ, ◌≡◌, ◌∙◌, ◌+◌, [], nat_lt, cond, ap, sym, subst, arith}
use Rattle.maple_node.specs.Nodes.{items_end}
use Rattle.maple_node.specs.Levels.{at_of, times_among}
use Rattle.maple_node.specs.Splices.{ending_by}
use Rattle.node_slots.specs.declared.view.NodeView.{NodeView}
use Rattle.node_slots.specs.Built.{words_at}
use Rattle.maple_write.specs.Internal.Tables.{RowTable, table_at, rows_between}
use Rattle.maple_write.specs.Internal.Stores.{IsUpper, old_level, level_in}
use Rattle.maple_write.proofs.Writers.{rows_counted}
use Rattle.maple_write.proofs.Roots.{upper_at, no_rows_above, left_few}
use Rattle.maple_write.proofs.tree.leave_upper.Goals as goal

-- the words that a view tells
abbrev told : NodeView → RowTable
told view = record { rows = view.known.writer_state.words; free = []; left = [] }

pub leave_block-requires-clause-tower : goal.leave_block-requires-clause-tower
leave_block-requires-clause-tower c =
    let tree = c.args.state.now.descent.now.tree in
    let next = c.loop-next.next in
    let is = c.loop-next.invariant in
    let order = is.order in
    let test = c.loop-next-test.true in
    let pages = c.requires.partly.pages in
    let limit = c.requires.partly.limit in
    let upper = upper_at (table_at c.args.writer.now) tree c.args.state.now.level next c.requires.partly.tower (omega arith) order test in
    subst (λ (v : NodeView). IsUpper (at_of v.known.writer_state.words) tree (next + 1)) (sym is.view) upper.tower

pub leave_block-requires-clause-edge : goal.leave_block-requires-clause-edge
leave_block-requires-clause-edge c =
    let tree = c.args.state.now.descent.now.tree in
    let next = c.loop-next.next in
    let is = c.loop-next.invariant in
    let order = is.order in
    let test = c.loop-next-test.true in
    let pages = c.requires.partly.pages in
    let limit = c.requires.partly.limit in
    let upper = upper_at (table_at c.args.writer.now) tree c.args.state.now.level next c.requires.partly.tower (omega arith) order test in
    subst (λ (v : NodeView). items_end 0 (ending_by tree.top.end (old_level (told v) tree (next + 1))) ≡ tree.top.end) (sym is.view) upper.edge

pub leave_block-requires-clause-apart : goal.leave_block-requires-clause-apart
leave_block-requires-clause-apart c row =
    let tree = c.args.state.now.descent.now.tree in
    let next = c.loop-next.next in
    let is = c.loop-next.invariant in
    let order = is.order in
    let test = c.loop-next-test.true in
    let pages = c.requires.partly.pages in
    let limit = c.requires.partly.limit in
    let upper = upper_at (table_at c.args.writer.now) tree c.args.state.now.level next c.requires.partly.tower (omega arith) order test in
    let same = ap (λ (v : NodeView). times_among row (rows_between 0 tree.top.end (old_level (told v) tree (next + 1)))) is.view in
    let bound = ap (λ (v : NodeView). cond {A = ℕ} (nat_lt row v.size.rows) 1 0) is.view in
    let counted = ap (λ (n : ℕ). cond {A = ℕ} (nat_lt row n) 1 0) (rows_counted c.args.writer.now) in
    let a = is.gone_are row in
    let b = upper.rows row in
    let d = left_few (table_at c.args.writer.now) (level_in c.args.state.now) c.requires.partly row in
    omega arith

pub loop-next-preserved : goal.loop-next-preserved
loop-next-preserved c =
    let tree = c.args.state.now.descent.now.tree in
    let next = c.loop-next.next in
    let is = c.loop-next.invariant in
    let order = is.order in
    let test = c.loop-next-test.true in
    let pages = c.requires.partly.pages in
    let limit = c.requires.partly.limit in
    let upper = upper_at (table_at c.args.writer.now) tree c.args.state.now.level next c.requires.partly.tower (omega arith) order test in
    let leaves = c.leave_block.ensures in
    let before = is.free in
    let more = leaves.free in
    record {
      order = omega arith;
      high = omega arith;
      table = λ nodes here. leaves.table nodes (is.table nodes here);
      view = leaves.view ∙ is.view;
      free = omega arith;
      waits = λ row. leaves.waits row ∙ is.waits row;
      gone_are = λ row.
          let same = ap (λ (v : NodeView). times_among row (rows_between 0 tree.top.end (old_level (told v) tree (next + 1)))) is.view in
          let a = is.gone_are row in
          let b = upper.rows row in
          let d = leaves.gone_are row in
          omega arith;
    }

pub returns : goal.returns
returns c =
    let is = c.loop-next.invariant in
    record {
      table = is.table;
      view = is.view;
      free = is.free;
      waits = is.waits;
      gone_are = λ row.
          let a = is.gone_are row in
          let b = no_rows_above (words_at c.args.writer.now) row c.loop-next.next c.args.state.now.descent.now.tree c.loop-next-test.false in
          omega arith;
    }
