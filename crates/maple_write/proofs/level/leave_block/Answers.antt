-- For `leave_block`: the next node was not left before.
use Rattle.std.proofs.Common.{◌≡◌, ◌∙◌, List, [], Some, ap, sym, arith}
use Rattle.maple_node.specs.declared.item.NodeItem.{NodeItem}
use Rattle.maple_node.specs.Levels.{times_among, item_at}
use Rattle.node_slots.specs.declared.view.NodeView.{NodeView}
use Rattle.node_slots.specs.Seats.{row_count}
use Rattle.maple_write.specs.Internal.Tables.{table_at, rows_in, gone}
use Rattle.maple_write.specs.Internal.Stores.{old_level}
use Rattle.maple_write.proofs.Writers.{few_rows, is_kept_from, left_more, free_more}
use Rattle.maple_write.proofs.Waiting.{leave_waits}
use Rattle.maple_write.proofs.Blocks.{block_done}
use Rattle.maple_write.proofs.Finding.{LeavesNext, leaves_next}
use Rattle.maple_write.proofs.Roots.{full}
use Rattle.maple_write.proofs.level.leave_block.Goals as goal
use Rattle.maple_write.proofs.level.leave_block.Goals.{After-find-place}

-- the node that has the page was not left before
next_node : (c : After-find-place) → LeavesNext (old_level (table_at c.args.writer.now) c.args.descent.now.tree c.args.level) c.loop-page.page
    c.args.span.hi c.find-place.result.item (gone (table_at c.loop-page.writer)) (row_count c.args.writer.now)
next_node c =
    let writer = c.args.writer.now in
    let tree = c.args.descent.now.tree in
    let items = old_level (table_at writer) tree c.args.level in
    let test = c.loop-page-test.true in
    let limit = c.requires.limit in
    let is = full (table_at writer) tree c.args.level c.requires.tower (omega arith) in
    let found : item_at c.loop-page.page items ≡ Some c.find-place.result.item =
    sym (ap (λ (v : NodeView). item_at c.loop-page.page (old_level (record { rows = v.known.writer_state.words; free = []; left = [] }) tree c.args.level))
    c.loop-page.invariant.view) ∙ c.find-place.ensures.item in
    leaves_next items c.loop-page.page c.args.span.lo c.args.span.hi c.find-place.result.item (gone (table_at writer)) (gone (table_at c.loop-page.writer))
    (row_count writer) is.ascends test c.requires.edge found c.loop-page.invariant.gone_are c.requires.apart

pub overflow_cast-place : goal.overflow_cast-place
overflow_cast-place c =
    let next = next_node (goal.at.overflow_cast-place c).After-find-place in
    let few = few_rows c.args.writer.now in
    let there = next.there in
    omega arith

pub leave-requires : goal.leave-requires
leave-requires c =
    let next = next_node (goal.at.leave-requires c).After-find-place in
    let same = ap (λ (v : NodeView). v.size.rows) c.loop-page.invariant.view in
    let there = next.there in
    record { kept = is_kept_from c.loop-page.writer c.find-place.result.item.word (omega arith) next.none }

pub loop-page-smaller : goal.loop-page-smaller
loop-page-smaller c =
    let next = next_node (goal.at.loop-page-smaller c).After-find-place in
    let above = next.above in
    let test = c.loop-page-test.true in
    omega arith

pub loop-page-preserved : goal.loop-page-preserved
loop-page-preserved c =
    let next = next_node (goal.at.loop-page-preserved c).After-find-place in
    let more = free_more c.loop-page.writer c.leave.new.self c.find-place.result.item.word c.leave.ensures.free in
    let before = c.loop-page.invariant.free in
    record {
      table = λ nodes here. c.leave.ensures.table nodes (c.loop-page.invariant.table nodes here);
      view = c.leave.ensures.view ∙ c.loop-page.invariant.view;
      free = omega arith;
      waits = λ row. leave_waits c.loop-page.writer c.leave.new.self c.find-place.result.item.word row c.leave.ensures.view c.leave.ensures.left
          ∙ c.loop-page.invariant.waits row;
      gone_are = λ row.
          let a = left_more c.loop-page.writer c.leave.new.self c.find-place.result.item.word row c.leave.ensures.free c.leave.ensures.left in
          let b = c.loop-page.invariant.gone_are row in
          let d = next.rest row in
          omega arith;
    }

pub returns : goal.returns
returns c =
    let is = c.loop-page.invariant in
    let items = old_level (table_at c.args.writer.now) c.args.descent.now.tree c.args.level in
    record {
      table = is.table;
      view = is.view;
      free = is.free;
      waits = is.waits;
      gone_are = λ row.
          let a = is.gone_are row in
          let b = ap (λ (xs : List NodeItem). times_among row (rows_in xs)) (block_done c.loop-page.page c.args.span.hi items c.loop-page-test.false) in
          omega arith;
    }
