-- For `leave_one`: the node was not left before.
use Rattle.std.proofs.Common.{ℕ, ◌≡◌, ◌+◌, true, [], ◌∷◌, ap, subst, sym, arith}
use Rattle.maple_node.specs.Levels.{times_among}
use Rattle.node_slots.specs.Seats.{row_count, is_kept}
use Rattle.maple_write.specs.Internal.Tables.{table_at, gone}
use Rattle.maple_write.specs.Internal.Stores.{level_in, old_nodes}
use Rattle.maple_write.proofs.Writers.{is_kept_from, left_more, free_more}
use Rattle.maple_write.proofs.Waiting.{leave_waits}
use Rattle.maple_write.proofs.Finding.{leaves_one}
use Rattle.maple_write.proofs.Roots.{full}
use Rattle.maple_write.proofs.level.leave_one.Goals as goal

pub leave-requires : goal.leave-requires
leave-requires c =
    let writer = c.args.writer.now in
    let state = c.args.state.now in
    let is = full (table_at writer) state.descent.now.tree (state.level + 1) c.requires.tower c.requires.limit in
    let one = leaves_one (old_nodes (table_at writer) (level_in state)) state.lo c.args.left.item (gone (table_at writer)) (row_count writer)
    is.ascends c.requires.left.item c.requires.apart in
    let row = c.requires.row in
    let there = one.there in
    record { kept = subst (λ (n : ℕ). is_kept writer n ≡ true) (sym row) (is_kept_from writer c.args.left.item.word (omega arith) one.none) }

pub returns : goal.returns
returns c =
    let writer = c.args.writer.now in
    let state = c.args.state.now in
    let is = full (table_at writer) state.descent.now.tree (state.level + 1) c.requires.tower c.requires.limit in
    let one = leaves_one (old_nodes (table_at writer) (level_in state)) state.lo c.args.left.item (gone (table_at writer)) (row_count writer)
    is.ascends c.requires.left.item c.requires.apart in
    record {
      table = c.leave.ensures.table;
      view = c.leave.ensures.view;
      free = let more = free_more writer c.leave.new.self c.args.row.0 c.leave.ensures.free in omega arith;
      waits = λ row. leave_waits writer c.leave.new.self c.args.row.0 row c.leave.ensures.view c.leave.ensures.left;
      gone_are = λ row.
          let here = one.one row in
          let same = ap (λ (n : ℕ). times_among row (n ∷ [])) c.requires.row in
          let more = left_more writer c.leave.new.self c.args.row.0 row c.leave.ensures.free c.leave.ensures.left in
          omega arith;
    }
