-- For `store_first`: the first leaf lists one entry among pages that are one gap.
use Rattle.std.proofs.Common.{◌≡◌, ◌∙◌, [], ap, arith}
use Rattle.maple_node.specs.Pairs.{overwritten}
use Rattle.node_slots.specs.Seats.{node_sight}
use Rattle.maple_write.specs.Internal.Tables.{table_at}
use Rattle.maple_write.specs.Internal.Stores.{all_gap, tree_under}
use Rattle.maple_write.proofs.Stores.{Stored, gap_spanned, gap_lo, gap_hi, slot_stored, gap_stored}
use Rattle.maple_write.proofs.storing.store_first.Goals as goal
use Rattle.maple_write.proofs.storing.store_first.Goals.{After-first_leaf, After-first_leaf-2}

-- what is there after a store of a slot
slot_there : (c : After-first_leaf) → Stored (table_at c.first_leaf.new.writer) (node_sight c.args.writer.now).size.slots (tree_under c.first_leaf.result)
    (overwritten c.args.span.lo c.args.span.hi c.args.word [])
slot_there c =
    let slots = (node_sight c.args.writer.now).size.slots in
    let span = c.args.span in
    slot_stored (table_at c.first_leaf.new.writer) slots span.lo span.hi c.args.word (tree_under c.first_leaf.result) (all_gap c.args.limit)
    (gap_spanned c.args.limit slots span.lo span.hi c.requires.some c.requires.limit) c.requires.word c.if-word-ne0.true c.first_leaf.ensures.shaped
    c.first_leaf.ensures.entries

-- and after one of a gap
gap_there : (c : After-first_leaf-2) → Stored (table_at c.first_leaf-2.new.writer) (node_sight c.args.writer.now).size.slots (tree_under c.first_leaf-2.result)
    (overwritten c.args.span.lo c.args.span.hi 0 [])
gap_there c =
    let slots = (node_sight c.args.writer.now).size.slots in
    let span = c.args.span in
    let limit = c.args.limit in
    let some = c.requires.some in
    let within = c.requires.limit in
    gap_stored (table_at c.first_leaf-2.new.writer) slots span.lo span.hi 0 limit (tree_under c.first_leaf-2.result) (all_gap limit)
    (gap_spanned limit slots span.lo span.hi some within) c.first_leaf-2.ensures.shaped (gap_lo limit span.lo (omega arith))
    (gap_hi limit span.hi (omega arith) within) c.first_leaf-2.ensures.entries

pub returns-then-word-ne0-clause-whole : goal.returns-then-word-ne0-clause-whole
returns-then-word-ne0-clause-whole c = (slot_there (goal.at.returns-then-word-ne0-clause-whole c).After-first_leaf).whole

pub returns-then-word-ne0-clause-pairs : goal.returns-then-word-ne0-clause-pairs
returns-then-word-ne0-clause-pairs c = (slot_there (goal.at.returns-then-word-ne0-clause-pairs c).After-first_leaf).pairs_are

pub returns-clause-whole : goal.returns-clause-whole
returns-clause-whole c = (gap_there (goal.at.returns-clause-whole c).After-first_leaf-2).whole

pub returns-clause-pairs : goal.returns-clause-pairs
returns-clause-pairs c =
    let none : 0 ≡ c.args.word = omega arith in
    (gap_there (goal.at.returns-clause-pairs c).After-first_leaf-2).pairs_are ∙ ap (λ n. overwritten c.args.span.lo c.args.span.hi n []) none
