-- For `overwrite`: the entries of the new tree are the old ones with the span overwritten.
use Rattle.std.proofs.Common.{ℕ, List, ◌≡◌, ◌∙◌, ◌<◌, ◌≤◌, ap, arith}
use Rattle.maple_node.specs.Trees.{entries_of, pairs_of}
use Rattle.maple_node.specs.Splices.{overwrite, widened_lo, widened_hi}
use Rattle.maple_node.specs.Pairs.{overwritten}
use Rattle.node_slots.specs.declared.seats.NodeWriter.{NodeWriter}
use Rattle.node_slots.specs.Seats.{node_sight}
use Rattle.node_slots.specs.Built.{words_at}
use Rattle.maple_write.specs.declared.rows.Rooted.{Rooted}
use Rattle.maple_write.specs.Internal.Tables.{table_at}
use Rattle.maple_write.specs.Internal.Stores.{IsWholeTree, tree_under}
use Rattle.maple_write.proofs.Stores.{Stored, spanned, gap_within, slot_stored, gap_stored}
use Rattle.maple_write.proofs.storing.overwrite.Goals as goal
use Rattle.maple_write.proofs.storing.overwrite.Goals.{After-replace, After-replace-2}

-- what is there after a store of a slot
slot_there : (c : After-replace) → Stored (table_at c.replace.new.writer) (node_sight c.args.writer.now).size.slots (tree_under c.replace.result)
    (overwritten c.args.span.lo c.args.span.hi c.args.word (pairs_of (words_at c.args.writer.now) (tree_under c.args.old)))
slot_there c =
    let writer = c.args.writer.now in
    let tree = tree_under c.args.old in
    let slots = (node_sight writer).size.slots in
    let span = c.args.span in
    slot_stored (table_at c.replace.new.writer) slots span.lo span.hi c.args.word (tree_under c.replace.result) (entries_of (words_at writer) tree)
    (spanned (table_at writer) slots span.lo span.hi tree c.requires.whole c.requires.some c.requires.limit) c.requires.word c.if-word-ne0.true
    c.replace.ensures.shaped (c.replace.ensures.entries
    ∙ ap (λ (t : Rooted). overwrite span.lo span.hi c.args.word (entries_of (words_at writer) (tree_under t))) c.descend.ensures.tree)

-- where a gap begins and ends with the gaps beside it, as the descent's tree tells it
wide_lo : (at : ℕ → List ℕ) (page lo : ℕ) (here old : Rooted) → here ≡ old → lo ≡ widened_lo page (entries_of at (tree_under here))
    → lo ≡ widened_lo page (entries_of at (tree_under old))
wide_lo at page lo here old same is = is ∙ ap (λ (t : Rooted). widened_lo page (entries_of at (tree_under t))) same

wide_hi : (at : ℕ → List ℕ) (page hi : ℕ) (here old : Rooted) → here ≡ old → hi ≡ widened_hi page (entries_of at (tree_under here))
    → hi ≡ widened_hi page (entries_of at (tree_under old))
wide_hi at page hi here old same is = is ∙ ap (λ (t : Rooted). widened_hi page (entries_of at (tree_under t))) same

-- and what is there after a store of a gap
gap_there : (c : After-replace-2) → Stored (table_at c.replace-2.new.writer) (node_sight c.args.writer.now).size.slots (tree_under c.replace-2.result)
    (overwritten c.args.span.lo c.args.span.hi 0 (pairs_of (words_at c.args.writer.now) (tree_under c.args.old)))
gap_there c =
    let writer = c.args.writer.now in
    let at = words_at writer in
    let tree = tree_under c.args.old in
    let slots = (node_sight writer).size.slots in
    let span = c.args.span in
    let lo = c.gap_begin-lo.result in
    let hi = c.gap_end-hi.result in
    let here = c.descend.new.self.tree in
    let same = c.descend.ensures.tree in
    gap_stored (table_at c.replace-2.new.writer) slots span.lo span.hi lo hi (tree_under c.replace-2.result)
    (entries_of at tree) (spanned (table_at writer) slots span.lo span.hi tree c.requires.whole c.requires.some c.requires.limit)
    c.replace-2.ensures.shaped (wide_lo at span.lo lo here c.args.old same c.gap_begin-lo.ensures) (wide_hi at span.hi hi here c.args.old same c.gap_end-hi.ensures)
    (c.replace-2.ensures.entries ∙ ap (λ (t : Rooted). overwrite lo hi 0 (entries_of at (tree_under t))) same)

-- the pages of that gap
gap_pages : (writer : NodeWriter) (lo hi low high : ℕ) (here old : Rooted) → IsWholeTree (table_at writer) (node_sight writer).size.slots (tree_under old)
    → lo < hi → hi ≤ old.top.end → here ≡ old
    → low ≡ widened_lo lo (entries_of (words_at writer) (tree_under here)) → high ≡ widened_hi hi (entries_of (words_at writer) (tree_under here))
    → (low < high) × (high ≤ old.top.end)
gap_pages writer lo hi low high here old whole some limit same is_lo is_hi =
    let at = words_at writer in
    gap_within (table_at writer) (node_sight writer).size.slots lo hi low high (tree_under old) whole some limit (wide_lo at lo low here old same is_lo)
    (wide_hi at hi high here old same is_hi)

pub returns-then-word-ne0-clause-whole : goal.returns-then-word-ne0-clause-whole
returns-then-word-ne0-clause-whole c = (slot_there (goal.at.returns-then-word-ne0-clause-whole c).After-replace).whole

pub returns-then-word-ne0-clause-pairs : goal.returns-then-word-ne0-clause-pairs
returns-then-word-ne0-clause-pairs c = (slot_there (goal.at.returns-then-word-ne0-clause-pairs c).After-replace).pairs_are

pub replace-requires-2-clause-some : goal.replace-requires-2-clause-some
replace-requires-2-clause-some c =
    (gap_pages c.args.writer.now c.args.span.lo c.args.span.hi c.gap_begin-lo.result c.gap_end-hi.result c.descend.new.self.tree c.args.old c.requires.whole
    c.requires.some c.requires.limit c.descend.ensures.tree c.gap_begin-lo.ensures c.gap_end-hi.ensures).0

pub replace-requires-2-clause-limit : goal.replace-requires-2-clause-limit
replace-requires-2-clause-limit c =
    let same = ap (λ (t : Rooted). t.top.end) c.descend.ensures.tree in
    let within = (gap_pages c.args.writer.now c.args.span.lo c.args.span.hi c.gap_begin-lo.result c.gap_end-hi.result c.descend.new.self.tree c.args.old
    c.requires.whole c.requires.some c.requires.limit c.descend.ensures.tree c.gap_begin-lo.ensures c.gap_end-hi.ensures).1 in
    omega arith

pub returns-clause-whole : goal.returns-clause-whole
returns-clause-whole c = (gap_there (goal.at.returns-clause-whole c).After-replace-2).whole

pub returns-clause-pairs : goal.returns-clause-pairs
returns-clause-pairs c =
    let none : 0 ≡ c.args.word = omega arith in
    (gap_there (goal.at.returns-clause-pairs c).After-replace-2).pairs_are
    ∙ ap (λ n. overwritten c.args.span.lo c.args.span.hi n (pairs_of (words_at c.args.writer.now) (tree_under c.args.old))) none
