-- For `store`: the writer's view of the tree that it found, and of the one that it built.
use Rattle.std.proofs.Common.{ℕ, ◌∙◌, refl, ap, arith, inl}
use Rattle.maple_node.specs.Trees.{Tree, pairs_of}
use Rattle.maple_node.specs.Words.{slot_word}
use Rattle.maple_node.specs.Pairs.{overwritten}
use Rattle.node_slots.specs.declared.tree.Tree.{Tree as View}
use Rattle.node_slots.specs.Built.{words_at}
use Rattle.maple_write.specs.Internal.Tables.{table_at}
use Rattle.maple_write.specs.Internal.Stores.{tree_under}
use Rattle.maple_write.proofs.Writers.{rows_counted, few_rows}
use Rattle.maple_write.proofs.Stores.{finds, free_few, root_there, built_from}
use Rattle.maple_write.proofs.storing.store.Goals as goal

pub stored-new-requires-clause-finds : goal.stored-new-requires-clause-finds
stored-new-requires-clause-finds c = finds c.args.writer.now c.args.tree.now c.rooted-old.result c.requires.tree c.rooted-old.ensures

pub stored-new-requires-clause-fits : goal.stored-new-requires-clause-fits
stored-new-requires-clause-fits c =
    let few = free_few c.args.writer.now in
    let room = c.requires.free in
    let same = ap (λ (t : Tree). t.height) c.rooted-old.ensures in
    omega arith

pub overflow_cast-tree : goal.overflow_cast-tree
overflow_cast-tree c =
    let there = root_there (table_at c.stored-new.new.writer) (tree_under c.stored-new.result) c.stored-new.ensures.whole.shaped in
    let long = rows_counted c.stored-new.new.writer in
    let few = few_rows c.stored-new.new.writer in
    omega arith

pub returns-clause-table : goal.returns-clause-table
returns-clause-table c = c.stored-new.ensures.same.table c.args.nodes.now c.requires.table

pub returns-clause-tree : goal.returns-clause-tree
returns-clause-tree c =
    let new = c.stored-new.result in
    let tree : View = record { root = record { 0 = new.top.word }; height = new.height; limit = c.args.tree.now.limit } in
    let is = built_from c.args.writer.now c.stored-new.new.writer (tree_under new) tree c.stored-new.ensures.same c.stored-new.ensures.whole
    c.stored-new.ensures.limit refl refl in
    inl is.is

pub returns-clause-built : goal.returns-clause-built
returns-clause-built c some =
    let new = c.stored-new.result in
    let tree : View = record { root = record { 0 = new.top.word }; height = new.height; limit = c.args.tree.now.limit } in
    let is = built_from c.args.writer.now c.stored-new.new.writer (tree_under new) tree c.stored-new.ensures.same c.stored-new.ensures.whole
    c.stored-new.ensures.limit refl refl in
    is.is

pub returns-clause-pairs : goal.returns-clause-pairs
returns-clause-pairs c some =
    let new = c.stored-new.result in
    let tree : View = record { root = record { 0 = new.top.word }; height = new.height; limit = c.args.tree.now.limit } in
    let is = built_from c.args.writer.now c.stored-new.new.writer (tree_under new) tree c.stored-new.ensures.same c.stored-new.ensures.whole
    c.stored-new.ensures.limit refl refl in
    let lo = c.args.span.lo in
    let hi = c.args.span.hi in
    let words = words_at c.args.writer.now in
    is.pairs ∙ c.stored-new.ensures.pairs ∙ ap (λ (n : ℕ). overwritten lo hi n (pairs_of words (tree_under c.rooted-old.result))) c.slot_word.ensures
    ∙ ap (λ (t : Tree). overwritten lo hi (slot_word c.args.slot) (pairs_of words t)) c.rooted-old.ensures

pub returns-clause-rows : goal.returns-clause-rows
returns-clause-rows c =
    let taken = c.stored-new.ensures.free in
    let same = ap (λ (t : Tree). t.height) c.rooted-old.ensures in
    omega arith
