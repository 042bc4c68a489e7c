-- For `pack_words`: there is the one node.
use Rattle.std.proofs.Common.{◌∙◌, List, ◌∷◌, [], ◌++◌, sym, ap, subst}
use Rattle.maple_node.specs.declared.item.NodeItem.{NodeItem}
use Rattle.node_slots.specs.Built.{words_at}
use Rattle.maple_write.proofs.Levels.{AreNodes}
use Rattle.maple_write.proofs.rows.pack_words.Goals as goal

pub returns-clause-nodes : goal.returns-clause-nodes
returns-clause-nodes c limit full =
    let node = c.put_words-node.result in
    let only = c.push.ensures.items ∙ ap (λ (xs : List NodeItem). xs ++ node ∷ []) c.new-packed.ensures in
    subst (λ (xs : List NodeItem). AreNodes (words_at c.put_words-node.new.writer) c.args.leaf limit c.args.start xs) (sym only)
    (c.put_words-node.ensures.node limit full, tt)
