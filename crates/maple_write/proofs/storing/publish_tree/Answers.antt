-- For `publish_tree`: the tree of the view is what a publish asks for, and it stays.
use Rattle.std.proofs.Common.{◌∙◌, sym, ap}
use Rattle.node_slots.specs.declared.view.NodeView.{NodeView}
use Rattle.node_slots.specs.Trees.{shown_rows}
use Rattle.node_slots.specs.Built.{built_rows}
use Rattle.node_slots.proofs.Writers.{times_same}
use Rattle.maple_write.proofs.Stores.{still_built}
use Rattle.maple_write.proofs.storing.publish_tree.Goals as goal

pub publish-requires-clause-layout : goal.publish-requires-clause-layout
unfolding shown_rows
publish-requires-clause-layout c = c.requires.built.layout

pub publish-requires-clause-rows : goal.publish-requires-clause-rows
unfolding shown_rows
publish-requires-clause-rows c row =
    sym (times_same row (built_rows c.args.writer.now c.args.tree.now)) ∙ c.requires.built.reached row

pub returns-clause-still : goal.returns-clause-still
returns-clause-still c =
    still_built c.args.writer.now c.publish.new.writer c.args.tree.now (ap (λ (v : NodeView). v.known.writer_state.words) c.publish.ensures.view)
    (ap (λ (v : NodeView). v.size) c.publish.ensures.view) c.publish.ensures.lists.0 c.publish.ensures.lists.1 c.requires.built
