-- For `enter`: the snapshot has the root's row.
use Rattle.std.proofs.Common.{◌≡◌, ◌%◌, ◌∙◌, sym, ap, subst, true}
use Rattle.grace_core.specs.Core.{has_row}
use Rattle.maple_node.specs.declared.root.Root.{Root}
use Rattle.node_slots.specs.declared.view.NodeView.{NodeView}
use Rattle.node_slots.specs.Trees.{grace_tree}
use Rattle.tree_tests.specs.Leaves.{has_shown}
use Rattle.tree_tests.proofs.Seated.{root_there}
use Rattle.tree_tests.proofs.table_tests.walker.enter.Goals as goal

pub returns : goal.returns
returns c =
    let found = c.root.ensures.shown in
    record {
      table_is = c.root.ensures.table;
      open_is = ap (λ (v : NodeView). v.pin % 2) found.4 ∙ c.open.ensures.open;
      shows = subst (λ (v : NodeView). has_shown v.snapshot c.root.result.row.0 ≡ true) (sym found.4)
          (subst (λ (root : Root). has_row (grace_tree found.0) root.row.0 ≡ true) found.1 (root_there _ found.0 found.2));
    }
