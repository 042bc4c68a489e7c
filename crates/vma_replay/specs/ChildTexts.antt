-- The text of a child.
use Rattle.std.specs.Prelude.{ℕ, List, ◌++◌, codes, decimal}
use Rattle.mm_types.specs.declared.call.Entry.{Entry}
use Rattle.mm_types.specs.declared.config.Config.{Config}
use Rattle.trace_reader.specs.declared.trace.TraceLine.{TraceLine}
use Rattle.area_rules.specs.Steps.{after}
use Rattle.history.specs.declared.items.Item.{Item}
use Rattle.history.specs.Histories.{journal_of}
use Rattle.output.specs.Output.{listed_text}
use Rattle.vma_replay.specs.declared.forks.Fork.{Fork}

-- the line before those of a child: the child, the line that forked it, and the version of its parent there
unfoldable pub child_line : Fork → List ℕ
child_line fork = codes "child " ++ (decimal fork.child ++ (codes " of L" ++ (decimal fork.line ++ (codes " v" ++ (decimal fork.version ++ codes "\n")))))

-- the text of a child's history behind what it inherited: after its line its items, and then the list after all these calls
unfoldable pub child_text : Config → List TraceLine → Fork → List Entry → List Item → List ℕ
child_text config lines fork inherits items =
    child_line fork ++ listed_text config.files lines items (after config (inherits ++ journal_of items)).areas
