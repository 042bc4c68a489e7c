-- The forks of a parent that has run.
use Rattle.std.specs.Prelude.{List, [], ◌∷◌}
use Rattle.std.specs.Option.{option_map_or}
use Rattle.mm_types.specs.Sorts.{sort_by}
use Rattle.trace_reader.specs.declared.trace.TraceLine.{TraceLine}
use Rattle.trace_reader.specs.Values.{child_of}
use Rattle.history.specs.declared.items.Item.{Item}
use Rattle.vma_replay.specs.declared.forks.Fork.{Fork}
use Rattle.output.specs.Output.{told_by}

-- the fork of an item, by the line that it answers, if that forks
abbrev pub fork_of : TraceLine → Item → List Fork
fork_of line item = option_map_or (λ child. record { child = child; line = line.number; version = item.version } ∷ []) (child_of line.op) []

-- the forks of a history, in its order
abbrev pub forks_from : List TraceLine → List Item → List Fork
forks_from lines items = told_by fork_of lines [] items

-- the forks of a history by ascending child
abbrev pub forks_of : List TraceLine → List Item → List Fork
forks_of lines items = sort_by (λ fork. fork.child) (forks_from lines items)
