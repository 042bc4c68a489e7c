-- For `add_empty`: the rows so far were added.
use Rattle.std.proofs.Common.{◌≡◌, ◌≤◌, ◌-◌, ◌++◌, length, max, replicate, vec_capacity}
use Rattle.node_slots.specs.Trees.{empty_row}
use Rattle.node_slots.proofs.writing.add_empty.Given as goal

abbrev pub invariant-loop-row : goal.invariant-loop-row
invariant-loop-row l = record {
  items : l.words.items ≡ l.fn.words.items ++ replicate (l._row - length l.fn.words.items) empty_row;
  room : vec_capacity l.words ≡ vec_capacity l.fn.words;
  long : length l.words.items ≡ l._row;
  most : l._row ≤ max l.fn.count (length l.fn.words.items);
}
