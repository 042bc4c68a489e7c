-- For `root_of`, `descend` and `entry_at`: the rows of nodes are those of the table.
use Rattle.std.proofs.Common.{ℕ, suc, ◌≡◌, ◌<◌, Bool, true, false, List, [], length, refl, sym, ap, subst, ◌∙◌, arith, inl, inr}
use Rattle.std.proofs.lemmas.Bool.{cases_lt}
use Rattle.std.proofs.lemmas.List.{get_or_past}
use Rattle.maple_node.specs.declared.item.NodeItem.{NodeItem}
use Rattle.maple_node.specs.Nodes.{node_items, leaf_items, inner_items}
use Rattle.maple_node.specs.Levels.{is_leaf, at_of, items_at, IsNode}
use Rattle.node_slots.specs.declared.seats.NodeWriter.{NodeWriter}
use Rattle.node_slots.specs.Seats.{writer_state, row_count}
use Rattle.node_slots.specs.Built.{words_at}
use Rattle.maple_gap.specs.Internal.Searches.{IsUnder}

-- no words list no items
no_items : (leaf : Bool) → node_items leaf [] ≡ []
unfolding leaf_items inner_items
no_items true = refl
no_items false = refl

-- a node lies in a row of the table
row_there : (rows : List (List ℕ)) (leaf : Bool) (limit start : ℕ) (item : NodeItem) → IsNode (at_of rows) leaf limit start item → item.word < length rows
row_there rows leaf limit start item node = elim (cases_lt item.word (length rows)) as (λ _. item.word < length rows) [
  | inl within ↦ within
  | inr past ↦
      let none : items_at (at_of rows) leaf item.word ≡ [] = ap (node_items leaf) (get_or_past rows item.word [] past) ∙ no_items leaf in
      let long = ap (λ (xs : List NodeItem). length xs) none in
      let some = node.some in
      absurd (omega arith)
]

rows_counted : (writer : NodeWriter) → length (writer_state writer).words ≡ row_count writer
rows_counted writer =
    let kept = writer.writer_state.kept in
    ap (λ (ws : List (List ℕ)). length ws) kept.words_are ∙ kept.rows ∙ sym (ap (λ s. s.rows) kept.size_is)

pub node_there : (writer : NodeWriter) (leaf : Bool) (limit start : ℕ) (item : NodeItem) → IsNode (words_at writer) leaf limit start item → item.word < row_count writer
node_there writer leaf limit start item node =
    let there = row_there (writer_state writer).words leaf limit start item node in
    let long = rows_counted writer in
    omega arith

-- an item above the entries is a node
pub node_under : (at : ℕ → List ℕ) (limit up level start : ℕ) (item : NodeItem) → up ≡ suc level → IsUnder at limit up start item
    → IsNode at (is_leaf level) limit start item
unfolding IsUnder
node_under at limit up level start item e under = (opened e under).0 where
  opened : up ≡ suc level → IsUnder at limit up start item → IsUnder at limit (suc level) start item
  opened e under = subst (λ (n : ℕ). IsUnder at limit n start item) e under
