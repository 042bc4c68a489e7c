-- For `pairs_are_apart` and `SpanTree::publish`: the pairs of entries stand in order.
use Rattle.std.proofs.Common.{ℕ, ◌≡◌, ◌≤◌, ◌-◌, nat_eq, List, [], ◌∷◌, ◌++◌, All, arith, inl, inr, sym, subst}
use Rattle.std.proofs.lemmas.Bool.{cond-true, cond-false}
use Rattle.std.proofs.lemmas.Bool.Decides.{eqb_tells}
use Rattle.std.proofs.lemmas.List.Elements.{All-head, All-tail}
use Rattle.maple_node.specs.declared.item.NodeItem.{NodeItem}
use Rattle.maple_node.specs.Nodes.{items_end, Ascends}
use Rattle.maple_node.specs.Trees.{Tree, Pair, IsLayout, pairs_from, pairs_of, entries_of}
use Rattle.maple_node.proofs.Trees.{entries-ascend, entries-end}
use Rattle.area_tree.specs.SpanTrees.{ArePairs}

-- pairs that stand from a page on stand from an earlier one on
pairs_before : (slots limit start other : ℕ) (pairs : List Pair) → other ≤ start → ArePairs slots limit start pairs → ArePairs slots limit other pairs
pairs_before slots limit start other [] le are = omega (arith, le, are)
pairs_before slots limit start other (pair ∷ pairs) le are = (omega (arith, le, are.0), are.1, are.2, are.3)

-- the pairs of entries
from_pairs : (slots limit start : ℕ) (entries : List NodeItem) → Ascends start entries → items_end start entries ≡ limit
    → All (λ (entry : NodeItem). entry.word ≤ slots) entries → ArePairs slots limit start (pairs_from start entries)
from_pairs slots limit start [] ascends ends few = omega (arith, ends)
from_pairs slots limit start (item ∷ entries) ascends ends few =
    let rest = from_pairs slots limit item.end entries ascends.1 ends (All-tail (λ (entry : NodeItem). entry.word ≤ slots) item entries few) in
    let one : List Pair = record { lo = start; hi = item.end; slot = item.word - 1 } ∷ [] in
    elim (eqb_tells item.word 0) [
      | inl gap ↦
          subst (λ (ps : List Pair). ArePairs slots limit start (ps ++ pairs_from item.end entries))
          (sym (cond-true (nat_eq item.word 0) [] one gap.0))
          (pairs_before slots limit item.end start (pairs_from item.end entries) (omega (arith, ascends.0)) rest)
      | inr slot ↦
          let some = slot.1 in
          let below = All-head (λ (entry : NodeItem). entry.word ≤ slots) item entries few in
          subst (λ (ps : List Pair). ArePairs slots limit start (ps ++ pairs_from item.end entries))
          (sym (cond-false (nat_eq item.word 0) [] one slot.0))
          (omega arith, ascends.0, omega (arith, below, some), rest)
    ]

pub layout-pairs : (at : ℕ → List ℕ) (slots : ℕ) (tree : Tree) → IsLayout at slots tree
    → ArePairs slots tree.top.end 0 (pairs_of at tree)
layout-pairs at slots tree layout =
    from_pairs slots tree.top.end 0 (entries_of at tree) (entries-ascend at slots tree layout) (entries-end at slots tree layout) layout.numbered
