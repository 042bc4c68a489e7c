-- For `rows_suffice`, `SpanTree::store` and others: how large a tree of few pairs is.
use Rattle.std.proofs.Common.{ℕ, ◌≡◌, ◌≤◌, ◌+◌, ◌-◌, ◌*◌, ◌^◌, cond, nat_eq, List, [], ◌∷◌, length, arith, inl, inr, ap}
use Rattle.std.proofs.Math.Nat.{pow-le-pow_right}
use Rattle.std.proofs.lemmas.Bool.{cases_lt, cond-true, cond-false}
use Rattle.std.proofs.lemmas.Bool.Decides.{eqb_tells}
use Rattle.std.proofs.lemmas.List.{length-append}
use Rattle.maple_write.proofs.Sizes.{tree_sizes, tall_trees}
use Rattle.maple_node.specs.declared.item.NodeItem.{NodeItem}
use Rattle.maple_node.specs.Trees.{Tree, Pair, IsLayout, ApartFrom, entries_of, tree_rows, pairs_of, pairs_from, pair_of}

-- one more entry may come first where it is no gap that follows a gap
more_if : ℕ → ℕ
more_if before = cond (nat_eq before 0) 0 1

-- no gap has a pair, and each other entry has one
pair-none : (start : ℕ) (item : NodeItem) → item.word ≡ 0 → length (pair_of start item) ≡ 0
pair-none start item gap = elim (eqb_tells item.word 0) [
  | inl is ↦ ap (λ (ps : List Pair). length ps) (cond-true (nat_eq item.word 0) [] (record { lo = start; hi = item.end; slot = item.word - 1 } ∷ []) is.0)
  | inr not ↦ absurd (not.1 gap)
]

pair-one : (start : ℕ) (item : NodeItem) → (item.word ≡ 0 → ⊥) → length (pair_of start item) ≡ 1
pair-one start item some = elim (eqb_tells item.word 0) [
  | inl is ↦ absurd (some is.1)
  | inr not ↦ ap (λ (ps : List Pair). length ps) (cond-false (nat_eq item.word 0) [] (record { lo = start; hi = item.end; slot = item.word - 1 } ∷ []) not.0)
]

-- two gaps never follow each other, so there are at most twice as many entries as pairs, and one more
few_from : (before start : ℕ) (entries : List NodeItem) → ApartFrom before entries
    → length entries ≤ 2 * length (pairs_from start entries) + more_if before
unfolding more_if
few_from before start [] apart = omega arith
few_from before start (item ∷ entries) apart =
    let rest = few_from item.word item.end entries apart.1 in
    let parts = length-append (pair_of start item) (pairs_from item.end entries) in
    elim (eqb_tells item.word 0) [
      | inl gap ↦
          let none = pair-none start item gap.1 in
          let last : ◌≡◌ {A = ℕ} (cond (nat_eq item.word 0) 0 1) 0 = cond-true (nat_eq item.word 0) 0 1 gap.0 in
          elim (eqb_tells before 0) [
            | inl also ↦ absurd (apart.0 also.1 gap.1)
            | inr slot ↦
                let first : ◌≡◌ {A = ℕ} (cond (nat_eq before 0) 0 1) 1 = cond-false (nat_eq before 0) 0 1 slot.0 in
                omega (arith, rest, parts, none, last, first)
          ]
      | inr slot ↦
          let one = pair-one start item slot.1 in
          let last : ◌≡◌ {A = ℕ} (cond (nat_eq item.word 0) 0 1) 1 = cond-false (nat_eq item.word 0) 0 1 slot.0 in
          omega (arith, rest, parts, one, last)
    ]

pub few_entries : (entries : List NodeItem) → ApartFrom 1 entries → length entries ≤ 2 * length (pairs_from 0 entries) + 1
unfolding more_if
few_entries entries apart = few_from 1 0 entries apart

-- a tree of few pairs has few rows
pub few_rows : (at : ℕ → List ℕ) (slots areas : ℕ) (tree : Tree) → IsLayout at slots tree
    → length (pairs_of at tree) ≤ areas → 9 * length (tree_rows at tree) ≤ 4 * areas + 9 * tree.height
few_rows at slots areas tree layout few =
    let size = tree_sizes at slots tree layout in
    let entries = few_entries (entries_of at tree) layout.apart in
    omega (arith, size, entries, few)

-- and few levels
pub few_levels : (at : ℕ → List ℕ) (slots areas : ℕ) (tree : Tree) → IsLayout at slots tree
    → length (pairs_of at tree) ≤ areas → areas ≤ 65530 → tree.height ≤ 9
few_levels at slots areas tree layout few most =
    let entries = few_entries (entries_of at tree) layout.apart in
    elim (cases_lt 9 tree.height) [
      | inl tall ↦ absurd
          (let power : 4 ^ 8 ≤ 4 ^ (tree.height - 2) = pow-le-pow_right {n = 4} (omega arith) {i = 8} {j = tree.height - 2} (omega arith) in
          let long = tall_trees at slots tree layout (omega arith) in
          omega (arith, power, long, entries, few, most))
      | inr low ↦ low
    ]
