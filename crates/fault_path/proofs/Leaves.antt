-- For the tests: trees that are one leaf of one entry in one row.
use Rattle.std.proofs.Common.{ℕ, zero, suc, ◌≡◌, ◌<◌, ◌≤◌, ◌+◌, ◌∙◌, Bool, true, false, ◌&&◌, cond, nat_eq, nat_lt, List, [], ◌∷◌, ◌++◌, length, get_or, refl, sym, ap, subst, arith, inl, inr}
use Rattle.std.proofs.lemmas.Bool.{cases_Bool, cases_lt, cond-true, cond-false, lt-ltb, eq-eqb, ne_eqb, and_from}
use Rattle.std.proofs.lemmas.Bool.Decides.{eqb_tells}
use Rattle.std.specs.Prelude.{All}
use Rattle.grace_core.specs.Core.{times}
use Rattle.maple_node.specs.declared.item.NodeItem.{NodeItem}
use Rattle.maple_node.specs.declared.root.Root.{Root}
use Rattle.maple_node.specs.Nodes.{words_of_items, leaf_items, Ascends}
use Rattle.maple_node.specs.Levels as levels
use Rattle.maple_node.specs.Levels.{IsTower, level_of, rows_below, IsNode}
use Rattle.maple_node.specs.Trees.{tree_of, IsLayout, ApartFrom}
use Rattle.node_slots.specs.Trees.{shown_rows}
use Rattle.node_slots.specs.Opening.{IsFreeFrom}
use Rattle.node_slots.proofs.Counting.{times_first, times_last, one_if, none_if}
use Rattle.node_slots.proofs.Listing.{kept_parts}

-- an entry as an item
abbrev pub entry : ℕ → ℕ → NodeItem
entry end word = record { end = end; word = word; gap = 0 }

-- the root of a leaf
abbrev pub leaf_root : ℕ → ℕ → Root
leaf_root tree row = record { tree = tree; height = 1; row = record { 0 = row } }

-- the words of a leaf of one entry list it
one_entry : (end word : ℕ) → 0 < end → leaf_items (words_of_items true (entry end word ∷ [])) ≡ entry end word ∷ []
unfolding leaf_items words_of_items
one_entry end word some =
    let more : nat_eq end 0 ≡ false = ne_eqb end 0 (λ e. omega arith) in
    cond-false (nat_eq end 0) [] (entry end word ∷ []) more

-- a leaf has its row alone
pub leaf_rows : (words : List (List ℕ)) (tree row : ℕ) → shown_rows (record { root = leaf_root tree row; words = words }) ≡ row ∷ []
unfolding shown_rows rows_below
leaf_rows words tree row = refl

-- one row is listed at most once
single : (row other : ℕ) → levels.times_among row (other ∷ []) ≤ 1
single row other = elim (cases_Bool (nat_eq other row)) [
  | inl same ↦ omega (arith, cond-true {A = ℕ} (nat_eq other row) 1 0 same)
  | inr apart ↦ omega (arith, cond-false {A = ℕ} (nat_eq other row) 1 0 apart)
]

-- a row that has the words of one entry is a leaf
one_node : (at : ℕ → List ℕ) (row end word : ℕ) → at row ≡ words_of_items true (entry end word ∷ []) → leaf_items (at row) ≡ entry end word ∷ [] → 0 < end
    → let top = (tree_of at (leaf_root 0 row)).top in IsNode at true top.end 0 top
one_node at row end word is reads some = record {
  some = subst (λ (xs : List NodeItem). 1 ≤ length xs) (sym reads) (omega arith);
  most = subst (λ (xs : List NodeItem). length xs ≤ 16) (sym reads) (omega arith);
  least = λ less. absurd (omega arith);
  ascends = subst (λ (xs : List NodeItem). Ascends 0 xs) (sym reads) (some, tt);
  until = refl;
  gap = refl;
  words = is ∙ ap (λ (xs : List NodeItem). words_of_items true xs) (sym reads);
}

-- its one entry has one of so many slots
one_small : (end word slots k : ℕ) (d : NodeItem) → word ≤ slots → k < 1 → (get_or (entry end word ∷ []) k d).word ≤ slots
one_small end word slots zero d small low = small
one_small end word slots (suc k) d small low = absurd (omega arith)

-- and a tree that meets the layout
pub leaf_layout : (at : ℕ → List ℕ) (slots tree row end word : ℕ) → at row ≡ words_of_items true (entry end word ∷ []) → 0 < end
    → word ≤ slots → IsLayout at slots (tree_of at (leaf_root tree row))
unfolding IsTower level_of rows_below
leaf_layout at slots tree row end word is some small =
    let reads : leaf_items (at row) ≡ entry end word ∷ [] = ap leaf_items is ∙ one_entry end word some in
    record {
      tall = omega arith;
      tower = ((one_node at row end word is reads some, tt), tt);
      wide = λ inner. absurd (omega arith);
      apart = subst (λ (xs : List NodeItem). ApartFrom 1 (xs ++ [])) (sym reads) ((λ gap. absurd (omega arith)), tt);
      numbered = subst (λ (xs : List NodeItem). All (λ (e : NodeItem). e.word ≤ slots) (xs ++ [])) (sym reads)
          (λ k d low. one_small end word slots k d small low);
      once = λ other. single other row;
    }

-- in a new table all rows but the first are free
pub first_alone : (rows : ℕ) (free left : List ℕ) (other : ℕ) → IsFreeFrom 1 rows free → left ≡ [] → other < rows
    → times other free + times other left + cond (nat_eq 0 other) 1 0 ≡ 1
first_alone rows free left other is none within =
    let gone : times other left ≡ 0 = ap (times other) none in
    elim (eqb_tells 0 other) [
      | inl here ↦ let one = one_if 0 other here.1 in
          elim (cases_lt 0 (times other free)) [
            | inl some ↦ let low = is.inside other some in absurd (omega (arith, low, here.1))
            | inr out ↦ omega (arith, gone, one, out)
          ]
      | inr apart ↦ let zeroth = none_if 0 other apart.1 in
          elim (cases_lt 0 other) [
            | inl above ↦ let all = is.all other above within in let once = is.once other in omega (arith, gone, zeroth, all, once)
            | inr low ↦ absurd (apart.1 (omega arith))
          ]
    ]

-- where a row is taken and the one before it is left, it is the one that is neither free nor left
pub next_alone : (other row next : ℕ) (here : Bool) (first free left free_new left_new : List ℕ) → first ≡ free ++ next ∷ []
    → free_new ≡ cond here free (free ++ row ∷ []) → left_new ≡ cond here (left ++ row ∷ []) left
    → times other first + times other left + cond (nat_eq row other) 1 0 ≡ 1
    → times other free_new + times other left_new + cond (nat_eq next other) 1 0 ≡ 1
next_alone other row next true first free left free_new left_new taken is_free is_left alone =
    let count = ap (times other) taken ∙ times_last other next free in
    let same = ap (times other) is_free in
    let more = ap (times other) is_left ∙ times_last other row left in
    omega (arith, count, same, more, alone)
next_alone other row next false first free left free_new left_new taken is_free is_left alone =
    let count = ap (times other) taken ∙ times_last other next free in
    let more = ap (times other) is_free ∙ times_last other row free in
    let same = ap (times other) is_left in
    omega (arith, count, same, more, alone)

-- so a tree of this row reaches exactly what is neither free nor left
pub alone_reached : (rows row other gone : ℕ) → row < rows → (other < rows → gone + cond (nat_eq row other) 1 0 ≡ 1)
    → times other (row ∷ []) ≡ cond (nat_lt other rows && nat_eq gone 0) 1 0
alone_reached rows row other gone within alone =
    let count = times_first other row [] in
    elim (eqb_tells row other) [
      | inl here ↦
          let one = one_if row other here.1 in
          let low : other < rows = omega (arith, within, here.1) in
          let kept = and_from (nat_lt other rows) (nat_eq gone 0) (lt-ltb other rows low) (eq-eqb gone 0 (omega (arith, alone low, one))) in
          count ∙ omega (arith, one, cond-true {A = ℕ} (nat_lt other rows && nat_eq gone 0) 1 0 kept)
      | inr apart ↦
          let none = none_if row other apart.1 in
          elim (cases_Bool (nat_lt other rows && nat_eq gone 0)) [
            | inl kept ↦ let parts = kept_parts rows other gone kept in let one = alone parts.0 in absurd (omega (arith, none, parts.1, one))
            | inr out ↦ count ∙ omega (arith, none, cond-false {A = ℕ} (nat_lt other rows && nat_eq gone 0) 1 0 out)
          ]
    ]
