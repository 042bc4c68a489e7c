-- For `item_word`: the items of a node from a place on.
use Rattle.std.proofs.Common.{ℕ, ◌≡◌, ◌<◌, ◌≤◌, Bool, true, false, List, [], ◌∷◌, length, get_or, drop, Option, Some, None, refl, ap, arith}
use Rattle.std.proofs.lemmas.Bool.Decides.{nat_tests}
use Rattle.std.specs.Prelude.{nat_eq}
use Rattle.std.specs.Option.{option_map}
use Rattle.maple_node.specs.declared.item.NodeItem.{NodeItem}
use Rattle.maple_node.specs.Nodes.{node_items, leaf_items, inner_items}
use Rattle.maple_node.specs.Levels.{item_at}
use Rattle.maple_node.specs.Codec.{width_of}
use Rattle.maple_read.proofs.Items.{item_at-first, item_at-later}

-- the word of the item that has a page
abbrev pub word_in : Bool → ℕ → List ℕ → Option ℕ
word_in leaf page words = option_map (λ (item : NodeItem). item.word) (item_at page (node_items leaf words))

-- no item where too few words are left
pub short : (leaf : Bool) (page : ℕ) (words : List ℕ) → length words < width_of leaf → word_in leaf page words ≡ None
unfolding leaf_items inner_items
short true page [] few = refl
short true page (a ∷ []) few = refl
short true page (a ∷ b ∷ rest) few = absurd (omega arith)
short false page [] few = refl
short false page (a ∷ []) few = refl
short false page (a ∷ b ∷ []) few = refl
short false page (a ∷ b ∷ d ∷ rest) few = absurd (omega arith)

-- none from a place on that ends at 0
pub zeroed : (leaf : Bool) (page : ℕ) (words : List ℕ) → get_or words 0 0 ≡ 0 → word_in leaf page words ≡ None
unfolding leaf_items inner_items
zeroed true page [] none = refl
zeroed true page (a ∷ []) none = refl
zeroed true page (a ∷ b ∷ rest) none = let test : nat_eq a 0 ≡ true = grind (arith, nat_tests) in rw test refl
zeroed false page [] none = refl
zeroed false page (a ∷ []) none = refl
zeroed false page (a ∷ b ∷ []) none = refl
zeroed false page (a ∷ b ∷ d ∷ rest) none = let test : nat_eq a 0 ≡ true = grind (arith, nat_tests) in rw test refl

-- a place that ends above the page has it
pub found : (leaf : Bool) (page : ℕ) (words : List ℕ) → width_of leaf ≤ length words → page < get_or words 0 0
    → word_in leaf page words ≡ Some (get_or words 1 0)
unfolding leaf_items inner_items
found true page [] long within = absurd (omega arith)
found true page (a ∷ []) long within = absurd (omega arith)
found true page (a ∷ b ∷ rest) long within =
    let test : nat_eq a 0 ≡ false = grind (arith, nat_tests) in
    let item : NodeItem = record { end = a; word = b; gap = 0 } in
    rw test (ap (option_map (λ (item : NodeItem). item.word)) (item_at-first page item (leaf_items rest) within))
found false page [] long within = absurd (omega arith)
found false page (a ∷ []) long within = absurd (omega arith)
found false page (a ∷ b ∷ []) long within = absurd (omega arith)
found false page (a ∷ b ∷ d ∷ rest) long within =
    let test : nat_eq a 0 ≡ false = grind (arith, nat_tests) in
    let item : NodeItem = record { end = a; word = b; gap = d } in
    rw test (ap (option_map (λ (item : NodeItem). item.word)) (item_at-first page item (inner_items rest) within))

-- a place that ends at the page or below, and not at 0, does not have it
pub later : (leaf : Bool) (page : ℕ) (words : List ℕ) → width_of leaf ≤ length words → (get_or words 0 0 ≡ 0 → ⊥) → get_or words 0 0 ≤ page
    → word_in leaf page words ≡ word_in leaf page (drop (width_of leaf) words)
unfolding leaf_items inner_items
later true page [] long some past = absurd (omega arith)
later true page (a ∷ []) long some past = absurd (omega arith)
later true page (a ∷ b ∷ rest) long some past =
    let test : nat_eq a 0 ≡ false = grind (arith, nat_tests) in
    let item : NodeItem = record { end = a; word = b; gap = 0 } in
    rw test (ap (option_map (λ (item : NodeItem). item.word)) (item_at-later page item (leaf_items rest) past))
later false page [] long some past = absurd (omega arith)
later false page (a ∷ []) long some past = absurd (omega arith)
later false page (a ∷ b ∷ []) long some past = absurd (omega arith)
later false page (a ∷ b ∷ d ∷ rest) long some past =
    let test : nat_eq a 0 ≡ false = grind (arith, nat_tests) in
    let item : NodeItem = record { end = a; word = b; gap = d } in
    rw test (ap (option_map (λ (item : NodeItem). item.word)) (item_at-later page item (inner_items rest) past))
