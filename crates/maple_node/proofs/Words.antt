-- For `push_part`, `lists_nothing` and the law `written_items_are_read`: the words of a node.
use Rattle.std.proofs.Common.{ℕ, zero, suc, ◌≡◌, ◌≢◌, ◌<◌, ◌≤◌, ◌+◌, ◌-◌, Bool, true, false, nat_eq, List, [], ◌∷◌, ◌++◌, length, drop, get_or, replicate, All, refl, sym, ap, arith}
use Rattle.std.proofs.lemmas.List.{drop_more}
use Rattle.std.proofs.lemmas.Bool.Decides.{nat_tests}
use Rattle.std.specs.List.{flat_map}
use Rattle.maple_node.specs.declared.item.NodeItem.{NodeItem}
use Rattle.maple_node.specs.Nodes.{item_words, words_of_items, leaf_items, inner_items, node_items, KeepsNoGap}

-- an entry that the words of a leaf begin with
pub leaf_items-more : (words : List ℕ) (place : ℕ) → place + 2 ≤ length words → get_or words place 0 ≢ 0
    → leaf_items (drop place words) ≡ record { end = get_or words place 0; word = get_or words (place + 1) 0; gap = 0 } ∷ leaf_items (drop (place + 2) words)
unfolding leaf_items
leaf_items-more words place room some =
    let test : nat_eq (get_or words place 0) 0 ≡ false = grind (arith, nat_tests) in
    let first : drop place words ≡ get_or words place 0 ∷ drop (place + 1) words = drop_more words place 0 (omega arith) in
    let next : drop (place + 1) words ≡ get_or words (place + 1) 0 ∷ drop (place + 1 + 1) words = drop_more words (place + 1) 0 (omega arith) in
    let both : place + 1 + 1 ≡ place + 2 = omega arith in
    rw (first, next, test, both) refl

-- or none
leaf_zero : (words : List ℕ) → leaf_items (0 ∷ words) ≡ []
unfolding leaf_items
leaf_zero [] = refl
leaf_zero (word ∷ words) = refl

pub leaf_items-zero : (words : List ℕ) (place : ℕ) → place < length words → get_or words place 0 ≡ 0 → leaf_items (drop place words) ≡ []
unfolding leaf_items
leaf_items-zero words place room none =
    let first : drop place words ≡ get_or words place 0 ∷ drop (place + 1) words = drop_more words place 0 room in
    let rest = drop (place + 1) words in
    rw (first, none) (leaf_zero rest)

-- a child that the words of an inner node begin with
pub inner_items-more : (words : List ℕ) (place : ℕ) → place + 3 ≤ length words → get_or words place 0 ≢ 0
    → inner_items (drop place words)
    ≡ record { end = get_or words place 0; word = get_or words (place + 1) 0; gap = get_or words (place + 2) 0 } ∷ inner_items (drop (place + 3) words)
unfolding inner_items
inner_items-more words place room some =
    let test : nat_eq (get_or words place 0) 0 ≡ false = grind (arith, nat_tests) in
    let first : drop place words ≡ get_or words place 0 ∷ drop (place + 1) words = drop_more words place 0 (omega arith) in
    let next : drop (place + 1) words ≡ get_or words (place + 1) 0 ∷ drop (place + 1 + 1) words = drop_more words (place + 1) 0 (omega arith) in
    let third : drop (place + 2) words ≡ get_or words (place + 2) 0 ∷ drop (place + 2 + 1) words = drop_more words (place + 2) 0 (omega arith) in
    let both : place + 1 + 1 ≡ place + 2 = omega arith in
    let all : place + 2 + 1 ≡ place + 3 = omega arith in
    rw (first, next, both, third, test, all) refl

-- or none
inner_zero : (words : List ℕ) → inner_items (0 ∷ words) ≡ []
unfolding inner_items
inner_zero [] = refl
inner_zero (word ∷ []) = refl
inner_zero (word ∷ gap ∷ words) = refl

pub inner_items-zero : (words : List ℕ) (place : ℕ) → place < length words → get_or words place 0 ≡ 0 → inner_items (drop place words) ≡ []
inner_items-zero words place room none =
    let first : drop place words ≡ get_or words place 0 ∷ drop (place + 1) words = drop_more words place 0 room in
    rw (first, none) (inner_zero (drop (place + 1) words))

-- what holds of each of items holds of the first, and of each other
all_first : (x : NodeItem) (xs : List NodeItem) → All (λ (item : NodeItem). 0 < item.end) (x ∷ xs) → 0 < x.end
all_first x xs all = all 0 x (omega arith)

all_rest : (x : NodeItem) (xs : List NodeItem) → All (λ (item : NodeItem). 0 < item.end) (x ∷ xs) → All (λ (item : NodeItem). 0 < item.end) xs
all_rest x xs all = λ k d within. all (suc k) d (omega arith)

-- the items of the words of a leaf, and of an inner node
leaf_read : (n : ℕ) (items : List NodeItem) → All (λ (item : NodeItem). 0 < item.end) items → KeepsNoGap true items
    → leaf_items (flat_map (item_words true) items ++ replicate n 0) ≡ items
unfolding leaf_items
leaf_read zero [] ends plain = refl
leaf_read (suc zero) [] ends plain = refl
leaf_read (suc (suc n)) [] ends plain = refl
leaf_read n (item ∷ items) ends plain =
    let some : nat_eq item.end 0 ≡ false = grind (arith, nat_tests, all_first item items ends) in
    let same : record { end = item.end; word = item.word; gap = 0 } ≡ item =
    ap (λ (gap : ℕ). let it : NodeItem = record { end = item.end; word = item.word; gap = gap } in it) (sym plain.0) in
    rw (some, leaf_read n items (all_rest item items ends) plain.1, same)

inner_read : (n : ℕ) (items : List NodeItem) → All (λ (item : NodeItem). 0 < item.end) items
    → inner_items (flat_map (item_words false) items ++ replicate n 0) ≡ items
unfolding inner_items
inner_read zero [] ends = refl
inner_read (suc zero) [] ends = refl
inner_read (suc (suc zero)) [] ends = refl
inner_read (suc (suc (suc n))) [] ends = refl
inner_read n (item ∷ items) ends =
    let some : nat_eq item.end 0 ≡ false = grind (arith, nat_tests, all_first item items ends) in
    rw (some, inner_read n items (all_rest item items ends))

-- what is written is read
pub items_read : (leaf : Bool) (items : List NodeItem) → All (λ (item : NodeItem). 0 < item.end) items → KeepsNoGap leaf items
    → node_items leaf (words_of_items leaf items) ≡ items
unfolding words_of_items
items_read true items ends plain = leaf_read (32 - length (flat_map (item_words true) items)) items ends plain
items_read false items ends plain = inner_read (32 - length (flat_map (item_words false) items)) items ends
