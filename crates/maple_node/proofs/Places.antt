-- For the laws `leaf_packing_is_undone` and `inner_packing_is_undone`: what stands at each place.
use Rattle.std.proofs.Common.{ℕ, zero, suc, ◌≡◌, ◌<◌, ◌≤◌, ◌+◌, ◌-◌, ◌*◌, Bool, true, false, nat_eq, List, [], ◌∷◌, ◌++◌, length, get_or, replicate, refl, sym, ap, arith, length-append}
use Rattle.std.proofs.lemmas.List.{length-replicate}
use Rattle.std.proofs.lemmas.Bool.Decides.{nat_tests}
use Rattle.std.specs.List.{flat_map}
use Rattle.maple_node.specs.declared.item.NodeItem.{NodeItem}
use Rattle.maple_node.specs.Nodes.{item_words, words_of_items, leaf_items, inner_items, node_items, Ascends, KeepsNoGap}

-- what stands at an unused place
abbrev pub unused : NodeItem
unused = record { end = 0; word = 0; gap = 0 }

-- a word of zeros, and after them
zeros_at : (n k : ℕ) → get_or {A = ℕ} (replicate n 0) k 0 ≡ 0
zeros_at zero k = refl
zeros_at (suc n) zero = refl
zeros_at (suc n) (suc k) = zeros_at n k

-- the words of each place of a leaf
leaf_end : (items : List NodeItem) (n i : ℕ) → get_or (flat_map (item_words true) items ++ replicate n 0) (2 * i) 0 ≡ (get_or items i unused).end
leaf_end [] n i = zeros_at n (2 * i)
leaf_end (item ∷ items) n zero = refl
leaf_end (item ∷ items) n (suc i) = let e : 2 * suc i ≡ suc (suc (2 * i)) = omega arith in rw e (leaf_end items n i)

leaf_word : (items : List NodeItem) (n i : ℕ) → get_or (flat_map (item_words true) items ++ replicate n 0) (2 * i + 1) 0 ≡ (get_or items i unused).word
leaf_word [] n i = zeros_at n (2 * i + 1)
leaf_word (item ∷ items) n zero = refl
leaf_word (item ∷ items) n (suc i) = let e : 2 * suc i + 1 ≡ suc (suc (2 * i + 1)) = omega arith in rw e (leaf_word items n i)

-- the words of each place of an inner node
inner_end : (items : List NodeItem) (n i : ℕ) → get_or (flat_map (item_words false) items ++ replicate n 0) (3 * i) 0 ≡ (get_or items i unused).end
inner_end [] n i = zeros_at n (3 * i)
inner_end (item ∷ items) n zero = refl
inner_end (item ∷ items) n (suc i) = let e : 3 * suc i ≡ suc (suc (suc (3 * i))) = omega arith in rw e (inner_end items n i)

inner_word : (items : List NodeItem) (n i : ℕ) → get_or (flat_map (item_words false) items ++ replicate n 0) (3 * i + 1) 0 ≡ (get_or items i unused).word
inner_word [] n i = zeros_at n (3 * i + 1)
inner_word (item ∷ items) n zero = refl
inner_word (item ∷ items) n (suc i) = let e : 3 * suc i + 1 ≡ suc (suc (suc (3 * i + 1))) = omega arith in rw e (inner_word items n i)

inner_gap : (items : List NodeItem) (n i : ℕ) → get_or (flat_map (item_words false) items ++ replicate n 0) (3 * i + 2) 0 ≡ (get_or items i unused).gap
inner_gap [] n i = zeros_at n (3 * i + 2)
inner_gap (item ∷ items) n zero = refl
inner_gap (item ∷ items) n (suc i) = let e : 3 * suc i + 2 ≡ suc (suc (suc (3 * i + 2))) = omega arith in rw e (inner_gap items n i)

-- the items of a node's words, where their ends are not 0 and a leaf's keep no gap
leaf_items-words : (start n : ℕ) (items : List NodeItem) → Ascends start items → KeepsNoGap true items
    → leaf_items (flat_map (item_words true) items ++ replicate n 0) ≡ items
unfolding leaf_items
leaf_items-words start zero [] ascends plain = refl
leaf_items-words start (suc zero) [] ascends plain = refl
leaf_items-words start (suc (suc n)) [] ascends plain = refl
leaf_items-words start n (item ∷ items) ascends plain =
    let some : nat_eq item.end 0 ≡ false = grind (arith, nat_tests, ascends.0) in
    let same : record { end = item.end; word = item.word; gap = 0 } ≡ item =
    ap (λ (gap : ℕ). let it : NodeItem = record { end = item.end; word = item.word; gap = gap } in it) (sym plain.0) in
    rw (some, leaf_items-words item.end n items ascends.1 plain.1, same)

inner_items-words : (start n : ℕ) (items : List NodeItem) → Ascends start items
    → inner_items (flat_map (item_words false) items ++ replicate n 0) ≡ items
unfolding inner_items
inner_items-words start zero [] ascends = refl
inner_items-words start (suc zero) [] ascends = refl
inner_items-words start (suc (suc zero)) [] ascends = refl
inner_items-words start (suc (suc (suc n))) [] ascends = refl
inner_items-words start n (item ∷ items) ascends =
    let some : nat_eq item.end 0 ≡ false = grind (arith, nat_tests, ascends.0) in
    rw (some, inner_items-words item.end n items ascends.1)

-- the items of the words of items
pub items_of_words : (leaf : Bool) (start : ℕ) (items : List NodeItem) → Ascends start items → KeepsNoGap leaf items
    → node_items leaf (words_of_items leaf items) ≡ items
unfolding words_of_items
items_of_words true start items ascends plain = leaf_items-words start (32 - length (flat_map (item_words true) items)) items ascends plain
items_of_words false start items ascends plain = inner_items-words start (32 - length (flat_map (item_words false) items)) items ascends

-- a node has 32 words, where its items have room
pub length-words_of : (leaf : Bool) (items : List NodeItem) → length (flat_map (item_words leaf) items) ≤ 32 → length (words_of_items leaf items) ≡ 32
unfolding words_of_items
length-words_of leaf items room =
    let front = flat_map (item_words leaf) items in
    omega (arith, length-append front (replicate (32 - length front) 0), length-replicate {A = ℕ} (32 - length front) 0)

-- each item ends above the page where they begin
pub ends_past : (start : ℕ) (items : List NodeItem) (i : ℕ) (d : NodeItem) → Ascends start items → i < length items → start < (get_or items i d).end
ends_past start [] i d ascends within = absurd (omega arith)
ends_past start (item ∷ items) zero d ascends within = ascends.0
ends_past start (item ∷ items) (suc i) d ascends within = let later = ends_past item.end items i d ascends.1 (omega arith) in omega (arith, ascends.0)

-- the words of a leaf at each place
pub leaf-ends : (items : List NodeItem) (i : ℕ) → get_or (words_of_items true items) (2 * i) 0 ≡ (get_or items i unused).end
unfolding words_of_items
leaf-ends items i = leaf_end items (32 - length (flat_map (item_words true) items)) i

pub leaf-words : (items : List NodeItem) (i : ℕ) → get_or (words_of_items true items) (2 * i + 1) 0 ≡ (get_or items i unused).word
unfolding words_of_items
leaf-words items i = leaf_word items (32 - length (flat_map (item_words true) items)) i

-- the words of an inner node at each place
pub inner-ends : (items : List NodeItem) (i : ℕ) → get_or (words_of_items false items) (3 * i) 0 ≡ (get_or items i unused).end
unfolding words_of_items
inner-ends items i = inner_end items (32 - length (flat_map (item_words false) items)) i

pub inner-words : (items : List NodeItem) (i : ℕ) → get_or (words_of_items false items) (3 * i + 1) 0 ≡ (get_or items i unused).word
unfolding words_of_items
inner-words items i = inner_word items (32 - length (flat_map (item_words false) items)) i

pub inner-gaps : (items : List NodeItem) (i : ℕ) → get_or (words_of_items false items) (3 * i + 2) 0 ≡ (get_or items i unused).gap
unfolding words_of_items
inner-gaps items i = inner_gap items (32 - length (flat_map (item_words false) items)) i
