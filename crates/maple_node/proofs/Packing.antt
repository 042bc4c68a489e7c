-- For `leaf_words`, `inner_words` and the laws of node words: the words of items, one after another.
use Rattle.std.proofs.Common.{ℕ, ◌≡◌, ◌<◌, ◌+◌, ◌*◌, Bool, true, false, List, [], ◌∷◌, ◌++◌, length, take, get_or, refl, sym, ap, ◌∙◌, arith, append-nil, map}
use Rattle.std.proofs.lemmas.List.{take_more, length-map, get_or-map}
use Rattle.std.proofs.lemmas.Grind.{flat_map-append}
use Rattle.std.specs.List.{flat_map}
use Rattle.maple_node.specs.declared.item.NodeItem.{NodeItem}
use Rattle.maple_node.specs.Nodes.{item_words}

-- an entry has two words, and a child has three
pub length-leaf_words : (items : List NodeItem) → length (flat_map (item_words true) items) ≡ 2 * length items
length-leaf_words [] = refl
length-leaf_words (item ∷ items) = omega (arith, length-leaf_words items)

pub length-inner_words : (items : List NodeItem) → length (flat_map (item_words false) items) ≡ 3 * length items
length-inner_words [] = refl
length-inner_words (item ∷ items) = omega (arith, length-inner_words items)

-- the words of one item more
pub words-more : (leaf : Bool) (items : List NodeItem) (i : ℕ) (d : NodeItem) → i < length items
    → flat_map (item_words leaf) (take (i + 1) items) ≡ flat_map (item_words leaf) (take i items) ++ item_words leaf (get_or items i d)
words-more leaf items i d within =
    ap (flat_map (item_words leaf)) (take_more items i d within) ∙ flat_map-append (item_words leaf) (take i items) (get_or items i d ∷ [])
    ∙ ap (λ (xs : List ℕ). flat_map (item_words leaf) (take i items) ++ xs) (append-nil (item_words leaf (get_or items i d)))

-- of items that are made of others, one by one
made-more : {A : Type 0} → (leaf : Bool) (made : A → NodeItem) (xs : List A) (i : ℕ) (d : A) → i < length xs
    → flat_map (item_words leaf) (take (i + 1) (map made xs)) ≡ flat_map (item_words leaf) (take i (map made xs)) ++ item_words leaf (made (get_or xs i d))
made-more leaf made xs i d within =
    words-more leaf (map made xs) i (made d) (omega (arith, length-map xs made))
    ∙ ap (λ (item : NodeItem). flat_map (item_words leaf) (take i (map made xs)) ++ item_words leaf item) (get_or-map made xs i d (made d) within)

-- once the words of one more are added
pub made_next : {A : Type 0} → (leaf : Bool) (made : A → NodeItem) (xs : List A) (words next : List ℕ) (i : ℕ) (d : A) (item : NodeItem) → i < length xs
    → words ≡ flat_map (item_words leaf) (take i (map made xs)) → item ≡ made (get_or xs i d) → next ≡ words ++ item_words leaf item
    → next ≡ flat_map (item_words leaf) (take (i + 1) (map made xs))
made_next leaf made xs words next i d item within is told added =
    added ∙ ap (λ (ws : List ℕ). ws ++ item_words leaf item) is
    ∙ ap (λ (x : NodeItem). flat_map (item_words leaf) (take i (map made xs)) ++ item_words leaf x) told ∙ sym (made-more leaf made xs i d within)
