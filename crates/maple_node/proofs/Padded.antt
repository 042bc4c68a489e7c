-- For `NodeWords`, `node_words` and `Layout`: words that are added to those before, where zeros stood.
use Rattle.std.proofs.Common.{ℕ, ◌≡◌, ◌<◌, ◌≤◌, ◌+◌, ◌-◌, ◌*◌, Bool, true, false, List, [], ◌∷◌, ◌++◌, length, take, drop, replicate, map, refl, sym, ap, ◌∙◌, arith, length-append}
use Rattle.std.proofs.lemmas.List.{length-take-le, drop_at, drop-replicate, take_all, length-map}
use Rattle.std.proofs.lemmas.Slice.{take-put_mid}
use borrow.Rule.Slice.PartMut.{put_mid}
use Rattle.std.specs.List.{flat_map}
use Rattle.maple_node.specs.declared.item.NodeItem.{NodeItem}
use Rattle.maple_node.specs.Nodes.{item_words, words_of_items, most}
use Rattle.maple_node.proofs.Packing.{length-leaf_words, length-inner_words}
use Rattle.maple_node.specs.Codec.{width_of}
use Rattle.maple_node.specs.Padding.{padded_node, IsPadded}

-- items have two words each in a leaf, and three in an inner node
pub length-words : (leaf : Bool) (items : List NodeItem) → length (flat_map (item_words leaf) items) ≡ width_of leaf * length items
length-words true items = length-leaf_words items
length-words false items = length-inner_words items

-- there is room for one item more of those that are left
pub room_more : (leaf : Bool) (used place : ℕ) (items : List NodeItem) → used + width_of leaf * length items ≤ 32 → place + 1 ≤ length items
    → used + width_of leaf * place + width_of leaf ≤ 32
room_more true used place items room there = omega arith
room_more false used place items room there = omega arith

-- all words of items are those of their node
pub padded-words : (leaf : Bool) (items : List NodeItem) → padded_node (flat_map (item_words leaf) items) ≡ words_of_items leaf items
unfolding words_of_items
padded-words leaf items = refl

-- a node has room for the most items that it may have
pub room_of : (leaf : Bool) (items : List NodeItem) → length items ≤ most leaf → width_of leaf * length items ≤ 32
room_of true items few = omega arith
room_of false items few = omega arith

-- of items that are made of others, there is room for the words of one more, and the last is followed by zeros
pub made_room : {A : Type 0} → (leaf : Bool) (made : A → NodeItem) (xs : List A) (words : List ℕ) (i : ℕ) → length xs ≤ most leaf → i < length xs
    → words ≡ flat_map (item_words leaf) (take i (map made xs)) → length words + width_of leaf ≤ 32
made_room leaf made xs words i few within is =
    let items = map made xs in
    let sized = length-map xs made in
    let long = ap (λ (ws : List ℕ). length ws) is ∙ length-words leaf (take i items)
    ∙ ap (λ (n : ℕ). width_of leaf * n) (length-take-le i items (omega arith)) in
    fits leaf (length words) i (length xs) long few within where
      fits : (b : Bool) (used at count : ℕ) → used ≡ width_of b * at → count ≤ most b → at < count → used + width_of b ≤ 32
      fits true used at count long few within = omega arith
      fits false used at count long few within = omega arith

pub made_words : {A : Type 0} → (leaf : Bool) (made : A → NodeItem) (xs : List A) (words : List ℕ) (i : ℕ) → i ≡ length xs
    → words ≡ flat_map (item_words leaf) (take i (map made xs)) → padded_node words ≡ words_of_items leaf (map made xs)
made_words leaf made xs words i all is =
    let items = map made xs in
    let whole : take i items ≡ items = take_all i items (omega (arith, length-map xs made)) in
    ap padded_node (is ∙ ap (flat_map (item_words leaf)) whole) ∙ padded-words leaf items

-- words that are added
pub record Added (used count : ℕ) (words added : List ℕ) : Type 0 where
  pub padded_so : IsPadded (used + count) (put_mid used (used + count - used) words added)
  pub view : take (used + count) (put_mid used (used + count - used) words added) ≡ take used words ++ added

pub added_words : (used count : ℕ) (words added : List ℕ) → IsPadded used words → length words ≡ 32 → length added ≡ count → used + count ≤ 32
    → Added used count words added
added_words used count words added before sized long room =
    let front = take used words in
    let k = used + count - used in
    let within : used ≤ length words = omega arith in
    let front_long : length front ≡ used = length-take-le used words within in
    let zeros : drop used words ≡ replicate (32 - length front) 0 =
    ap (drop used) before.rest ∙ drop_at front (replicate (32 - length front) 0) used front_long in
    let rest : drop k (drop used words) ≡ replicate (32 - length front - k) 0 = ap (drop k) zeros ∙ drop-replicate k (32 - length front) 0 in
    let view : take (used + count) (put_mid used k words added) ≡ front ++ added =
    take-put_mid used k words added (used + count) (omega arith) within in
    let both = length-append front added in
    let left : 32 - length front - k ≡ 32 - length (front ++ added) = omega arith in
    record {
      view = view;
      padded_so = record {
        fits = room;
        rest = ap (λ (zs : List ℕ). front ++ (added ++ zs)) (rest ∙ ap (λ (n : ℕ). replicate n 0) left)
            ∙ sym (assoc front added (replicate (32 - length (front ++ added)) 0)) ∙ ap padded_node (sym view);
      };
    } where
      assoc : (xs ys zs : List ℕ) → (xs ++ ys) ++ zs ≡ xs ++ (ys ++ zs)
      assoc [] ys zs = refl
      assoc (x ∷ xs) ys zs = ap (λ (ws : List ℕ). x ∷ ws) (assoc xs ys zs)
