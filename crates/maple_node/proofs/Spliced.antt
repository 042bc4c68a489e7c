-- For `spliced_words` and `gap_in`: the words of some of the items of a node.
use Rattle.std.proofs.Common.{ℕ, suc, ◌≡◌, ◌≢◌, ◌<◌, ◌≤◌, ◌+◌, ◌-◌, ◌*◌, Bool, true, false, List, [], ◌∷◌, ◌++◌, length, take, drop, get_or, replicate, max, refl, sym, ap, subst, ◌∙◌, ◌⊎◌, inl, inr, arith, length-append, append_assoc}
use Rattle.std.proofs.lemmas.List.{take_at, drop_at, length-take-le, length-drop}
use Rattle.std.proofs.lemmas.Grind.{flat_map-append}
use Rattle.std.specs.List.{flat_map}
use Rattle.maple_node.specs.declared.item.NodeItem.{NodeItem}
use Rattle.maple_node.specs.Nodes.{item_words, words_of_items, node_items, most, items_end, Ascends, item_gap, gap_of}
use Rattle.maple_node.specs.Splices.{ending_by, ending_after, spliced}
use Rattle.maple_node.specs.Codec.{width_of, listed_at}
use Rattle.maple_node.specs.Padding.{padded_node}
use Rattle.maple_node.specs.Internal.Counts.{IsCounted}
use Rattle.maple_node.proofs.ItemLists.{ending_by-first, ending_by_first, ending_by_all, ending_by-ending_after, length-ending_by}
use Rattle.maple_node.proofs.Parts.{listed_there}
use Rattle.maple_node.proofs.Padded.{length-words}

-- where an item ends is its first word
pub ends_at : (leaf : Bool) (words : List ℕ) (place : ℕ) → (listed_at leaf words place).end ≡ get_or words place 0
ends_at true words place = refl
ends_at false words place = refl

-- items that ascend from a page do from each one below
pub ascends_from : (start low : ℕ) (items : List NodeItem) → low ≤ start → Ascends start items → Ascends low items
ascends_from start low [] below ascends = tt
ascends_from start low (item ∷ items) below ascends = let first = ascends.0 in (omega arith, ascends.1)

-- the item at the place ends up to the page
pub ending_by_more : (leaf : Bool) (page place : ℕ) (words : List ℕ) → IsCounted leaf page place words → place + width_of leaf ≤ length words
    → get_or words place 0 ≢ 0 → get_or words place 0 ≤ page → IsCounted leaf page (place + width_of leaf) words
ending_by_more leaf page place words is room some ends =
    let item = listed_at leaf words place in
    let rest = node_items leaf (drop (place + width_of leaf) words) in
    let there = listed_there leaf words place room some in
    let end = ends_at leaf words place in
    let more = ap (λ (xs : List NodeItem). length (ending_by page xs)) there ∙ ap (λ (xs : List NodeItem). length xs) (ending_by-first page item rest (omega arith)) in
    let ascends = subst (Ascends 0) there is.ascends in
    record {
      count = counted leaf (length (ending_by page (node_items leaf words))) (length (ending_by page (node_items leaf (drop place words)))) (length (ending_by page rest))
          place is.count more;
      ascends = ascends_from item.end 0 rest (omega arith) ascends.1;
    } where
      counted : (b : Bool) (all here later at : ℕ) → width_of b * all ≡ at + width_of b * here → here ≡ suc later
          → width_of b * all ≡ at + width_of b + width_of b * later
      counted true all here later at is more = omega arith
      counted false all here later at is more = omega arith

-- no item from the place on does
pub ending_by_done : (leaf : Bool) (page place : ℕ) (words : List ℕ) → IsCounted leaf page place words → ending_by page (node_items leaf (drop place words)) ≡ []
    → place ≡ width_of leaf * length (ending_by page (node_items leaf words))
ending_by_done leaf page place words is none =
    let long = ap (λ (xs : List NodeItem). width_of leaf * length xs) none in
    let zero : width_of leaf * 0 ≡ 0 = omega arith in
    let count = is.count in
    omega arith

pub ending_by_past : (leaf : Bool) (page place : ℕ) (words : List ℕ) → IsCounted leaf page place words → place + width_of leaf ≤ length words
    → get_or words place 0 ≢ 0 → page < get_or words place 0 → ending_by page (node_items leaf (drop place words)) ≡ []
ending_by_past leaf page place words is room some above =
    let item = listed_at leaf words place in
    let rest = node_items leaf (drop (place + width_of leaf) words) in
    let there = listed_there leaf words place room some in
    let end = ends_at leaf words place in
    ap (ending_by page) there ∙ ending_by_first 0 page item rest (subst (Ascends 0) there is.ascends) (omega arith)

-- the largest gap is that of the items before a place or of those from it on, which begin at `begin`
pub record Gapped (leaf : Bool) (start place begin largest : ℕ) (words : List ℕ) : Type 0 where
  pub gap : gap_of leaf start (node_items leaf words) ≡ max largest (gap_of leaf begin (node_items leaf (drop place words)))
  pub ascends : Ascends begin (node_items leaf (drop place words))

pub gapped_more : (leaf : Bool) (start place begin largest gap : ℕ) (words : List ℕ) → Gapped leaf start place begin largest words
    → place + width_of leaf ≤ length words → get_or words place 0 ≢ 0
    → gap ≡ max (item_gap leaf begin (listed_at leaf words place)) largest
    → Gapped leaf start (place + width_of leaf) (listed_at leaf words place).end gap words
gapped_more leaf start place begin largest gap words is room some told =
    let item = listed_at leaf words place in
    let rest = node_items leaf (drop (place + width_of leaf) words) in
    let there = listed_there leaf words place room some in
    let one = item_gap leaf begin item in
    let others = gap_of leaf item.end rest in
    let all : gap_of leaf start (node_items leaf words) ≡ max largest (max one others) = is.gap ∙ ap (λ (xs : List NodeItem). max largest (gap_of leaf begin xs)) there in
    record { gap = omega arith; ascends = (subst (Ascends begin) there is.ascends).1 }

pub gapped_all : (leaf : Bool) (start place begin largest : ℕ) (words : List ℕ) → Gapped leaf start place begin largest words
    → node_items leaf (drop place words) ≡ [] → largest ≡ gap_of leaf start (node_items leaf words)
gapped_all leaf start place begin largest words is none =
    let all : gap_of leaf start (node_items leaf words) ≡ max largest 0 = is.gap ∙ ap (λ (xs : List NodeItem). max largest (gap_of leaf begin xs)) none in
    omega arith

-- the words of the items up to a page, and of those above another one
pub record Parted (leaf : Bool) (lo hi before past used : ℕ) (words : List ℕ) : Type 0 where
  pub before_used : before ≤ used
  pub past_used : past ≤ used
  pub within : used ≤ length words
  pub front : take before words ≡ flat_map (item_words leaf) (ending_by lo (node_items leaf words))
  pub back : take (used - past) (drop past words) ≡ flat_map (item_words leaf) (ending_after hi (node_items leaf words))

-- fewer items have fewer words
ordered : (leaf : Bool) (a b m n : ℕ) → a ≡ width_of leaf * m → b ≡ width_of leaf * n → m ≤ n → a ≤ b
ordered true a b m n at_a at_b less = omega arith
ordered false a b m n at_a at_b less = omega arith

backs : (leaf : Bool) (past used back up_hi all : ℕ) → past ≡ width_of leaf * up_hi → used ≡ width_of leaf * all → all ≡ up_hi + back
    → width_of leaf * back ≡ used - past
backs true past used back up_hi all a b c = omega arith
backs false past used back up_hi all a b c = omega arith

pub parted : (leaf : Bool) (lo hi end before past used : ℕ) (words : List ℕ) → Ascends 0 (node_items leaf words)
    → words ≡ words_of_items leaf (node_items leaf words) → items_end 0 (node_items leaf words) ≤ end
    → before ≡ width_of leaf * length (ending_by lo (node_items leaf words)) → past ≡ width_of leaf * length (ending_by hi (node_items leaf words))
    → used ≡ width_of leaf * length (ending_by end (node_items leaf words)) → Parted leaf lo hi before past used words
unfolding words_of_items
parted leaf lo hi end before past used words ascends whole ends at_lo at_hi at_end =
    let items = node_items leaf words in
    let F : List NodeItem → List ℕ = flat_map (item_words leaf) in
    let zeros : List ℕ = replicate (32 - length (F items)) 0 in
    let all : ending_by end items ≡ items = ending_by_all 0 end items ascends ends in
    let parts : (page : ℕ) → words ≡ F (ending_by page items) ++ (F (ending_after page items) ++ zeros) = λ page.
    whole ∙ ap (λ (xs : List NodeItem). F xs ++ zeros) (sym (ending_by-ending_after 0 page items ascends))
    ∙ ap (λ (ws : List ℕ). ws ++ zeros) (flat_map-append (item_words leaf) (ending_by page items) (ending_after page items))
    ∙ append_assoc (F (ending_by page items)) (F (ending_after page items)) zeros in
    let at_used : used ≡ width_of leaf * length items = at_end ∙ ap (λ (xs : List NodeItem). width_of leaf * length xs) all in
    let split : length items ≡ length (ending_by hi items) + length (ending_after hi items) =
    ap (λ (xs : List NodeItem). length xs) (sym (ending_by-ending_after 0 hi items ascends)) ∙ length-append (ending_by hi items) (ending_after hi items) in
    let sized = ap (λ (ws : List ℕ). length ws) whole ∙ length-append (F items) zeros in
    let long = length-words leaf items in
    let back_long : length (F (ending_after hi items)) ≡ used - past =
    length-words leaf (ending_after hi items) ∙ backs leaf past used (length (ending_after hi items)) (length (ending_by hi items)) (length items) at_hi at_used split in
    record {
      before_used = ordered leaf before used (length (ending_by lo items)) (length items) at_lo at_used (length-ending_by lo items);
      past_used = ordered leaf past used (length (ending_by hi items)) (length items) at_hi at_used (length-ending_by hi items);
      within = omega arith;
      front = ap (take before) (parts lo) ∙ take_at (F (ending_by lo items)) (F (ending_after lo items) ++ zeros) before (length-words leaf (ending_by lo items) ∙ sym at_lo);
      back = ap (λ (ws : List ℕ). take (used - past) (drop past ws)) (parts hi)
          ∙ ap (take (used - past)) (drop_at (F (ending_by hi items)) (F (ending_after hi items) ++ zeros) past (length-words leaf (ending_by hi items) ∙ sym at_hi))
          ∙ take_at (F (ending_after hi items)) zeros (used - past) back_long;
    }

-- how many words they have with new ones between
joined_words : (leaf : Bool) (before back a b new some whole : ℕ) → before ≡ width_of leaf * a → back ≡ width_of leaf * b → some ≡ new + b → whole ≡ a + some
    → before + width_of leaf * new + back ≡ width_of leaf * whole
joined_words true before back a b new some whole p q r s = omega arith
joined_words false before back a b new some whole p q r s = omega arith

pub count_is : (leaf : Bool) (lo hi before past used : ℕ) (words : List ℕ) (new : List NodeItem) → before ≤ length words → used ≤ length words
    → past ≤ used → take before words ≡ flat_map (item_words leaf) (ending_by lo (node_items leaf words))
    → take (used - past) (drop past words) ≡ flat_map (item_words leaf) (ending_after hi (node_items leaf words))
    → before + width_of leaf * length new + (used - past) ≡ width_of leaf * length (spliced lo hi new (node_items leaf words))
count_is leaf lo hi before past used words new low within order front back =
    let items = node_items leaf words in
    let first : before ≡ width_of leaf * length (ending_by lo items) =
    sym (length-take-le before words low) ∙ ap (λ (ws : List ℕ). length ws) front ∙ length-words leaf (ending_by lo items) in
    let rest = length-drop past words in
    let last : used - past ≡ width_of leaf * length (ending_after hi items) =
    sym (length-take-le (used - past) (drop past words) (omega arith)) ∙ ap (λ (ws : List ℕ). length ws) back ∙ length-words leaf (ending_after hi items) in
    joined_words leaf before (used - past) (length (ending_by lo items)) (length (ending_after hi items)) (length new) (length (new ++ ending_after hi items))
    (length (spliced lo hi new items)) first last (length-append new (ending_after hi items)) (length-append (ending_by lo items) (new ++ ending_after hi items))

-- they are the words of a node
pub spliced_is : (leaf : Bool) (lo hi : ℕ) (new items : List NodeItem)
    → padded_node ((flat_map (item_words leaf) (ending_by lo items) ++ flat_map (item_words leaf) new) ++ flat_map (item_words leaf) (ending_after hi items))
    ≡ words_of_items leaf (spliced lo hi new items)
unfolding words_of_items
spliced_is leaf lo hi new items =
    let F : List NodeItem → List ℕ = flat_map (item_words leaf) in
    ap padded_node (append_assoc (F (ending_by lo items)) (F new) (F (ending_after hi items))
    ∙ ap (λ (ws : List ℕ). F (ending_by lo items) ++ ws) (sym (flat_map-append (item_words leaf) new (ending_after hi items)))
    ∙ sym (flat_map-append (item_words leaf) (ending_by lo items) (new ++ ending_after hi items)))

-- what a count of words tells of one of items
pub record Fits (leaf : Bool) (fewest count : ℕ) : Type 0 where
  pub most : count ≤ most leaf
  pub least : fewest ≤ count

pub fits_of : (leaf : Bool) (fewest count words wide most_items : ℕ) → words ≡ width_of leaf * count → wide ≡ width_of leaf → most_items ≡ most leaf
    → wide * fewest ≤ words → words ≤ wide * most_items → Fits leaf fewest count
fits_of true fewest count words wide most_items is w m low high =
    let a : 2 * fewest ≤ words = subst (λ (n : ℕ). n * fewest ≤ words) w low in
    let b : words ≤ 2 * 16 = subst (λ (n : ℕ). words ≤ n * 16) w (subst (λ (n : ℕ). words ≤ wide * n) m high) in
    record { most = omega arith; least = omega arith }
fits_of false fewest count words wide most_items is w m low high =
    let a : 3 * fewest ≤ words = subst (λ (n : ℕ). n * fewest ≤ words) w low in
    let b : words ≤ 3 * 10 = subst (λ (n : ℕ). words ≤ n * 10) w (subst (λ (n : ℕ). words ≤ wide * n) m high) in
    record { most = omega arith; least = omega arith }

-- and where the words are too few or too many, so are the items
pub misfits_of : (leaf : Bool) (fewest count words wide most_items : ℕ) → words ≡ width_of leaf * count → wide ≡ width_of leaf → most_items ≡ most leaf
    → (words < wide * fewest) ⊎ (wide * most_items < words) → (most leaf < count) ⊎ (count < fewest)
misfits_of true fewest count words wide most_items is w m (inl low) =
    let a : words < 2 * fewest = subst (λ (n : ℕ). words < n * fewest) w low in inr (omega arith)
misfits_of false fewest count words wide most_items is w m (inl low) =
    let a : words < 3 * fewest = subst (λ (n : ℕ). words < n * fewest) w low in inr (omega arith)
misfits_of true fewest count words wide most_items is w m (inr high) =
    let a : 2 * 16 < words = subst (λ (n : ℕ). n * 16 < words) w (subst (λ (n : ℕ). wide * n < words) m high) in inl (omega arith)
misfits_of false fewest count words wide most_items is w m (inr high) =
    let a : 3 * 10 < words = subst (λ (n : ℕ). n * 10 < words) w (subst (λ (n : ℕ). wide * n < words) m high) in inl (omega arith)

-- new items have few words
pub few_words : (leaf : Bool) (count : ℕ) → count ≤ 40 → width_of leaf * count ≤ 120
few_words true count few = omega arith
few_words false count few = omega arith

-- a node has 32 words at most
pub most_words : (leaf : Bool) → width_of leaf * most leaf ≤ 32
most_words true = omega arith
most_words false = omega arith

-- an item has some words, and three at most
pub some_words : (leaf : Bool) → 1 ≤ width_of leaf
some_words true = omega arith
some_words false = omega arith

pub three_words : (leaf : Bool) → width_of leaf ≤ 3
three_words true = omega arith
three_words false = omega arith
