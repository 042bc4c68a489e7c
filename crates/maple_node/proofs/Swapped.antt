-- For `swap_child`: the words and the largest gap of an inner node, where one child takes the place of another.
use Rattle.std.proofs.Common.{ℕ, ◌≡◌, ◌<◌, ◌≤◌, ◌+◌, ◌-◌, ◌*◌, false, List, [], ◌∷◌, ◌++◌, length, drop, get_or, set, replicate, max, Some, sym, ap, subst, ◌∙◌, arith, length-append, append_assoc}
use Rattle.std.proofs.lemmas.List.{set_at}
use Rattle.std.proofs.lemmas.Grind.{flat_map-append}
use Rattle.std.specs.List.{flat_map}
use Rattle.maple_node.specs.declared.item.NodeItem.{NodeItem}
use Rattle.maple_node.specs.Nodes.{item_words, words_of_items, node_items, items_end, Ascends, KeepsNoGap, gap_of}
use Rattle.maple_node.specs.Levels.{item_at}
use Rattle.maple_node.proofs.Packing.{length-inner_words}
use Rattle.maple_node.proofs.Places.{items_of_words}
use Rattle.maple_node.specs.Splices.{ending_by, ending_after, spliced}
use Rattle.maple_node.specs.Codec.{listed_at}
use Rattle.maple_node.specs.Internal.Counts.{IsCounted}
use Rattle.maple_node.proofs.ItemLists.{ending_by-ending_after, ending_by_first, item_at-first, item_at-later, stands}
use Rattle.maple_node.proofs.Listed.{listed}
use Rattle.maple_node.proofs.Spliced.{ending_by_more, ending_by_done}

-- the children before a place end up to a page, which one from it on has
pub record Near (page place : ℕ) (words : List ℕ) : Type 0 where
  pub counted : IsCounted false page place words
  pub found : item_at page (node_items false words) ≡ item_at page (node_items false (drop place words))
  pub within : page < items_end 0 (node_items false (drop place words))

-- there is one at the place
pub near_room : (page place : ℕ) (words : List ℕ) → Near page place words → place + 3 ≤ length words
near_room page place words near = (listed false words place 0 page (omega arith) near.within).room

-- the child at the place ends up to the page
pub near_more : (page place : ℕ) (words : List ℕ) → Near page place words → get_or words place 0 ≤ page → Near page (place + 3) words
near_more page place words near ends =
    let item = listed_at false words place in
    let rest = node_items false (drop (place + 3) words) in
    let there = listed false words place 0 page (omega arith) near.within in
    let is : node_items false (drop place words) ≡ item ∷ rest = there.is in
    let ascends : Ascends 0 (item ∷ rest) = subst (Ascends 0) is near.counted.ascends in
    let first = ascends.0 in
    let within : page < items_end item.end rest = subst (λ (xs : List NodeItem). page < items_end 0 xs) is near.within in
    record {
      counted = ending_by_more false page place words near.counted there.room (omega arith) ends;
      found = near.found ∙ ap (item_at page) is ∙ item_at-later page item rest ends;
      within = end_from item.end page rest ends within;
    } where
      end_from : (start page : ℕ) (items : List NodeItem) → start ≤ page → page < items_end start items → page < items_end 0 items
      end_from start page [] begins within = absurd (omega arith)
      end_from start page (x ∷ xs) begins within = within

-- it ends above the page
pub record There (page place : ℕ) (words : List ℕ) : Type 0 where
  pub at : place ≡ 3 * length (ending_by page (node_items false words))
  pub item : item_at page (node_items false words) ≡ Some (listed_at false words place)

pub near_there : (page place : ℕ) (words : List ℕ) → Near page place words → page < get_or words place 0 → There page place words
near_there page place words near past =
    let item = listed_at false words place in
    let rest = node_items false (drop (place + 3) words) in
    let there = listed false words place 0 page (omega arith) near.within in
    let is : node_items false (drop place words) ≡ item ∷ rest = there.is in
    let ascends : Ascends 0 (item ∷ rest) = subst (Ascends 0) is near.counted.ascends in
    record {
      at = ending_by_done false page place words near.counted (ap (ending_by page) is ∙ ending_by_first 0 page item rest ascends past);
      item = near.found ∙ ap (item_at page) is ∙ item_at-first page item rest past;
    }

-- the largest gap of children among which one stands, of which where they begin tells nothing
gap_among : (start : ℕ) (xs ys : List NodeItem) (x : NodeItem)
    → gap_of false start (xs ++ x ∷ ys) ≡ max x.gap (max (gap_of false start xs) (gap_of false x.end ys))
gap_among start [] ys x = omega arith
gap_among start (first ∷ xs) ys x =
    let later = gap_among first.end xs ys x in
    omega arith

-- the children of an inner node are plain
inner_plain : (items : List NodeItem) → KeepsNoGap false items
inner_plain [] = tt
inner_plain (item ∷ items) = inner_plain items

-- one child takes the place of another that ends where it does
pub record Swapped (page place : ℕ) (words : List ℕ) (child : NodeItem) : Type 0 where
  pub put : set (set words (place + 1) child.word) (place + 2) child.gap ≡ words_of_items false (spliced page child.end (child ∷ []) (node_items false words))
  pub count : length (spliced page child.end (child ∷ []) (node_items false words)) ≡ length (node_items false words)
  pub ascends : Ascends 0 (spliced page child.end (child ∷ []) (node_items false words))
  pub others : ℕ
  pub gap_before : gap_of false 0 (node_items false words) ≡ max (get_or words (place + 2) 0) others
  pub gap_after : gap_of false 0 (spliced page child.end (child ∷ []) (node_items false words)) ≡ max child.gap others

pub swapped : (page place : ℕ) (words : List ℕ) (child : NodeItem) → Ascends 0 (node_items false words) → words ≡ words_of_items false (node_items false words)
    → There page place words → get_or words place 0 ≡ child.end → Swapped page place words child
unfolding words_of_items
swapped page place words child ascends whole there ends =
    let items = node_items false words in
    let item = listed_at false words place in
    let F : List NodeItem → List ℕ = flat_map (item_words false) in
    let front = ending_by page items in
    let rest = ending_after child.end items in
    let new = front ++ child ∷ rest in
    let first : ending_after page items ≡ item ∷ ending_after item.end items = (stands 0 page items item ascends there.item).ending_after in
    let is : items ≡ front ++ item ∷ rest =
    sym (ending_by-ending_after 0 page items ascends) ∙ ap (λ (xs : List NodeItem). front ++ xs) first
    ∙ ap (λ (end : ℕ). front ++ item ∷ ending_after end items) ends in
    let zeros : List ℕ = replicate (32 - length (F items)) 0 in
    let parts : words ≡ F front ++ (item.end ∷ item.word ∷ item.gap ∷ (F rest ++ zeros)) =
    whole ∙ ap (λ (xs : List NodeItem). F xs ++ zeros) is ∙ ap (λ (ws : List ℕ). ws ++ zeros) (flat_map-append (item_words false) front (item ∷ rest))
    ∙ append_assoc (F front) (F (item ∷ rest)) zeros in
    let long : length (F front) ≡ place = length-inner_words front ∙ sym there.at in
    let pair = put_pair (F front) (F rest ++ zeros) place item.end item.word item.gap child.word child.gap long in
    let both : Ascends 0 (front ++ item ∷ rest) = subst (Ascends 0) is ascends in
    let sized : length (F new) ≡ length (F items) =
    length-inner_words new ∙ ap (λ (n : ℕ). 3 * n) (counts front rest item child ∙ sym (ap (λ (xs : List NodeItem). length xs) is)) ∙ sym (length-inner_words items) in
    record {
      put = ap (λ (ws : List ℕ). set (set ws (place + 1) child.word) (place + 2) child.gap) parts ∙ pair
          ∙ ap (λ (end : ℕ). F front ++ (end ∷ child.word ∷ child.gap ∷ (F rest ++ zeros))) ends
          ∙ sym (append_assoc (F front) (F (child ∷ rest)) zeros)
          ∙ ap (λ (ws : List ℕ). ws ++ zeros) (sym (flat_map-append (item_words false) front (child ∷ rest)))
          ∙ ap (λ (n : ℕ). F new ++ replicate (32 - n) 0) (sym sized);
      count = counts front rest item child ∙ sym (ap (λ (xs : List NodeItem). length xs) is);
      ascends = swap_ascends 0 front rest item child ends both;
      others = max (gap_of false 0 front) (gap_of false child.end rest);
      gap_before = ap (gap_of false 0) is ∙ gap_among 0 front rest item
          ∙ ap (λ (end : ℕ). max item.gap (max (gap_of false 0 front) (gap_of false end rest))) ends;
      gap_after = gap_among 0 front rest child;
    } where
      counts : (xs ys : List NodeItem) (x y : NodeItem) → length (xs ++ y ∷ ys) ≡ length (xs ++ x ∷ ys)
      counts xs ys x y = length-append xs (y ∷ ys) ∙ sym (length-append xs (x ∷ ys))

      swap_ascends : (start : ℕ) (xs ys : List NodeItem) (x y : NodeItem) → x.end ≡ y.end → Ascends start (xs ++ x ∷ ys) → Ascends start (xs ++ y ∷ ys)
      swap_ascends start [] ys x y same is = (subst (λ (n : ℕ). start < n) same is.0, subst (λ (n : ℕ). Ascends n ys) same is.1)
      swap_ascends start (z ∷ xs) ys x y same is = (is.0, swap_ascends z.end xs ys x y same is.1)

      put_pair : (xs zs : List ℕ) (at a b d p q : ℕ) → length xs ≡ at
          → set (set (xs ++ (a ∷ b ∷ d ∷ zs)) (at + 1) p) (at + 2) q ≡ xs ++ (a ∷ p ∷ q ∷ zs)
      put_pair xs zs at a b d p q long =
          let one : length (xs ++ a ∷ []) ≡ at + 1 = omega (arith, length-append xs (a ∷ [])) in
          let two : length (xs ++ a ∷ p ∷ []) ≡ at + 2 = omega (arith, length-append xs (a ∷ p ∷ [])) in
          ap (λ (ws : List ℕ). set (set ws (at + 1) p) (at + 2) q) (sym (append_assoc xs (a ∷ []) (b ∷ d ∷ zs)))
          ∙ ap (λ (ws : List ℕ). set ws (at + 2) q) (set_at (xs ++ a ∷ []) b (d ∷ zs) p (at + 1) one)
          ∙ ap (λ (ws : List ℕ). set ws (at + 2) q) (append_assoc xs (a ∷ []) (p ∷ d ∷ zs) ∙ sym (append_assoc xs (a ∷ p ∷ []) (d ∷ zs)))
          ∙ set_at (xs ++ a ∷ p ∷ []) d zs q (at + 2) two
          ∙ append_assoc xs (a ∷ p ∷ []) (q ∷ zs)

-- the words list the children then
pub swapped_items : (page place : ℕ) (words : List ℕ) (child : NodeItem) → Swapped page place words child
    → node_items false (set (set words (place + 1) child.word) (place + 2) child.gap) ≡ spliced page child.end (child ∷ []) (node_items false words)
swapped_items page place words child is =
    let new = spliced page child.end (child ∷ []) (node_items false words) in
    ap (node_items false) is.put ∙ items_of_words false 0 new is.ascends (inner_plain new)
