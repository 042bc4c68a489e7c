-- For `push_part` and `node_items`: what the words of a node list from a place on, and how many items there are.
use Rattle.std.proofs.Common.{ℕ, suc, ◌≡◌, ◌≢◌, ◌<◌, ◌≤◌, ◌+◌, ◌*◌, Bool, true, false, nat_eq, List, [], ◌∷◌, ◌++◌, length, drop, get_or, refl, sym, ap, ◌∙◌, arith, inl, inr, append_assoc, append-nil, length-append}
use Rattle.std.proofs.lemmas.List.{length-drop}
use Rattle.std.proofs.lemmas.Bool.{cases_lt}
use Rattle.std.proofs.lemmas.Bool.Decides.{nat_tests}
use Rattle.maple_node.specs.declared.item.NodeItem.{NodeItem}
use Rattle.maple_node.specs.Nodes.{leaf_items, inner_items, node_items, most}
use Rattle.maple_node.specs.declared.part.Part.{Part}
use Rattle.maple_node.specs.declared.part.Part.TheVariants.{Whole, EndingBy, EndingAfter}
use Rattle.maple_node.specs.Codec.{width_of, listed_at}
use Rattle.maple_node.specs.Parts.{keeps, part_of}
use Rattle.maple_node.proofs.Words.{leaf_items-more, leaf_items-zero, inner_items-more, inner_items-zero}
use Rattle.maple_node.proofs.Listed.{short_leaf, short_inner}

-- the item at a place that is used
pub listed_there : (leaf : Bool) (words : List ℕ) (place : ℕ) → place + width_of leaf ≤ length words → get_or words place 0 ≢ 0
    → node_items leaf (drop place words) ≡ listed_at leaf words place ∷ node_items leaf (drop (place + width_of leaf) words)
listed_there true words place room some = leaf_items-more words place room some
listed_there false words place room some = inner_items-more words place room some

-- none at a place that is not, and none where there is no room for one
pub listed_none : (leaf : Bool) (words : List ℕ) (place : ℕ) → place < length words → get_or words place 0 ≡ 0 → node_items leaf (drop place words) ≡ []
listed_none true words place room zero = leaf_items-zero words place room zero
listed_none false words place room zero = inner_items-zero words place room zero

pub listed_past : (leaf : Bool) (words : List ℕ) (place : ℕ) → length words < place + width_of leaf → node_items leaf (drop place words) ≡ []
listed_past true words place past = short_leaf (drop place words) (omega (arith, length-drop place words))
listed_past false words place past = short_inner (drop place words) (omega (arith, length-drop place words))

-- the part of an item before others
pub part_more : (part : Part) (item : NodeItem) (items : List NodeItem) → keeps part item.end ≡ true → part_of part (item ∷ items) ≡ item ∷ part_of part items
part_more Whole item items kept = refl
part_more (EndingBy page) item items kept = rw kept refl
part_more (EndingAfter page) item items kept = rw kept refl

pub part_less : (part : Part) (item : NodeItem) (items : List NodeItem) → keeps part item.end ≡ false → part_of part (item ∷ items) ≡ part_of part items
part_less Whole item items out = absurd (cc)
part_less (EndingBy page) item items out = rw out refl
part_less (EndingAfter page) item items out = rw out refl

pub part_none : (part : Part) → part_of part [] ≡ []
part_none Whole = refl
part_none (EndingBy page) = refl
part_none (EndingAfter page) = refl

-- a leaf has two words for each entry at least, and an inner node three for each child
leaf_count : (words : List ℕ) → 2 * length (leaf_items words) ≤ length words
unfolding leaf_items
leaf_count [] = omega arith
leaf_count (end ∷ []) = omega arith
leaf_count (end ∷ word ∷ rest) =
    let later = leaf_count rest in
    elim (cases_lt 0 end) as (λ _. 2 * length (leaf_items (end ∷ word ∷ rest)) ≤ suc (suc (length rest))) [
      | inl used ↦ let test : nat_eq end 0 ≡ false = grind (arith, nat_tests) in rw test (omega arith)
      | inr unused ↦ let test : nat_eq end 0 ≡ true = grind (arith, nat_tests) in rw test (omega arith)
    ]

inner_count : (words : List ℕ) → 3 * length (inner_items words) ≤ length words
unfolding inner_items
inner_count [] = omega arith
inner_count (end ∷ []) = omega arith
inner_count (end ∷ word ∷ []) = omega arith
inner_count (end ∷ word ∷ gap ∷ rest) =
    let later = inner_count rest in
    elim (cases_lt 0 end) as (λ _. 3 * length (inner_items (end ∷ word ∷ gap ∷ rest)) ≤ suc (suc (suc (length rest)))) [
      | inl used ↦ let test : nat_eq end 0 ≡ false = grind (arith, nat_tests) in rw test (omega arith)
      | inr unused ↦ let test : nat_eq end 0 ≡ true = grind (arith, nat_tests) in rw test (omega arith)
    ]

-- so a node has no more than it has place for
pub few_items : (leaf : Bool) (words : List ℕ) → length words ≡ 32 → length (node_items leaf words) ≤ most leaf
few_items true words sized = let count = leaf_count words in omega arith
few_items false words sized = let count = inner_count words in omega arith

-- the list with a part of what is listed from a place on, as the loop goes on
pub record Lists (part : Part) (leaf : Bool) (words : List ℕ) (place : ℕ) (before list : List NodeItem) : Type 0 where
  pub whole : list ++ part_of part (node_items leaf (drop place words)) ≡ before ++ part_of part (node_items leaf words)
  pub room : length list + length (node_items leaf (drop place words)) ≤ length before + most leaf

-- there is room for one more
pub room_there : (part : Part) (leaf : Bool) (words : List ℕ) (place : ℕ) (before list : List NodeItem) → Lists part leaf words place before list
    → place + width_of leaf ≤ length words → get_or words place 0 ≢ 0 → length before + most leaf ≤ 40 → length list < 40
room_there part leaf words place before list is room some fits =
    omega (arith, is.room, fits, ap (λ (xs : List NodeItem). length xs) (listed_there leaf words place room some))

-- an item is added, or is not of the part
pub lists_more : (part : Part) (leaf : Bool) (words : List ℕ) (place : ℕ) (before list next : List NodeItem) → Lists part leaf words place before list
    → place + width_of leaf ≤ length words → get_or words place 0 ≢ 0 → keeps part (listed_at leaf words place).end ≡ true
    → next ≡ list ++ listed_at leaf words place ∷ [] → Lists part leaf words (place + width_of leaf) before next
lists_more part leaf words place before list next is room some kept added =
    let item = listed_at leaf words place in
    let rest = node_items leaf (drop (place + width_of leaf) words) in
    let there = listed_there leaf words place room some in
    let long = ap (λ (xs : List NodeItem). length xs) there in
    record {
      whole = ap (λ (xs : List NodeItem). xs ++ part_of part rest) added ∙ append_assoc list (item ∷ []) (part_of part rest)
          ∙ ap (λ (xs : List NodeItem). list ++ xs) (sym (ap (part_of part) there ∙ part_more part item rest kept)) ∙ is.whole;
      room = omega (arith, is.room, long, ap length added, length-append list (item ∷ []));
    }

pub lists_less : (part : Part) (leaf : Bool) (words : List ℕ) (place : ℕ) (before list : List NodeItem) → Lists part leaf words place before list
    → place + width_of leaf ≤ length words → get_or words place 0 ≢ 0 → keeps part (listed_at leaf words place).end ≡ false
    → Lists part leaf words (place + width_of leaf) before list
lists_less part leaf words place before list is room some out =
    let item = listed_at leaf words place in
    let rest = node_items leaf (drop (place + width_of leaf) words) in
    let there = listed_there leaf words place room some in
    let long = ap (λ (xs : List NodeItem). length xs) there in
    record {
      whole = ap (λ (xs : List NodeItem). list ++ xs) (sym (ap (part_of part) there ∙ part_less part item rest out)) ∙ is.whole;
      room = omega (arith, is.room, long);
    }

-- nothing is listed from the place on
pub lists_all : (part : Part) (leaf : Bool) (words : List ℕ) (place : ℕ) (before list : List NodeItem) → Lists part leaf words place before list
    → node_items leaf (drop place words) ≡ [] → list ≡ before ++ part_of part (node_items leaf words)
lists_all part leaf words place before list is none =
    sym (append-nil list) ∙ ap (λ (xs : List NodeItem). list ++ xs) (sym (ap (part_of part) none ∙ part_none part)) ∙ is.whole
