-- For `item_in`: the items that the words of a node list from a place on.
use Rattle.std.proofs.Common.{ℕ, ◌≡◌, ◌<◌, ◌≤◌, ◌+◌, Bool, true, false, List, [], ◌∷◌, length, drop, Some, refl, sym, ap, subst, ◌∙◌, arith, inl, inr, ◌⊎◌}
use Rattle.std.proofs.lemmas.List.{length-drop}
use Rattle.std.proofs.lemmas.Bool.{cases_lt}
use Rattle.maple_node.specs.declared.item.NodeItem.{NodeItem}
use Rattle.maple_node.specs.Nodes.{leaf_items, inner_items, node_items, items_end, Ascends}
use Rattle.maple_node.specs.Levels.{item_at}
use Rattle.maple_node.specs.Splices.{ending_by}
use Rattle.maple_node.specs.Codec.{width_of, listed_at}
use Rattle.maple_node.proofs.ItemLists.{ending_by-first, ending_by_first, item_at-first, item_at-later}
use Rattle.maple_node.proofs.Words.{leaf_items-more, leaf_items-zero, inner_items-more, inner_items-zero}

-- too few words list no item
pub short_leaf : (words : List ℕ) → length words < 2 → leaf_items words ≡ []
unfolding leaf_items
short_leaf [] few = refl
short_leaf (end ∷ []) few = refl
short_leaf (end ∷ word ∷ rest) few = absurd (omega arith)

pub short_inner : (words : List ℕ) → length words < 3 → inner_items words ≡ []
unfolding inner_items
short_inner [] few = refl
short_inner (end ∷ []) few = refl
short_inner (end ∷ word ∷ []) few = refl
short_inner (end ∷ word ∷ gap ∷ rest) few = absurd (omega arith)

-- there is an item at a place, where the items from it on end above where they begin
pub record Listed (leaf : Bool) (words : List ℕ) (place : ℕ) : Type 0 where
  pub room : place + width_of leaf ≤ length words
  pub is : node_items leaf (drop place words) ≡ listed_at leaf words place ∷ node_items leaf (drop (place + width_of leaf) words)

no_items : (items : List NodeItem) (begin page : ℕ) → items ≡ [] → begin ≤ page → page < items_end begin items → ⊥
no_items items begin page none above within =
    let end = ap (items_end begin) none in
    omega (arith, end, within, above)

pub listed : (leaf : Bool) (words : List ℕ) (place begin page : ℕ) → begin ≤ page → page < items_end begin (node_items leaf (drop place words)) → Listed leaf words place
listed true words place begin page above within = by (cases_lt (place + 1) (length words))
  where
    by : ((place + 1 < length words) ⊎ (length words ≤ place + 1)) → Listed true words place
    by (inl room) = record {
      room = (let e : place + 2 ≤ length words = omega arith in e);
      is = leaf_items-more words place (omega arith) (λ zero. no_items (leaf_items (drop place words)) begin page (leaf_items-zero words place (omega arith) zero) above within);
    }
    by (inr past) = absurd (no_items (leaf_items (drop place words)) begin page (short_leaf (drop place words) (omega (arith, length-drop place words))) above within)
listed false words place begin page above within = by (cases_lt (place + 2) (length words))
  where
    by : ((place + 2 < length words) ⊎ (length words ≤ place + 2)) → Listed false words place
    by (inl room) = record {
      room = (let e : place + 3 ≤ length words = omega arith in e);
      is = inner_items-more words place (omega arith) (λ zero. no_items (inner_items (drop place words)) begin page (inner_items-zero words place (omega arith) zero) above within);
    }
    by (inr past) = absurd (no_items (inner_items (drop place words)) begin page (short_inner (drop place words) (omega (arith, length-drop place words))) above within)

-- the items before a place end up to a page, and those from it on begin at `begin`
pub record Comes (leaf : Bool) (start page place begin : ℕ) (words : List ℕ) : Type 0 where
  pub found : item_at page (node_items leaf words) ≡ item_at page (node_items leaf (drop place words))
  pub front : items_end start (ending_by page (node_items leaf words)) ≡ items_end begin (ending_by page (node_items leaf (drop place words)))
  pub above : begin ≤ page
  pub within : page < items_end begin (node_items leaf (drop place words))
  pub ascends : Ascends begin (node_items leaf (drop place words))

-- the item at the place ends up to the page
pub comes_more : (leaf : Bool) (start page place begin : ℕ) (words : List ℕ) → Comes leaf start page place begin words
    → (listed_at leaf words place).end ≤ page → Comes leaf start page (place + width_of leaf) (listed_at leaf words place).end words
comes_more leaf start page place begin words comes ends =
    let item = listed_at leaf words place in
    let rest = node_items leaf (drop (place + width_of leaf) words) in
    let more = (listed leaf words place begin page comes.above comes.within).is in
    record {
      found = comes.found ∙ ap (item_at page) more ∙ item_at-later page item rest ends;
      front = comes.front ∙ ap (λ (xs : List NodeItem). items_end begin (ending_by page xs)) more ∙ ap (items_end begin) (ending_by-first page item rest ends);
      above = ends;
      within = subst (λ (xs : List NodeItem). page < items_end begin xs) more comes.within;
      ascends = (subst (Ascends begin) more comes.ascends).1;
    }

-- it ends above the page
pub record Found (leaf : Bool) (start page begin : ℕ) (words : List ℕ) (item : NodeItem) : Type 0 where
  pub found : item_at page (node_items leaf words) ≡ Some item
  pub front : begin ≡ items_end start (ending_by page (node_items leaf words))

pub comes_there : (leaf : Bool) (start page place begin : ℕ) (words : List ℕ) → Comes leaf start page place begin words
    → page < (listed_at leaf words place).end → Found leaf start page begin words (listed_at leaf words place)
comes_there leaf start page place begin words comes past =
    let item = listed_at leaf words place in
    let rest = node_items leaf (drop (place + width_of leaf) words) in
    let more = (listed leaf words place begin page comes.above comes.within).is in
    record {
      found = comes.found ∙ ap (item_at page) more ∙ item_at-first page item rest past;
      front = sym (comes.front ∙ ap (λ (xs : List NodeItem). items_end begin (ending_by page xs)) more
          ∙ ap (items_end begin) (ending_by_first begin page item rest (subst (Ascends begin) more comes.ascends) past));
    }
