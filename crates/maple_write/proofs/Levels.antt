-- For `find`, `rebuild_level` and others: going down a level of a tree.
use Rattle.std.proofs.Common.{ℕ, zero, suc, ◌≡◌, ◌<◌, ◌≤◌, ◌+◌, ◌-◌, Bool, true, false, List, [], ◌∷◌, ◌++◌, length, Some, refl, sym, ap, subst, ◌∙◌, arith, inl, inr, append_assoc}
use Rattle.std.proofs.lemmas.Bool.{cases_lt}
use Rattle.std.proofs.lemmas.List.{get_or_past}
use Rattle.std.proofs.lemmas.List.Elements.{filter-append}
use Rattle.std.specs.Prelude.{nat_lt, nat_le}
use Rattle.maple_node.specs.declared.item.NodeItem.{NodeItem}
use Rattle.maple_node.specs.Nodes.{node_items, leaf_items, inner_items, items_end}
use Rattle.maple_node.specs.Levels.{is_leaf, at_of, items_at, below, item_at, AllFrom, IsNode, level_of, IsTower}
use Rattle.maple_node.proofs.Lists.{end_of-append}
use Rattle.maple_node.proofs.Levels.{nodes-ascend, end_of-below, below-ascends}
use Rattle.maple_node.specs.Splices.{ending_by, ending_after}
use Rattle.maple_node.proofs.ItemLists.{ending_by-first, ending_after-later, item_at-first, item_at-later, ending_by_all, ending_by_none, ending_by_first, ending_after_all, ending_after_none, stands, item_at-left, item_at-right, AllFrom-at, ending_by_below}

-- nodes, of which the first begins at a page
abbrev pub AreNodes : (ℕ → List ℕ) → Bool → ℕ → ℕ → List NodeItem → Type 0
AreNodes at leaf limit start items = AllFrom (IsNode at leaf limit) start items

-- parts of joined items
pub ending_by-append : (page : ℕ) (xs ys : List NodeItem) → ending_by page (xs ++ ys) ≡ ending_by page xs ++ ending_by page ys
ending_by-append page xs ys = filter-append (λ (item : NodeItem). nat_le item.end page) xs ys

pub ending_after-append : (page : ℕ) (xs ys : List NodeItem) → ending_after page (xs ++ ys) ≡ ending_after page xs ++ ending_after page ys
ending_after-append page xs ys = filter-append (λ (item : NodeItem). nat_lt page item.end) xs ys

-- the item that is found first is the first, where it ends above the page
found_first : (page : ℕ) (x item : NodeItem) (xs : List NodeItem) → page < x.end → item_at page (x ∷ xs) ≡ Some item → x ≡ item
found_first page x item xs above found = let same : Some x ≡ Some item = sym (item_at-first page x xs above) ∙ found in cc

found_later : (page : ℕ) (x item : NodeItem) (xs : List NodeItem) → x.end ≤ page → item_at page (x ∷ xs) ≡ Some item → item_at page xs ≡ Some item
found_later page x item xs past found = sym (item_at-later page x xs past) ∙ found

-- what ends up to a page in the level below
pub ending_by-below : (at : ℕ → List ℕ) (leaf : Bool) (limit start page : ℕ) (items : List NodeItem) (left : NodeItem) → AreNodes at leaf limit start items
    → item_at page items ≡ Some left
    → ending_by page (below at leaf items) ≡ below at leaf (ending_by page items) ++ ending_by page (items_at at leaf left.word)
ending_by-below at leaf limit start page [] left nodes found = absurd (cc)
ending_by-below at leaf limit start page (x ∷ xs) left nodes found =
    let deep = below at leaf xs in
    let Goal : Type 0 = ending_by page (items_at at leaf x.word ++ deep) ≡ below at leaf (ending_by page (x ∷ xs)) ++ ending_by page (items_at at leaf left.word) in
    elim (cases_lt page x.end) as (λ _. Goal) [
      | inl above ↦
          let same = found_first page x left xs above found in
          let none : ending_by page deep ≡ [] = ending_by_none x.end page deep (below-ascends at leaf limit x.end xs nodes.1) (omega arith) in
          let first : ending_by page (x ∷ xs) ≡ [] = ending_by_first start page x xs (nodes-ascend at leaf limit start (x ∷ xs) nodes) above in
          ending_by-append page (items_at at leaf x.word) deep ∙ ap (λ (ys : List NodeItem). ending_by page (items_at at leaf x.word) ++ ys) none
          ∙ whole (ending_by page (items_at at leaf x.word)) ∙ ap (λ (y : NodeItem). ending_by page (items_at at leaf y.word)) same
          ∙ sym (ap (λ (ys : List NodeItem). below at leaf ys ++ ending_by page (items_at at leaf left.word)) first)
      | inr past ↦
          let all : ending_by page (items_at at leaf x.word) ≡ items_at at leaf x.word =
          ending_by_all start page (items_at at leaf x.word) nodes.0.ascends (let until = nodes.0.until in omega arith) in
          let rest = ending_by-below at leaf limit x.end page xs left nodes.1 (found_later page x left xs past found) in
          ending_by-append page (items_at at leaf x.word) deep
          ∙ ap (λ (ys : List NodeItem). ys ++ ending_by page deep) all ∙ ap (λ (ys : List NodeItem). items_at at leaf x.word ++ ys) rest
          ∙ sym (append_assoc (items_at at leaf x.word) (below at leaf (ending_by page xs)) (ending_by page (items_at at leaf left.word)))
          ∙ sym (ap (λ (ys : List NodeItem). below at leaf ys ++ ending_by page (items_at at leaf left.word)) (ending_by-first page x xs past))
    ] where
      whole : (ys : List NodeItem) → ys ++ [] ≡ ys
      whole [] = refl
      whole (y ∷ ys) = ap (λ (zs : List NodeItem). y ∷ zs) (whole ys)

-- what ends above a page in the level below, where the page before is in a node
pub ending_after-below : (at : ℕ → List ℕ) (leaf : Bool) (limit start page last : ℕ) (items : List NodeItem) (right : NodeItem) → AreNodes at leaf limit start items
    → last + 1 ≡ page → item_at last items ≡ Some right
    → ending_after page (below at leaf items) ≡ ending_after page (items_at at leaf right.word) ++ below at leaf (ending_after right.end items)
ending_after-below at leaf limit start page last [] right nodes next found = absurd (cc)
ending_after-below at leaf limit start page last (x ∷ xs) right nodes next found =
    let deep = below at leaf xs in
    let here = items_at at leaf x.word in
    let ascends = nodes-ascend at leaf limit start (x ∷ xs) nodes in
    let Goal : Type 0 = ending_after page (here ++ deep) ≡ ending_after page (items_at at leaf right.word) ++ below at leaf (ending_after right.end (x ∷ xs)) in
    elim (cases_lt last x.end) as (λ _. Goal) [
      | inl above ↦
          let same = found_first last x right xs above found in
          let all : ending_after page deep ≡ deep = ending_after_all x.end page deep (below-ascends at leaf limit x.end xs nodes.1) (omega arith) in
          let rest : ending_after x.end (x ∷ xs) ≡ xs = ending_after-later x.end x xs (omega arith) ∙ ending_after_all x.end x.end xs ascends.1 (omega arith) in
          ending_after-append page here deep ∙ ap (λ (ys : List NodeItem). ending_after page here ++ ys) all
          ∙ sym (ap (λ (ys : List NodeItem). ending_after page here ++ below at leaf ys) rest)
          ∙ ap (λ (y : NodeItem). ending_after page (items_at at leaf y.word) ++ below at leaf (ending_after y.end (x ∷ xs))) same
      | inr past ↦
          let until = nodes.0.until in
          let none : ending_after page here ≡ [] = ending_after_none start page here nodes.0.ascends (omega arith) in
          let later = found_later last x right xs past found in
          let high = (stands x.end last xs right ascends.1 later).above in
          ending_after-append page here deep ∙ ap (λ (ys : List NodeItem). ys ++ ending_after page deep) none
          ∙ ending_after-below at leaf limit x.end page last xs right nodes.1 next later
          ∙ sym (ap (λ (ys : List NodeItem). ending_after page (items_at at leaf right.word) ++ below at leaf ys) (ending_after-later right.end x xs (omega arith)))
    ]

-- the item that has a page in the level below is the one in the node that has it
pub item_at-below : (at : ℕ → List ℕ) (leaf : Bool) (limit start page : ℕ) (items : List NodeItem) (item : NodeItem) → AreNodes at leaf limit start items
    → start ≤ page → item_at page items ≡ Some item → item_at page (items_at at leaf item.word) ≡ item_at page (below at leaf items)
item_at-below at leaf limit start page [] item nodes begins found = absurd (cc)
item_at-below at leaf limit start page (x ∷ xs) item nodes begins found =
    let here = items_at at leaf x.word in
    let deep = below at leaf xs in
    let until = nodes.0.until in
    let Goal : Type 0 = item_at page (items_at at leaf item.word) ≡ item_at page (here ++ deep) in
    elim (cases_lt page x.end) as (λ _. Goal) [
      | inl above ↦
          let same = found_first page x item xs above found in
          ap (λ (y : NodeItem). item_at page (items_at at leaf y.word)) (sym same) ∙ sym (item_at-left start page here deep begins (omega arith))
      | inr past ↦
          item_at-below at leaf limit x.end page xs item nodes.1 past (found_later page x item xs past found)
          ∙ sym (item_at-right start page here deep nodes.0.ascends (omega arith))
    ]

-- the nodes that end up to a page
pub nodes-ending_by : (at : ℕ → List ℕ) (leaf : Bool) (limit start page : ℕ) (items : List NodeItem) → AreNodes at leaf limit start items
    → AreNodes at leaf limit start (ending_by page items)
nodes-ending_by at leaf limit start page [] nodes = tt
nodes-ending_by at leaf limit start page (x ∷ xs) nodes = elim (cases_lt page x.end) as (λ _. AreNodes at leaf limit start (ending_by page (x ∷ xs))) [
  | inl above ↦ rw (ending_by_first start page x xs (nodes-ascend at leaf limit start (x ∷ xs) nodes) above) tt
  | inr past ↦ rw (ending_by-first page x xs past) (nodes.0, nodes-ending_by at leaf limit x.end page xs nodes.1)
]

-- what is so of the node that has a page, and of the item in it that has the page
pub record Stepped (at : ℕ → List ℕ) (leaf : Bool) (limit start page : ℕ) (items : List NodeItem) (item : NodeItem) : Type 0 where
  pub node : IsNode at leaf limit (items_end start (ending_by page items)) item
  pub within : page < item.end
  pub begins : items_end start (ending_by page items) ≤ page
  pub found : item_at page (below at leaf items) ≡ item_at page (items_at at leaf item.word)
  pub front : items_end start (ending_by page (below at leaf items)) ≡ items_end (items_end start (ending_by page items)) (ending_by page (items_at at leaf item.word))

pub descend : (at : ℕ → List ℕ) (leaf : Bool) (limit start page : ℕ) (items : List NodeItem) (item : NodeItem) → AreNodes at leaf limit start items
    → start ≤ page → item_at page items ≡ Some item → Stepped at leaf limit start page items item
descend at leaf limit start page items item nodes begins found =
    let ascends = nodes-ascend at leaf limit start items nodes in
    record {
      node = AllFrom-at (IsNode at leaf limit) start page items item ascends nodes found;
      within = (stands start page items item ascends found).above;
      begins = ending_by_below start page items begins;
      found = sym (item_at-below at leaf limit start page items item nodes begins found);
      front = ap (items_end start) (ending_by-below at leaf limit start page items item nodes found)
          ∙ end_of-append start (below at leaf (ending_by page items)) (ending_by page (items_at at leaf item.word))
          ∙ ap (λ (p : ℕ). items_end p (ending_by page (items_at at leaf item.word))) (ends_ending_by nodes);
    } where
      ends_ending_by : AreNodes at leaf limit start items → items_end start (below at leaf (ending_by page items)) ≡ items_end start (ending_by page items)
      ends_ending_by nodes = end_of-below at leaf limit start (ending_by page items) (nodes-ending_by at leaf limit start page items nodes)

-- a level is the one below the next one up
pub level_of-down : (at : ℕ → List ℕ) (low up : ℕ) (items : List NodeItem)
    → level_of at low (suc up) items ≡ below at (is_leaf low) (level_of at (suc low) up items)
unfolding level_of
level_of-down at low zero items = let e : low + 0 ≡ low = omega arith in ap (λ (n : ℕ). below at (is_leaf n) items) e
level_of-down at low (suc up) items =
    let e : low + suc up ≡ suc low + up = omega arith in
    level_of-down at low up (below at (is_leaf (low + suc up)) items)
    ∙ ap (λ (n : ℕ). below at (is_leaf low) (level_of at (suc low) up (below at (is_leaf n) items))) e

-- a tower is one above its lowest nodes, and these
pub record Lowest (at : ℕ → List ℕ) (limit low up : ℕ) (items : List NodeItem) : Type 0 where
  pub above : IsTower at limit (suc low) up items
  pub here : AreNodes at (is_leaf low) limit 0 (level_of at (suc low) up items)

pub lowest : (at : ℕ → List ℕ) (limit low up : ℕ) (items : List NodeItem) → IsTower at limit low (suc up) items → Lowest at limit low up items
unfolding IsTower level_of
lowest at limit low zero items tower =
    let e : low + 0 ≡ low = omega arith in
    record { above = tt; here = subst (λ (n : ℕ). AreNodes at (is_leaf n) limit 0 items) e tower.0 }
lowest at limit low (suc up) items tower =
    let e : low + suc up ≡ suc low + up = omega arith in
    let deep = lowest at limit low up (below at (is_leaf (low + suc up)) items) tower.1 in
    record {
      above = (
        subst (λ (n : ℕ). AreNodes at (is_leaf n) limit 0 items) e tower.0,
        subst (λ (n : ℕ). IsTower at limit (suc low) up (below at (is_leaf n) items)) e deep.above,
      );
      here = subst (λ (n : ℕ). AreNodes at (is_leaf low) limit 0 (level_of at (suc low) up (below at (is_leaf n) items))) e deep.here;
    }

-- the part of a tower from a level up
tower_up : (at : ℕ → List ℕ) (limit k low level up total : ℕ) (items : List NodeItem) → low + k ≡ level → k + up ≡ total
    → IsTower at limit low total items → IsTower at limit level up items
tower_up at limit zero low level up total items here all tower =
    let e : low ≡ level = omega arith in
    let e' : total ≡ up = omega arith in
    subst (λ (n : ℕ). IsTower at limit n up items) e (subst (λ (n : ℕ). IsTower at limit low n items) e' tower)
tower_up at limit (suc k) low level up total items here all tower =
    let e : total ≡ suc (k + up) = omega arith in
    let low_one = lowest at limit low (k + up) items (subst (λ (n : ℕ). IsTower at limit low n items) e tower) in
    tower_up at limit k (suc low) level up (k + up) items (omega arith) refl low_one.above

pub tower_from : (at : ℕ → List ℕ) (limit height low level : ℕ) (items : List NodeItem) → low ≤ level → level ≤ height
    → IsTower at limit low (height - low) items → IsTower at limit level (height - level) items
tower_from at limit height low level items above within tower =
    tower_up at limit (level - low) low level (height - level) (height - low) items (omega arith) (omega arith) tower

-- no words list no items
no_items : (leaf : Bool) → node_items leaf [] ≡ []
unfolding leaf_items inner_items
no_items true = refl
no_items false = refl

-- a node lies in a row of the table
pub row_there : (rows : List (List ℕ)) (leaf : Bool) (limit start : ℕ) (item : NodeItem) → IsNode (at_of rows) leaf limit start item
    → item.word < length rows
row_there rows leaf limit start item node = elim (cases_lt item.word (length rows)) as (λ _. item.word < length rows) [
  | inl within ↦ within
  | inr past ↦
      let none : items_at (at_of rows) leaf item.word ≡ [] = ap (node_items leaf) (get_or_past rows item.word [] past) ∙ no_items leaf in
      let long = ap (λ (xs : List NodeItem). length xs) none in
      let some = node.some in
      absurd (omega arith)
]

-- one step down from a level of a tree
pub record Step (at : ℕ → List ℕ) (limit height level next : ℕ) (top : NodeItem) : Type 0 where
  pub nodes : AreNodes at (is_leaf next) limit 0 (level_of at level (height - level) (top ∷ []))
  pub down : level_of at next (height - next) (top ∷ []) ≡ below at (is_leaf next) (level_of at level (height - level) (top ∷ []))
  pub above : IsTower at limit level (height - level) (top ∷ [])

pub step_down : (at : ℕ → List ℕ) (limit height low level next : ℕ) (top : NodeItem) → IsTower at limit low (height - low) (top ∷ [])
    → low ≤ next → next + 1 ≡ level → level ≤ height → Step at limit height level next top
step_down at limit height low level next top tower order one within =
    let here = tower_from at limit height low next (top ∷ []) order (omega arith) tower in
    let up : height - next ≡ suc (height - level) = omega arith in
    let e : suc next ≡ level = omega arith in
    let both = lowest at limit next (height - level) (top ∷ []) (subst (λ (n : ℕ). IsTower at limit next n (top ∷ [])) up here) in
    record {
      nodes = subst (λ (n : ℕ). AreNodes at (is_leaf next) limit 0 (level_of at n (height - level) (top ∷ []))) e both.here;
      down = ap (λ (n : ℕ). level_of at next n (top ∷ [])) up ∙ level_of-down at next (height - level) (top ∷ [])
          ∙ ap (λ (n : ℕ). below at (is_leaf next) (level_of at n (height - level) (top ∷ []))) e;
      above = subst (λ (n : ℕ). IsTower at limit n (height - level) (top ∷ [])) e both.above;
    }

-- the highest level has the root alone
pub level_of-top : (at : ℕ → List ℕ) (height low : ℕ) (items : List NodeItem) → height ≤ low → level_of at low (height - low) items ≡ items
unfolding level_of
level_of-top at height low items top =
    let none : height - low ≡ 0 = omega arith in
    ap (λ (n : ℕ). level_of at low n items) none
