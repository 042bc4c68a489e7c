-- For `walk`: the item that has a page, level by level.
use Rattle.std.proofs.Common.{ℕ, zero, suc, ◌≡◌, ◌<◌, ◌≤◌, ◌+◌, Bool, true, false, List, [], ◌∷◌, ◌++◌, length, map, Option, Some, None, refl, sym, ap, subst, ◌∙◌, arith, inl, inr}
use Rattle.std.proofs.lemmas.Bool.{cases_lt}
use Rattle.std.proofs.lemmas.Bool.Decides.{nat_tests}
use Rattle.std.specs.Prelude.{nat_lt}
use Rattle.std.specs.Option.{option_and_then}
use Rattle.maple_node.specs.declared.item.NodeItem.{NodeItem}
use Rattle.maple_node.specs.Nodes.{items_end, Ascends}
use Rattle.maple_node.specs.Levels.{is_leaf, items_at, below, item_at, AllFrom, IsNode, level_of, IsTower, times_among}
use Rattle.maple_node.proofs.Lists.{ends_above}
use Rattle.maple_node.proofs.Frames.{times-first}

-- the first item has a page below its end, and no page from its end on
pub item_at-first : (page : ℕ) (x : NodeItem) (xs : List NodeItem) → page < x.end → item_at page (x ∷ xs) ≡ Some x
item_at-first page x xs within = let test : nat_lt page x.end ≡ true = grind (arith, nat_tests) in rw test refl

pub item_at-later : (page : ℕ) (x : NodeItem) (xs : List NodeItem) → x.end ≤ page → item_at page (x ∷ xs) ≡ item_at page xs
item_at-later page x xs past = let test : nat_lt page x.end ≡ false = grind (arith, nat_tests) in rw test refl

-- items that end above a page have it, whatever follows
item_at-left : (start page : ℕ) (xs ys : List NodeItem) → 1 ≤ length xs → page < items_end start xs → item_at page (xs ++ ys) ≡ item_at page xs
item_at-left start page [] ys some within = absurd (omega arith)
item_at-left start page (x ∷ []) ys some within = item_at-first page x ys within ∙ sym (item_at-first page x [] within)
item_at-left start page (x ∷ x' ∷ xs) ys some within = elim (cases_lt page x.end) [
  | inl here ↦ item_at-first page x (x' ∷ xs ++ ys) here ∙ sym (item_at-first page x (x' ∷ xs) here)
  | inr past ↦ item_at-later page x (x' ∷ xs ++ ys) past ∙ item_at-left x.end page (x' ∷ xs) ys (omega arith) within
      ∙ sym (item_at-later page x (x' ∷ xs) past)
]

-- items that ascend and end at or below a page do not have it
item_at-right : (start page : ℕ) (xs ys : List NodeItem) → Ascends start xs → items_end start xs ≤ page → item_at page (xs ++ ys) ≡ item_at page ys
item_at-right start page [] ys ascends past = refl
item_at-right start page (x ∷ xs) ys ascends past =
    let above = ends_above x.end xs ascends.1 in
    item_at-later page x (xs ++ ys) (omega arith) ∙ item_at-right x.end page xs ys ascends.1 past

-- what has a page below nodes is what has it in the node that has it
pub item_at-below : (at : ℕ → List ℕ) (leaf : Bool) (limit start page : ℕ) (items : List NodeItem) → AllFrom (IsNode at leaf limit) start items
    → item_at page (below at leaf items) ≡ option_and_then (λ item. item_at page (items_at at leaf item.word)) (item_at page items)
item_at-below at leaf limit start page [] nodes = refl
item_at-below at leaf limit start page (x ∷ xs) nodes =
    let here = items_at at leaf x.word in
    let node = nodes.0 in
    let found : Option NodeItem → Option NodeItem = option_and_then (λ (item : NodeItem). item_at page (items_at at leaf item.word)) in
    elim (cases_lt page x.end) as (λ _. item_at page (here ++ below at leaf xs) ≡ found (item_at page (x ∷ xs))) [
      | inl within ↦ item_at-left start page here (below at leaf xs) node.some (subst (λ (end : ℕ). page < end) (sym node.until) within)
          ∙ sym (ap found (item_at-first page x xs within))
      | inr past ↦ item_at-right start page here (below at leaf xs) node.ascends (subst (λ (end : ℕ). end ≤ page) (sym node.until) past)
          ∙ item_at-below at leaf limit x.end page xs nodes.1 ∙ sym (ap found (item_at-later page x xs past))
    ]

-- no item below nodes has a page that none of them has
pub item_at-none : (at : ℕ → List ℕ) (limit up page : ℕ) (items : List NodeItem) → IsTower at limit 0 up items → item_at page items ≡ None
    → item_at page (level_of at 0 up items) ≡ None
unfolding IsTower level_of
item_at-none at limit zero page items tower none = none
item_at-none at limit (suc up) page items tower none =
    let leaf = is_leaf (0 + up) in
    let found : Option NodeItem → Option NodeItem = option_and_then (λ (item : NodeItem). item_at page (items_at at leaf item.word)) in
    item_at-none at limit up page (below at leaf items) tower.1 (item_at-below at leaf limit 0 page items tower.0 ∙ ap found none)

-- the item that has a page is one of them
pub item_at-among : (page : ℕ) (xs : List NodeItem) (item : NodeItem) → item_at page xs ≡ Some item → 1 ≤ times_among item.word (map (λ item. item.word) xs)
item_at-among page [] item is = absurd (cc)
item_at-among page (x ∷ xs) item is = elim (cases_lt page x.end) [
  | inl within ↦ let same = sym (item_at-first page x xs within) ∙ is in
      let e : x ≡ item = cc in
      subst (λ (i : NodeItem). 1 ≤ times_among i.word (x.word ∷ map (λ item. item.word) xs)) e (times-first x.word (map (λ item. item.word) xs))
  | inr past ↦ let more = item_at-among page xs item (sym (item_at-later page x xs past) ∙ is) in omega arith
]

-- and a node, where they all are
pub item_at-node : (at : ℕ → List ℕ) (leaf : Bool) (limit start page : ℕ) (xs : List NodeItem) (item : NodeItem) → AllFrom (IsNode at leaf limit) start xs
    → item_at page xs ≡ Some item → (begin : ℕ) × IsNode at leaf limit begin item
item_at-node at leaf limit start page [] item nodes is = absurd (cc)
item_at-node at leaf limit start page (x ∷ xs) item nodes is = elim (cases_lt page x.end) [
  | inl within ↦ let same = sym (item_at-first page x xs within) ∙ is in
      let e : x ≡ item = cc in
      (start, subst (λ (i : NodeItem). IsNode at leaf limit start i) e nodes.0)
  | inr past ↦ item_at-node at leaf limit x.end page xs item nodes.1 (sym (item_at-later page x xs past) ∙ is)
]
