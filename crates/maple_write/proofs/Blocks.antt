-- For `leave_block`, `cut` and `rebuild_level`: the items of a level between two pages.
use Rattle.std.proofs.Common.{ℕ, ◌≡◌, ◌<◌, ◌≤◌, ◌+◌, Bool, true, false, nat_eq, List, [], ◌∷◌, ◌++◌, length, Some, refl, sym, ap, subst, ◌∙◌, arith, inl, inr, if◌then◌else◌}
use Rattle.std.proofs.lemmas.Bool.{cases_lt}
use Rattle.maple_node.specs.declared.item.NodeItem.{NodeItem}
use Rattle.maple_node.specs.Nodes.{node_items, leaf_items, inner_items, items_end, Ascends, KeepsNoGap}
use Rattle.maple_node.specs.Levels.{item_at, times_among}
use Rattle.maple_node.specs.Splices.{ending_by, ending_after}
use Rattle.maple_node.proofs.ItemLists.{ending_by-first, ending_by-later, ending_after-first, ending_after-later, item_at-first, item_at-later, ending_by_first, ending_by-ending_after, ending_by-ascends, stands, item_at-left}
use Rattle.maple_write.specs.Internal.Tables.{rows_in}

-- the first item from a page on, before a page where an item ends
pub record Next (page hi : ℕ) (items : List NodeItem) (item : NodeItem) : Type 0 where
  pub within : item.end ≤ hi
  pub above : page < item.end
  pub next : ending_by hi (ending_after page items) ≡ item ∷ ending_by hi (ending_after item.end items)

pub next_of : (page hi : ℕ) (items : List NodeItem) (item : NodeItem) → Ascends 0 items → page < hi → items_end 0 (ending_by hi items) ≡ hi
    → item_at page items ≡ Some item → Next page hi items item
next_of page hi items item ascends less edge found =
    let is = stands 0 page items item ascends found in
    let low : item_at page (ending_by hi items ++ ending_after hi items) ≡ item_at page (ending_by hi items) =
    item_at-left 0 page (ending_by hi items) (ending_after hi items) (omega arith) (omega arith) in
    let there : item_at page (ending_by hi items) ≡ Some item = sym low ∙ ap (item_at page) (ending_by-ending_after 0 hi items ascends) ∙ found in
    let inside = stands 0 page (ending_by hi items) item (ending_by-ascends 0 hi items ascends) there in
    let bound = inside.within in
    record {
      within = omega arith;
      above = is.above;
      next = ap (ending_by hi) is.ending_after ∙ ending_by-first hi item (ending_after item.end items) (omega arith);
    }

-- none lies between a page and one that is not above it
pub block_done : (page hi : ℕ) (items : List NodeItem) → hi ≤ page → ending_by hi (ending_after page items) ≡ []
block_done page hi [] done = refl
block_done page hi (x ∷ xs) done = elim (cases_lt page x.end) as (λ _. ending_by hi (ending_after page (x ∷ xs)) ≡ []) [
  | inl above ↦ ap (ending_by hi) (ending_after-first page x xs above) ∙ ending_by-later hi x (ending_after page xs) (omega arith) ∙ block_done page hi xs done
  | inr past ↦ ap (ending_by hi) (ending_after-later page x xs past) ∙ block_done page hi xs done
]

-- the rows of items are those of the items up to a page, between two, and above the second
pub times-parts : (row lo hi : ℕ) (items : List NodeItem) → lo ≤ hi
    → times_among row (rows_in items) ≡ times_among row (rows_in (ending_by lo items)) + times_among row (rows_in (ending_by hi (ending_after lo items))) + times_among row (rows_in (ending_after hi items))
times-parts row lo hi [] order = refl
times-parts row lo hi (x ∷ xs) order =
    let one : ℕ = if nat_eq x.word row then 1 else 0 in
    let rest = times-parts row lo hi xs order in
    let count : List NodeItem → ℕ = λ ys. times_among row (rows_in ys) in
    let Goal : Type 0 = count (x ∷ xs) ≡ count (ending_by lo (x ∷ xs)) + count (ending_by hi (ending_after lo (x ∷ xs))) + count (ending_after hi (x ∷ xs)) in
    let whole : count (x ∷ xs) ≡ one + count xs = refl in
    elim (cases_lt lo x.end) as (λ _. Goal) [
      | inl above ↦
          let first = ap count (ending_by-later lo x xs above) in
          let second = ap (λ (ys : List NodeItem). count (ending_by hi ys)) (ending_after-first lo x xs above) in
          elim (cases_lt hi x.end) as (λ _. Goal) [
            | inl last ↦
                let third = ap count (ending_after-first hi x xs last) in
                let skip = ap count (ending_by-later hi x (ending_after lo xs) last) in
                let more : count (x ∷ ending_after hi xs) ≡ one + count (ending_after hi xs) = refl in
                omega (arith, rest, first, second, third, skip, more, whole)
            | inr middle ↦
                let third = ap count (ending_after-later hi x xs middle) in
                let take = ap count (ending_by-first hi x (ending_after lo xs) middle) in
                let more : count (x ∷ ending_by hi (ending_after lo xs)) ≡ one + count (ending_by hi (ending_after lo xs)) = refl in
                omega (arith, rest, first, second, third, take, more, whole)
          ]
      | inr past ↦
          let first = ap count (ending_by-first lo x xs past) in
          let second = ap (λ (ys : List NodeItem). count (ending_by hi ys)) (ending_after-later lo x xs past) in
          let third = ap count (ending_after-later hi x xs (omega arith)) in
          let more : count (x ∷ ending_by lo xs) ≡ one + count (ending_by lo xs) = refl in
          omega (arith, rest, first, second, third, more, whole)
    ]

-- the items that end up to where one ends, end there
pub item_edge : (start page : ℕ) (items : List NodeItem) (item : NodeItem) → Ascends start items → item_at page items ≡ Some item
    → items_end start (ending_by item.end items) ≡ item.end
item_edge start page [] item ascends found = absurd (cc)
item_edge start page (x ∷ xs) item ascends found = elim (cases_lt page x.end) as (λ _. items_end start (ending_by item.end (x ∷ xs)) ≡ item.end) [
  | inl above ↦
      let first : Some x ≡ Some item = sym (item_at-first page x xs above) ∙ found in
      let same : x ≡ item = cc in
      let Here : NodeItem → Type 0 = λ y. items_end start (ending_by y.end (x ∷ xs)) ≡ y.end in
      subst Here same (ap (items_end start) (ending_by-first x.end x xs (omega arith)) ∙ ends x.end xs ascends.1)
  | inr past ↦
      let later : item_at page xs ≡ Some item = sym (item_at-later page x xs past) ∙ found in
      let high = (stands x.end page xs item ascends.1 later).above in
      ap (items_end start) (ending_by-first item.end x xs (omega arith)) ∙ item_edge x.end page xs item ascends.1 later
] where
  ends : (begin : ℕ) (ys : List NodeItem) → Ascends begin ys → items_end begin (ending_by begin ys) ≡ begin
  ends begin [] ascends = refl
  ends begin (y ∷ ys) ascends = ap (items_end begin) (ending_by_first begin begin y ys ascends ascends.0)

-- a child may keep any gap
pub inner-plain : (items : List NodeItem) → KeepsNoGap false items
inner-plain [] = tt
inner-plain (item ∷ items) = inner-plain items

-- the entries that words list keep no gap
leaf-plain : (words : List ℕ) → KeepsNoGap true (leaf_items words)
unfolding leaf_items
leaf-plain [] = tt
leaf-plain (end ∷ []) = tt
leaf-plain (end ∷ word ∷ rest) =
    let item : NodeItem = record { end = end; word = word; gap = 0 } in
    elim (nat_eq end 0) as (λ b. KeepsNoGap true (if b then [] else (item ∷ leaf_items rest))) [ true ↦ tt | false ↦ (refl, leaf-plain rest) ]

pub items-plain : (leaf : Bool) (words : List ℕ) → KeepsNoGap leaf (node_items leaf words)
items-plain true words = leaf-plain words
items-plain false words = inner-plain (inner_items words)

-- the items up to a page, and above one, are no more than all
pub length-ending_by : (page : ℕ) (items : List NodeItem) → length (ending_by page items) ≤ length items
length-ending_by page [] = omega arith
length-ending_by page (x ∷ xs) =
    let rest = length-ending_by page xs in
    elim (cases_lt page x.end) as (λ _. length (ending_by page (x ∷ xs)) ≤ length (x ∷ xs)) [
      | inl above ↦ let e = ap (λ (ys : List NodeItem). length ys) (ending_by-later page x xs above) in omega arith
      | inr past ↦ let e = ap (λ (ys : List NodeItem). length ys) (ending_by-first page x xs past) in omega arith
    ]

pub length-ending_after : (page : ℕ) (items : List NodeItem) → length (ending_after page items) ≤ length items
length-ending_after page [] = omega arith
length-ending_after page (x ∷ xs) =
    let rest = length-ending_after page xs in
    elim (cases_lt page x.end) as (λ _. length (ending_after page (x ∷ xs)) ≤ length (x ∷ xs)) [
      | inl above ↦ let e = ap (λ (ys : List NodeItem). length ys) (ending_after-first page x xs above) in omega arith
      | inr past ↦ let e = ap (λ (ys : List NodeItem). length ys) (ending_after-later page x xs past) in omega arith
    ]
