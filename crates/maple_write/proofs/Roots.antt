-- For `leave_upper`, `new_root` and `replace`: the first items of a store, and the root of the new tree.
use Rattle.std.proofs.Common.{ℕ, suc, ◌≡◌, ◌≢◌, ◌<◌, ◌≤◌, ◌+◌, ◌-◌, ◌*◌, ◌⊎◌, Bool, true, false, nat_eq, nat_lt, cond, List, [], ◌∷◌, ◌++◌, length, set, Some, refl, sym, ap, subst, ◌∙◌, arith, inl, inr, length-append}
use Rattle.std.proofs.lemmas.Bool.{cases_lt}
use Rattle.std.proofs.lemmas.Bool.Decides.{nat_tests}
use Rattle.std.proofs.lemmas.List.{length-set}
use Rattle.maple_node.specs.declared.item.NodeItem.{NodeItem}
use Rattle.maple_node.specs.Nodes.{items_end, Ascends, KeepsNoGap, words_of_items, least_items}
use Rattle.maple_node.specs.Levels.{is_leaf, at_of, items_at, below, item_at, IsNode, level_of, IsTower, rows_below, times_among, Agree}
use Rattle.maple_node.specs.Trees.{Tree, entries_of}
use Rattle.maple_node.proofs.Lists.{ends_above, ends_behind}
use Rattle.maple_node.proofs.Levels.{level-ascends, level-ends}
use Rattle.maple_node.proofs.Frames.{times-append}
use Rattle.maple_node.specs.Splices.{ending_by, ending_after, spliced, piece_of, piece_below, overwrite}
use Rattle.maple_node.proofs.ItemLists.{ending_by-later, ending_by_all, ending_after_none, ending_by_below, ending_by-ascends, ending_after-ends}
use Rattle.maple_node.proofs.ItemEntries.{overwrite-ascends}
use Rattle.maple_write.specs.declared.rows.Rooted.{Rooted}
use Rattle.maple_node.specs.declared.place.Place.{Place}
use Rattle.maple_write.specs.Internal.Tables.{RowTable, rows_in, rows_between, gone, Stand}
use Rattle.maple_write.specs.Internal.Stores.{IsUpper, upper_rows, old_level, Level, new_level, new_entries, Partly, IsShaped, tree_under, HasPage}
use Rattle.maple_write.proofs.Levels.{AreNodes, tower_from, level_of-top}
use Rattle.maple_write.proofs.Times.{apart, whole_list, times_same, kept_other, kept-tower, times-lowest}
use Rattle.maple_write.proofs.Blocks.{times-parts}
use Rattle.maple_write.proofs.Steps.{raised, kept_rows}

-- a level of the old tree has all pages
pub record Full (table : RowTable) (tree : Rooted) (level : ℕ) : Type 0 where
  pub ascends : Ascends 0 (old_level table tree level)
  pub ends : items_end 0 (old_level table tree level) ≡ tree.top.end

pub full : (table : RowTable) (tree : Rooted) (level : ℕ) → IsUpper (at_of table.rows) tree level → 0 < tree.top.end → Full table tree level
full table tree level tower some = record {
  ascends = level-ascends (at_of table.rows) tree.top.end level (tree.height - level) (tree.top ∷ []) (some, tt) tower;
  ends = level-ends (at_of table.rows) tree.top.end level (tree.height - level) (tree.top ∷ []) tower;
}

none_from_end : (items : List NodeItem) → Ascends 0 items → items_end 0 items ≡ 0 → items ≡ []
none_from_end [] ascends ends = refl
none_from_end (x ∷ xs) ascends ends = let later = ends_above x.end xs ascends.1 in let first = ascends.0 in absurd (omega arith)

-- new items that have all pages are the level
pub all_new : (table : RowTable) (level : Level) → Partly table level
    → items_end 0 (ending_by level.lo (old_level table level.tree level.height)) ≡ 0 → level.hi ≡ level.tree.top.end → new_level table level ≡ level.new
all_new table level partly begins ends =
    let old = old_level table level.tree level.height in
    let pages = partly.pages in
    let is = full table level.tree level.height partly.tower (omega arith) in
    let e = is.ends in
    let front : ending_by level.lo old ≡ [] = none_from_end (ending_by level.lo old) (ending_by-ascends 0 level.lo old is.ascends) begins in
    let back : ending_after level.hi old ≡ [] = ending_after_none 0 level.hi old is.ascends (omega arith) in
    ap (λ (xs : List NodeItem). xs ++ (level.new ++ ending_after level.hi old)) front ∙ ap (λ (xs : List NodeItem). level.new ++ xs) back ∙ whole_list level.new

-- at the highest level they have all pages
pub at_top : (table : RowTable) (level : Level) → Partly table level → level.tree.height ≤ level.height
    → 1 ≤ level.tree.height → (items_end 0 (ending_by level.lo (old_level table level.tree level.height)) ≡ 0) × (level.hi ≡ level.tree.top.end)
at_top table level partly high tall =
    let one = level_of-top (at_of table.rows) level.tree.height level.height (level.tree.top ∷ []) high in
    let pages = partly.pages in
    let limit = partly.limit in
    let Ends : Type 0 = level.hi ≡ level.tree.top.end in
    let edge : items_end 0 (ending_by level.hi (level.tree.top ∷ [])) ≡ level.hi = sym (ap (λ (xs : List NodeItem). items_end 0 (ending_by level.hi xs)) one) ∙ partly.edge (omega arith) in (
      ap (λ (xs : List NodeItem). items_end 0 (ending_by level.lo xs)) one ∙ ap (items_end 0) (ending_by-later level.lo level.tree.top [] (omega arith)),
      elim (cases_lt level.hi level.tree.top.end) as (λ _. Ends) [
        | inl short ↦ let none = ap (items_end 0) (ending_by-later level.hi level.tree.top [] short) in absurd (omega arith)
        | inr all ↦ omega arith
      ],
    )

-- new items that do not have all pages, or are several, are not alone
pub two_items : (table : RowTable) (level : Level) (begin : ℕ) → Partly table level → 1 ≤ level.height
    → begin ≡ items_end 0 (ending_by level.lo (old_level table level.tree level.height))
    → (begin ≢ 0) ⊎ ((level.hi ≢ level.tree.top.end) ⊎ (length level.new ≢ 1)) → 2 ≤ length (new_level table level)
two_items table level begin partly inner begins which =
    let old = old_level table level.tree level.height in
    let front = ending_by level.lo old in
    let back = ending_after level.hi old in
    let pages = partly.pages in
    let limit = partly.limit in
    let some = partly.some in
    let is = full table level.tree level.height partly.tower (omega arith) in
    let l1 = length-append front (level.new ++ back) in
    let l2 = length-append level.new back in
    let Goal : Type 0 = 2 ≤ length (front ++ (level.new ++ back)) in
    elim which as (λ _. Goal) [
      | inl later ↦ let more = some_from_end front (λ none. later (begins ∙ none)) in omega arith
      | inr rest ↦ elim rest as (λ _. Goal) [
        | inl short ↦
            let ends = ending_after-ends 0 level.hi old is.ascends (omega arith) (let e = is.ends in omega arith) in
            let more = some_to_end level.hi back (λ none. short (sym none ∙ ends ∙ is.ends)) in
            omega arith
        | inr several ↦ elim (cases_lt (length level.new) 2) as (λ _. Goal) [
          | inl few ↦ absurd (several (omega arith))
          | inr many ↦ omega arith
        ]
      ]
    ] where
      some_from_end : (items : List NodeItem) → (items_end 0 items ≡ 0 → ⊥) → 1 ≤ length items
      some_from_end [] differ = absurd (differ refl)
      some_from_end (x ∷ xs) differ = omega arith

      some_to_end : (start : ℕ) (items : List NodeItem) → (items_end start items ≡ start → ⊥) → 1 ≤ length items
      some_to_end start [] differ = absurd (differ refl)
      some_to_end start (x ∷ xs) differ = omega arith

-- the first items of a store
record First (start lo hi word : ℕ) (item : NodeItem) (new : List NodeItem) : Type 0 where
  some : 1 ≤ length new
  few : length new ≤ 3
  ending : (begin : ℕ) → items_end begin new ≡ hi
  plain : KeepsNoGap true new

first_of_store : (start lo hi word : ℕ) (item : NodeItem) → First start lo hi word item (piece_of start lo (Some item) ++ record { end = hi; word = word; gap = 0 } ∷ [])
first_of_store start lo hi word item = go (nat_lt start lo) where
  entry : NodeItem
  entry = record { end = hi; word = word; gap = 0 }

  piece : NodeItem
  piece = record { end = lo; word = item.word; gap = 0 }

  go : (below : Bool) → First start lo hi word item (cond below (piece ∷ []) [] ++ entry ∷ [])
  go true = record { some = omega arith; few = omega arith; ending = λ begin. refl; plain = (refl, (refl, tt)) }
  go false = record { some = omega arith; few = omega arith; ending = λ begin. refl; plain = (refl, tt) }

-- they are what `overwrite` puts there
pub first_entries : (start lo hi word : ℕ) (item : NodeItem) (entries : List NodeItem) → item_at lo entries ≡ Some item
    → start ≡ items_end 0 (ending_by lo entries)
    → spliced lo hi (piece_of start lo (Some item) ++ record { end = hi; word = word; gap = 0 } ∷ []) entries ≡ overwrite lo hi word entries
unfolding piece_below
first_entries start lo hi word item entries found begins =
    let entry : NodeItem = record { end = hi; word = word; gap = 0 } in
    ap (λ (p : ℕ). spliced lo hi (piece_of p lo (Some item) ++ entry ∷ []) entries) begins
    ∙ sym (ap (λ o. spliced lo hi (piece_of (items_end 0 (ending_by lo entries)) lo o ++ entry ∷ []) entries) found)

-- the level of the entries, where a store begins
abbrev pub first_level : Rooted → ℕ → ℕ → List NodeItem → Level
first_level tree lo hi new = record { tree = tree; height = 0; lo = lo; hi = hi; new = new }

begun : (table : RowTable) (tree : Rooted) (lo hi word : ℕ) (place : Place) → IsShaped table (tree_under tree) → lo < hi → hi ≤ tree.top.end
    → 4 * tree.height + 4 ≤ length table.free → HasPage (at_of table.rows) tree 0 lo place
    → Partly table (first_level tree lo hi (piece_of place.start lo (Some place.item) ++ record { end = hi; word = word; gap = 0 } ∷ []))
unfolding IsTower rows_below
begun table tree lo hi word place shaped some limit room has =
    let at = at_of table.rows in
    let e : tree.height ≡ tree.height - 0 = omega arith in
    let tower : IsUpper at tree 0 = subst (λ (n : ℕ). IsTower at tree.top.end 0 n (tree.top ∷ [])) e shaped.tower in
    let is = full table tree 0 tower shaped.limit in
    let ends = is.ends in
    let first = first_of_store place.start lo hi word place.item in
    let same = first_entries place.start lo hi word place.item (old_level table tree 0) has.item has.start in
    record {
      within = omega arith;
      some = first.some;
      few = first.few;
      pages = some;
      limit = limit;
      tower = tower;
      built = tt;
      ascends = subst (λ (xs : List NodeItem). Ascends 0 xs) (sym same) (overwrite-ascends lo hi word (old_level table tree 0) is.ascends some (omega arith));
      ending = first.ending (items_end 0 (ending_by lo (old_level table tree 0)));
      edge = λ inner. absurd (omega arith);
      plain = first.plain;
      stand = record {
        each = λ row.
            let a = shaped.stand.each row in
            let b = times-append row (upper_rows at tree 0) [] in
            let d = ap (λ (n : ℕ). times_among row (rows_below at 0 n (tree.top ∷ []))) e in omega arith;
      };
      free = omega arith;
    }

-- the tree under one item
pub record NewRoot (old after : RowTable) (level : ℕ) (items : List NodeItem) (tree : Tree) : Type 0 where
  pub shaped : IsShaped after tree
  pub entries : entries_of (at_of after.rows) tree ≡ level_of (at_of old.rows) 0 level items

pub single : (table : RowTable) (level : ℕ) (items : List NodeItem) (top : NodeItem) → items ≡ top ∷ [] → 1 ≤ level
    → IsTower (at_of table.rows) (items_end 0 items) 0 level items → Ascends 0 items
    → (2 ≤ level → 2 ≤ length (below (at_of table.rows) false items)) → Stand table (rows_below (at_of table.rows) 0 level items)
    → NewRoot table table level items (record { top = top; height = level })
single table level items top one tall tower ascends wide stand =
    let at = at_of table.rows in
    let ascends' : Ascends 0 (top ∷ []) = subst (λ (xs : List NodeItem). Ascends 0 xs) one ascends in
    record {
      shaped = record {
        tall = tall;
        limit = ascends'.0;
        tower = subst (λ (xs : List NodeItem). IsTower at (items_end 0 xs) 0 level xs) one tower;
        wide = λ inner.
            let w = wide inner in
            let e = ap (λ (xs : List NodeItem). length (below at false xs)) one in
            let l = length-append (items_at at false top.word) [] in omega arith;
        stand = subst (λ (xs : List NodeItem). Stand table (rows_below at 0 level xs)) one stand;
      };
      entries = sym (ap (level_of at 0 level) one);
    }

-- the tree under a new root
pub two_under : (old after : RowTable) (level : ℕ) (items : List NodeItem) (node : NodeItem) (words : List ℕ) → 1 ≤ level
    → IsTower (at_of old.rows) (items_end 0 items) 0 level items → Ascends 0 items → 2 ≤ length items → Stand old (rows_below (at_of old.rows) 0 level items)
    → IsNode (at_of after.rows) false (items_end 0 items) 0 node → items_at (at_of after.rows) false node.word ≡ items → node.end ≡ items_end 0 items
    → after.rows ≡ set old.rows node.word words → ((row : ℕ) → times_among row old.free ≡ times_among row (node.word ∷ after.free)) → after.left ≡ old.left
    → NewRoot old after level items (record { top = node; height = level + 1 })
two_under old after level items node words tall tower ascends two stand is reads ends rows free left =
    let at = at_of old.rows in
    let at' = at_of after.rows in
    let limit = items_end 0 items in
    let inner : is_leaf level ≡ false = let test : nat_eq level 0 ≡ false = grind (arith, nat_tests) in test in
    let here : times_among node.word old.free ≡ 1 + times_among node.word after.free = free node.word ∙ times_same node.word after.free in
    let agree : Agree at at' (rows_below at 0 level items) = λ row some.
    let none = kept_rows old (rows_below at 0 level items) stand row some in
    let other : row ≢ node.word = apart row node.word old.free (omega arith) (omega arith) in
    sym (ap (λ (rs : List (List ℕ)). at_of rs row) rows ∙ kept_other old.rows node.word row words other) in
    let kept = kept-tower at at' limit 0 level items agree tower in
    let nodes : AreNodes at' (is_leaf level) limit 0 (node ∷ []) =
    subst (λ b. AreNodes at' b limit 0 (node ∷ [])) (sym inner) (is, tt) in
    let under : below at' (is_leaf level) (node ∷ []) ≡ items =
    ap (λ b. below at' b (node ∷ [])) inner ∙ whole_list (items_at at' false node.word) ∙ reads in
    let up = raised at' limit level (node ∷ []) items nodes under kept.tower in
    let past = ends_behind 0 items ascends (omega arith) in
    record {
      shaped = record {
        tall = omega arith;
        limit = omega arith;
        tower = subst (λ (n : ℕ). IsTower at' n 0 (level + 1) (node ∷ [])) (sym ends) up.tower;
        wide = λ high. subst (λ (xs : List NodeItem). 2 ≤ length xs) (sym reads) two;
        stand = record {
          each = λ row.
              let a = stand.each row in
              let b = up.rows row in
              let d = ap (times_among row) kept.rows in
              let f = free row in
              let g = ap (times_among row) left in
              let long : length after.rows ≡ length old.rows = ap (λ (rs : List (List ℕ)). length rs) rows ∙ length-set old.rows node.word words in
              let bound : cond {A = ℕ} (nat_lt row (length after.rows)) 1 0 ≡ cond (nat_lt row (length old.rows)) 1 0 =
              ap (λ (n : ℕ). cond {A = ℕ} (nat_lt row n) 1 0) long in
              omega arith;
        };
      };
      entries = up.entries ∙ kept.level;
    }

-- what leaving the rest of the old tree does, a level at a time
pub record Upper (table : RowTable) (tree : Rooted) (next : ℕ) : Type 0 where
  pub tower : IsUpper (at_of table.rows) tree (next + 1)
  pub edge : items_end 0 (ending_by tree.top.end (old_level table tree (next + 1))) ≡ tree.top.end
  pub rows : (row : ℕ) → times_among row (upper_rows (at_of table.rows) tree next)
      ≡ times_among row (upper_rows (at_of table.rows) tree (next + 1)) + times_among row (rows_between 0 tree.top.end (old_level table tree (next + 1)))

pub upper_at : (table : RowTable) (tree : Rooted) (level next : ℕ) → IsUpper (at_of table.rows) tree level → 0 < tree.top.end
    → level ≤ next → next < tree.height → Upper table tree next
upper_at table tree level next tower some order less =
    let at = at_of table.rows in
    let top = tree.top in
    let rest = tree.height - (next + 1) in
    let above = tower_from at top.end tree.height level (next + 1) (top ∷ []) (omega arith) (omega arith) tower in
    let is = full table tree (next + 1) above some in
    let old = old_level table tree (next + 1) in
    let ends = is.ends in
    let all : ending_by top.end old ≡ old = ending_by_all 0 top.end old is.ascends (omega arith) in
    let up : tree.height - next ≡ suc rest = omega arith in
    let e : suc next ≡ next + 1 = omega arith in
    let none : ending_by 0 old ≡ [] = none_from_end (ending_by 0 old) (ending_by-ascends 0 0 old is.ascends) (let b = ending_by_below 0 0 old (omega arith) in omega arith) in
    let past : ending_after top.end old ≡ [] = ending_after_none 0 top.end old is.ascends (omega arith) in
    record {
      tower = above;
      edge = ap (items_end 0) all ∙ is.ends;
      rows = λ row.
          let a = ap (λ (n : ℕ). times_among row (rows_below at next n (top ∷ []))) up in
          let b = times-lowest at row next rest (top ∷ []) in
          let d = ap (λ (n : ℕ). times_among row (rows_below at n rest (top ∷ []))) e in
          let f = ap (λ (n : ℕ). times_among row (rows_in (level_of at n rest (top ∷ [])))) e in
          let parts = times-parts row 0 top.end old (omega arith) in
          let g = ap (λ (xs : List NodeItem). times_among row (rows_in xs)) none in
          let h = ap (λ (xs : List NodeItem). times_among row (rows_in xs)) past in
          omega arith;
    }

pub no_rows_above : (at : ℕ → List ℕ) (row low : ℕ) (tree : Rooted) → tree.height ≤ low → times_among row (upper_rows at tree low) ≡ 0
unfolding rows_below
no_rows_above at row low tree top =
    let none : tree.height - low ≡ 0 = omega arith in
    ap (λ (n : ℕ). times_among row (rows_below at low n (tree.top ∷ []))) none

-- the tree under a root that was made of the items
pub root_made : (old after : RowTable) (level : ℕ) (items told : List NodeItem) (node : NodeItem) → 1 ≤ level
    → IsTower (at_of old.rows) (items_end 0 items) 0 level items → Ascends 0 items → 1 ≤ length items → (length items ≡ 1 → ⊥)
    → Stand old (rows_below (at_of old.rows) 0 level items) → told ≡ items
    → ((limit : ℕ) → (items_end 0 told < limit → least_items false ≤ length told) → IsNode (at_of after.rows) false limit 0 node)
    → items_at (at_of after.rows) false node.word ≡ told → node.end ≡ items_end 0 told
    → after.rows ≡ set old.rows node.word (words_of_items false told) → ((row : ℕ) → times_among row old.free ≡ times_among row (node.word ∷ after.free)) → after.left ≡ old.left
    → NewRoot old after level items (record { top = node; height = level + 1 })
root_made old after level items told node tall tower ascends some several stand same is reads ends rows free left =
    let two : 2 ≤ length items = elim (cases_lt (length items) 2) as (λ _. 2 ≤ length items) [
      | inl few ↦ absurd (several (omega arith))
      | inr many ↦ many
    ] in
    let limit = ap (items_end 0) same in
    let node_is = is (items_end 0 items) (λ less. absurd (omega arith)) in
    two_under old after level items node (words_of_items false told) tall tower ascends two stand node_is (reads ∙ same) (ends ∙ limit) rows free left

-- the first items of a store, as they were made
pub begins_as : (table : RowTable) (tree : Rooted) (lo hi word end : ℕ) (place : Place) (items : List NodeItem) → IsShaped table (tree_under tree) → lo < hi
    → hi ≤ tree.top.end → 4 * tree.height + 4 ≤ length table.free → HasPage (at_of table.rows) tree 0 lo place
    → end ≡ hi → items ≡ piece_of place.start lo (Some place.item) ++ record { end = hi; word = word; gap = 0 } ∷ []
    → Partly table (first_level tree lo end items)
begins_as table tree lo hi word end place items shaped some limit room has ends are =
    let entry : NodeItem = record { end = hi; word = word; gap = 0 } in
    subst (λ (xs : List NodeItem). Partly table (first_level tree lo end xs)) (sym are)
    (subst (λ (p : ℕ). Partly table (first_level tree lo p (piece_of place.start lo (Some place.item) ++ entry ∷ []))) (sym ends)
    (begun table tree lo hi word place shaped some limit room has))

pub starts_with : (table : RowTable) (tree : Rooted) (lo hi word end : ℕ) (place : Place) (items : List NodeItem)
    → HasPage (at_of table.rows) tree 0 lo place
    → end ≡ hi → items ≡ piece_of place.start lo (Some place.item) ++ record { end = hi; word = word; gap = 0 } ∷ []
    → new_entries table (first_level tree lo end items) ≡ overwrite lo hi word (entries_of (at_of table.rows) (tree_under tree))
unfolding level_of
starts_with table tree lo hi word end place items has ends are =
    let at = at_of table.rows in
    let old = old_level table tree 0 in
    let entry : NodeItem = record { end = hi; word = word; gap = 0 } in
    let e : tree.height - 0 ≡ tree.height = omega arith in
    ap (λ (xs : List NodeItem). spliced lo end xs old) are
    ∙ ap (λ (p : ℕ). spliced lo p (piece_of place.start lo (Some place.item) ++ entry ∷ []) old) ends
    ∙ first_entries place.start lo hi word place.item old has.item has.start
    ∙ ap (λ (n : ℕ). overwrite lo hi word (level_of at 0 n (tree.top ∷ []))) e

-- the rest of the old tree is not left yet
pub left_few : (table : RowTable) (level : Level) → Partly table level → (row : ℕ)
    → gone table row + times_among row (upper_rows (at_of table.rows) level.tree level.height) ≤ cond (nat_lt row (length table.rows)) 1 0
left_few table level partly row =
    let at = at_of table.rows in
    let a = partly.stand.each row in
    let b = times-append row (upper_rows at level.tree level.height) (rows_below at 0 level.height (new_level table level)) in
    omega arith

-- the new items have all pages, so they are the whole level
pub record RootReady (table : RowTable) (level : Level) : Type 0 where
  pub alone : new_level table level ≡ level.new
  pub limit : items_end 0 level.new ≡ level.tree.top.end
  pub tower : IsTower (at_of table.rows) (items_end 0 level.new) 0 level.height level.new
  pub ascends : Ascends 0 level.new

pub root_ready : (table : RowTable) (level : Level) → Partly table level
    → items_end 0 (ending_by level.lo (old_level table level.tree level.height)) ≡ 0 → level.hi ≡ level.tree.top.end → RootReady table level
root_ready table level partly begins ends =
    let at = at_of table.rows in
    let same = all_new table level partly begins ends in
    let limit : items_end 0 level.new ≡ level.tree.top.end = sym (ap (λ (p : ℕ). items_end p level.new) begins) ∙ partly.ending ∙ ends in
    record {
      alone = same;
      limit = limit;
      tower = subst (λ (p : ℕ). IsTower at p 0 level.height level.new) (sym limit) (subst (λ (xs : List NodeItem). IsTower at level.tree.top.end 0 level.height xs) same partly.built);
      ascends = subst (λ (xs : List NodeItem). Ascends 0 xs) same partly.ascends;
    }

-- once the rest of the old tree is left, the rows are those of the new one
pub stands_then : (table after : RowTable) (level : Level) → Partly table level
    → new_level table level ≡ level.new → after.rows ≡ table.rows
    → ((row : ℕ) → gone after row ≡ gone table row + times_among row (upper_rows (at_of table.rows) level.tree level.height))
    → Stand after (rows_below (at_of after.rows) 0 level.height level.new)
stands_then table after level partly alone rows left =
    let at = at_of table.rows in
    record {
      each = λ row.
          let a = partly.stand.each row in
          let b = times-append row (upper_rows at level.tree level.height) (rows_below at 0 level.height (new_level table level)) in
          let d = ap (λ (xs : List NodeItem). times_among row (rows_below at 0 level.height xs)) alone in
          let e = left row in
          let f = ap (λ (rs : List (List ℕ)). times_among row (rows_below (at_of rs) 0 level.height level.new)) rows in
          let bound = ap (λ (rs : List (List ℕ)). cond {A = ℕ} (nat_lt row (length rs)) 1 0) rows in
          omega arith;
    }
