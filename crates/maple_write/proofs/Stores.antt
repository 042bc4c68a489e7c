-- For `store`, `publish_tree` and what they call: the entries of a store, and the writer's view before and after it.
use Rattle.std.proofs.Common.{ℕ, zero, suc, ◌≡◌, ◌≢◌, ◌<◌, ◌≤◌, ◌+◌, ◌-◌, ◌^◌, Bool, true, false, nat_eq, nat_lt, cond, ◌&&◌, List, [], ◌∷◌, ◌++◌, length, set, replicate, All, Some, refl, sym, ap, subst, ◌∙◌, arith, inl, inr, if◌then◌else◌, length-append}
use Rattle.std.proofs.lemmas.Bool.{cases_lt}
use Rattle.std.proofs.lemmas.Bool.Decides.{nat_tests}
use Rattle.std.proofs.lemmas.List.{length-set, length-map}
use Rattle.grace_core.specs.Core as grace
use Rattle.maple_node.specs.declared.item.NodeItem.{NodeItem}
use Rattle.maple_node.specs.Nodes.{leaf_items, least_items, items_end, Ascends, KeepsNoGap, gap_of, node_items}
use Rattle.maple_node.specs.Levels.{is_leaf, at_of, items_at, item_at, IsNode, level_of, IsTower, rows_below, times_among}
use Rattle.maple_node.specs.Trees.{Tree, Pair, top_of, entries_of, tree_rows, pairs_from, pairs_of, ApartFrom, IsLayout}
use Rattle.maple_node.proofs.Trees.{root-named, limit_above}
use Rattle.maple_node.specs.Splices.{ending_by, ending_after, piece_of, overwrite, gap_end, widened_lo, widened_hi}
use Rattle.maple_node.specs.Pairs.{overwritten}
use Rattle.maple_node.proofs.ItemLists.{item_at-past, item_at-first, ending_by-later}
use Rattle.maple_node.proofs.ItemEntries.{overwrite-pairs, overwrite-words}
use Rattle.maple_node.proofs.Gaps.{widened, stored-apart}
use Rattle.node_slots.specs.declared.tree.Tree.{Tree as View}
use Rattle.node_slots.specs.declared.view.Size.{Size}
use Rattle.node_slots.specs.declared.view.NodeView.{NodeView}
use Rattle.node_slots.specs.declared.seats.NodeWriter.{NodeWriter}
use Rattle.node_slots.specs.Seats.{node_sight, writer_state, row_count, free_of, retired_rows, is_kept, one_where}
use Rattle.node_slots.specs.Built.{words_at, built, IsBuilt, IsWriters, pairs_now}
use Rattle.node_slots.proofs.Listing.{gone_few}
use Rattle.maple_write.specs.declared.rows.Rooted.{Rooted}
use Rattle.maple_write.specs.Internal.Tables.{RowTable, table_at, gone}
use Rattle.maple_write.specs.Tables.{FillsRows}
use Rattle.maple_write.specs.Internal.Stores.{old_level, IsShaped, IsWholeTree, FindsTree, tree_under, all_gap}
use Rattle.maple_write.proofs.Levels.{AreNodes, row_there, step_down, level_of-top}
use Rattle.maple_write.proofs.Times.{whole_list}
use Rattle.maple_write.proofs.Steps.{counts}
use Rattle.maple_write.proofs.Writers.{rows_counted, kept_counts, is_kept_from}
use Rattle.maple_write.proofs.Roots.{full, first_entries}
use Rattle.maple_write.proofs.Blocks.{length-ending_after}

-- the entries of a tree have all its pages
pub record Covers (table : RowTable) (tree : Tree) : Type 0 where
  pub ascends : Ascends 0 (entries_of (at_of table.rows) tree)
  pub ends : items_end 0 (entries_of (at_of table.rows) tree) ≡ tree.top.end

pub covers : (table : RowTable) (tree : Tree) → IsShaped table tree → Covers table tree
covers table tree shaped =
    let at = at_of table.rows in
    let top = tree.top in
    let e : tree.height ≡ tree.height - 0 = omega arith in
    let is = full table (record { top = top; height = tree.height }) 0 (subst (λ (n : ℕ). IsTower at top.end 0 n (top ∷ [])) e shaped.tower) shaped.limit in
    record {
      ascends = subst (λ (n : ℕ). Ascends 0 (level_of at 0 n (top ∷ []))) (sym e) is.ascends;
      ends = ap (λ (n : ℕ). items_end 0 (level_of at 0 n (top ∷ []))) e ∙ is.ends;
    }

-- what was found at the lowest level is an entry
pub entry_found : (table : RowTable) (tree : Rooted) (page : ℕ) (item : NodeItem) → item_at page (old_level table tree 0) ≡ Some item
    → item_at page (entries_of (at_of table.rows) (tree_under tree)) ≡ Some item
entry_found table tree page item found =
    let e : tree.height ≡ tree.height - 0 = omega arith in
    ap (λ (n : ℕ). item_at page (level_of (at_of table.rows) 0 n (tree.top ∷ []))) e ∙ found

pub entry_begins : (table : RowTable) (tree : Rooted) (page start : ℕ) → start ≡ items_end 0 (ending_by page (old_level table tree 0))
    → start ≡ items_end 0 (ending_by page (entries_of (at_of table.rows) (tree_under tree)))
entry_begins table tree page start begins =
    let e : tree.height - 0 ≡ tree.height = omega arith in
    begins ∙ ap (λ (n : ℕ). items_end 0 (ending_by page (level_of (at_of table.rows) 0 n (tree.top ∷ [])))) e

-- the root is a node in a row of the table
root_is : (at : ℕ → List ℕ) (limit height : ℕ) (top : NodeItem) → 1 ≤ height → IsTower at limit 0 height (top ∷ []) → IsNode at (is_leaf (height - 1)) limit 0 top
root_is at limit height top tall tower =
    let e : height ≡ height - 0 = omega arith in
    let step = step_down at limit height 0 height (height - 1) top (subst (λ (n : ℕ). IsTower at limit 0 n (top ∷ [])) e tower) (omega arith) (omega arith)
    (omega arith) in
    let whole = level_of-top at height height (top ∷ []) (omega arith) in
    (subst (λ (xs : List NodeItem). AreNodes at (is_leaf (height - 1)) limit 0 xs) whole step.nodes).0

pub root_there : (table : RowTable) (tree : Tree) → IsShaped table tree → tree.top.word < length table.rows
root_there table tree shaped =
    let node = root_is (at_of table.rows) tree.top.end tree.height tree.top shaped.tall shaped.tower in
    row_there table.rows (is_leaf (tree.height - 1)) tree.top.end 0 tree.top node

-- where a gap begins that has the page before a page
pub lo_zero : (page : ℕ) (xs : List NodeItem) → page ≡ 0 → 0 ≡ widened_lo page xs
unfolding widened_lo
lo_zero page xs none = let test : nat_eq page 0 ≡ true = grind (arith, nat_tests) in rw test refl

pub lo_gap : (page start : ℕ) (item : NodeItem) (xs : List NodeItem) → page ≢ 0 → item_at (page - 1) xs ≡ Some item
    → start ≡ items_end 0 (ending_by (page - 1) xs) → item.word ≡ 0 → start ≡ widened_lo page xs
unfolding widened_lo
lo_gap page start item xs some found begins gap =
    let test : nat_eq page 0 ≡ false = grind (arith, nat_tests) in
    let is : nat_eq item.word 0 ≡ true = grind (arith, nat_tests) in
    rw (test, found, is) begins

pub lo_slot : (page : ℕ) (item : NodeItem) (xs : List NodeItem) → page ≢ 0 → item_at (page - 1) xs ≡ Some item → item.word ≢ 0 → page ≡ widened_lo page xs
unfolding widened_lo
lo_slot page item xs some found slot =
    let test : nat_eq page 0 ≡ false = grind (arith, nat_tests) in
    let is : nat_eq item.word 0 ≡ false = grind (arith, nat_tests) in
    rw (test, found, is) refl

-- where a gap ends that has a page
pub hi_none : (page : ℕ) (xs : List NodeItem) → Ascends 0 xs → items_end 0 xs ≤ page → page ≡ widened_hi page xs
unfolding widened_hi
hi_none page xs ascends ends = sym (ap (gap_end page) (item_at-past 0 page xs ascends ends))

pub hi_gap : (page : ℕ) (item : NodeItem) (xs : List NodeItem) → item_at page xs ≡ Some item → item.word ≡ 0 → item.end ≡ widened_hi page xs
unfolding widened_hi
hi_gap page item xs found gap = let is : nat_eq item.word 0 ≡ true = grind (arith, nat_tests) in rw (found, is) refl

pub hi_slot : (page : ℕ) (item : NodeItem) (xs : List NodeItem) → item_at page xs ≡ Some item → item.word ≢ 0 → page ≡ widened_hi page xs
unfolding widened_hi
hi_slot page item xs found slot = let is : nat_eq item.word 0 ≡ false = grind (arith, nat_tests) in rw (found, is) refl

-- what a store finds: entries in order, with slots below a number, of which no two gaps are neighbours; and a span within them
pub record Spanned (slots lo hi : ℕ) (xs : List NodeItem) : Type 0 where
  pub ascends : Ascends 0 xs
  pub apart : ApartFrom 1 xs
  pub numbered : All (λ (entry : NodeItem). entry.word ≤ slots) xs
  pub some : lo < hi
  pub limit : hi ≤ items_end 0 xs

pub spanned : (table : RowTable) (slots lo hi : ℕ) (tree : Tree) → IsWholeTree table slots tree → lo < hi → hi ≤ tree.top.end
    → Spanned slots lo hi (entries_of (at_of table.rows) tree)
spanned table slots lo hi tree whole some limit =
    let all = covers table tree whole.shaped in
    let ends = all.ends in
    record { ascends = all.ascends; apart = whole.apart; numbered = whole.numbered; some = some; limit = omega arith }

-- a gap that takes in those beside it has a page, and ends within the tree
pub gap_within : (table : RowTable) (slots lo hi low high : ℕ) (tree : Tree) → IsWholeTree table slots tree → lo < hi → hi ≤ tree.top.end
    → low ≡ widened_lo lo (entries_of (at_of table.rows) tree) → high ≡ widened_hi hi (entries_of (at_of table.rows) tree)
    → (low < high) × (high ≤ tree.top.end)
gap_within table slots lo hi low high tree whole some limit begins ends =
    let xs = entries_of (at_of table.rows) tree in
    let found = spanned table slots lo hi tree whole some limit in
    let is = widened lo hi xs found.ascends found.apart some found.limit in
    let all = covers table tree whole.shaped in (omega (arith, begins, ends, is.down, is.up), omega (arith, ends, is.limit, all.ends))

-- what a store makes of the entries
pub record Stored (after : RowTable) (slots : ℕ) (new : Tree) (pairs : List Pair) : Type 0 where
  pub whole : IsWholeTree after slots new
  pub pairs_are : pairs_of (at_of after.rows) new ≡ pairs

-- by a slot
pub slot_stored : (after : RowTable) (slots lo hi word : ℕ) (new : Tree) (xs : List NodeItem) → Spanned slots lo hi xs → word ≤ slots → word ≢ 0
    → IsShaped after new → entries_of (at_of after.rows) new ≡ overwrite lo hi word xs
    → Stored after slots new (overwritten lo hi word (pairs_from 0 xs))
slot_stored after slots lo hi word new xs found fits slot shaped entries =
    let back = sym entries in
    record {
      whole = record {
        shaped = shaped;
        apart = subst (λ (ys : List NodeItem). ApartFrom 1 ys) back (stored-apart lo hi word xs found.ascends found.apart found.some found.limit slot);
        numbered = subst (λ (ys : List NodeItem). All (λ (entry : NodeItem). entry.word ≤ slots) ys) back (overwrite-words lo hi word slots xs found.numbered fits);
      };
      pairs_are = ap (pairs_from 0) entries ∙ overwrite-pairs lo hi word xs found.ascends found.some found.limit;
    }

-- by a gap, which takes in those beside it
pub gap_stored : (after : RowTable) (slots lo hi low high : ℕ) (new : Tree) (xs : List NodeItem) → Spanned slots lo hi xs → IsShaped after new
    → low ≡ widened_lo lo xs → high ≡ widened_hi hi xs
    → entries_of (at_of after.rows) new ≡ overwrite low high 0 xs → Stored after slots new (overwritten lo hi 0 (pairs_from 0 xs))
gap_stored after slots lo hi low high new xs found shaped begins ends entries =
    let is = widened lo hi xs found.ascends found.apart found.some found.limit in
    let same : entries_of (at_of after.rows) new ≡ overwrite (widened_lo lo xs) (widened_hi hi xs) 0 xs =
    entries ∙ ap (λ (p : ℕ). overwrite p high 0 xs) begins ∙ ap (λ (p : ℕ). overwrite (widened_lo lo xs) p 0 xs) ends in
    let back = sym same in
    record {
      whole = record {
        shaped = shaped;
        apart = subst (λ (ys : List NodeItem). ApartFrom 1 ys) back is.apart;
        numbered = subst (λ (ys : List NodeItem). All (λ (entry : NodeItem). entry.word ≤ slots) ys) back
            (overwrite-words (widened_lo lo xs) (widened_hi hi xs) 0 slots xs found.numbered (omega arith));
      };
      pairs_are = ap (pairs_from 0) same ∙ is.pairs;
    }

-- one gap with all pages
pub record Gap (limit : ℕ) : Type 0 where
  pub ascends : Ascends 0 (all_gap limit)
  pub apart : ApartFrom 1 (all_gap limit)
  pub plain : KeepsNoGap true (all_gap limit)

pub gap_is : (limit : ℕ) → 0 < limit → Gap limit
gap_is limit some = record { ascends = (some, tt); apart = ((λ one zero. absurd (omega arith)), tt); plain = (refl, tt) }

pub gap_numbered : (limit slots : ℕ) → All (λ (entry : NodeItem). entry.word ≤ slots) (all_gap limit)
gap_numbered limit slots zero d within = omega arith
gap_numbered limit slots (suc k) d within = absurd (omega arith)

pub gap_spanned : (limit slots lo hi : ℕ) → lo < hi → hi ≤ limit → Spanned slots lo hi (all_gap limit)
gap_spanned limit slots lo hi some within =
    let gap = gap_is limit (omega arith) in
    record { ascends = gap.ascends; apart = gap.apart; numbered = gap_numbered limit slots; some = some; limit = within }

-- the first leaf of a tree
pub record FirstLeaf (after : RowTable) (limit : ℕ) (items : List NodeItem) (top : NodeItem) : Type 0 where
  pub shaped : IsShaped after (record { top = top; height = 1 })
  pub entries : entries_of (at_of after.rows) (record { top = top; height = 1 }) ≡ items

zero_once : (row : ℕ) → times_among row (0 ∷ []) ≡ cond (nat_eq row 0) 1 0
zero_once zero = refl
zero_once (suc row) =
    let a : nat_eq 0 (suc row) ≡ false = grind (arith, nat_tests) in
    let b : nat_eq (suc row) 0 ≡ false = grind (arith, nat_tests) in
    rw (a, b) refl

pub leaf_made : (old made after : RowTable) (limit : ℕ) (items : List NodeItem) (top : NodeItem) (words : List ℕ)
    → ((row : ℕ) → gone old row + cond (nat_eq row 0) 1 0 ≡ cond (nat_lt row (length old.rows)) 1 0)
    → 0 < limit → items_end 0 items ≡ limit
    → ((most : ℕ) → (items_end 0 items < most → least_items true ≤ length items) → IsNode (at_of made.rows) true most 0 top)
    → items_at (at_of made.rows) true top.word ≡ items → top.end ≡ items_end 0 items
    → made.rows ≡ set old.rows top.word words → ((row : ℕ) → times_among row old.free ≡ times_among row (top.word ∷ made.free)) → made.left ≡ old.left
    → after.rows ≡ made.rows → ((row : ℕ) → gone after row ≡ gone made row + times_among row (0 ∷ []))
    → FirstLeaf after limit items top
unfolding IsTower rows_below level_of
leaf_made old made after limit items top words kept some ends node reads until rows free left rows' gone' =
    let at = at_of after.rows in
    let back = sym rows' in
    let is : IsNode at true top.end 0 top =
    subst (λ (rs : List (List ℕ)). IsNode (at_of rs) true top.end 0 top) back (node top.end (λ less. absurd (omega arith))) in
    let items_are : items_at at true top.word ≡ items = ap (λ (rs : List (List ℕ)). items_at (at_of rs) true top.word) rows' ∙ reads in
    record {
      shaped = record {
        tall = omega arith;
        limit = omega arith;
        tower = ((is, tt), tt);
        wide = λ high. absurd (omega arith);
        stand = record {
          each = λ row.
              let a = kept row in
              let b = gone' row in
              let d = free row in
              let e = ap (times_among row) left in
              let f = zero_once row in
              let long : length after.rows ≡ length old.rows =
              ap (λ (rs : List (List ℕ)). length rs) (rows' ∙ rows) ∙ length-set old.rows top.word words in
              let bound = ap (λ (n : ℕ). cond {A = ℕ} (nat_lt row n) 1 0) long in
              omega arith;
        };
      };
      entries = whole_list (items_at at true top.word) ∙ items_are;
    }

-- what the writer's view finds
blank_at : (at : ℕ → List ℕ) → at 0 ≡ replicate 32 0 → items_at at true 0 ≡ []
unfolding leaf_items
blank_at at zeros = ap (λ (words : List ℕ). leaf_items words) zeros

blank_tree : (at : ℕ → List ℕ) (height root : ℕ) → height ≡ 1 → root ≡ 0 → at 0 ≡ replicate 32 0 → items_at at (is_leaf (height - 1)) root ≡ []
blank_tree at height root one none zeros =
    subst (λ (h : ℕ). items_at at (is_leaf (h - 1)) root ≡ []) (sym one)
    (subst (λ (r : ℕ). items_at at true r ≡ []) (sym none) (blank_at at zeros))

blank_entries : (at : ℕ → List ℕ) (height : ℕ) (top : NodeItem) → height ≡ 1 → top.word ≡ 0 → at 0 ≡ replicate 32 0
    → entries_of at (record { top = top; height = height }) ≡ []
unfolding level_of
blank_entries at height top one none zeros =
    ap (λ (h : ℕ). level_of at 0 h (top ∷ [])) one
    ∙ ap (λ (r : ℕ). items_at at true r ++ []) none
    ∙ ap (λ (xs : List NodeItem). xs ++ []) (blank_at at zeros)

whole_of : (writer : NodeWriter) (tree : View) → IsBuilt writer tree → IsWholeTree (table_at writer) (node_sight writer).size.slots (built writer tree)
whole_of writer tree is = record {
  shaped = record {
    tall = is.layout.tall;
    limit = limit_above (words_at writer) (node_sight writer).size.slots (built writer tree) is.layout;
    tower = is.layout.tower;
    wide = is.layout.wide;
    stand = record { each = λ row. let a = is.reached row in let b = kept_counts writer row in omega arith };
  };
  apart = is.layout.apart;
  numbered = is.layout.numbered;
}

pub finds : (writer : NodeWriter) (tree : View) (old : Rooted) → IsWriters writer tree → tree_under old ≡ built writer tree → FindsTree writer old tree.limit.0
finds writer tree old is same = elim is as (λ _. FindsTree writer old tree.limit.0) [
  | inl made ↦ inl (
    subst (λ (t : Tree). IsWholeTree (table_at writer) (node_sight writer).size.slots t) (sym same) (whole_of writer tree made),
    ap (λ (t : Tree). t.top.end) same ∙ made.limit,
  )
  | inr blank ↦ inr (record {
    none = ap (λ (t : Tree). t.top.end) same
        ∙ ap (items_end 0) (blank_tree (words_at writer) tree.height tree.root.0 blank.height blank.root blank.words);
    pairs = ap (pairs_of (words_at writer)) same
        ∙ ap (pairs_from 0) (blank_entries (words_at writer) tree.height (built writer tree).top blank.height blank.root blank.words);
    rows = blank.rows;
    kept = blank.kept;
  })
]

-- the row of the root, as it is read
pub record Root (writer : NodeWriter) (tree : View) : Type 0 where
  pub leaf : nat_eq tree.height 1 ≡ is_leaf (tree.height - 1)
  pub there : tree.root.0 < row_count writer
  pub ascends : Ascends 0 (items_at (words_at writer) (is_leaf (tree.height - 1)) tree.root.0)
  pub ends : 1 ≤ length (items_at (words_at writer) (is_leaf (tree.height - 1)) tree.root.0)
      → tree.limit.0 ≡ items_end 0 (items_at (words_at writer) (is_leaf (tree.height - 1)) tree.root.0)

one_less : (height : ℕ) → 1 ≤ height → nat_eq height 1 ≡ is_leaf (height - 1)
one_less height tall = elim (cases_lt height 2) as (λ _. nat_eq height 1 ≡ nat_eq (height - 1) 0) [
  | inl low ↦
      let a : nat_eq height 1 ≡ true = grind (arith, nat_tests) in
      let b : nat_eq (height - 1) 0 ≡ true = grind (arith, nat_tests) in a ∙ sym b
  | inr high ↦
      let a : nat_eq height 1 ≡ false = grind (arith, nat_tests) in
      let b : nat_eq (height - 1) 0 ≡ false = grind (arith, nat_tests) in a ∙ sym b
]

pub root_of_view : (writer : NodeWriter) (tree : View) → IsWriters writer tree → Root writer tree
root_of_view writer tree is = elim is as (λ _. Root writer tree) [
  | inl made ↦
      let layout = made.layout in
      let node = root_is (words_at writer) (built writer tree).top.end tree.height (built writer tree).top layout.tall layout.tower in
      let row = row_there (writer_state writer).words (is_leaf (tree.height - 1)) (built writer tree).top.end 0 (built writer tree).top node in
      let long = rows_counted writer in
      record { leaf = one_less tree.height layout.tall; there = omega arith; ascends = node.ascends; ends = λ some. sym made.limit }
  | inr blank ↦
      let none = blank_tree (words_at writer) tree.height tree.root.0 blank.height blank.root blank.words in
      let one = blank.height in
      let first = blank.root in
      let rows = blank.rows in
      record {
        leaf = one_less tree.height (omega arith);
        there = omega arith;
        ascends = subst (λ (xs : List NodeItem). Ascends 0 xs) (sym none) tt;
        ends = λ some. let long = ap (λ (xs : List NodeItem). length xs) none in absurd (omega arith);
      }
]

-- the tree that the words of its root tell
pub root_told : (writer : NodeWriter) (tree : View) (end word gap : ℕ) (leaf : Bool) (words : List ℕ) → words ≡ words_at writer word
    → word ≡ tree.root.0 → leaf ≡ is_leaf (tree.height - 1) → end ≡ items_end 0 (node_items leaf words) → gap ≡ gap_of leaf 0 (node_items leaf words)
    → record { top = record { end = end; word = word; gap = gap }; height = tree.height } ≡ built writer tree
root_told writer tree end word gap leaf words told here below ends gaps =
    let kind = is_leaf (tree.height - 1) in
    let top = (built writer tree).top in
    let are : node_items leaf words ≡ items_at (words_at writer) kind tree.root.0 =
    ap (λ (b : Bool). node_items b words) below ∙ ap (node_items kind) told ∙ ap (λ (row : ℕ). items_at (words_at writer) kind row) here in
    let end_is : end ≡ top.end = ends ∙ ap (items_end 0) are in
    let gap_is : gap ≡ top.gap = gaps ∙ ap (λ (b : Bool). gap_of b 0 (node_items leaf words)) below ∙ ap (gap_of kind 0) are in
    let Ends : ℕ → Tree = λ e. record { top = record { end = e; word = word; gap = gap }; height = tree.height } in
    let Is : ℕ → Tree = λ w. record { top = record { end = top.end; word = w; gap = gap }; height = tree.height } in
    let Has : ℕ → Tree = λ g. record { top = record { end = top.end; word = tree.root.0; gap = g }; height = tree.height } in
    ap Ends end_is ∙ ap Is here ∙ ap Has gap_is

-- a tree is no higher than there are free rows
pub free_few : (writer : NodeWriter) → length (free_of writer) ≤ 2 ^ 20
free_few writer =
    let all = gone_few _ _ _ _ _ writer.rows in
    let few = writer.writer_state.table.sized.fits.few_rows in
    let long = length-map writer.free.items (λ r. r.0) in
    omega arith

-- the writer's view of a tree
pub record BuiltFrom (new : NodeWriter) (t : Tree) (tree : View) : Type 0 where
  pub is : IsBuilt new tree
  pub pairs : pairs_now new tree ≡ pairs_of (words_at new) t

pub built_from : (old new : NodeWriter) (t : Tree) (tree : View) → FillsRows old new → IsWholeTree (table_at new) (node_sight old).size.slots t
    → t.top.end ≡ tree.limit.0 → tree.root.0 ≡ t.top.word → tree.height ≡ t.height → BuiltFrom new t tree
built_from old new t tree fills whole limit root height =
    let at = words_at new in
    let shaped = whole.shaped in
    let slots : (node_sight old).size.slots ≡ (node_sight new).size.slots = sym (ap (λ (v : NodeView). v.size.slots) fills.seen) in
    let layout : IsLayout at (node_sight old).size.slots t = record {
      tall = shaped.tall;
      tower = shaped.tower;
      wide = shaped.wide;
      apart = whole.apart;
      numbered = whole.numbered;
      once = λ row.
          let each = shaped.stand.each row in
          let few : times_among row (tree_rows at t) ≤ cond (nat_lt row (length (writer_state new).words)) 1 0 = omega arith in
          (counts row (length (writer_state new).words) (times_among row (tree_rows at t)) few).0;
    } in
    let made : NodeItem → ℕ → Tree = λ top h. record { top = top; height = h } in
    let named = root-named at (node_sight old).size.slots t layout in
    let same : t ≡ built new tree = ap (λ (i : NodeItem). made i t.height) named
    ∙ ap (λ (h : ℕ). made (top_of at h t.top.word) h) (sym height)
    ∙ ap (λ (r : ℕ). made (top_of at tree.height r) tree.height) (sym root) in
    record {
      is = record {
        layout = subst (λ (x : Tree). IsLayout at (node_sight new).size.slots x) same
            (subst (λ (n : ℕ). IsLayout at n t) slots layout);
        limit = sym (ap (λ (x : Tree). x.top.end) same) ∙ limit;
        reached = λ row.
            let a = shaped.stand.each row in
            let b = kept_counts new row in
            let e = ap (λ (x : Tree). times_among row (tree_rows at x)) same in
            omega arith;
      };
      pairs = sym (ap (pairs_of at) same);
    }

-- a view that stays while nothing that it tells of changes
pub still_built : (old new : NodeWriter) (tree : View) → (writer_state new).words ≡ (writer_state old).words → (node_sight new).size ≡ (node_sight old).size
    → free_of new ≡ free_of old → retired_rows new ≡ retired_rows old → IsBuilt old tree → IsBuilt new tree
still_built old new tree words size free left is =
    let made : (ws : List (List ℕ)) → Tree = λ ws. record { top = top_of (at_of ws) tree.height tree.root.0; height = tree.height } in
    let layout : IsLayout (words_at new) (node_sight old).size.slots (built new tree) =
    subst (λ (ws : List (List ℕ)). IsLayout (at_of ws) (node_sight old).size.slots (made ws)) (sym words) is.layout in
    let kept : (row : ℕ) → is_kept new row ≡ is_kept old row = λ row.
    ap (λ (s : Size). nat_lt row s.rows && nat_eq (grace.times row (free_of new) + grace.times row (retired_rows new)) 0) size
    ∙ ap (λ (xs : List ℕ). nat_lt row (row_count old) && nat_eq (grace.times row xs + grace.times row (retired_rows new)) 0) free
    ∙ ap (λ (xs : List ℕ). nat_lt row (row_count old) && nat_eq (grace.times row (free_of old) + grace.times row xs) 0) left in
    record {
      layout = subst (λ (s : Size). IsLayout (words_at new) s.slots (built new tree)) (sym size) layout;
      limit = ap (λ (ws : List (List ℕ)). (made ws).top.end) words ∙ is.limit;
      reached = λ row. ap (λ (ws : List (List ℕ)). times_among row (tree_rows (at_of ws) (made ws))) words ∙ is.reached row
          ∙ sym (ap one_where (kept row));
    }

-- the span that a gap takes in where all pages are one gap
pub gap_lo : (limit lo : ℕ) → lo < limit → 0 ≡ widened_lo lo (all_gap limit)
gap_lo limit lo less =
    let gap : NodeItem = record { end = limit; word = 0; gap = 0 } in
    elim (cases_lt 0 lo) as (λ _. 0 ≡ widened_lo lo (all_gap limit)) [
      | inl some ↦ lo_gap lo 0 gap (all_gap limit) (λ none. omega arith) (item_at-first (lo - 1) gap [] (omega arith))
          (sym (ap (items_end 0) (ending_by-later (lo - 1) gap [] (omega arith)))) refl
      | inr none ↦ lo_zero lo (all_gap limit) (omega arith)
    ]

pub gap_hi : (limit hi : ℕ) → 0 < limit → hi ≤ limit → limit ≡ widened_hi hi (all_gap limit)
gap_hi limit hi some within =
    let gap : NodeItem = record { end = limit; word = 0; gap = 0 } in
    elim (cases_lt hi limit) as (λ _. limit ≡ widened_hi hi (all_gap limit)) [
      | inl less ↦ hi_gap hi gap (all_gap limit) (item_at-first hi gap [] less) refl
      | inr all ↦ let e : limit ≡ hi = omega arith in e ∙ hi_none hi (all_gap limit) (some, tt) all
    ]

-- the entries of a store into it
piece_few : (start page : ℕ) (item : NodeItem) → length (piece_of start page (Some item)) ≤ 1
piece_few start page item = go (nat_lt start page) where
  piece : NodeItem
  piece = record { end = page; word = item.word; gap = 0 }

  go : (below : Bool) → length (if below then (piece ∷ []) else []) ≤ 1
  go true = omega arith
  go false = omega arith

pub record GapEntries (limit lo hi word : ℕ) (items : List NodeItem) : Type 0 where
  pub entries : items ≡ overwrite lo hi word (all_gap limit)
  pub some : 1 ≤ length items
  pub few : length items ≤ 3

pub gap_entries : (limit lo hi word : ℕ) (new items : List NodeItem) → lo < hi → hi ≤ limit
    → new ≡ piece_of 0 lo (Some (record { end = limit; word = 0; gap = 0 })) ++ record { end = hi; word = word; gap = 0 } ∷ []
    → items ≡ new ++ ending_after hi (all_gap limit) → GapEntries limit lo hi word items
gap_entries limit lo hi word new items some within news are =
    let gap : NodeItem = record { end = limit; word = 0; gap = 0 } in
    let entry : NodeItem = record { end = hi; word = word; gap = 0 } in
    let piece = piece_of 0 lo (Some gap) in
    let back = ending_after hi (all_gap limit) in
    let front : ending_by lo (all_gap limit) ≡ [] = ending_by-later lo gap [] (omega arith) in
    let found : item_at lo (all_gap limit) ≡ Some gap = item_at-first lo gap [] (omega arith) in
    let same = first_entries 0 lo hi word gap (all_gap limit) found (sym (ap (items_end 0) front)) in
    let all : items ≡ (piece ++ entry ∷ []) ++ back = are ∙ ap (λ (xs : List NodeItem). xs ++ back) news in
    let long = ap (λ (xs : List NodeItem). length xs) all in
    let l1 = length-append (piece ++ entry ∷ []) back in
    let l2 = length-append piece (entry ∷ []) in
    let one = piece_few 0 lo gap in
    let rest = length-ending_after hi (all_gap limit) in
    record {
      entries = all ∙ sym (ap (λ (xs : List NodeItem). xs ++ ((piece ++ entry ∷ []) ++ back)) front) ∙ same;
      some = omega arith;
      few = omega arith;
    }

-- row 0 is kept until it is left
pub kept_after_put : (old made : NodeWriter) (word : ℕ) → ((row : ℕ) → is_kept old row ≡ nat_eq row 0) → 1 ≤ row_count old → FillsRows old made
    → ((row : ℕ) → times_among row (free_of old) ≡ times_among row (word ∷ free_of made)) → retired_rows made ≡ retired_rows old → is_kept made 0 ≡ true
kept_after_put old made word kept rows fills free left =
    let count = kept_counts old 0 in
    let here = ap one_where (kept 0) in
    let bound = (counts 0 (length (writer_state old).words) (gone (table_at old) 0 + 1) (omega arith)).0 in
    let same = ap (λ (v : NodeView). v.size.rows) fills.seen in
    let a = free 0 in
    let b = ap (times_among 0) left in
    is_kept_from made 0 (omega arith) (omega arith)

pub kept_zero : (old : NodeWriter) → ((row : ℕ) → is_kept old row ≡ nat_eq row 0) → (row : ℕ)
    → gone (table_at old) row + cond (nat_eq row 0) 1 0 ≡ cond (nat_lt row (length (writer_state old).words)) 1 0
kept_zero old kept row =
    let count = kept_counts old row in
    let here = ap one_where (kept row) in
    omega arith

-- what a store found, by where the tree ends
pub found_whole : (writer : NodeWriter) (old : Rooted) (limit : ℕ) → FindsTree writer old limit → old.top.end ≢ 0
    → IsWholeTree (table_at writer) (node_sight writer).size.slots (tree_under old) × (old.top.end ≡ limit)
found_whole writer old limit is some = elim is as (λ _. IsWholeTree (table_at writer) (node_sight writer).size.slots (tree_under old) × (old.top.end ≡ limit)) [
  | inl whole ↦ whole
  | inr bare ↦ absurd (some bare.none)
]

pub first_two : (start lo hi word : ℕ) (item : NodeItem) → length (piece_of start lo (Some item) ++ record { end = hi; word = word; gap = 0 } ∷ []) ≤ 2
first_two start lo hi word item =
    let entry : NodeItem = record { end = hi; word = word; gap = 0 } in
    let long = length-append (piece_of start lo (Some item)) (entry ∷ []) in
    let one = piece_few start lo item in
    omega arith
