-- For `cut`, `rebalanced` and `rebuild_level`: one level of a store, from the items that stand anew to the nodes that list them.
use Rattle.std.proofs.Common.{ℕ, suc, ◌≡◌, ◌<◌, ◌≤◌, ◌+◌, ◌-◌, Bool, true, false, nat_eq, nat_lt, cond, List, [], ◌∷◌, ◌++◌, length, Some, refl, sym, ap, subst, ◌∙◌, arith, inl, inr, append_assoc, length-append}
use Rattle.std.proofs.lemmas.Bool.{cases_lt}
use Rattle.std.proofs.lemmas.Bool.Decides.{nat_tests}
use Rattle.maple_node.specs.declared.item.NodeItem.{NodeItem}
use Rattle.maple_node.specs.Nodes.{most, least_items, items_end, Ascends}
use Rattle.maple_node.specs.Levels.{is_leaf, at_of, items_at, below, item_at, IsNode, level_of, IsTower, rows_below, times_among}
use Rattle.maple_node.proofs.Lists.{end_of-append, Ascends-append}
use Rattle.maple_node.proofs.Levels.{nodes-ascend, end_of-below, level-ends}
use Rattle.maple_node.proofs.Frames.{times-append}
use Rattle.maple_node.specs.Splices.{ending_by, ending_after}
use Rattle.maple_node.proofs.ItemLists.{Ascends-left, Ascends-right, IsPlain-append, IsPlain-ending_by, IsPlain-ending_after, item_at-first, item_at-later, stands, AllFrom-at, ending_after-ends}
use Rattle.maple_write.specs.Internal.Tables.{RowTable, rows_in, gone, Stand}
use Rattle.maple_write.specs.Internal.Stores.{old_level, Level, old_nodes, node_begin, new_level, Partly, Cut}
use Rattle.maple_write.proofs.Levels.{AreNodes, ending_by-below, ending_after-below, descend, nodes-ending_by, row_there, Step, step_down}
use Rattle.maple_write.proofs.Blocks.{item_edge, items-plain, length-ending_by, length-ending_after}

-- the nodes of the level above, and how it is told from the level itself
pub upper_of : (table : RowTable) (level : Level) → Partly table level → level.height < level.tree.height
    → Step (at_of table.rows) level.tree.top.end level.tree.height (level.height + 1) level.height level.tree.top
upper_of table level partly less =
    let tree = level.tree in
    step_down (at_of table.rows) tree.top.end tree.height level.height (level.height + 1) level.height tree.top partly.tower (omega arith) refl (omega arith)

pub ends_at : (table : RowTable) (level : Level) → Partly table level → level.height < level.tree.height
    → items_end 0 (old_nodes table level) ≡ level.tree.top.end
ends_at table level partly less =
    let tree = level.tree in
    level-ends (at_of table.rows) tree.top.end (level.height + 1) (tree.height - (level.height + 1)) (tree.top ∷ [])
    (upper_of table level partly less).above

-- the node that has a page
pub record There (table : RowTable) (limit level begin : ℕ) (item : NodeItem) : Type 0 where
  pub row : item.word < length table.rows
  pub few : length (items_at (at_of table.rows) (is_leaf level) item.word) ≤ most (is_leaf level)
  pub node : IsNode (at_of table.rows) (is_leaf level) limit begin item

pub there_at : (table : RowTable) (level : Level) (page : ℕ) (item : NodeItem)
    → Partly table level → level.height < level.tree.height → item_at page (old_nodes table level) ≡ Some item
    → There table level.tree.top.end level.height (items_end 0 (ending_by page (old_nodes table level))) item
there_at table level page item partly less found =
    let step = upper_of table level partly less in
    let upper = old_nodes table level in
    let node = AllFrom-at (IsNode (at_of table.rows) (is_leaf level.height) level.tree.top.end) 0 page upper item
    (nodes-ascend (at_of table.rows) (is_leaf level.height) level.tree.top.end 0 upper step.nodes) step.nodes found in
    record {
      row = row_there table.rows (is_leaf level.height) level.tree.top.end (items_end 0 (ending_by page upper)) item node;
      few = node.most;
      node = node;
    }

-- the item that has a page has each later one up to where it ends
pub item_at-same : (page later : ℕ) (xs : List NodeItem) (item : NodeItem) → item_at page xs ≡ Some item → page ≤ later → later < item.end
    → item_at later xs ≡ Some item
item_at-same page later [] item found after within = absurd (cc)
item_at-same page later (x ∷ xs) item found after within = elim (cases_lt page x.end) as (λ _. item_at later (x ∷ xs) ≡ Some item) [
  | inl above ↦
      let first : Some x ≡ Some item = sym (item_at-first page x xs above) ∙ found in
      let same : x ≡ item = cc in
      let end = ap (λ (y : NodeItem). y.end) same in
      item_at-first later x xs (omega (arith, end, within)) ∙ first
  | inr past ↦ item_at-later later x xs (omega (arith, past, after))
      ∙ item_at-same page later xs item (sym (item_at-later page x xs past) ∙ found) after within
]

-- new items between the beginning of one node and the end of another
joined_parts : (a b c d e : List NodeItem) → (a ++ b) ++ (c ++ (d ++ e)) ≡ a ++ ((b ++ (c ++ d)) ++ e)
joined_parts a b c d e = simp append_assoc

pub cut_of : (table : RowTable) (level : Level) (last begin : ℕ) (left right : NodeItem)
    → Partly table level → level.height < level.tree.height
    → item_at level.lo (old_nodes table level) ≡ Some left → last + 1 ≡ level.hi → item_at last (old_nodes table level) ≡ Some right
    → begin ≡ node_begin table level
    → Cut table level begin right.end (ending_by level.lo (items_at (at_of table.rows) (is_leaf level.height) left.word)
    ++ (level.new ++ ending_after level.hi (items_at (at_of table.rows) (is_leaf level.height) right.word)))
cut_of table level last begin left right partly less found next found' begins =
    let at = at_of table.rows in
    let leaf = is_leaf level.height in
    let upper = old_nodes table level in
    let lower = old_level table level.tree level.height in
    let step = upper_of table level partly less in
    let nodes = step.nodes in
    let ascends = nodes-ascend at leaf level.tree.top.end 0 upper nodes in
    let ends = ends_at table level partly less in
    let front = ending_by level.lo (items_at at leaf left.word) in
    let back = ending_after level.hi (items_at at leaf right.word) in
    let before = below at leaf (ending_by level.lo upper) in
    let after = below at leaf (ending_after right.end upper) in
    let items = front ++ (level.new ++ back) in
    let low : ending_by level.lo lower ≡ before ++ front = ap (ending_by level.lo) step.down ∙ ending_by-below at leaf level.tree.top.end 0 level.lo upper left nodes found in
    let high : ending_after level.hi lower ≡ back ++ after = ap (ending_after level.hi) step.down ∙ ending_after-below at leaf level.tree.top.end 0 level.hi last upper right nodes next found' in
    let split : new_level table level ≡ before ++ (items ++ after) =
    ap (λ (xs : List NodeItem). xs ++ (level.new ++ ending_after level.hi lower)) low ∙ ap (λ (xs : List NodeItem). (before ++ front) ++ (level.new ++ xs)) high
    ∙ joined_parts before front level.new back after in
    let here = descend at leaf level.tree.top.end 0 level.lo upper left nodes (omega arith) found in
    let there = descend at leaf level.tree.top.end 0 last upper right nodes (omega arith) found' in
    let is = stands 0 last upper right ascends found' in
    let front_end : items_end begin front ≡ items_end 0 (ending_by level.lo lower) =
    ap (λ (p : ℕ). items_end p front) begins ∙ sym here.front ∙ sym (ap (λ (xs : List NodeItem). items_end 0 (ending_by level.lo xs)) step.down) in
    let inside = there.within in
    let outside = there.begins in
    let until = there.node.until in
    let back_end : items_end level.hi back ≡ right.end =
    ending_after-ends (items_end 0 (ending_by last upper)) level.hi (items_at at leaf right.word) there.node.ascends (omega arith) (omega arith) ∙ until in
    let before_end : items_end 0 before ≡ begin = end_of-below at leaf level.tree.top.end 0 (ending_by level.lo upper) (nodes-ending_by at leaf level.tree.top.end 0 level.lo upper nodes) ∙ sym begins in
    let pages = partly.pages in
    let whole : Ascends 0 (before ++ (items ++ after)) = subst (λ (xs : List NodeItem). Ascends 0 xs) split partly.ascends in
    let rest : Ascends begin (items ++ after) = subst (λ (p : ℕ). Ascends p (items ++ after)) before_end (Ascends-right 0 before (items ++ after) whole) in
    let most_left = here.node.most in
    let most_right = there.node.most in
    record {
      split = split;
      start = begins;
      ending = end_of-append begin front (level.new ++ back) ∙ end_of-append (items_end begin front) level.new back
          ∙ ap (λ (p : ℕ). items_end (items_end p level.new) back) front_end ∙ ap (λ (p : ℕ). items_end p back) partly.ending ∙ back_end;
      ascends = Ascends-left begin items after rest;
      plain = IsPlain-append leaf front (level.new ++ back) (IsPlain-ending_by leaf level.lo (items_at at leaf left.word) (items-plain leaf (at left.word)))
          (IsPlain-append leaf level.new back partly.plain (IsPlain-ending_after leaf level.hi (items_at at leaf right.word) (items-plain leaf (at right.word))));
      some = let l1 = length-append front (level.new ++ back) in let l2 = length-append level.new back in let s = partly.some in omega arith;
      few = let l1 = length-append front (level.new ++ back) in let l2 = length-append level.new back in let s = partly.few in
          let f1 = length-ending_by level.lo (items_at at leaf left.word) in let f2 = length-ending_after level.hi (items_at at leaf right.word) in omega arith;
      edge = item_edge 0 last upper right ascends found';
      above = omega arith;
      limit = let w = is.within in omega arith;
    }

-- the next node whole, where they are too few for a node
least_less : (leaf : Bool) → least_items leaf ≤ most leaf
least_less true = omega arith
least_less false = omega arith

pub cut_more : (table : RowTable) (level : Level) (begin end : ℕ) (items : List NodeItem) (next : NodeItem)
    → Partly table level → level.height < level.tree.height
    → Cut table level begin end items → item_at end (old_nodes table level) ≡ Some next
    → length items < least_items (is_leaf level.height)
    → Cut table level begin next.end (items ++ items_at (at_of table.rows) (is_leaf level.height) next.word)
cut_more table level begin end items next partly less cut found short =
    let at = at_of table.rows in
    let leaf = is_leaf level.height in
    let upper = old_nodes table level in
    let step = upper_of table level partly less in
    let ascends = nodes-ascend at leaf level.tree.top.end 0 upper step.nodes in
    let ends = ends_at table level partly less in
    let is = stands 0 end upper next ascends found in
    let there = there_at table level end next partly less found in
    let node : IsNode at leaf level.tree.top.end end next = subst (λ (p : ℕ). IsNode at leaf level.tree.top.end p next) cut.edge there.node in
    let before = below at leaf (ending_by level.lo upper) in
    let after = below at leaf (ending_after next.end upper) in
    let more = items_at at leaf next.word in
    let rest : below at leaf (ending_after end upper) ≡ more ++ after = ap (below at leaf) is.ending_after in
    let long = length-append items more in
    let fits = least_less leaf in
    let some = cut.some in
    let most_more = node.most in
    let above = cut.above in
    let past = is.above in
    record {
      split = cut.split ∙ ap (λ (xs : List NodeItem). before ++ (items ++ xs)) rest
          ∙ ap (λ (xs : List NodeItem). before ++ xs) (sym (append_assoc items more after));
      start = cut.start;
      ending = end_of-append begin items more ∙ ap (λ (p : ℕ). items_end p more) cut.ending ∙ node.until;
      ascends = Ascends-append begin items more cut.ascends (subst (λ (p : ℕ). Ascends p more) (sym cut.ending) node.ascends);
      plain = IsPlain-append leaf items more cut.plain (items-plain leaf (at next.word));
      some = omega arith;
      few = omega arith;
      edge = item_edge 0 end upper next ascends found;
      above = omega arith;
      limit = let w = is.within in omega arith;
    }

-- then they are enough: the node has enough, or ends at the limit
pub cut_enough : (table : RowTable) (level : Level) (begin end : ℕ) (items : List NodeItem) (next : NodeItem)
    → Partly table level → level.height < level.tree.height
    → Cut table level begin end items → item_at end (old_nodes table level) ≡ Some next
    → next.end < level.tree.top.end → least_items (is_leaf level.height) ≤ length (items ++ items_at (at_of table.rows) (is_leaf level.height) next.word)
cut_enough table level begin end items next partly less cut found inner =
    let there = there_at table level end next partly less found in
    let enough = there.node.least inner in
    let long = length-append items (items_at (at_of table.rows) (is_leaf level.height) next.word) in
    omega arith

-- a level more under a tower
pub record Raised (at : ℕ → List ℕ) (limit level : ℕ) (upper lower : List NodeItem) : Type 0 where
  pub tower : IsTower at limit 0 (level + 1) upper
  pub entries : level_of at 0 (level + 1) upper ≡ level_of at 0 level lower
  pub rows : (row : ℕ) → times_among row (rows_below at 0 (level + 1) upper) ≡ times_among row (rows_in upper) + times_among row (rows_below at 0 level lower)

pub raised : (at : ℕ → List ℕ) (limit level : ℕ) (upper lower : List NodeItem) → AreNodes at (is_leaf level) limit 0 upper
    → below at (is_leaf level) upper ≡ lower → IsTower at limit 0 level lower → Raised at limit level upper lower
unfolding IsTower level_of rows_below
raised at limit level upper lower nodes under tower =
    let e : suc level ≡ level + 1 = omega arith in
    let z : level ≡ 0 + level = omega arith in
    let z' : 0 + level ≡ level = omega arith in
    let down : below at (is_leaf (0 + level)) upper ≡ lower = ap (λ (n : ℕ). below at (is_leaf n) upper) z' ∙ under in
    let one : IsTower at limit 0 (suc level) upper = (
      subst (λ (n : ℕ). AreNodes at (is_leaf n) limit 0 upper) z nodes,
      subst (λ (xs : List NodeItem). IsTower at limit 0 level xs) (sym down) tower,
    ) in
    record {
      tower = subst (λ (n : ℕ). IsTower at limit 0 n upper) e one;
      entries = sym (ap (λ (n : ℕ). level_of at 0 n upper) e) ∙ ap (level_of at 0 level) down;
      rows = λ row. sym (ap (λ (n : ℕ). times_among row (rows_below at 0 n upper)) e)
          ∙ times-append row (rows_in upper) (rows_below at 0 level (below at (is_leaf (0 + level)) upper))
          ∙ ap (λ (xs : List NodeItem). times_among row (rows_in upper) + times_among row (rows_below at 0 level xs)) down;
    }

-- a level above the leaves
pub inner_level : (level : ℕ) → is_leaf (level + 1) ≡ false
inner_level level = let test : nat_eq (level + 1) 0 ≡ false = grind (arith, nat_tests) in test

-- a count that is a test's
pub counts : (a b n : ℕ) → n ≤ cond (nat_lt a b) 1 0 → (n ≤ 1) × (1 ≤ n → a < b)
counts a b n few = elim (cases_lt a b) as (λ _. (n ≤ 1) × (1 ≤ n → a < b)) [
  | inl less ↦ let test : nat_lt a b ≡ true = grind (arith, nat_tests) in
      let one : n ≤ 1 = subst (λ t. n ≤ cond t 1 0) test few in (one, λ some. less)
  | inr past ↦ let test : nat_lt a b ≡ false = grind (arith, nat_tests) in
      let none : n ≤ 0 = subst (λ t. n ≤ cond t 1 0) test few in (omega arith, λ some. absurd (omega arith))
]

-- a row that stands among others is not free
pub kept_rows : (table : RowTable) (rows : List ℕ) → Stand table rows → (row : ℕ) → 1 ≤ times_among row rows → gone table row ≡ 0
kept_rows table rows stand row some =
    let each = stand.each row in
    let all : times_among row rows + gone table row ≤ cond (nat_lt row (length table.rows)) 1 0 = omega arith in
    let few = (counts row (length table.rows) (times_among row rows + gone table row) all).0 in
    omega arith
