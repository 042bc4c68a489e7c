-- For `find`, `leave_block` and `leave_one`: the item of a level that has a page, and the next one to leave.
use Rattle.std.proofs.Common.{ℕ, ◌≡◌, ◌<◌, ◌≤◌, ◌+◌, ◌-◌, nat_lt, cond, List, [], ◌∷◌, length, Some, refl, sym, ap, subst, ◌∙◌, arith}
use Rattle.maple_node.specs.declared.item.NodeItem.{NodeItem}
use Rattle.maple_node.specs.Nodes.{items_end, Ascends}
use Rattle.maple_node.specs.Levels.{is_leaf, at_of, items_at, item_at, level_of, IsTower, times_among}
use Rattle.maple_node.specs.Splices.{ending_by, ending_after}
use Rattle.maple_node.proofs.ItemLists.{item_at-first, ending_by-later, stands}
use Rattle.maple_write.specs.Internal.Tables.{rows_in}
use Rattle.maple_write.proofs.Levels.{descend, row_there, step_down, level_of-top}
use Rattle.maple_write.proofs.Times.{times_same}
use Rattle.maple_write.proofs.Blocks.{next_of, block_done, item_edge}
use Rattle.maple_write.proofs.Steps.{counts}

-- the root has each page
pub record AtTop (at : ℕ → List ℕ) (height page : ℕ) (top : NodeItem) : Type 0 where
  pub found : item_at page (level_of at height (height - height) (top ∷ [])) ≡ Some top
  pub begins : 0 ≡ items_end 0 (ending_by page (level_of at height (height - height) (top ∷ [])))

pub at_top_of : (at : ℕ → List ℕ) (height page : ℕ) (top : NodeItem) → page < top.end → AtTop at height page top
at_top_of at height page top less =
    let whole = level_of-top at height height (top ∷ []) (omega arith) in
    record {
      found = ap (item_at page) whole ∙ item_at-first page top [] less;
      begins = sym (ap (λ (xs : List NodeItem). items_end 0 (ending_by page xs)) whole ∙ ap (items_end 0) (ending_by-later page top [] less));
    }

-- the node of a level that has the page, and the step into it
pub record Inside (rows : List (List ℕ)) (height next page start : ℕ) (top item : NodeItem) (items : List NodeItem) : Type 0 where
  pub there : item.word < length rows
  pub ascends : Ascends start items
  pub within : page < items_end start items
  pub found : (child : NodeItem) → item_at page items ≡ Some child → item_at page (level_of (at_of rows) next (height - next) (top ∷ [])) ≡ Some child
  pub begins : (begin : ℕ) → begin ≡ items_end start (ending_by page items) → begin ≡ items_end 0 (ending_by page (level_of (at_of rows) next (height - next) (top ∷ [])))

pub inside_at : (rows : List (List ℕ)) (limit height low level next page start : ℕ) (top item : NodeItem) (items : List NodeItem)
    → IsTower (at_of rows) limit low (height - low) (top ∷ []) → low ≤ next → next + 1 ≡ level → level ≤ height
    → item_at page (level_of (at_of rows) level (height - level) (top ∷ [])) ≡ Some item
    → start ≡ items_end 0 (ending_by page (level_of (at_of rows) level (height - level) (top ∷ [])))
    → items ≡ items_at (at_of rows) (is_leaf next) item.word → Inside rows height next page start top item items
inside_at rows limit height low level next page start top item items tower order one within found begins are =
    let at = at_of rows in
    let leaf = is_leaf next in
    let upper = level_of at level (height - level) (top ∷ []) in
    let step = step_down at limit height low level next top tower order one within in
    let is = descend at leaf limit 0 page upper item step.nodes (omega arith) found in
    let front : ℕ = items_end 0 (ending_by page upper) in
    record {
      there = row_there rows leaf limit front item is.node;
      ascends = subst (λ (xs : List NodeItem). Ascends start xs) (sym are) (subst (λ (p : ℕ). Ascends p (items_at at leaf item.word)) (sym begins) is.node.ascends);
      within =
          let ends : items_end start items ≡ item.end = ap (items_end start) are ∙ ap (λ (p : ℕ). items_end p (items_at at leaf item.word)) begins ∙ is.node.until in
          let w = is.within in omega arith;
      found = λ child here. ap (item_at page) step.down ∙ is.found ∙ sym (ap (item_at page) are) ∙ here;
      begins = λ begin told. told ∙ ap (λ (xs : List NodeItem). items_end start (ending_by page xs)) are
          ∙ ap (λ (p : ℕ). items_end p (ending_by page (items_at at leaf item.word))) begins ∙ sym is.front
          ∙ sym (ap (λ (xs : List NodeItem). items_end 0 (ending_by page xs)) step.down);
    }

-- the row of the node that has the page
pub down_from : (rows : List (List ℕ)) (limit height low level next page : ℕ) (top item : NodeItem)
    → IsTower (at_of rows) limit low (height - low) (top ∷ []) → low ≤ next → next + 1 ≡ level → level ≤ height
    → item_at page (level_of (at_of rows) level (height - level) (top ∷ [])) ≡ Some item → item.word < length rows
down_from rows limit height low level next page top item tower order one within found =
    (inside_at rows limit height low level next page (items_end 0 (ending_by page (level_of (at_of rows) level (height - level) (top ∷ [])))) top item
    (items_at (at_of rows) (is_leaf next) item.word) tower order one within found refl refl).there

-- the next node to leave
pub record LeavesNext (items : List NodeItem) (page hi : ℕ) (item : NodeItem) (gone : ℕ → ℕ) (rows : ℕ) : Type 0 where
  pub none : gone item.word ≡ 0
  pub there : item.word < rows
  pub above : page < item.end
  pub within : item.end ≤ hi
  pub rest : (row : ℕ) → times_among row (rows_in (ending_by hi (ending_after page items)))
      ≡ times_among row (item.word ∷ []) + times_among row (rows_in (ending_by hi (ending_after item.end items)))

pub leaves_next : (items : List NodeItem) (page lo hi : ℕ) (item : NodeItem) (before gone : ℕ → ℕ) (rows : ℕ) → Ascends 0 items → page < hi
    → items_end 0 (ending_by hi items) ≡ hi → item_at page items ≡ Some item
    → ((row : ℕ) → gone row + times_among row (rows_in (ending_by hi (ending_after page items))) ≡ before row + times_among row (rows_in (ending_by hi (ending_after lo items))))
    → ((row : ℕ) → before row + times_among row (rows_in (ending_by hi (ending_after lo items))) ≤ cond (nat_lt row rows) 1 0)
    → LeavesNext items page hi item gone rows
leaves_next items page lo hi item before gone rows ascends less edge found same few =
    let is = next_of page hi items item ascends less edge found in
    let rest : (row : ℕ) → times_among row (rows_in (ending_by hi (ending_after page items)))
    ≡ times_among row (item.word ∷ []) + times_among row (rows_in (ending_by hi (ending_after item.end items))) = λ row.
    let e = ap (λ (xs : List NodeItem). times_among row (rows_in xs)) is.next in omega arith in
    let here = times_same item.word [] in
    let count = same item.word in
    let bound = few item.word in
    let split = rest item.word in
    let told = counts item.word rows (before item.word + times_among item.word (rows_in (ending_by hi (ending_after lo items)))) bound in
    let most = told.0 in
    record {
      none = omega arith;
      there = told.1 (omega arith);
      above = is.above;
      within = is.within;
      rest = rest;
    }

-- the one node that has a page
pub record LeavesOne (items : List NodeItem) (page : ℕ) (item : NodeItem) (gone : ℕ → ℕ) (rows : ℕ) : Type 0 where
  pub none : gone item.word ≡ 0
  pub there : item.word < rows
  pub one : (row : ℕ) → times_among row (rows_in (ending_by item.end (ending_after page items))) ≡ times_among row (item.word ∷ [])

pub leaves_one : (items : List NodeItem) (page : ℕ) (item : NodeItem) (gone : ℕ → ℕ) (rows : ℕ) → Ascends 0 items → item_at page items ≡ Some item
    → ((row : ℕ) → gone row + times_among row (rows_in (ending_by item.end (ending_after page items))) ≤ cond (nat_lt row rows) 1 0)
    → LeavesOne items page item gone rows
leaves_one items page item gone rows ascends found few =
    let next = leaves_next items page page item.end item gone gone rows ascends (stands 0 page items item ascends found).above
    (item_edge 0 page items item ascends found) found (λ row. refl) few in
    record {
      none = next.none;
      there = next.there;
      one = λ row.
          let rest = next.rest row in
          let done = ap (λ (xs : List NodeItem). times_among row (rows_in xs)) (block_done item.end item.end items (omega arith)) in
          omega arith;
    }
