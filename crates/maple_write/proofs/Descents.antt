-- For `find`, `rebuild_by_list` and `rebuild_by_words`: what a descent tells of other pages, and of a table whose free rows were filled.
use Rattle.std.proofs.Common.{ℕ, zero, suc, ◌≡◌, ◌<◌, ◌≤◌, ◌+◌, ◌-◌, List, [], ◌∷◌, Some, refl, sym, ap, ◌∙◌, arith, inl, inr}
use Rattle.std.proofs.lemmas.Bool.{cases_lt}
use Rattle.maple_node.specs.declared.item.NodeItem.{NodeItem}
use Rattle.maple_node.specs.Nodes.{items_end, Ascends}
use Rattle.maple_node.specs.Levels.{at_of, item_at, level_of, rows_below, times_among, Agree}
use Rattle.maple_node.proofs.Levels.{level-ascends}
use Rattle.maple_node.proofs.Frames.{level_of-agree}
use Rattle.maple_node.specs.Splices.{ending_by}
use Rattle.maple_node.proofs.ItemLists.{ending_by-first, item_at-first, item_at-later, ending_by_first, end_ending_by}
use Rattle.maple_node.specs.declared.place.Place.{Place}
use Rattle.maple_write.specs.declared.rows.Rooted.{Rooted}
use Rattle.maple_write.specs.declared.descent.Descent.{Descent}
use Rattle.maple_write.specs.declared.state.WriteState.{WriteState}
use Rattle.maple_write.specs.Internal.Tables.{RowTable, rows_between, gone}
use Rattle.maple_write.specs.Internal.Stores.{IsUpper, upper_rows, level_in, old_nodes, Partly, HasPage, IsDescent}
use Rattle.maple_write.proofs.Levels.{tower_from}
use Rattle.maple_write.proofs.Times.{times-lowest}
use Rattle.maple_write.proofs.Rebuilding.{framed}

-- a descent is one from a higher level too
pub descent_high : (at : ℕ → List ℕ) (low higher : ℕ) (descent : Descent) → low ≤ higher → IsDescent at low descent → IsDescent at higher descent
descent_high at low higher descent above is = record { each = λ level order within few. is.each level (omega arith) within few }

-- the item that has a page has each other page from where it begins up to where it ends
pub record Near (page later : ℕ) (items : List NodeItem) (item : NodeItem) : Type 0 where
  pub found : item_at later items ≡ Some item
  pub same : ending_by later items ≡ ending_by page items

pub near : (start page later : ℕ) (items : List NodeItem) (item : NodeItem) → Ascends start items → item_at page items ≡ Some item
    → items_end start (ending_by page items) ≤ later → later < item.end → Near page later items item
near start page later [] item ascends found begins ends = absurd (cc)
near start page later (x ∷ xs) item ascends found begins ends = elim (cases_lt page x.end) as (λ _. Near page later (x ∷ xs) item) [
  | inl above ↦
      let first : Some x ≡ Some item = sym (item_at-first page x xs above) ∙ found in
      let same : x ≡ item = cc in
      let end = ap (λ (y : NodeItem). y.end) same in
      let within : later < x.end = omega (arith, end, ends) in
      record {
        found = item_at-first later x xs within ∙ first;
        same = ending_by_first start later x xs ascends within ∙ sym (ending_by_first start page x xs ascends above);
      }
  | inr past ↦
      let front = ending_by-first page x xs past in
      let high = end_ending_by x.end page xs ascends.1 in
      let moved : items_end start (ending_by page (x ∷ xs)) ≡ items_end x.end (ending_by page xs) = ap (items_end start) front in
      let after : items_end x.end (ending_by page xs) ≤ later = omega (arith, moved, begins) in
      let over : x.end ≤ later = omega (arith, high, after) in
      let deep = near x.end page later xs item ascends.1 (sym (item_at-later page x xs past) ∙ found) after ends in
      record {
        found = item_at-later later x xs over ∙ deep.found;
        same = ending_by-first later x xs over ∙ ap (λ (ys : List NodeItem). x ∷ ys) deep.same ∙ sym front;
      }
]

pub has_near : (at : ℕ → List ℕ) (tree : Rooted) (low level page later : ℕ) (place : Place)
    → IsUpper at tree low → low ≤ level → level ≤ tree.height → later < tree.top.end
    → HasPage at tree level page place → place.start ≤ later → later < place.item.end → HasPage at tree level later place
has_near at tree low level page later place tower order within there is begins ends =
    let items = level_of at level (tree.height - level) (tree.top ∷ []) in
    let here = tower_from at tree.top.end tree.height low level (tree.top ∷ []) order within tower in
    let some : 0 < tree.top.end = omega (arith, there) in
    let ascends = level-ascends at tree.top.end level (tree.height - level) (tree.top ∷ []) (some, tt) here in
    let from = is.start in
    let same = near 0 page later items place.item ascends is.item (omega (arith, from, begins)) ends in
    record { item = same.found; start = from ∙ sym (ap (items_end 0) same.same); above = begins }

-- the rows above a level are among those above a lower one
rows_up : (at : ℕ → List ℕ) (row k low level up total : ℕ) (items : List NodeItem) → low + k ≡ level → k + up ≡ total
    → times_among row (rows_below at level up items) ≤ times_among row (rows_below at low total items)
rows_up at row zero low level up total items here all =
    let e : low ≡ level = omega arith in
    let e' : up ≡ total = omega arith in
    let s = ap (λ (n : ℕ). times_among row (rows_below at n up items)) e in
    let s' = ap (λ (n : ℕ). times_among row (rows_below at low n items)) e' in
    omega arith
rows_up at row (suc k) low level up total items here all =
    let e : total ≡ suc (k + up) = omega arith in
    let s = ap (λ (n : ℕ). times_among row (rows_below at low n items)) e in
    let one = times-lowest at row low (k + up) items in
    let deep = rows_up at row k (suc low) level up (k + up) items (omega arith) refl in
    omega arith

-- a descent stays where the rows above its lowest level keep their words
descent_kept : (at after : ℕ → List ℕ) (low : ℕ) (descent : Descent) → Agree at after (upper_rows at descent.tree low)
    → IsDescent at low descent → IsDescent after low descent
descent_kept at after low descent agree is = record {
  each = λ level order within few.
      let old = is.each level order within few in
      let tree = descent.tree in
      let up = tree.height - level in
      let same : level_of after level up (tree.top ∷ []) ≡ level_of at level up (tree.top ∷ []) =
      sym (level_of-agree at after level up (tree.top ∷ [])
      (λ row some. agree row (let more = rows_up at row (level - low) low level up (tree.height - low) (tree.top ∷ []) (omega arith) (omega arith) in omega arith)))
      in
      record {
        item = ap (item_at descent.page) same ∙ old.item;
        start = old.start ∙ sym (ap (λ (xs : List NodeItem). items_end 0 (ending_by descent.page xs)) same);
        above = old.above;
      };
}

pub descent_above : (old : RowTable) (after : ℕ → List ℕ) (state : WriteState) (end : ℕ) → Partly old (level_in state)
    → state.level < state.descent.now.tree.height → state.lo ≤ end
    → ((row : ℕ) → gone old row + times_among row (rows_between state.lo end (old_nodes old (level_in state))) ≡ 0 → after row ≡ at_of old.rows row)
    → IsDescent (at_of old.rows) (state.level + 1) state.descent.now → IsDescent after (state.level + 1 + 1) state.descent.now
descent_above old after state end partly less order kept is =
    descent_high after (state.level + 1) (state.level + 1 + 1) state.descent.now (omega arith)
    (descent_kept (at_of old.rows) after (state.level + 1) state.descent.now (framed old after (level_in state) end partly less order kept).above is)
