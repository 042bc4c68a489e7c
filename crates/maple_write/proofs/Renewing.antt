-- For `renewed` and `rebuild_by_words`: a node that is made of the words of an old one.
use Rattle.std.proofs.Common.{ℕ, ◌≡◌, ◌<◌, ◌≤◌, ◌+◌, ◌-◌, List, [], ◌∷◌, length, Some, refl, sym, ap, subst, ◌∙◌, arith}
use Rattle.maple_node.specs.declared.item.NodeItem.{NodeItem}
use Rattle.maple_node.specs.Nodes.{words_of_items, node_items, most, least_items, items_end, Ascends}
use Rattle.maple_node.specs.Levels.{is_leaf, at_of, items_at, below, item_at, times_among}
use Rattle.maple_node.proofs.Places.{items_of_words}
use Rattle.maple_node.specs.declared.place.Place.{Place}
use Rattle.maple_node.specs.Splices.{ending_by, spliced}
use Rattle.maple_node.proofs.Spliced.{ascends_from}
use Rattle.maple_write.specs.Internal.Tables.{RowTable, rows_in, rows_between, gone}
use Rattle.maple_write.specs.Internal.Stores.{Level, old_nodes, node_begin, Partly, Cut, IsRenewed}
use Rattle.maple_write.proofs.Levels.{AreNodes}
use Rattle.maple_write.proofs.Steps.{there_at, item_at-same, cut_of}
use Rattle.maple_write.proofs.Rebuilding.{Rebuilt, rebuilt}

-- some items end at the same page wherever they begin
pub ends_same : (a b : ℕ) (items : List NodeItem) → 1 ≤ length items → items_end a items ≡ items_end b items
ends_same a b [] some = absurd (omega arith)
ends_same a b (item ∷ items) some = refl

-- what the words of the node that has a page tell
pub record Source (leaf_words : List ℕ) (table : RowTable) (level : ℕ) (item : NodeItem) : Type 0 where
  pub row : item.word < length table.rows
  pub ascends : Ascends 0 (node_items (is_leaf level) leaf_words)
  pub whole : leaf_words ≡ words_of_items (is_leaf level) (node_items (is_leaf level) leaf_words)
  pub ends : items_end 0 (node_items (is_leaf level) leaf_words) ≤ item.end

pub source_of : (table : RowTable) (level : Level) (page : ℕ) (item : NodeItem) (words : List ℕ)
    → Partly table level → level.height < level.tree.height → item_at page (old_nodes table level) ≡ Some item
    → words ≡ at_of table.rows item.word → Source words table level.height item
source_of table level page item words partly less found is =
    let leaf = is_leaf level.height in
    let begin = items_end 0 (ending_by page (old_nodes table level)) in
    let there = there_at table level page item partly less found in
    let node = there.node in
    let ends : items_end 0 (items_at (at_of table.rows) leaf item.word) ≡ item.end = ends_same 0 begin (items_at (at_of table.rows) leaf item.word) node.some ∙ node.until in
    record {
      row = there.row;
      ascends = subst (λ (ws : List ℕ). Ascends 0 (node_items leaf ws)) (sym is)
          (ascends_from begin 0 (items_at (at_of table.rows) leaf item.word) (omega arith) node.ascends);
      whole = subst (λ (ws : List ℕ). ws ≡ words_of_items leaf (node_items leaf ws)) (sym is) node.words;
      ends = subst (λ (ws : List ℕ). items_end 0 (node_items leaf ws) ≤ item.end) (sym is) (omega arith);
    }

-- its items with the new ones among them
spliced_cut : (table : RowTable) (level : Level) (left : Place)
    → Partly table level → level.height < level.tree.height → item_at level.lo (old_nodes table level) ≡ Some left.item
    → left.start ≡ node_begin table level → level.hi ≤ left.item.end
    → Cut table level left.start left.item.end (spliced level.lo level.hi level.new (items_at (at_of table.rows) (is_leaf level.height) left.item.word))
spliced_cut table level left partly less found begins within =
    let pages = partly.pages in
    let e : level.hi - 1 + 1 ≡ level.hi = omega arith in
    let last = item_at-same level.lo (level.hi - 1) (old_nodes table level) left.item found (omega arith) (omega arith) in
    cut_of table level (level.hi - 1) left.start left.item left.item partly less found e last begins

-- words that were made of them list them
pub lists_spliced : (table : RowTable) (level : Level) (left : Place) (words made : List ℕ)
    → Partly table level → level.height < level.tree.height → item_at level.lo (old_nodes table level) ≡ Some left.item
    → left.start ≡ node_begin table level → level.hi ≤ left.item.end
    → words ≡ at_of table.rows left.item.word
    → made ≡ words_of_items (is_leaf level.height) (spliced level.lo level.hi level.new (node_items (is_leaf level.height) words))
    → node_items (is_leaf level.height) made ≡ spliced level.lo level.hi level.new (node_items (is_leaf level.height) words)
lists_spliced table level left words made partly less found begins within is told =
    let leaf = is_leaf level.height in
    let items = spliced level.lo level.hi level.new (items_at (at_of table.rows) leaf left.item.word) in
    let cut = spliced_cut table level left partly less found begins within in
    let same : spliced level.lo level.hi level.new (node_items leaf words) ≡ items = ap (λ (ws : List ℕ). spliced level.lo level.hi level.new (node_items leaf ws)) is in
    ap (node_items leaf) (told ∙ ap (words_of_items leaf) same) ∙ items_of_words leaf left.start items cut.ascends cut.plain ∙ sym same

-- the node anew
pub renewed_is : (table : RowTable) (level : Level) (fewest : ℕ) (left : Place) (words made : List ℕ)
    → Partly table level → level.height < level.tree.height → item_at level.lo (old_nodes table level) ≡ Some left.item
    → left.start ≡ node_begin table level → level.hi ≤ left.item.end
    → words ≡ at_of table.rows left.item.word
    → made ≡ words_of_items (is_leaf level.height) (spliced level.lo level.hi level.new (node_items (is_leaf level.height) words))
    → length (spliced level.lo level.hi level.new (node_items (is_leaf level.height) words)) ≤ most (is_leaf level.height)
    → fewest ≤ length (spliced level.lo level.hi level.new (node_items (is_leaf level.height) words))
    → (left.item.end < level.tree.top.end → least_items (is_leaf level.height) ≤ fewest)
    → IsRenewed table level left made
renewed_is table level fewest left words made partly less found begins within is told fits enough least_told =
    let leaf = is_leaf level.height in
    let here = items_at (at_of table.rows) leaf left.item.word in
    let items = spliced level.lo level.hi level.new here in
    let cut = spliced_cut table level left partly less found begins within in
    let same : spliced level.lo level.hi level.new (node_items leaf words) ≡ items = ap (λ (ws : List ℕ). spliced level.lo level.hi level.new (node_items leaf ws)) is in
    let back : node_items leaf made ≡ items =
    lists_spliced table level left words made partly less found begins within is told ∙ same in
    record {
      cut = subst (λ (xs : List NodeItem). Cut table level left.start left.item.end xs) (sym back) cut;
      whole = told ∙ ap (words_of_items leaf) (same ∙ sym back);
      most = subst (λ (xs : List NodeItem). length xs ≤ most leaf) (same ∙ sym back) fits;
      least = λ inner. let few = least_told inner in subst (λ (xs : List NodeItem). least_items leaf ≤ length xs) (same ∙ sym back) (omega arith);
    }

-- the level is built of that node
pub rebuilt_by_words : (old mid after : RowTable) (level : Level) (nodes : List NodeItem) (left : Place) (words : List ℕ)
    → Partly old level → level.height < level.tree.height → IsRenewed old level left words
    → mid.rows ≡ old.rows → length old.free ≤ length mid.free
    → ((row : ℕ) → gone mid row ≡ gone old row + times_among row (rows_between level.lo left.item.end (old_nodes old level)))
    → ((limit : ℕ) → (items_end left.start (node_items (is_leaf level.height) words) < limit → least_items (is_leaf level.height) ≤ length (node_items (is_leaf level.height) words))
    → AreNodes (at_of after.rows) (is_leaf level.height) limit left.start nodes)
    → below (at_of after.rows) (is_leaf level.height) nodes ≡ node_items (is_leaf level.height) words → length nodes ≡ 1
    → ((row : ℕ) → times_among row mid.free ≡ 0 → at_of after.rows row ≡ at_of mid.rows row)
    → length after.rows ≡ length mid.rows
    → ((row : ℕ) → times_among row mid.free ≡ times_among row after.free + times_among row (rows_in nodes))
    → length mid.free ≡ length after.free + length nodes
    → after.left ≡ mid.left
    → Rebuilt old after level left.start left.item.end nodes
rebuilt_by_words old mid after level nodes left words partly less renewed rows more left_now are under one kept long taken room same_left =
    let until = renewed.cut.ending in
    rebuilt old mid after level left.start left.item.end (node_items (is_leaf level.height) words) nodes partly less renewed.cut
    (are level.tree.top.end (λ inner. renewed.least (omega arith))) under (omega arith) (omega arith) rows more left_now kept long taken room same_left
