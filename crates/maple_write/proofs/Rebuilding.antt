-- For `rebuild_level`: a level that is built anew stands in place of the old one.
use Rattle.std.proofs.Common.{ℕ, suc, ◌≡◌, ◌<◌, ◌≤◌, ◌+◌, ◌-◌, nat_lt, cond, List, [], ◌∷◌, ◌++◌, length, sym, ap, subst, ◌∙◌, arith}
use Rattle.std.proofs.lemmas.Grind.{flat_map-append}
use Rattle.maple_node.specs.declared.item.NodeItem.{NodeItem}
use Rattle.maple_node.specs.Nodes.{items_end, Ascends, KeepsNoGap}
use Rattle.maple_node.specs.Levels.{is_leaf, at_of, items_at, below, IsNode, level_of, IsTower, rows_below, times_among, Agree}
use Rattle.maple_node.proofs.Levels.{nodes-ascend, end_of-below}
use Rattle.maple_node.proofs.Frames.{times-append, below-agree}
use Rattle.maple_node.specs.Splices.{ending_by, ending_after, spliced}
use Rattle.maple_node.proofs.ItemLists.{AllFrom-append, AllFrom-right, ending_by-ending_after}
use Rattle.node_slots.specs.declared.seats.NodeWriter.{NodeWriter}
use Rattle.maple_write.specs.Internal.Tables.{RowTable, table_at, rows_in, rows_between, gone, AreInUse}
use Rattle.maple_write.specs.Internal.Stores.{upper_rows, Level, next_level, old_nodes, node_begin, new_level, new_entries, Partly, Cut}
use Rattle.maple_write.proofs.Levels.{AreNodes, nodes-ending_by}
use Rattle.maple_write.proofs.Times.{times-rows_in, kept-nodes, Kept, kept-tower, times-lowest}
use Rattle.maple_write.proofs.Blocks.{inner-plain, times-parts}
use Rattle.maple_write.proofs.Writers.{rows_counted}
use Rattle.maple_write.proofs.Steps.{upper_of, raised, inner_level, counts}

-- how often a row stands in the old tree above a level, and in the nodes of the level
pub record Counted (table : RowTable) (level : Level) (row : ℕ) : Type 0 where
  pub all : times_among row (upper_rows (at_of table.rows) level.tree (level.height + 1))
      + times_among row (rows_in (old_nodes table level))
      + times_among row (rows_below (at_of table.rows) 0 level.height (new_level table level))
      + gone table row
      ≡ cond (nat_lt row (length table.rows)) 1 0

pub counted : (table : RowTable) (level : Level) (row : ℕ) → Partly table level
    → level.height < level.tree.height → Counted table level row
counted table level row partly less =
    let at = at_of table.rows in
    let here = new_level table level in
    let up : level.tree.height - level.height ≡ suc (level.tree.height - (level.height + 1)) = omega arith in
    let e : suc level.height ≡ level.height + 1 = omega arith in
    let split = times-append row (upper_rows at level.tree level.height) (rows_below at 0 level.height here) in
    let first = ap (λ (n : ℕ). times_among row (rows_below at level.height n (level.tree.top ∷ []))) up in
    let second = times-lowest at row level.height (level.tree.height - (level.height + 1)) (level.tree.top ∷ []) in
    let third = ap (λ (n : ℕ). times_among row (rows_below at n (level.tree.height - (level.height + 1)) (level.tree.top ∷ []))) e in
    let fourth = ap (λ (n : ℕ). times_among row (rows_in (level_of at n (level.tree.height - (level.height + 1)) (level.tree.top ∷ [])))) e in
    let stand = partly.stand.each row in
    record { all = omega arith }

-- the rows that the level's nodes and the tree above have keep their words while free rows are filled
pub record Frame (old : RowTable) (at : ℕ → List ℕ) (level : Level) (end : ℕ) : Type 0 where
  pub above : Agree (at_of old.rows) at (upper_rows (at_of old.rows) level.tree (level.height + 1))
  pub built : Agree (at_of old.rows) at (rows_below (at_of old.rows) 0 level.height (new_level old level))
  pub before : Agree (at_of old.rows) at (rows_in (ending_by level.lo (old_nodes old level)))
  pub after : Agree (at_of old.rows) at (rows_in (ending_after end (old_nodes old level)))

pub framed : (old : RowTable) (at : ℕ → List ℕ) (level : Level) (end : ℕ) → Partly old level
    → level.height < level.tree.height → level.lo ≤ end
    → ((row : ℕ) → gone old row + times_among row (rows_between level.lo end (old_nodes old level)) ≡ 0 → at row ≡ at_of old.rows row)
    → Frame old at level end
framed old at level end partly less order kept =
    let upper = old_nodes old level in
    let block : ℕ → ℕ = λ row. times_among row (rows_between level.lo end upper) in
    let free : (row : ℕ) (n : ℕ) → n + (gone old row + block row) ≤ cond (nat_lt row (length old.rows)) 1 0 → 1 ≤ n → at_of old.rows row ≡ at row =
    λ row n few some. let least = (counts row (length old.rows) (n + (gone old row + block row)) few).0 in sym (kept row (omega arith)) in
    record {
      above = λ row some. let c = (counted old level row partly less).all in
          let p = times-parts row level.lo end upper order in
          free row (times_among row (upper_rows (at_of old.rows) level.tree (level.height + 1))) (omega arith) some;
      built = λ row some. let c = (counted old level row partly less).all in
          let p = times-parts row level.lo end upper order in
          free row (times_among row (rows_below (at_of old.rows) 0 level.height (new_level old level))) (omega arith) some;
      before = λ row some. let c = (counted old level row partly less).all in
          let p = times-parts row level.lo end upper order in
          free row (times_among row (rows_in (ending_by level.lo upper))) (omega arith) some;
      after = λ row some. let c = (counted old level row partly less).all in
          let p = times-parts row level.lo end upper order in
          free row (times_among row (rows_in (ending_after end upper))) (omega arith) some;
    }

-- the old level above, in a table whose free rows were filled
pub kept_level : (old : RowTable) (after : RowTable) (level : Level) (end : ℕ) → Partly old level
    → level.height < level.tree.height → level.lo ≤ end
    → ((row : ℕ) → gone old row + times_among row (rows_between level.lo end (old_nodes old level)) ≡ 0 → at_of after.rows row ≡ at_of old.rows row)
    → Kept (at_of old.rows) (at_of after.rows) level.tree.top.end (level.height + 1) (level.tree.height - (level.height + 1)) (level.tree.top ∷ [])
kept_level old after level end partly less order kept =
    let frame = framed old (at_of after.rows) level end partly less order kept in
    let step = upper_of old level partly less in
    kept-tower (at_of old.rows) (at_of after.rows) level.tree.top.end (level.height + 1) (level.tree.height - (level.height + 1)) (level.tree.top ∷ []) frame.above step.above

-- what is so of the nodes that a level has then
record Anew (old after : RowTable) (level : Level) (end : ℕ) (nodes : List NodeItem) : Type 0 where
  pub same : old_nodes after level ≡ old_nodes old level
  pub upper : new_level after (next_level level end nodes) ≡ spliced level.lo end nodes (old_nodes old level)
  pub all : AreNodes (at_of after.rows) (is_leaf level.height) level.tree.top.end 0 (spliced level.lo end nodes (old_nodes old level))
  pub under : below (at_of after.rows) (is_leaf level.height) (spliced level.lo end nodes (old_nodes old level)) ≡ new_level old level
  pub built : Kept (at_of old.rows) (at_of after.rows) level.tree.top.end 0 level.height (new_level old level)
  pub front : items_end (node_begin old level) nodes ≡ end

level_of_nodes : (old after : RowTable) (level : Level) (begin end : ℕ) (items nodes : List NodeItem)
    → Partly old level → level.height < level.tree.height
    → Cut old level begin end items
    → ((row : ℕ) → gone old row + times_among row (rows_between level.lo end (old_nodes old level)) ≡ 0 → at_of after.rows row ≡ at_of old.rows row)
    → AreNodes (at_of after.rows) (is_leaf level.height) level.tree.top.end begin nodes → below (at_of after.rows) (is_leaf level.height) nodes ≡ items
    → Anew old after level end nodes
level_of_nodes old after level begin end items nodes partly less cut kept are under =
    let at = at_of old.rows in
    let at' = at_of after.rows in
    let leaf = is_leaf level.height in
    let upper = old_nodes old level in
    let step = upper_of old level partly less in
    let above = cut.above in
    let frame = framed old at' level end partly less (omega arith) kept in
    let lev = kept_level old after level end partly less (omega arith) kept in
    let front = ending_by level.lo upper in
    let back = ending_after end upper in
    let ascends = nodes-ascend at leaf level.tree.top.end 0 upper step.nodes in
    let whole : AreNodes at leaf level.tree.top.end 0 (ending_by end upper ++ back) =
    subst (λ (xs : List NodeItem). AreNodes at leaf level.tree.top.end 0 xs) (sym (ending_by-ending_after 0 end upper ascends)) step.nodes in
    let right : AreNodes at leaf level.tree.top.end end back =
    subst (λ (p : ℕ). AreNodes at leaf level.tree.top.end p back) cut.edge (AllFrom-right (IsNode at leaf level.tree.top.end) 0 (ending_by end upper) back whole) in
    let left' : AreNodes at' leaf level.tree.top.end 0 front = kept-nodes at at' leaf level.tree.top.end 0 front frame.before (nodes-ending_by at leaf level.tree.top.end 0 level.lo upper step.nodes) in
    let right' : AreNodes at' leaf level.tree.top.end end back = kept-nodes at at' leaf level.tree.top.end end back frame.after right in
    let start = cut.start in
    let ends : items_end begin nodes ≡ end =
    sym (end_of-below at' leaf level.tree.top.end begin nodes are) ∙ ap (items_end begin) under ∙ cut.ending in
    let middle : AreNodes at' leaf level.tree.top.end (items_end 0 front) nodes = subst (λ (p : ℕ). AreNodes at' leaf level.tree.top.end p nodes) start are in
    let ends' : items_end (items_end 0 front) nodes ≡ end = ap (λ (p : ℕ). items_end p nodes) (sym start) ∙ ends in
    record {
      same = lev.level;
      upper = ap (λ (xs : List NodeItem). spliced level.lo end nodes xs) lev.level;
      all = AllFrom-append (IsNode at' leaf level.tree.top.end) 0 front (nodes ++ back) left'
          (AllFrom-append (IsNode at' leaf level.tree.top.end) (items_end 0 front) nodes back middle
          (subst (λ (p : ℕ). AreNodes at' leaf level.tree.top.end p back) (sym ends') right'));
      under = flat_map-append (λ (item : NodeItem). items_at at' leaf item.word) front (nodes ++ back)
          ∙ ap (λ (xs : List NodeItem). below at' leaf front ++ xs) (flat_map-append (λ (item : NodeItem). items_at at' leaf item.word) nodes back)
          ∙ ap (λ (xs : List NodeItem). xs ++ (below at' leaf nodes ++ below at' leaf back)) (sym (below-agree at at' leaf front frame.before))
          ∙ ap (λ (xs : List NodeItem). below at leaf front ++ (xs ++ below at' leaf back)) under
          ∙ ap (λ (xs : List NodeItem). below at leaf front ++ (items ++ xs)) (sym (below-agree at at' leaf back frame.after))
          ∙ sym cut.split;
      built = kept-tower at at' level.tree.top.end 0 level.height (new_level old level) frame.built partly.built;
      front = ends';
    }

-- the step of a store: the level is built, and the old nodes in its place are left
pub record Rebuilt (old after : RowTable) (level : Level) (begin end : ℕ) (nodes : List NodeItem) : Type 0 where
  pub partly : Partly after (next_level level end nodes)
  pub starts : begin ≡ node_begin after level
  pub entries : new_entries after (next_level level end nodes) ≡ new_entries old level
  pub under : below (at_of after.rows) (is_leaf level.height) (new_level after (next_level level end nodes)) ≡ new_level old level

-- what was filled after the old nodes were left
pub kept_after : (old mid after : RowTable) (block : ℕ → ℕ) → mid.rows ≡ old.rows → ((row : ℕ) → gone mid row ≡ gone old row + block row)
    → ((row : ℕ) → times_among row mid.free ≡ 0 → at_of after.rows row ≡ at_of mid.rows row)
    → (row : ℕ) → gone old row + block row ≡ 0 → at_of after.rows row ≡ at_of old.rows row
kept_after old mid after block rows left_now kept row none =
    let g = left_now row in
    subst (λ (rs : List (List ℕ)). at_of after.rows row ≡ at_of rs row) rows (kept row (omega arith))

pub rebuilt : (old mid after : RowTable) (level : Level) (begin end : ℕ) (items nodes : List NodeItem)
    → Partly old level → level.height < level.tree.height
    → Cut old level begin end items
    → AreNodes (at_of after.rows) (is_leaf level.height) level.tree.top.end begin nodes → below (at_of after.rows) (is_leaf level.height) nodes ≡ items
    → 1 ≤ length nodes → length nodes ≤ 3
    → mid.rows ≡ old.rows → length old.free ≤ length mid.free
    → ((row : ℕ) → gone mid row ≡ gone old row + times_among row (rows_between level.lo end (old_nodes old level)))
    → ((row : ℕ) → times_among row mid.free ≡ 0 → at_of after.rows row ≡ at_of mid.rows row)
    → length after.rows ≡ length mid.rows
    → ((row : ℕ) → times_among row mid.free ≡ times_among row after.free + times_among row (rows_in nodes))
    → length mid.free ≡ length after.free + length nodes
    → after.left ≡ mid.left
    → Rebuilt old after level begin end nodes
rebuilt old mid after level begin end items nodes partly less cut are under some few rows more left_now kept long taken room left =
    let at = at_of old.rows in
    let at' = at_of after.rows in
    let leaf = is_leaf level.height in
    let upper = old_nodes old level in
    let made = spliced level.lo end nodes upper in
    let above = cut.above in
    let block : ℕ → ℕ = λ row. times_among row (rows_between level.lo end upper) in
    let kept' : (row : ℕ) → gone old row + block row ≡ 0 → at' row ≡ at row = kept_after old mid after block rows left_now kept in
    let is = level_of_nodes old after level begin end items nodes partly less cut kept' are under in
    let lev = kept_level old after level end partly less (omega arith) kept' in
    let up = raised at' level.tree.top.end level.height made (new_level old level) is.all is.under is.built.tower in
    record {
      partly = record {
        within = omega arith;
        some = some;
        few = few;
        pages = above;
        limit = cut.limit;
        tower = lev.tower;
        built = subst (λ (xs : List NodeItem). IsTower at' level.tree.top.end 0 (level.height + 1) xs) (sym is.upper) up.tower;
        ascends = subst (λ (xs : List NodeItem). Ascends 0 xs) (sym is.upper) (nodes-ascend at' leaf level.tree.top.end 0 made is.all);
        ending = ap (λ (xs : List NodeItem). items_end (items_end 0 (ending_by level.lo xs)) nodes) is.same ∙ is.front;
        edge = λ inner. ap (λ (xs : List NodeItem). items_end 0 (ending_by end xs)) is.same ∙ cut.edge;
        plain = subst (λ b. KeepsNoGap b nodes) (sym (inner_level level.height)) (inner-plain nodes);
        stand = record {
          each = λ row.
              let before = (counted old level row partly less).all in
              let parts = times-parts row level.lo end upper (omega arith) in
              let join = times-append row (upper_rows at' level.tree (level.height + 1))
              (rows_below at' 0 (level.height + 1) (new_level after (next_level level end nodes))) in
              let first = ap (times_among row) lev.rows in
              let second : times_among row (rows_below at' 0 (level.height + 1) (new_level after (next_level level end nodes))) ≡ times_among row (rows_below at' 0 (level.height + 1) made) =
              ap (λ (xs : List NodeItem). times_among row (rows_below at' 0 (level.height + 1) xs)) is.upper in
              let third = up.rows row in
              let fourth = ap (times_among row) is.built.rows in
              let fifth = times-rows_in row (ending_by level.lo upper) (nodes ++ ending_after end upper) in
              let sixth = times-rows_in row nodes (ending_after end upper) in
              let seventh = left_now row in
              let ninth = taken row in
              let tenth = ap (times_among row) left in
              let rows_long : length after.rows ≡ length old.rows = long ∙ ap (λ (rs : List (List ℕ)). length rs) rows in
              let bound : cond {A = ℕ} (nat_lt row (length after.rows)) 1 0 ≡ cond (nat_lt row (length old.rows)) 1 0 =
              ap (λ (n : ℕ). cond {A = ℕ} (nat_lt row n) 1 0) rows_long in
              omega arith;
        };
        free = let f = partly.free in omega arith;
      };
      starts = cut.start ∙ sym (ap (λ (xs : List NodeItem). items_end 0 (ending_by level.lo xs)) is.same);
      entries = ap (level_of at' 0 (level.height + 1)) is.upper ∙ up.entries ∙ is.built.level;
      under = ap (below at' leaf) is.upper ∙ is.under;
    }

-- the old nodes of the level are not left yet
pub in_use : (writer : NodeWriter) (level : Level) (begin end : ℕ) (items : List NodeItem) → Partly (table_at writer) level
    → level.height < level.tree.height → Cut (table_at writer) level begin end items
    → AreInUse writer (rows_between level.lo end (old_nodes (table_at writer) level))
in_use writer level begin end items partly less cut row =
    let above = cut.above in
    let before = (counted (table_at writer) level row partly less).all in
    let parts = times-parts row level.lo end (old_nodes (table_at writer) level) (omega arith) in
    let bound = ap (λ (n : ℕ). cond {A = ℕ} (nat_lt row n) 1 0) (rows_counted writer) in
    omega arith
