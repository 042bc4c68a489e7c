-- For `replace`: the levels are built one after another, up to one that has one item with all pages, or to the top.
use Rattle.std.proofs.Common.{◌≡◌, ◌≢◌, ◌∙◌, ◌≤◌, ◌⊎◌, false, nat_eq, List, length, ap, sym, subst, refl, arith}
use Rattle.std.proofs.lemmas.Bool.Decides.{nat_tests}
use Rattle.maple_node.specs.declared.item.NodeItem.{NodeItem}
use Rattle.maple_node.specs.Nodes.{items_end}
use Rattle.maple_node.specs.Levels.{at_of, is_leaf, below, level_of, IsTower}
use Rattle.maple_node.specs.Splices.{ending_by}
use Rattle.node_slots.specs.declared.view.NodeView.{NodeView}
use Rattle.node_slots.specs.Built.{words_at}
use Rattle.maple_write.specs.declared.rows.Rooted.{Rooted}
use Rattle.maple_write.specs.declared.state.WriteState.{WriteState}
use Rattle.maple_write.specs.Internal.Tables.{table_at}
use Rattle.maple_write.specs.Internal.Stores.{old_level, level_in, new_level}
use Rattle.maple_write.proofs.Writers.{fills_none, fills_both}
use Rattle.maple_write.proofs.Descents.{descent_high}
use Rattle.maple_write.proofs.Roots.{begins_as, starts_with, two_items, at_top, RootReady, root_ready, stands_then}
use Rattle.maple_write.proofs.tree.replace.Goals as goal
use Rattle.maple_write.proofs.tree.replace.Goals.{After-leave_upper, then-loop-state-test+else-not-done, else-loop-state-test}

-- the new items of the last level that was built have all pages
all_pages : (c : After-leave_upper) → RootReady (table_at c.loop-state.writer) (level_in c.loop-state.state)
all_pages c =
    let loop = c.loop-state in
    let state = loop.state in
    let is = loop.invariant in
    let table = table_at loop.writer in
    let tree = state.descent.now.tree in
    let same = is.tree in
    let limit = ap (λ (t : Rooted). t.top.end) same in
    let height = ap (λ (t : Rooted). t.height) same in
    let Ends : Type 0 = (items_end 0 (ending_by state.lo (old_level table tree state.level)) ≡ 0) × (state.replacement.end ≡ tree.top.end) in
    let ends : Ends = elim c.loop-state-test.branch as (λ _. Ends) [
      | then-loop-state-test+else-not-done w ↦ let whole = is.whole w.if-not-done.false in (whole.1.0, whole.1.1.0 ∙ sym limit)
      | else-loop-state-test w ↦
          let top = w.loop-state-test.false in
          let tall = c.requires.shaped.tall in
          at_top table (level_in state) is.writing.partly (omega arith) (omega arith)
    ] in
    root_ready table (level_in state) is.writing.partly ends.0 ends.1

pub loop-state-init : goal.loop-state-init
loop-state-init c =
    let writer = c.args.writer.now in
    let tree = c.args.descent.now.tree in
    let span = c.args.span in
    let first = c.first.result in
    record {
      same = fills_none writer writer refl (λ row. refl) (λ nodes here. here);
      writing = record {
        partly = begins_as (table_at writer) tree span.lo span.hi c.args.word first.end c.find-place.result first.items.items c.requires.shaped
            c.requires.some c.requires.limit c.requires.free c.find-place.ensures c.first.ensures.end c.first.ensures.items;
        descent = descent_high (words_at writer) 0 1 c.args.descent.now (omega arith) c.requires.descent;
        fits = c.requires.fits;
      };
      tree = refl;
      entries = starts_with (table_at writer) tree span.lo span.hi c.args.word first.end c.find-place.result first.items.items c.find-place.ensures
          c.first.ensures.end c.first.ensures.items;
      free = omega arith;
      whole = λ yes. absurd (cc);
      wide = λ inner. absurd (omega arith);
      under = λ high. absurd (omega arith);
    }

pub loop-state-preserved : goal.loop-state-preserved
loop-state-preserved c =
    let loop = c.loop-state in
    let is = loop.invariant in
    let after = c.rebuild_level.new.writer in
    let state = c.rebuild_level.new.state in
    let built = c.rebuild_level.ensures in
    let level = ap (λ (s : WriteState). s.level) built.up in
    let made = new_level (table_at after) (level_in state) in
    let was = new_level (table_at loop.writer) (level_in loop.state) in
    let starts : state.replacement.begin ≡ items_end 0 (ending_by state.lo (old_level (table_at after) state.descent.now.tree state.level)) =
    built.begin ∙ sym (ap (λ (s : WriteState). items_end 0 (ending_by s.lo (old_level (table_at after) s.descent.now.tree s.level))) built.up) in
    let same = ap (λ (s : WriteState). s.descent.now.tree) built.up ∙ is.tree in
    record {
      same = fills_both c.args.writer.now loop.writer after is.same built.fills;
      writing = built.writing;
      tree = same;
      entries = built.entries ∙ is.entries;
      free = let before = is.free in let taken = built.free in omega arith;
      whole = λ yes. let all = c.is_whole-done.ensures.yes yes in (omega arith, (sym starts ∙ all.0, all.1));
      wide = λ inner no. two_items (table_at after) (level_in state) state.replacement.begin built.writing.partly inner starts
          (subst (λ (t : Rooted). (state.replacement.begin ≢ 0) ⊎ ((state.replacement.end ≢ t.top.end) ⊎ (length state.replacement.items.items ≢ 1))) (sym same)
          (c.is_whole-done.ensures.no no));
      under = λ high.
          let some : 1 ≤ loop.state.level = omega arith in
          let inner : is_leaf loop.state.level ≡ false = let test : nat_eq loop.state.level 0 ≡ false = grind (arith, nat_tests) in test in
          let below_is : below (words_at after) false made ≡ was = subst (λ b. below (words_at after) b made ≡ was) inner built.under in
          subst (λ (xs : List NodeItem). 2 ≤ length xs) (sym below_is) (is.wide some c.if-not-done.true);
    }

pub new_root-requires-clause-tall : goal.new_root-requires-clause-tall
new_root-requires-clause-tall c =
    let state = c.loop-state.state in
    elim c.loop-state-test.branch as (λ _. 1 ≤ state.level) [
      | then-loop-state-test+else-not-done w ↦ (c.loop-state.invariant.whole w.if-not-done.false).0
      | else-loop-state-test w ↦
          let top = w.loop-state-test.false in
          let tall = c.requires.shaped.tall in
          omega arith
    ]

pub new_root-requires-clause-tower : goal.new_root-requires-clause-tower
new_root-requires-clause-tower c =
    let state = c.loop-state.state in
    let ready = all_pages (goal.at.new_root-requires-clause-tower c).After-leave_upper in
    subst (λ (v : NodeView). IsTower (at_of v.known.writer_state.words) (items_end 0 state.replacement.items.items) 0 state.level state.replacement.items.items)
    (sym c.leave_upper.ensures.view) ready.tower

pub new_root-requires-clause-ascends : goal.new_root-requires-clause-ascends
new_root-requires-clause-ascends c =
    (all_pages (goal.at.new_root-requires-clause-ascends c).After-leave_upper).ascends

pub new_root-requires-clause-wide : goal.new_root-requires-clause-wide
new_root-requires-clause-wide c one high =
    let loop = c.loop-state in
    let ready = all_pages (goal.at.new_root-requires-clause-wide c).After-leave_upper in
    subst (λ (v : NodeView). 2 ≤ length (below (at_of v.known.writer_state.words) false loop.state.replacement.items.items)) (sym c.leave_upper.ensures.view)
    (subst (λ (xs : List NodeItem). 2 ≤ length (below (words_at loop.writer) false xs)) ready.alone (loop.invariant.under high))

pub new_root-requires-clause-stand : goal.new_root-requires-clause-stand
new_root-requires-clause-stand c =
    let loop = c.loop-state in
    let ready = all_pages (goal.at.new_root-requires-clause-stand c).After-leave_upper in
    stands_then (table_at loop.writer) (table_at c.leave_upper.new.writer) (level_in loop.state)
    loop.invariant.writing.partly ready.alone (ap (λ (v : NodeView). v.known.writer_state.words) c.leave_upper.ensures.view) c.leave_upper.ensures.gone_are

pub returns-clause-entries : goal.returns-clause-entries
returns-clause-entries c =
    let loop = c.loop-state in
    let state = loop.state in
    let ready = all_pages (goal.at.returns-clause-entries c).After-leave_upper in
    c.new_root.ensures.entries
    ∙ ap (λ (v : NodeView). level_of (at_of v.known.writer_state.words) 0 state.level state.replacement.items.items) c.leave_upper.ensures.view
    ∙ sym (ap (level_of (words_at loop.writer) 0 state.level) ready.alone) ∙ loop.invariant.entries

pub returns-clause-limit : goal.returns-clause-limit
returns-clause-limit c =
    c.new_root.ensures.limit ∙ (all_pages (goal.at.returns-clause-limit c).After-leave_upper).limit
    ∙ ap (λ (t : Rooted). t.top.end) c.loop-state.invariant.tree

pub returns-clause-same : goal.returns-clause-same
returns-clause-same c =
    let loop = c.loop-state in
    let left = c.leave_upper.new.writer in
    fills_both c.args.writer.now left c.new_root.new.writer
    (fills_both c.args.writer.now loop.writer left loop.invariant.same
    (fills_none loop.writer left c.leave_upper.ensures.view c.leave_upper.ensures.waits c.leave_upper.ensures.table))
    c.new_root.ensures.same

pub returns-clause-free : goal.returns-clause-free
returns-clause-free c =
    let taken = c.loop-state.invariant.free in
    let within = c.loop-state.invariant.writing.partly.within in
    let height = ap (λ (t : Rooted). t.height) c.loop-state.invariant.tree in
    let back = c.leave_upper.ensures.free in
    let root = c.new_root.ensures.free in
    omega arith

pub returns-clause-height : goal.returns-clause-height
returns-clause-height c =
    let within = c.loop-state.invariant.writing.partly.within in
    let height = ap (λ (t : Rooted). t.height) c.loop-state.invariant.tree in
    let root = c.new_root.ensures.height in
    omega arith

pub rebuild_level-requires-clause-below : goal.rebuild_level-requires-clause-below
rebuild_level-requires-clause-below c =
    let height = ap (λ (t : Rooted). t.height) c.loop-state.invariant.tree in
    let test = c.loop-state-test.true in
    omega arith

pub new_root-requires-clause-some : goal.new_root-requires-clause-some
new_root-requires-clause-some c = c.loop-state.invariant.writing.partly.some

pub new_root-requires-clause-few : goal.new_root-requires-clause-few
new_root-requires-clause-few c = c.loop-state.invariant.writing.partly.few

pub new_root-requires-clause-free : goal.new_root-requires-clause-free
new_root-requires-clause-free c =
    let room = c.loop-state.invariant.writing.partly.free in
    let back = c.leave_upper.ensures.free in
    omega arith

pub new_root-requires-clause-fits : goal.new_root-requires-clause-fits
new_root-requires-clause-fits c =
    let within = c.loop-state.invariant.writing.partly.within in
    let fits = c.loop-state.invariant.writing.fits in
    omega arith
