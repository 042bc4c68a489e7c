-- For `fill_row`: the row is there, and it has four words more, and at the end all.
use Rattle.std.proofs.Common.{ℕ, ◌≡◌, ◌<◌, ◌+◌, ◌-◌, ◌*◌, ◌∙◌, List, ◌++◌, length, replicate, refl, sym, ap, arith}
use Rattle.std.proofs.lemmas.List.{length-append, length-replicate}
use Rattle.grace_core.specs.Core.{row_at}
use Rattle.node_slots.specs.declared.view.NodeView.{NodeView}
use Rattle.node_slots.specs.Trees.{empty_row}
use Rattle.node_slots.specs.Views.{fill_at}
use Rattle.node_slots.specs.Kept.{with_empty}
use Rattle.node_slots.specs.Internal.Stores.{store_four_at}
use Rattle.node_slots.specs.Seats.{seat_sight}
use Rattle.node_slots.proofs.Filling.{blend, blend_none, blend_all, fill_same, four_filled}
use Rattle.node_slots.proofs.Seating.{grown_kept}
use Rattle.node_slots.proofs.seats.NodeWriterSeat.fill_row.Goals as goal

-- how many rows there are once rows of zeros were added
added : (words more : List (List ℕ)) (count : ℕ) → more ≡ words ++ replicate (count - length words) empty_row
    → length more ≡ length words + (count - length words)
added words more count is = ap (λ (l : List (List ℕ)). length l) is ∙ length-append words (replicate (count - length words) empty_row)
    ∙ ap (λ n. length words + n) (length-replicate (count - length words) empty_row)

pub invariant_of-self : goal.invariant_of-self
invariant_of-self c =
    let seat = c.args.self.now in
    let long = added seat.words.items _ _ c.add_empty.ensures.items in
    record {
      kept = grown_kept _ _ _ _ _ _ _ seat.kept (omega (arith, c.requires.row)) c.add_empty.ensures.items;
      filled = omega (arith, long, seat.filled, c.requires.row);
      room = omega (arith, seat.room, c.add_empty.ensures.room);
      table_is = seat.table_is;
    }

pub loop-part-init : goal.loop-part-init
loop-part-init c =
    let view = seat_sight c.args.self.now in
    let row = c.args.row.0 in
    record {
      view = sym (ap (fill_at view row) (blend_none c.args.words.now (row_at view.known.writer_state.words row)) ∙ fill_same view row);
      same = refl;
      there = omega (arith, added c.args.self.now.words.items _ _ c.add_empty.ensures.items);
      touched = omega (arith, added c.args.self.now.words.items _ _ c.add_empty.ensures.items);
    }

pub loop-part-preserved : goal.loop-part-preserved
loop-part-preserved c =
    let view = seat_sight c.args.self.now in
    let kept = c.args.self.now.kept in
    let row = c.args.row.0 in
    let place : ℕ = 4 * c.loop-part.part in
    let words = c.args.words.now in
    let old = row_at view.known.writer_state.words row in
    let there : row < length (with_empty c.args.self.now.table.size.rows c.args.self.now.words.items) = omega (arith, c.requires.row, kept.rows) in
    let known : row < length view.known.writer_state.words = omega (arith, there, ap (λ (l : List (List ℕ)). length l) kept.words_are) in
    let wide : length old ≡ 32 = ap (λ (l : List (List ℕ)). length (row_at l row)) kept.words_are ∙ kept.wide row there in
    let inside : c.loop-part.part < 8 = omega (arith, c.loop-part-test.true) in
    let next : place + 4 ≡ 4 * (c.loop-part.part + 1) = omega arith in
    record {
      view = c.store_four.ensures.view ∙ ap (λ (v : NodeView). store_four_at v row place words) c.loop-part.invariant.view
          ∙ four_filled view row place words old known (omega (arith, inside, c.told-words)) (omega (arith, inside, wide))
          ∙ ap (λ (n : ℕ). fill_at view row (blend n words old)) next;
      same = c.store_four.ensures.same ∙ c.loop-part.invariant.same;
      there = omega (arith, c.store_four.ensures.count, c.loop-part.invariant.there);
      touched = omega (arith, c.store_four.ensures.count, c.loop-part.invariant.touched);
    }

pub returns-clause-view : goal.returns-clause-view
returns-clause-view c =
    let view = seat_sight c.args.self.now in
    let kept = c.args.self.now.kept in
    let row = c.args.row.0 in
    let old = row_at view.known.writer_state.words row in
    let there : row < length (with_empty c.args.self.now.table.size.rows c.args.self.now.words.items) = omega (arith, c.requires.row, kept.rows) in
    let wide : length old ≡ 32 = ap (λ (l : List (List ℕ)). length (row_at l row)) kept.words_are ∙ kept.wide row there in
    let place : 4 * c.loop-part.part ≡ 32 = omega (arith, c.loop-part-test.false, c.loop-part.auto.part-end) in
    c.loop-part.invariant.view
    ∙ ap (fill_at view row) (blend_all (4 * c.loop-part.part) c.args.words.now old (omega (arith, place, c.told-words)) (omega (arith, place, wide)))
