-- For `scan_pins`: one pin more.
use Rattle.std.proofs.Common.{ℕ, ◌≡◌, ◌∙◌, List, [], ◌∷◌, ◌++◌, length, sym, ap, arith}
use Rattle.std.proofs.lemmas.List.{length_push}
use Rattle.node_slots.specs.declared.view.NodeView.{NodeView}
use Rattle.node_slots.specs.Views.{scan_at, scan_from}
use Rattle.node_slots.specs.Seats.{seat_sight}
use Rattle.node_slots.proofs.Filling.{scan_more}
use Rattle.node_slots.proofs.seats.NodeTable.scan_pins.Goals as goal

pub loop-reader-preserved : goal.loop-reader-preserved
loop-reader-preserved c =
    let before = c.loop-reader.invariant.view in
    let pins : List ℕ = before.0 in
    let found = c.scan_pin.result in
    let view = seat_sight c.args.seat.now in
    let count : length pins ≡ c.loop-reader.reader = before.1 in
    record {
      table = c.scan_pin.ensures.table;
      view = (
        pins ++ found ∷ [],
        omega (arith, length_push pins found, count),
        c.scan_pin.ensures.view ∙ ap (λ (v : NodeView). scan_at v c.loop-reader.reader found) before.2
            ∙ ap (λ n. scan_at (scan_from 0 pins view) n found) (omega (arith, count)) ∙ sym (scan_more 0 pins found view),
      );
      same = c.scan_pin.ensures.same ∙ c.loop-reader.invariant.same;
      words = c.scan_pin.ensures.words ∙ c.loop-reader.invariant.words;
    }
