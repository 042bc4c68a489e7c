-- For `walk`: each row on the way is that of the node that has the page, and the entry's word tells the slot.
use Rattle.std.proofs.Common.{◌+◌, refl, ◌∙◌, ap, sym, arith, Some, None}
use Rattle.std.specs.Option.{option_map}
use Rattle.mm_types.specs.declared.slot.Slot.{Slot}
use Rattle.node_slots.specs.declared.view.Size.{Size}
use Rattle.node_slots.specs.Seats.{node_view}
use Rattle.maple_read.proofs.Pairs.{slot_in-gap, slot_in-slot}
use Rattle.maple_read.proofs.Loaded.{walks-none, walks-node, walks-more, child_fits, entry_fits, ends-inner, ends-leaf}
use Rattle.maple_read.proofs.walking.walk.Goals as goal

pub loop-depth-init : goal.loop-depth-init
loop-depth-init c = record { table = c.requires.table; walks = walks-none (node_view c.args.seat.now) c.args.root c.args.page.0 c.requires.loaded }

pub item_word-requires-clause-table : goal.item_word-requires-clause-table
item_word-requires-clause-table c = c.loop-depth.invariant.table

pub item_word-requires-clause-node : goal.item_word-requires-clause-node
item_word-requires-clause-node c =
    walks-node (node_view c.args.seat.now) (node_view c.loop-depth.seat) c.args.root c.args.page.0 c.loop-depth._depth c.loop-depth.row.0 c.requires.loaded
    c.loop-depth.invariant.walks

pub returns-in_err-child-clause-slot : goal.returns-in_err-child-clause-slot
returns-in_err-child-clause-slot c = λ shown shows. ap (option_map (λ (slot : Slot). slot.0)) c.from_residual.ensures
    ∙ (ends-inner (node_view c.args.seat.now) (node_view c.loop-depth.seat) (node_view c.item_word.new.seat) c.args.root c.args.page.0 c.loop-depth._depth c.loop-depth.row.0
    c.requires.loaded c.loop-depth.invariant.walks c.loop-depth.auto._depth c.loop-depth-test.true c.in_err-child.ensures.word
    c.in_err-child.ensures.view).slot shown shows

pub returns-in_err-child-clause-view : goal.returns-in_err-child-clause-view
returns-in_err-child-clause-view c =
    (ends-inner (node_view c.args.seat.now) (node_view c.loop-depth.seat) (node_view c.item_word.new.seat) c.args.root c.args.page.0 c.loop-depth._depth c.loop-depth.row.0
    c.requires.loaded c.loop-depth.invariant.walks c.loop-depth.auto._depth c.loop-depth-test.true c.in_err-child.ensures.word
    c.in_err-child.ensures.view).view

pub overflow_cast-row : goal.overflow_cast-row
overflow_cast-row c =
    let fits = child_fits (node_view c.args.seat.now) (node_view c.loop-depth.seat) c.args.root c.args.page.0 c.loop-depth._depth c.loop-depth.row.0 c.in_ok-child.child
    c.requires.loaded c.loop-depth.invariant.walks c.loop-depth-test.true c.in_ok-child.ensures.word in
    omega (arith, fits, ap (λ (s : Size). s.rows) c.requires.table.size_is, c.args.nodes.now.sized.fits.few_rows)

pub loop-depth-preserved : goal.loop-depth-preserved
loop-depth-preserved c = record {
  table = c.item_word.ensures.table;
  walks = walks-more (node_view c.args.seat.now) (node_view c.loop-depth.seat) (node_view c.item_word.new.seat) c.args.root c.args.page.0 c.loop-depth._depth
      (c.loop-depth._depth + 1) c.loop-depth.row.0 c.in_ok-child.child c.in_ok-child.child c.loop-depth.invariant.walks c.loop-depth.auto._depth
      c.loop-depth-test.true refl c.in_ok-child.ensures.word refl c.in_ok-child.ensures.view;
}

pub item_word-requires-2-clause-table : goal.item_word-requires-2-clause-table
item_word-requires-2-clause-table c = c.loop-depth.invariant.table

pub item_word-requires-2-clause-node : goal.item_word-requires-2-clause-node
item_word-requires-2-clause-node c =
    walks-node (node_view c.args.seat.now) (node_view c.loop-depth.seat) c.args.root c.args.page.0 c.loop-depth._depth c.loop-depth.row.0 c.requires.loaded
    c.loop-depth.invariant.walks

pub returns-in_err-item_word-clause-slot : goal.returns-in_err-item_word-clause-slot
returns-in_err-item_word-clause-slot c = λ shown shows. ap (option_map (λ (slot : Slot). slot.0)) c.from_residual-in_err-item_word.ensures
    ∙ (ends-leaf (node_view c.args.seat.now) (node_view c.loop-depth.seat) (node_view c.item_word-2.new.seat) c.args.root c.args.page.0 c.loop-depth._depth c.loop-depth.row.0
    None None c.requires.loaded c.loop-depth.invariant.walks c.loop-depth-test.false c.loop-depth.auto._depth-end
    c.in_err-item_word.ensures.word c.in_err-item_word.ensures.view refl).slot shown shows

pub returns-in_err-item_word-clause-view : goal.returns-in_err-item_word-clause-view
returns-in_err-item_word-clause-view c =
    (ends-leaf (node_view c.args.seat.now) (node_view c.loop-depth.seat) (node_view c.item_word-2.new.seat) c.args.root c.args.page.0 c.loop-depth._depth c.loop-depth.row.0
    None None c.requires.loaded c.loop-depth.invariant.walks c.loop-depth-test.false c.loop-depth.auto._depth-end
    c.in_err-item_word.ensures.word c.in_err-item_word.ensures.view refl).view

pub returns-in_err-number-clause-slot : goal.returns-in_err-number-clause-slot
returns-in_err-number-clause-slot c = λ shown shows. ap (option_map (λ (slot : Slot). slot.0)) c.from_residual-in_err-number.ensures
    ∙ (ends-leaf (node_view c.args.seat.now) (node_view c.loop-depth.seat) (node_view c.item_word-2.new.seat) c.args.root c.args.page.0 c.loop-depth._depth c.loop-depth.row.0
    (Some c.in_ok-item_word.field-0) None c.requires.loaded c.loop-depth.invariant.walks c.loop-depth-test.false c.loop-depth.auto._depth-end
    c.in_ok-item_word.ensures.word c.in_ok-item_word.ensures.view
    (sym (slot_in-gap c.in_ok-item_word.field-0 c.in_err-number.ensures))).slot shown shows

pub returns-in_err-number-clause-view : goal.returns-in_err-number-clause-view
returns-in_err-number-clause-view c =
    (ends-leaf (node_view c.args.seat.now) (node_view c.loop-depth.seat) (node_view c.item_word-2.new.seat) c.args.root c.args.page.0 c.loop-depth._depth c.loop-depth.row.0
    (Some c.in_ok-item_word.field-0) None c.requires.loaded c.loop-depth.invariant.walks c.loop-depth-test.false c.loop-depth.auto._depth-end
    c.in_ok-item_word.ensures.word c.in_ok-item_word.ensures.view
    (sym (slot_in-gap c.in_ok-item_word.field-0 c.in_err-number.ensures))).view

pub overflow_cast-result : goal.overflow_cast-result
overflow_cast-result c =
    let fits = entry_fits (node_view c.args.seat.now) (node_view c.loop-depth.seat) c.args.root c.args.page.0 c.loop-depth._depth c.loop-depth.row.0
    c.in_ok-item_word.field-0 c.requires.loaded c.loop-depth.invariant.walks c.loop-depth-test.false c.in_ok-item_word.ensures.word in
    omega (arith, fits, c.in_ok-number.ensures.1, ap (λ (s : Size). s.slots) c.requires.table.size_is, c.args.nodes.now.sized.few_slots)

pub returns-clause-slot : goal.returns-clause-slot
returns-clause-slot c =
    (ends-leaf (node_view c.args.seat.now) (node_view c.loop-depth.seat) (node_view c.item_word-2.new.seat) c.args.root c.args.page.0 c.loop-depth._depth c.loop-depth.row.0
    (Some c.in_ok-item_word.field-0) (Some c.in_ok-number.number) c.requires.loaded c.loop-depth.invariant.walks c.loop-depth-test.false c.loop-depth.auto._depth-end
    c.in_ok-item_word.ensures.word c.in_ok-item_word.ensures.view
    (slot_in-slot c.in_ok-item_word.field-0 c.in_ok-number.number c.in_ok-number.ensures.0 c.in_ok-number.ensures.1)).slot

pub returns-clause-view : goal.returns-clause-view
returns-clause-view c =
    (ends-leaf (node_view c.args.seat.now) (node_view c.loop-depth.seat) (node_view c.item_word-2.new.seat) c.args.root c.args.page.0 c.loop-depth._depth c.loop-depth.row.0
    (Some c.in_ok-item_word.field-0) (Some c.in_ok-number.number) c.requires.loaded c.loop-depth.invariant.walks c.loop-depth-test.false c.loop-depth.auto._depth-end
    c.in_ok-item_word.ensures.word c.in_ok-item_word.ensures.view
    (slot_in-slot c.in_ok-item_word.field-0 c.in_ok-number.number c.in_ok-number.ensures.0 c.in_ok-number.ensures.1)).view
