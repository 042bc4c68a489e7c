-- The proof of `print_items`: before the first item, at the next, and after the last.
use Rattle.std.proofs.Common.{refl, []}
use Rattle.output.specs.Output.{item_text}
use Rattle.output.proofs.Pieces.{at_error, cut_at, cut_none, prints_as, prints_none, prints_then}
use Rattle.output.proofs.Telling.{told_all, told_answers, told_next, told_none}
use Rattle.output.proofs.printing.print_items.Goals as goal

pub loop-item-init : goal.loop-item-init
loop-item-init g c = ([], prints_none _ _ c.requires.held, told_none _ _ _ _ _ c.in_ok-answered.ensures refl)

pub next-line-requires : goal.next-line-requires
next-line-requires g c = told_answers (item_text c.args.files.now) c.args.lines.now c.args.items.now c.loop-item.item-index c.loop-item.answered
    c.loop-item.invariant.0 c.item-item.result c.loop-item.invariant.2 c.requires.legal c.loop-item-test.true c.item-item.is

pub loop-item-preserved : goal.loop-item-preserved
loop-item-preserved g c = (
  _,
  prints_then _ _ _ _ _ _ _ _ c.loop-item.invariant.1 c.in_ok-print_item.ensures.printing,
  told_next (item_text c.args.files.now) c.args.lines.now c.args.items.now c.loop-item.item-index c.loop-item.answered _
      c.loop-item.invariant.0 _ c.item-item.result c.next-line.result.now c.loop-item.invariant.2 c.loop-item-test.true c.item-item.is
      c.next-line.ensures refl,
)

pub returns-in_err-answered : goal.returns-in_err-answered
returns-in_err-answered g c = at_error _ _ _ _ c.from_residual.ensures.1 (cut_none _ _ _ _ refl)

pub returns-in_err-print_item : goal.returns-in_err-print_item
returns-in_err-print_item g c =
    let told = told_next (item_text c.args.files.now) c.args.lines.now c.args.items.now c.loop-item.item-index c.loop-item.answered _
    c.loop-item.invariant.0 _ c.item-item.result c.next-line.result.now c.loop-item.invariant.2 c.loop-item-test.true c.item-item.is
    c.next-line.ensures refl in
    at_error _ _ _ _ c.from_residual-in_err-print_item.ensures.1
    (cut_at _ _ _ _ _ _ _ _ _ _ c.loop-item.invariant.1 told.told c.in_err-print_item.ensures.printing)

pub returns : goal.returns
returns g c = prints_as _ _ _ _ _ _ (told_all _ _ _ _ _ _ c.loop-item.invariant.2 c.loop-item-test.false) c.loop-item.invariant.1
