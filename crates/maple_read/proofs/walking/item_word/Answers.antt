-- For `item_word`: what the last place that is read says.
use Rattle.std.proofs.Common.{◌+◌, arith}
use Rattle.node_slots.specs.Seats.{node_view}
use Rattle.maple_read.proofs.Reading.{passed-more, answers-past, answers-none, answers-some}
use Rattle.maple_read.proofs.walking.item_word.Goals as goal

pub returns-then-end-eq0-clause-word : goal.returns-then-end-eq0-clause-word
returns-then-end-eq0-clause-word c =
    (answers-none (node_view c.args.seat.now) (node_view c.loop-place.seat) (node_view c.word-end.new.seat) c.args.leaf c.args.page.0 c.args.row.0 c.loop-place.place
    c.word-end.result c.requires.node c.loop-place.invariant.passed (omega (arith, c.loop-place-test.true, c.width_of-width.ensures))
    c.word-end.ensures.word c.if-end-eq0.true c.word-end.ensures.view).word

pub returns-then-end-eq0-clause-view : goal.returns-then-end-eq0-clause-view
returns-then-end-eq0-clause-view c =
    (answers-none (node_view c.args.seat.now) (node_view c.loop-place.seat) (node_view c.word-end.new.seat) c.args.leaf c.args.page.0 c.args.row.0 c.loop-place.place
    c.word-end.result c.requires.node c.loop-place.invariant.passed (omega (arith, c.loop-place-test.true, c.width_of-width.ensures))
    c.word-end.ensures.word c.if-end-eq0.true c.word-end.ensures.view).view

pub returns-then-page-end-clause-word : goal.returns-then-page-end-clause-word
returns-then-page-end-clause-word c =
    (answers-some (node_view c.args.seat.now) (node_view c.loop-place.seat) (node_view c.word-end.new.seat) (node_view c.word.new.seat) c.args.leaf c.args.page.0
    c.args.row.0 c.loop-place.place c.word-end.result c.word.result c.requires.node c.loop-place.invariant.passed
    (omega (arith, c.loop-place-test.true, c.width_of-width.ensures)) c.word-end.ensures.word c.if-page-end.true c.word-end.ensures.view
    c.word.ensures.word c.word.ensures.view).word

pub returns-then-page-end-clause-view : goal.returns-then-page-end-clause-view
returns-then-page-end-clause-view c =
    (answers-some (node_view c.args.seat.now) (node_view c.loop-place.seat) (node_view c.word-end.new.seat) (node_view c.word.new.seat) c.args.leaf c.args.page.0
    c.args.row.0 c.loop-place.place c.word-end.result c.word.result c.requires.node c.loop-place.invariant.passed
    (omega (arith, c.loop-place-test.true, c.width_of-width.ensures)) c.word-end.ensures.word c.if-page-end.true c.word-end.ensures.view
    c.word.ensures.word c.word.ensures.view).view

pub loop-place-preserved : goal.loop-place-preserved
loop-place-preserved c = record {
  table = c.word-end.ensures.table;
  passed = passed-more (node_view c.args.seat.now) (node_view c.loop-place.seat) (node_view c.word-end.new.seat) c.args.leaf c.args.page.0 c.args.row.0
      c.loop-place.place c.word-end.result (c.loop-place.place + c.width_of-width.result) c.requires.node c.loop-place.invariant.passed
      (omega (arith, c.loop-place-test.true, c.width_of-width.ensures)) c.word-end.ensures.word c.if-end-eq0.false c.if-page-end.false
      c.word-end.ensures.view (omega (arith, c.width_of-width.ensures));
}

pub returns-clause-word : goal.returns-clause-word
returns-clause-word c =
    (answers-past (node_view c.args.seat.now) (node_view c.loop-place.seat) c.args.leaf c.args.page.0 c.args.row.0 c.loop-place.place c.requires.node
    c.loop-place.invariant.passed (omega (arith, c.loop-place-test.false, c.width_of-width.ensures))).word

pub returns-clause-view : goal.returns-clause-view
returns-clause-view c =
    (answers-past (node_view c.args.seat.now) (node_view c.loop-place.seat) c.args.leaf c.args.page.0 c.args.row.0 c.loop-place.place c.requires.node
    c.loop-place.invariant.passed (omega (arith, c.loop-place-test.false, c.width_of-width.ensures))).view
