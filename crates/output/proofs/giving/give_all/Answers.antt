-- The proof of `give_all`: one piece more of the text, or none.
use Rattle.std.proofs.Common.{◌∙◌, ap, Err, arith}
use Rattle.output.specs.declared.giving.TheConstants.{MOST_GIVEN}
use Rattle.output.proofs.GivenTexts.{appends_more, within_more}
use Rattle.output.proofs.Pieces.{cut_failed, cut_wanted}
use Rattle.output.proofs.giving.give_all.Goals as goal

pub loop-given-preserved : goal.loop-given-preserved
loop-given-preserved g c = record {
  gave = record {
    moved = appends_more c.args.text.now c.loop-given.given c.in-Ok.count MOST_GIVEN c.front.result.now _ (g.K.Sink.seen c.loop-given.sink).written _
        c.front.ensures c.in-Ok.ensures.bound c.loop-given.invariant.gave.moved c.in-Ok.ensures.bytes;
    calm = c.in-Ok.ensures.cause.ok ∙ c.loop-given.invariant.gave.calm;
  };
  within = within_more c.args.text.now c.loop-given.given c.in-Ok.count MOST_GIVEN c.front.result.now c.front.ensures c.in-Ok.ensures.bound
      c.loop-given.invariant.within;
}

pub returns-in-Err-Failed : goal.returns-in-Err-Failed
returns-in-Err-Failed g c =
    let once = c.in-Err-Failed.ensures.cause.failed (ap Err c.in-Err-Failed.field-0-is) in
    let calm = c.loop-given.invariant.gave.calm in
    cut_failed (g.K.Sink.seen c.args.sink.now) (g.K.Sink.seen c.loop-given.sink) (g.K.Sink.seen c.give.new.self) c.args.text.now c.loop-given.given
    c.loop-given.invariant.gave c.in-Err-Failed.ensures.bytes c.loop-given-test.true (omega (arith, once, calm, c.requires))
    (c.in-Err-Failed.ensures.told.failed (ap Err c.in-Err-Failed.field-0-is))

pub returns-in-Err-NoMemory : goal.returns-in-Err-NoMemory
returns-in-Err-NoMemory g c =
    cut_wanted (g.K.Sink.seen c.args.sink.now) (g.K.Sink.seen c.loop-given.sink) (g.K.Sink.seen c.give.new.self) c.args.text.now c.loop-given.given
    c.loop-given.invariant.gave c.in-Err-NoMemory.ensures.bytes (c.in-Err-NoMemory.ensures.cause.no_memory (ap Err c.in-Err-NoMemory.field-0-is))
