-- For `is_in_order`: its goals.
use Rattle.std.proofs.Common.{List, subst, refl, arith, All}
use Rattle.std.proofs.lemmas.Bool.{false≢true}
use Rattle.std.proofs.lemmas.List.{take_all}
use Rattle.mm_types.proofs.Sorting.{Rises}
use Rattle.mm_types.specs.declared.call.Seen.{Seen}
use Rattle.area_rules.specs.Journals.{version_of}
use Rattle.history.proofs.Orders.{rises_more, falls_no_later, log_in_order, log_rises}
use Rattle.history.proofs.gathering.is_in_order.Goals as goal

pub loop-read-preserved : goal.loop-read-preserved
loop-read-preserved c =
    let more = rises_more version_of c.args.log.now c.loop-read.read-index c.read-item.result c.loop-read.last c.version_of-now.result
    c.loop-read.invariant.rises c.loop-read.invariant.low c.read-item.is c.version_of-now.ensures c.if-now-last.false c.loop-read-test.true in
    record {
      rises = more.0;
      low = more.1;
      later = λ all. (falls_no_later c.args.log.now c.loop-read.read-index c.read-item.result c.loop-read.last c.version_of-now.result
          c.loop-read.invariant.later c.read-item.is c.version_of-now.ensures c.loop-read-test.true all).1;
    }

pub returns-then-now-last : goal.returns-then-now-last
returns-then-now-last c = (
  λ wrong. absurd (false≢true wrong),
  λ pairs. absurd (
      let up = (falls_no_later c.args.log.now c.loop-read.read-index c.read-item.result c.loop-read.last c.version_of-now.result
      c.loop-read.invariant.later c.read-item.is c.version_of-now.ensures c.loop-read-test.true
      (log_rises 0 c.args.log.now (λ k d within. omega arith) pairs)).0 in omega (arith, up, c.if-now-last.true)),
)

pub returns : goal.returns
returns c = (
  λ right. log_in_order c.args.log.now
      (subst (λ (l : List Seen). Rises version_of 0 l) (take_all c.loop-read.read-index c.args.log.now c.loop-read-test.false) c.loop-read.invariant.rises),
  λ pairs. refl,
)
