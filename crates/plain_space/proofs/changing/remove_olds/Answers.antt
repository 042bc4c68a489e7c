-- For `remove_olds` of changing.rt: its goals.
use Rattle.std.proofs.Common.{◌-◌, drop, subst, sym, ◌∙◌, arith}
use Rattle.split_merge.specs.Plans.{olds_of}
use Rattle.split_merge.specs.Sorted.{BeginsAscend}
use Rattle.plain_space.specs.Internal.Chunks.{areas_in_chunks}
use Rattle.split_merge.proofs.Going.{ascend_without}
use Rattle.split_merge.proofs.Leaving.{there_in, gone_in}
use Rattle.plain_space.proofs.changing.remove_olds.Goals as goal

pub remove_old-requires-clause-ascend : goal.remove_old-requires-clause-ascend
remove_old-requires-clause-ascend c = subst BeginsAscend (sym c.loop-left.invariant.gone)
    (ascend_without (olds_of (drop c.loop-left.left c.args.changes.now)) (areas_in_chunks c.args.store.now.chunks.items) c.requires.ascend)

pub remove_old-requires-clause-member : goal.remove_old-requires-clause-member
remove_old-requires-clause-member c = there_in (areas_in_chunks c.args.store.now.chunks.items) (areas_in_chunks c.loop-left.store.chunks.items) c.args.changes.now
    (c.loop-left.left - 1) c.loop-left.left _
    c.requires.ascend c.requires.members c.requires.distinct (omega (arith, c.loop-left.invariant.within)) (omega arith) c.loop-left.invariant.gone

pub loop-left-preserved : goal.loop-left-preserved
loop-left-preserved c = record {
  within = omega (arith, c.loop-left.invariant.within);
  sane = c.remove_old.ensures.stays.sane;
  room = c.remove_old.ensures.stays.room ∙ c.loop-left.invariant.room;
  gone = gone_in (areas_in_chunks c.args.store.now.chunks.items) (areas_in_chunks c.loop-left.store.chunks.items) (areas_in_chunks c.remove_old.new.store.chunks.items)
      c.args.changes.now (c.loop-left.left - 1) c.loop-left.left _
      (omega (arith, c.loop-left.invariant.within)) (omega arith) c.loop-left.invariant.gone c.remove_old.ensures.areas;
}
