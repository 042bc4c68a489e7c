-- For `merged`: its goals.
use Rattle.std.proofs.Common.{List, [], arith, sym, subst}
use Rattle.std.specs.Vec.Iter.{into_iter_items}
use Rattle.history.specs.declared.items.Item.{Item}
use Rattle.history.proofs.Merging.{Merged, merge_start, merge_more, one_more_read, merge_done}
use Rattle.history.proofs.gathering.merged.Goals as goal

pub loop-read-init : goal.loop-read-init
loop-read-init c = record {
  all = c.into_iter-read-iterator.ensures.into_iter_gives.0;
  merged = subst (λ (l : List Item). Merged c.args.journal.now [] (into_iter_items c.into_iter-read-iterator.result) l 0)
      (sym c.in_ok-items.ensures.items)
      (merge_start c.args.journal.now (into_iter_items c.into_iter-read-iterator.result));
}

pub loop-read-preserved : goal.loop-read-preserved
loop-read-preserved c = record {
  all = one_more_read c.loop-read.yielded _ _ c.args.reads.items c.in-Some.read c.loop-read.invariant.all c.in-Some.ensures.steps.0;
  merged =
      merge_more c.args.journal.now c.loop-read.yielded _ _ c.args.reads.items c.loop-read.items.items c.push_entries.new.items.items
      c.push.new.self.items
      c.in-Some.read c.loop-read.next c.min-upto.result c.requires c.loop-read.invariant.all c.in-Some.ensures.steps.0 c.loop-read.invariant.merged
      (omega arith)
      c.in_ok-push_entries.ensures c.in_ok-push.ensures.items;
}

pub returns : goal.returns
returns c =
    merge_done c.args.journal.now c.loop-read.yielded _ c.args.reads.items c.loop-read.items.items c.push_entries-2.new.items.items c.loop-read.next
    c.loop-read.invariant.all
    (omega (arith, c.loop-read.read-iterator.rest.ok.0, c.in-None.ensures.steps.0)) c.loop-read.invariant.merged c.in_ok-push_entries-2.ensures
