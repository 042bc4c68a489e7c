-- For `in_order`: its goals.
use Rattle.std.proofs.Common.{List, [], ◌∷◌, ◌++◌, All, sym, subst, arith}
use Rattle.std.proofs.lemmas.List.Elements.{All-nil, All-push}
use Rattle.std.specs.Vec.Iter.{into_iter_items}
use Rattle.history.specs.declared.items.Item.{Item}
use Rattle.history.proofs.Sorts.{Small}
use Rattle.history.proofs.Merging.{one_more_read}
use Rattle.history.proofs.Regrouping.{Halfway, halfway_start, halfway_read, halfway_call, halfway_end, one_at}
use Rattle.history.proofs.labelling.in_order.Goals as goal

pub loop-item-init : goal.loop-item-init
loop-item-init c =
    let left : List Item = into_iter_items c.into_iter-item-iterator.result in
    record {
      all = c.into_iter-item-iterator.ensures.into_iter_gives.0;
      half = subst (λ (l : List Item). Halfway [] left l c.new-reads.result.items) (sym c.in_ok-done.ensures.items)
          (subst (λ (l : List Item). Halfway [] left [] l) (sym c.new-reads.ensures.items) (halfway_start left));
      small = subst (λ (l : List Item). All Small l) (sym c.new-reads.ensures.items) (All-nil Small);
    }

pub loop-item-preserved : goal.loop-item-preserved
loop-item-preserved c =
    let rest : List Item = into_iter_items c.next.new.self in
    record {
      all = one_more_read c.loop-item.yielded _ rest c.args.items.items c.in-Some.item c.loop-item.invariant.all c.in-Some.ensures.steps.0;
      half = subst (λ (l : List Item). Halfway (c.loop-item.yielded ++ c.in-Some.item ∷ []) rest c.loop-item.done.items l)
          (sym c.in_ok-push-2.ensures.items)
          (halfway_read c.loop-item.yielded _ rest c.loop-item.done.items c.loop-item.reads.items c.in-Some.item c.in-Some.ensures.steps.0
          c.loop-item.invariant.half
          (sym c.if-is_call.ensures));
      small = subst (λ (l : List Item). All Small l) (sym c.in_ok-push-2.ensures.items)
          (All-push Small c.loop-item.reads.items c.in-Some.item c.loop-item.invariant.small
          (one_at Small c.loop-item.yielded _ rest c.args.items.items c.in-Some.item c.loop-item.invariant.all c.in-Some.ensures.steps.0
          c.requires.callers));
    }

pub loop-item-preserved-in-Continue-branch-3 : goal.loop-item-preserved-in-Continue-branch-3
loop-item-preserved-in-Continue-branch-3 c =
    let rest : List Item = into_iter_items c.next.new.self in
    record {
      all = one_more_read c.loop-item.yielded _ rest c.args.items.items c.in-Some.item c.loop-item.invariant.all c.in-Some.ensures.steps.0;
      half = subst (λ (l : List Item). Halfway (c.loop-item.yielded ++ c.in-Some.item ∷ []) rest c.push.new.self.items l)
          (sym c.in_ok-push_reads.ensures.reads)
          (halfway_call c.args.items.items c.loop-item.yielded _ rest c.loop-item.done.items c.loop-item.reads.items c.push_reads.new.done.items
          c.push.new.self.items
          c.in-Some.item c.requires.time c.loop-item.invariant.all c.in-Some.ensures.steps.0 c.loop-item.invariant.half (sym c.if-is_call.ensures)
          c.in_ok-push_reads.ensures.done c.in_ok-push.ensures.items);
      small = subst (λ (l : List Item). All Small l) (sym c.in_ok-push_reads.ensures.reads) (All-nil Small);
    }

pub returns-clause-order : goal.returns-clause-order
returns-clause-order c =
    halfway_end c.args.items.items c.loop-item.yielded _ c.loop-item.done.items c.loop-item.reads.items c.push_reads-2.new.done.items
    c.loop-item.invariant.all
    (omega (arith, c.loop-item.item-iterator.rest.ok.0, c.in-None.ensures.steps.0)) c.loop-item.invariant.half c.in_ok-push_reads-2.ensures.done
