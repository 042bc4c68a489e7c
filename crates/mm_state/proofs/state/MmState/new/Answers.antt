-- For `MmState::new`: no call was made.
use Rattle.std.proofs.Common.{List, length, subst, sym, ap, ◌∙◌, arith}
use Rattle.mm_types.specs.declared.area.Record.{Record}
use Rattle.area_rules.specs.Steps.{IsLegalJournal}
use Rattle.split_merge.specs.Plans.{PlanView, IsPlannedFor}
use Rattle.vma_lock.specs.declared.view.View.{View}
use Rattle.vma_lock.specs.Seats.{lock_sight, journal}
use Rattle.area_tree.specs.AreaTrees.{areas_of}
use Rattle.mm_state.proofs.Entering.{legal_nil, opening_space, kept_nil}
use Rattle.mm_state.proofs.state.MmState.new.Goals as goal

pub invariant_of-result : goal.invariant_of-result
invariant_of-result c =
    let store = c.in_ok-store.ensures in
    let opened = c.requires.fresh.1 in
    let none = c.in_ok-journal.ensures.items in
    let plan = c.in_ok-plan.ensures in
    let areas = c.in_ok-store.store.areas in
    record {
      rest = store.rest;
      turn = ap (λ w. (lock_sight w).turn) store.writer.0 ∙ ap (λ (v : View). v.turn) opened;
      settings = store.writer.1 ∙ ap (λ (v : View). v.config) opened;
      valid = c.requires.config;
      journal = ap journal store.writer.0 ∙ ap (λ (v : View). v.seen) opened ∙ sym none;
      legal = subst (IsLegalJournal c.args.config) (sym none) (legal_nil c.args.config);
      space = opening_space c.args.config (areas_of areas) c.opening-counters.result c.in_ok-journal.journal.items store.none c.opening-counters.ensures none;
      bounds = store.bounds.0;
      most = store.bounds.1;
      kept = subst (λ (list : List Record). IsPlannedFor areas.bounds areas.tree.areas list) (sym store.none) (kept_nil areas.bounds areas.tree.areas);
      fresh = record { empty = ap (λ (p : PlanView). p.changes) plan; room = omega (arith, ap (λ (p : PlanView). p.room) plan) };
      room = omega (arith, ap length none);
      entries = c.requires.entries;
      reserved = c.in_ok-journal.ensures.exact;
    }
