-- For `AreaStore::change_all`: one change more, from the last on, or a run of them.
use Rattle.std.proofs.Common.{◌-◌, ◌<◌, length, List, drop, subst, sym, arith}
use Rattle.std.proofs.lemmas.List.{drop_all}
use Rattle.split_merge.specs.declared.plan.Change.{Change}
use Rattle.mm_state.specs.Internal.AreaStores.{IsChanging}
use Rattle.mm_state.proofs.Carrying.{can_change, free_left, room_left, left_there, in_tree, drop_one}
use Rattle.mm_state.proofs.Changing.{change_step, none_changed}
use Rattle.mm_state.proofs.Running.{part_rest}
use Rattle.mm_state.proofs.LettingGo.{part_in_tree, part_step}
use Rattle.mm_state.proofs.store.AreaStore.change_all.Goals as goal

pub loop-left-init : goal.loop-left-init
loop-left-init g c = record {
  within = omega arith;
  changing = subst (λ (done : List Change). IsChanging c.args.self.now c.args.self.now done c.args.tree) (sym (drop_all (length c.args.changes.now) c.args.changes.now (omega arith)))
      (none_changed c.args.self.now c.args.tree c.requires.can.table c.requires.can.hangs c.requires.moved c.requires.leaving
      c.facts.ensures.rise);
}

pub change-requires-clause-can : goal.change-requires-clause-can
change-requires-clause-can g c = can_change c.args.self.now c.loop-left.self (drop c.loop-left.left c.args.changes.now) c.args.tree c.requires.can c.loop-left.invariant.changing

pub change-requires-clause-old : goal.change-requires-clause-old
change-requires-clause-old g c = in_tree c.args.self.now c.loop-left.self c.args.changes.now (c.loop-left.left - 1) c.loop-left.left _ c.args.tree
    c.loop-left.invariant.changing c.requires.plan (omega (arith, c.loop-left.invariant.within)) (omega arith)

pub change-requires-clause-free : goal.change-requires-clause-free
change-requires-clause-free g c = free_left c.args.self.now c.loop-left.self c.args.changes.now (c.loop-left.left - 1) c.loop-left.left _ c.args.tree
    c.loop-left.invariant.changing (omega (arith, c.loop-left.invariant.within)) (omega arith) c.requires.free

pub change-requires-clause-room : goal.change-requires-clause-room
change-requires-clause-room g c = room_left c.args.self.now c.loop-left.self c.args.changes.now (c.loop-left.left - 1) c.loop-left.left _ c.args.tree
    c.loop-left.invariant.changing (omega (arith, c.loop-left.invariant.within)) (omega arith) c.requires.room

pub detach_all-requires-clause-olds : goal.detach_all-requires-clause-olds
detach_all-requires-clause-olds g c = part_in_tree c.args.self.now c.loop-left.self c.args.changes.now _ c.run_before-run.result.first c.loop-left.left c.args.tree
    c.loop-left.invariant.changing c.requires.plan
    (part_rest c.args.changes.now c.run_before-run.result.first c.loop-left.left c.run_before-run.ensures.first c.loop-left.invariant.within)

pub loop-left-preserved-then-left-run-gt1 : goal.loop-left-preserved-then-left-run-gt1
loop-left-preserved-then-left-run-gt1 g c = record {
  within = omega (arith, c.run_before-run.ensures.first, c.loop-left.invariant.within);
  changing = part_step c.args.self.now c.loop-left.self c.detach_all.new.self c.args.changes.now _ c.run_before-run.result.first c.loop-left.left c.args.tree
      c.loop-left.invariant.changing c.requires.plan c.requires.sane
      (part_rest c.args.changes.now c.run_before-run.result.first c.loop-left.left c.run_before-run.ensures.first c.loop-left.invariant.within)
      c.detach_all.ensures;
}

pub loop-left-preserved : goal.loop-left-preserved
loop-left-preserved g c =
    let within : c.loop-left.left - 1 < length c.args.changes.now = omega (arith, c.loop-left.invariant.within) in
    record {
      within = omega (arith, c.loop-left.invariant.within);
      changing = subst (λ (done : List Change). IsChanging c.args.self.now c.change.new.self done c.args.tree)
          (drop_one c.args.changes.now (c.loop-left.left - 1) c.loop-left.left _ within (omega arith))
          (change_step c.args.self.now c.loop-left.self c.change.new.self (drop c.loop-left.left c.args.changes.now) c.args.tree _ c.loop-left.invariant.changing
          (left_there c.args.self.now c.loop-left.self c.args.changes.now (c.loop-left.left - 1) c.loop-left.left _ c.args.tree
          c.loop-left.invariant.changing c.requires.plan within (omega arith))
          (c.requires.sane (c.loop-left.left - 1) _ within) c.change.ensures);
    }
