-- For `AreaStore::detach_all`: the slot of one area more is let go, and at last the tree loses all of them.
use Rattle.std.proofs.Common.{◌-◌, length, subst, sym, arith}
use Rattle.std.proofs.lemmas.List.{drop_all}
use Rattle.mm_state.proofs.Running.{never_other}
use Rattle.mm_state.proofs.LettingGo.{IsLettingGo, none_gone, next_there, next_taken, next_below, next_gone, can_remove, detached_all}
use Rattle.mm_state.proofs.store.AreaStore.detach_all.Goals as goal

pub loop-left-init : goal.loop-left-init
loop-left-init g c = record {
  within = omega arith;
  going = subst (λ done. IsLettingGo c.args.self.now c.args.self.now done c.args.tree) (sym (drop_all (length c.args.changes.now) c.args.changes.now (omega arith)))
      (none_gone c.args.self.now c.args.tree c.requires.can);
}

pub unreachable-requires : goal.unreachable-requires
unreachable-requires g c = never_other c.args.span.lo c.args.span.hi c.args.changes.now (c.loop-left.left - 1) _ c.requires.run
    (omega (arith, c.loop-left.invariant.within)) c.in_default.not-Detach

pub slot_of-slot-requires : goal.slot_of-slot-requires
slot_of-slot-requires g c = next_there c.args.self.now c.loop-left.self c.args.changes.now (c.loop-left.left - 1) c.loop-left.left _ c.in-Detach.old
    c.args.span.lo c.args.span.hi c.args.tree c.loop-left.invariant.going c.requires.olds c.requires.run (omega (arith, c.loop-left.invariant.within)) c.in-Detach.is

pub let_go-requires-clause-slot : goal.let_go-requires-clause-slot
let_go-requires-clause-slot g c = next_below c.args.self.now c.loop-left.self c.args.changes.now (c.loop-left.left - 1) c.loop-left.left _ c.slot_of-slot.result.0
    c.in-Detach.old c.args.span.lo c.args.span.hi _ c.args.tree c.loop-left.invariant.going c.facts.ensures.rise c.requires.run
    (omega (arith, c.loop-left.invariant.within)) (omega arith) c.in-Detach.is c.slot_of-slot.ensures c.requires.can

pub let_go-requires-clause-taken : goal.let_go-requires-clause-taken
let_go-requires-clause-taken g c = next_taken c.args.self.now c.loop-left.self c.args.changes.now (c.loop-left.left - 1) c.loop-left.left _ c.slot_of-slot.result.0
    c.in-Detach.old c.args.span.lo c.args.span.hi _ c.args.tree c.loop-left.invariant.going c.facts.ensures.rise c.requires.run
    (omega (arith, c.loop-left.invariant.within)) (omega arith) c.in-Detach.is c.slot_of-slot.ensures

pub loop-left-preserved : goal.loop-left-preserved
loop-left-preserved g c = record {
  within = omega (arith, c.loop-left.invariant.within);
  going = next_gone c.args.self.now c.loop-left.self c.args.changes.now (c.loop-left.left - 1) c.loop-left.left _ c.slot_of-slot.result.0
      c.in-Detach.old c.args.span.lo c.args.span.hi _ c.args.tree c.loop-left.invariant.going c.facts.ensures.rise c.requires.run
      (omega (arith, c.loop-left.invariant.within)) (omega arith) c.in-Detach.is c.slot_of-slot.ensures c.let_go.new.self c.let_go.ensures;
}

pub remove_all-requires-clause-areas : goal.remove_all-requires-clause-areas
remove_all-requires-clause-areas g c = can_remove c.args.self.now c.loop-left.self c.args.changes.now c.loop-left.left c.args.span.lo c.args.span.hi _ c.args.tree
    c.loop-left.invariant.going c.facts.ensures.rise c.requires.run c.requires.some c.loop-left-test.false

pub returns : goal.returns
returns g c = detached_all c.args.self.now c.loop-left.self c.args.changes.now c.loop-left.left c.args.span.lo c.args.span.hi _ c.args.tree
    c.loop-left.invariant.going c.facts.ensures.rise c.requires.run c.requires.some c.loop-left-test.false _ c.remove_all.ensures.same c.remove_all.ensures.shown
