-- For `MmState::apply`: the plan makes the list after the entry, and the state is kept.
use Rattle.std.proofs.Common.{◌<◌, length, List, refl, subst, sym, arith}
use Rattle.mm_types.specs.declared.call.Entry.{Entry}
use Rattle.split_merge.specs.declared.plan.Change.{Change}
use Rattle.area_tree.specs.AreaTrees.{areas_of}
use Rattle.mm_state.specs.declared.state.MmState.TheInside.{Inside}
use Rattle.mm_state.specs.Internal.AreaStores.{IsEntered, IsCarriedOut}
use Rattle.mm_state.specs.Kept.{state_of}
use Rattle.mm_state.specs.States.{StateView, Enters}
use Rattle.mm_state.proofs.Entering.{ready_now}
use Rattle.mm_state.proofs.Made.{IsMade, may_enter, state_made, call_entered}
use Rattle.mm_state.proofs.state.MmState.apply.Goals as goal

pub plan_call-called-requires-clause-ready : goal.plan_call-called-requires-clause-ready
plan_call-called-requires-clause-ready g c =
    let s = c.self.inside in
    let i = c.self.invariant in
    ready_now s.config s.journal.items (areas_of s.store.areas) s.counters i.valid (omega (arith, i.room, i.entries)) i.space

pub plan_call-called-requires-clause-prepared : goal.plan_call-called-requires-clause-prepared
plan_call-called-requires-clause-prepared g c =
    let i = c.self.invariant in
    record { numbers = i.bounds; allowed = i.most; fresh = i.fresh }

pub enter-requires-clause-plan : goal.enter-requires-clause-plan
enter-requires-clause-plan g c =
    let s = c.self.inside in
    let entry : Entry = record { caller = c.caller.result; call = c.args.call.now; reply = c.plan_call-called.result.reply } in
    subst (λ (changes : List Change). IsEntered s.store changes entry) (sym c.changes.ensures)
    (may_enter s entry c.plan_call-called.result c.plan_call-called.new.plan record {
      state = c.self.invariant;
      spare = subst (λ (v : StateView). length v.journal < v.room) (sym c.self.view_is) c.requires.room;
      reply = refl;
      planned = c.plan_call-called.ensures.planned;
    })

pub invariant_of-self : goal.invariant_of-self
invariant_of-self g c =
    let s = c.self.inside in
    let entry : Entry = record { caller = c.caller.result; call = c.args.call.now; reply = c.plan_call-called.result.reply } in
    state_made s (record s { store = c.enter.new.self; counters = c.plan_call-called.result.counters; plan = c.clear.new.self; journal = c.push_reserved.new.self }) entry
    c.plan_call-called.result c.plan_call-called.new.plan record {
      asked = record {
        state = c.self.invariant;
        spare = subst (λ (v : StateView). length v.journal < v.room) (sym c.self.view_is) c.requires.room;
        reply = refl;
        planned = c.plan_call-called.ensures.planned;
      };
      rest = c.enter.ensures.rest;
      turn = c.enter.ensures.turn;
      table = c.enter.ensures.table.0;
      done = subst (λ (changes : List Change). IsCarriedOut s.store c.enter.new.self changes entry) c.changes.ensures c.enter.ensures.done;
      counters = refl;
      pushed = c.push_reserved.ensures.items;
      capacity = c.push_reserved.ensures.capacity;
      cleared = c.clear.ensures;
    }

pub returns-clause-enters : goal.returns-clause-enters
returns-clause-enters g c =
    let s = c.self.inside in
    let entry : Entry = record { caller = c.caller.result; call = c.args.call.now; reply = c.plan_call-called.result.reply } in
    let new : Inside = record s { store = c.enter.new.self; counters = c.plan_call-called.result.counters; plan = c.clear.new.self; journal = c.push_reserved.new.self } in
    let made : IsMade s new entry c.plan_call-called.result c.plan_call-called.new.plan = record {
      asked = record {
        state = c.self.invariant;
        spare = subst (λ (v : StateView). length v.journal < v.room) (sym c.self.view_is) c.requires.room;
        reply = refl;
        planned = c.plan_call-called.ensures.planned;
      };
      rest = c.enter.ensures.rest;
      turn = c.enter.ensures.turn;
      table = c.enter.ensures.table.0;
      done = subst (λ (changes : List Change). IsCarriedOut s.store c.enter.new.self changes entry) c.changes.ensures c.enter.ensures.done;
      counters = refl;
      pushed = c.push_reserved.ensures.items;
      capacity = c.push_reserved.ensures.capacity;
      cleared = c.clear.ensures;
    } in
    let told = call_entered s new entry c.plan_call-called.result c.plan_call-called.new.plan made c.plan_call-called.ensures.touch in
    subst (λ n. Enters c.args.self.now (state_of new) n entry.call entry.reply) c.caller.ensures
    (subst (λ (v : StateView). Enters v (state_of new) entry.caller entry.call entry.reply) c.self.view_is told)
