-- A state keeps its facts, and an end is refused where its rows differ from the list: `LockState::end`.
use Rattle.std.proofs.Common.{◌∙◌, ◌++◌, ◌∷◌, [], refl, sym, ap, inl, map}
use Rattle.std.specs.Option.{option_map}
use Rattle.lock_core.specs.declared.events.StepRefusal.TheVariants.{NotTheList}
use Rattle.mm_types.specs.Packed.{packed}
use Rattle.lock_core.specs.Events.{entry_after}
use Rattle.lock_core.specs.Refusals.{first_difference}
use Rattle.lock_core.proofs.Ending.{mapped_none, kept_ready, ended_space, ended_valid, ended_short, kept_end, refusal_end, difference_is, list_difference_is}
use Rattle.lock_core.proofs.state.LockState.end.Goals as goal

pub model_step-requires : goal.model_step-requires
model_step-requires c = kept_ready c.self.inside c.self.invariant (rw (← c.self.view_is) at c.requires.room.entries)

pub list_refusal-requires : goal.list_refusal-requires
list_refusal-requires c =
    let stepped = c.in_ok-stepped.stepped in
    let journal = c.self.inside.protocol.journal in
    let entry = entry_after c.self.inside.config journal c.args.caller c.args.call in
    let made = ended_space c.self.inside c.args.caller c.args.call stepped.list stepped.counters stepped.reply c.self.invariant c.in_ok-stepped.ensures in
    rw c.items.ensures
    (ended_valid c.self.inside.config (journal ++ entry ∷ []) stepped.list stepped.counters c.self.invariant.valid
    (ended_short journal entry (rw (← c.self.view_is) at c.requires.room.entries)) made.1)

pub returns-in-Some : goal.returns-in-Some
returns-in-Some c =
    let stepped = c.in_ok-stepped.stepped in
    let made = ended_space c.self.inside c.args.caller c.args.call stepped.list stepped.counters stepped.reply c.self.invariant c.in_ok-stepped.ensures in
    let place = first_difference c.as_slice.result.now (map packed c.items.result.now) in
    let found = difference_is c.self.inside.protocol.slots c.slots.result.now c.as_slice.result.now stepped.list c.items.result.now place
    (c.as_slice.ensures.value ∙ c.in_ok-rows.ensures) c.slots.ensures c.items.ensures refl in
    let difference = list_difference_is c.self.inside c.args.caller c.args.call stepped.list stepped.counters place made.1 found in (
      refl,
      inl (rw (← c.self.view_is)
          (refusal_end c.self.inside.config c.self.inside.protocol c.args.caller c.args.call (sym c.if-not-is_open.ensures)
          ∙ ap (option_map NotTheList) difference ∙ sym c.list_refusal.ensures ∙ c.in-Some.is)),
    )

pub invariant_of-self-2 : goal.invariant_of-self-2
invariant_of-self-2 c =
    let stepped = c.in_ok-stepped.stepped in
    let made = ended_space c.self.inside c.args.caller c.args.call stepped.list stepped.counters stepped.reply c.self.invariant c.in_ok-stepped.ensures in
    let place = first_difference c.as_slice.result.now (map packed c.items.result.now) in
    let found = difference_is c.self.inside.protocol.slots c.slots.result.now c.as_slice.result.now stepped.list c.items.result.now place
    (c.as_slice.ensures.value ∙ c.in_ok-rows.ensures) c.slots.ensures c.items.ensures refl in
    rw (c.in_ok-end.ensures, made.0)
    (kept_end c.self.inside c.args.caller c.args.call stepped.list stepped.counters c.self.invariant (sym c.if-not-is_open.ensures) made.1 (found ∙ mapped_none NotTheList place (sym c.list_refusal.ensures ∙ c.in_default.is)))

pub returns : goal.returns
returns c =
    let stepped = c.in_ok-stepped.stepped in
    let made = ended_space c.self.inside c.args.caller c.args.call stepped.list stepped.counters stepped.reply c.self.invariant c.in_ok-stepped.ensures in
    let place = first_difference c.as_slice.result.now (map packed c.items.result.now) in
    let found = difference_is c.self.inside.protocol.slots c.slots.result.now c.as_slice.result.now stepped.list c.items.result.now place
    (c.as_slice.ensures.value ∙ c.in_ok-rows.ensures) c.slots.ensures c.items.ensures refl in
    let difference = list_difference_is c.self.inside c.args.caller c.args.call stepped.list stepped.counters place made.1 found in
    rw (← c.self.view_is) (
      refusal_end c.self.inside.config c.self.inside.protocol c.args.caller c.args.call (sym c.if-not-is_open.ensures)
          ∙ ap (option_map NotTheList) difference ∙ sym c.list_refusal.ensures ∙ c.in_default.is,
      rw (c.in_ok-end.ensures, made.0) refl,
      refl,
    )
