-- For the plan calls of the crates above: calls that are planned, by their outcome in the model.
use Rattle.std.proofs.Common.{◌≡◌, ℕ, List, [], ap, sym, subst}
use Rattle.mm_types.specs.declared.area.Record.{Record}
use Rattle.mm_types.specs.declared.call.Counters.{Counters}
use Rattle.mm_types.specs.declared.call.Reply.{Reply}
use Rattle.mm_types.specs.declared.config.Config.{Config}
use Rattle.area_rules.specs.declared.placement.Bounds.{Bounds}
use Rattle.area_list.specs.Areas.{IsSound}
use Rattle.area_rules.specs.Tables.{AddressSpace, Outcome, space_of}
use Rattle.split_merge.specs.Plans.{PlanView, Makes}
use Rattle.split_merge.specs.Calls.{IsPrepared, IsPlannedCall}
use Rattle.split_merge.proofs.Refusing.{nothing_made, kept_if_sound}

module _ {config : Config} {bounds : Bounds} {most : ℕ} {old : PlanView} (prepared : IsPrepared config bounds most old)
    (new : PlanView) (room : new.room ≡ old.room) where
  -- a plan that makes the outcome's list, which is sound
  pub planned : (areas : List Record) (outcome : Outcome) (answer : Reply) → answer ≡ outcome.reply → Makes new.changes areas outcome.space.areas
      → IsSound config outcome.space.areas → IsPlannedCall bounds most areas outcome answer old new
  planned areas outcome answer is made sound = record {
    reply = is;
    makes = made;
    kept = kept_if_sound config bounds most new.changes areas outcome.space.areas prepared.numbers prepared.allowed made.result sound;
    room = room;
  }

  -- an empty plan, where the outcome leaves the list
  pub unchanged : (space : AddressSpace) (outcome : Outcome) (answer : Reply) → outcome ≡ record { space = space; reply = answer }
      → new.changes ≡ [] → IsSound config space.areas → IsPlannedCall bounds most space.areas outcome answer old new
  unchanged space outcome answer is none sound =
      planned space.areas outcome answer (sym (ap (λ (o : Outcome). o.reply) is))
      (nothing_made new.changes space.areas outcome.space.areas none (ap (λ (o : Outcome). o.space.areas) is))
      (subst (λ (areas : List Record). IsSound config areas) (sym (ap (λ (o : Outcome). o.space.areas) is)) sound)

  -- a plan that makes the list which the outcome leaves
  pub done : (areas after : List Record) (counters : Counters) (outcome : Outcome) (answer : Reply)
      → outcome ≡ record { space = space_of after counters; reply = answer }
      → Makes new.changes areas after → IsSound config after → IsPlannedCall bounds most areas outcome answer old new
  done areas after counters outcome answer is made sound =
      planned areas outcome answer (sym (ap (λ (o : Outcome). o.reply) is))
      (subst (Makes new.changes areas) (sym (ap (λ (o : Outcome). o.space.areas) is)) made)
      (subst (λ (list : List Record). IsSound config list) (sym (ap (λ (o : Outcome). o.space.areas) is)) sound)
