-- For `guard`: a call that would change sealed pages is planned as one that changes nothing.
use Rattle.std.proofs.Common.{◌≡◌, ℕ, true, false, List, [], refl, ap, sym, subst, ◌∙◌}
use Rattle.std.proofs.lemmas.Bool.{cond-true, cond-false}
use Rattle.mm_types.specs.declared.area.Record.{Record}
use Rattle.mm_types.specs.declared.call.Call.{Call}
use Rattle.mm_types.specs.declared.call.Counters.{Counters}
use Rattle.mm_types.specs.declared.call.Errno.TheVariants.{Eperm}
use Rattle.mm_types.specs.declared.call.Reply.TheVariants.{Refused}
use Rattle.mm_types.specs.declared.config.Config.{Config}
use Rattle.area_rules.specs.declared.placement.Bounds.{Bounds}
use Rattle.area_rules.specs.Guarded.{is_sealed_off, guarded}
use Rattle.area_rules.specs.Steps.{step, step_unsealed}
use Rattle.area_rules.proofs.Guarding.{step_guarded}
use Rattle.area_rules.specs.Tables.{AddressSpace, Outcome, counters_of}
use Rattle.split_merge.specs.declared.planned.Planned.{Planned}
use Rattle.split_merge.specs.Plans.{PlanView, IsPlannedFor}
use Rattle.split_merge.proofs.Refusing.{nothing_made}
use Rattle.sys_seal.specs.Guards.{IsPlannedWhole}

-- the refusal
abbrev refusal : AddressSpace → Outcome
refusal space = record { space = space; reply = Refused Eperm }

module _ {bounds : Bounds} {most : ℕ} {areas : List Record} (kept : IsPlannedFor bounds most areas) (call : Call) (before : Counters) (planned : Planned)
    (plan new : PlanView) (none : new.changes ≡ []) (room : new.room ≡ plan.room) (sealed : is_sealed_off areas call planned.reply ≡ true) where
  refused_now : (space : AddressSpace) (outcome : Outcome) → space.areas ≡ areas → planned.reply ≡ outcome.reply → guarded space call outcome ≡ refusal space
  unfolding guarded
  refused_now space outcome same reply =
      cond-true (is_sealed_off space.areas call outcome.reply) (refusal space) outcome
      (ap (λ list. is_sealed_off list call outcome.reply) same ∙ ap (λ r. is_sealed_off areas call r) (sym reply) ∙ sealed)

  guarded_call : (space : AddressSpace) (outcome : Outcome) (fresh : PlanView) → space.areas ≡ areas → counters_of space ≡ before
      → IsPlannedWhole bounds most areas outcome planned fresh plan
      → IsPlannedWhole bounds most areas (guarded space call outcome) (record { reply = Refused Eperm; counters = before }) fresh new
  guarded_call space outcome fresh same counted p =
      let made = nothing_made new.changes areas areas none refl in
      subst (λ (o : Outcome). IsPlannedWhole bounds most areas o (record { reply = Refused Eperm; counters = before }) fresh new)
      (sym (refused_now space outcome same p.planned.reply)) (record {
        planned = record {
          reply = refl;
          makes = nothing_made new.changes areas space.areas none same;
          kept = subst (IsPlannedFor bounds most) (sym made.result) kept;
          room = room ∙ p.planned.room;
        };
        counters = sym counted;
      })

  -- so it is planned as its table has it
  pub sealed_call : (config : Config) (space : AddressSpace) (fresh : PlanView) → space.areas ≡ areas → counters_of space ≡ before
      → IsPlannedWhole bounds most areas (step_unsealed config space call) planned fresh plan
      → IsPlannedWhole bounds most areas (step config space call) (record { reply = Refused Eperm; counters = before }) fresh new
  sealed_call config space fresh same counted p =
      subst (λ (o : Outcome). IsPlannedWhole bounds most areas o (record { reply = Refused Eperm; counters = before }) fresh new)
      (sym (step_guarded config space call)) (guarded_call space (step_unsealed config space call) fresh same counted p)

-- and a call that would change none is planned as without the tests
module _ {areas : List Record} (call : Call) (planned : Planned) (unsealed : is_sealed_off areas call planned.reply ≡ false) where
  left_now : (space : AddressSpace) (outcome : Outcome) → space.areas ≡ areas → planned.reply ≡ outcome.reply → guarded space call outcome ≡ outcome
  unfolding guarded
  left_now space outcome same reply =
      cond-false (is_sealed_off space.areas call outcome.reply) (refusal space) outcome
      (ap (λ list. is_sealed_off list call outcome.reply) same ∙ ap (λ r. is_sealed_off areas call r) (sym reply) ∙ unsealed)

  pub unsealed_call : {bounds : Bounds} {most : ℕ} (config : Config) (space : AddressSpace) (plan fresh : PlanView) → space.areas ≡ areas
      → IsPlannedWhole bounds most areas (step_unsealed config space call) planned fresh plan
      → IsPlannedWhole bounds most areas (step config space call) planned fresh plan
  unsealed_call {bounds} {most} config space plan fresh same p =
      subst (λ (o : Outcome). IsPlannedWhole bounds most areas o planned fresh plan)
      (sym (step_guarded config space call ∙ left_now space (step_unsealed config space call) same p.planned.reply)) p
