-- For `plan_unsealed`: which calls keep the counters.
use Rattle.std.proofs.Common.{◌≡◌, ℕ, List, ap, sym, subst, ◌∙◌}
use Rattle.mm_types.specs.declared.area.Record.{Record}
use Rattle.mm_types.specs.declared.call.Call.{Call}
use Rattle.mm_types.specs.declared.call.Call.TheVariants.{Mmap, Brk}
use Rattle.mm_types.specs.declared.call.Counters.{Counters}
use Rattle.mm_types.specs.declared.call.MmapArgs.{MmapArgs}
use Rattle.mm_types.specs.declared.call.Reply.{Reply}
use Rattle.mm_types.specs.declared.call.Reply.TheVariants.{Addr}
use Rattle.mm_types.specs.declared.config.Config.{Config}
use Rattle.area_rules.specs.declared.placement.Bounds.{Bounds}
use Rattle.area_rules.specs.Brk.{brk}
use Rattle.area_rules.specs.Steps.{step_unsealed}
use Rattle.area_rules.specs.Tables.{AddressSpace, space_of, counters_of}
use Rattle.area_rules.proofs.Stepping.{others_unsealed, others_keep_break}
use Rattle.split_merge.specs.declared.planned.Planned.{Planned}
use Rattle.split_merge.specs.Calls.{IsPlannedCall}
use Rattle.split_merge.specs.Plans.{PlanView}
use Rattle.sys_seal.specs.Guards.{IsPlannedWhole}

-- a call that is neither mmap nor brk keeps the counters
kept_counters : (config : Config) (space : AddressSpace) (call : Call) → ((args : MmapArgs) → call ≡ Mmap args → ⊥) → ((addr : ℕ) → call ≡ Brk addr → ⊥)
    → counters_of space ≡ counters_of (step_unsealed config space call).space
kept_counters config space call no_mmap no_brk =
    ap (λ (n : ℕ). record { objects = n; brk = space.brk }) (sym (others_unsealed config space call no_mmap))
    ∙ ap (λ (b : ℕ). record { objects = (step_unsealed config space call).space.objects; brk = b }) (sym (others_keep_break config space call no_brk))

-- so it is planned whole with the counters before it
pub kept_whole : {bounds : Bounds} {most : ℕ} {old new : PlanView} (config : Config) (areas : List Record) (counters : Counters) (call : Call) (reply : Reply)
    → ((args : MmapArgs) → call ≡ Mmap args → ⊥) → ((addr : ℕ) → call ≡ Brk addr → ⊥)
    → IsPlannedCall bounds most areas (step_unsealed config (space_of areas counters) call) reply old new
    → IsPlannedWhole bounds most areas (step_unsealed config (space_of areas counters) call) (record { reply = reply; counters = counters }) old new
kept_whole config areas counters call reply no_mmap no_brk planned = record {
  planned = planned;
  counters = kept_counters config (space_of areas counters) call no_mmap no_brk;
}

-- brk is planned whole with the break that it answers
pub break_whole : {bounds : Bounds} {most : ℕ} {old new : PlanView} (config : Config) (areas : List Record) (counters : Counters) (addr : ℕ) (reply : Reply)
    (answer : Planned)
    → ((at : ℕ) → reply ≡ Addr at → answer ≡ record { reply = reply; counters = record counters { brk = at } })
    → reply ≡ Addr (brk config (space_of areas counters) addr).space.brk
    → IsPlannedCall bounds most areas (brk config (space_of areas counters) addr) reply old new
    → IsPlannedWhole bounds most areas (step_unsealed config (space_of areas counters) (Brk addr)) answer old new
unfolding step_unsealed
break_whole {bounds} {most} {old} {new} config areas counters addr reply answer is moved planned =
    let space = space_of areas counters in
    let whole : IsPlannedWhole bounds most areas (brk config space addr) (record { reply = reply; counters = record counters { brk = (brk config space addr).space.brk } }) old new
    = record {
      planned = planned;
      counters = ap (λ (n : ℕ). record { objects = n; brk = (brk config space addr).space.brk })
          (sym (others_unsealed config space (Brk addr) (λ args other. cc)));
    } in
    subst (λ (a : Planned). IsPlannedWhole bounds most areas (brk config space addr) a old new) (sym (is (brk config space addr).space.brk moved)) whole
