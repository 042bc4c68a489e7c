-- For `PlainSpace::new` and `PlainSpace::call`: where a call may be made, and what is kept over it.
use Rattle.std.proofs.Common.{◌≡◌, ◌≤◌, ℕ, List, [], length, All, inl, inr, ap, ◌∙◌, subst, arith}
use Rattle.std.proofs.lemmas.List.Elements.{All-from_recursion, recursion_from_All}
use Rattle.mm_types.specs.Config.{IsValidConfig, counters_at_opening}
use Rattle.mm_types.specs.declared.area.Record.{Record}
use Rattle.mm_types.specs.declared.call.Call.{Call}
use Rattle.mm_types.specs.declared.call.Counters.{Counters}
use Rattle.mm_types.specs.declared.config.Config.{Config}
use Rattle.area_list.specs.Areas.{IsCanonical, IsSound}
use Rattle.area_rules.specs.declared.placement.Bounds.{Bounds}
use Rattle.area_rules.specs.Growing.{AreGrowersPrivate}
use Rattle.area_rules.specs.Placement.{bounds_of}
use Rattle.area_rules.specs.Tables.{AddressSpace, space_of, counters_of}
use Rattle.area_rules.specs.Steps.{step, opening, IsReady}
use Rattle.area_rules.proofs.Limits.{limit_between}
use Rattle.area_rules.proofs.Stepping.{IsCounted, step_counted, step_objects, step_private, step_bounded}
use Rattle.split_merge.specs.Plans.{IsPlannedFor}

-- each area's object is at most the count
abbrev pub Counts : AddressSpace → Type 0
Counts space = All (λ area. area.object ≤ space.objects) space.areas

-- a list that is kept for the numbers of a configuration is sound for it
pub kept_sound : (config : Config) (bounds : Bounds) (most : ℕ) (areas : List Record) → bounds ≡ bounds_of config → most ≡ config.areas
    → IsPlannedFor bounds most areas → IsSound config areas
kept_sound config bounds most areas numbers allowed kept = record {
  canonical = subst (λ (b : Bounds). IsCanonical b.limit areas) numbers kept.canonical;
  few = omega (arith, kept.few, allowed);
}

-- what a space keeps besides that its list is sound: files numbered, objects counted, growers private, and a bounded break
pub record IsKeptFor (config : Config) (space : AddressSpace) : Type 0 where
  pub files : length config.files ≤ space.objects
  pub counted : Counts space
  pub private : AreGrowersPrivate space.areas
  pub bounded : space.brk ≤ config.limit

-- a step keeps all that
pub kept_after : (config : Config) (space : AddressSpace) (call : Call) → IsReady config space → length config.files ≤ space.objects
    → IsKeptFor config (step config space call).space
kept_after config space call ready files = record {
  files = omega (arith, files, (step_objects config space call).0);
  counted = All-from_recursion (IsCounted (step config space call).space.objects) (step config space call).space.areas
      (step_counted config space call (recursion_from_All (IsCounted space.objects) space.areas ready.counted) files);
  private = step_private config space call ready.private;
  bounded = step_bounded config space call ready;
}

-- the heap begins at or below the limit
pub heap_bounded : (config : Config) → IsValidConfig config → config.heap ≤ config.limit
heap_bounded config valid = elim valid.heap [
  | inl none ↦ omega (arith, none)
  | inr bound ↦ omega (arith, bound.within, (limit_between config valid).low)
]

-- a list with no area and the opening counters are the opening space
pub opened_space : (config : Config) (list : List Record) (counters : Counters) → list ≡ [] → counters ≡ counters_at_opening config → space_of list counters ≡ opening config
unfolding opening
opened_space config list counters empty opened = ap (λ (areas : List Record). space_of areas counters) empty ∙ ap (space_of []) opened

-- a list and counters that are those of a space are the space
pub made_space : (list : List Record) (counters : Counters) (outcome : AddressSpace) → list ≡ outcome.areas → counters ≡ counters_of outcome → space_of list counters ≡ outcome
made_space list counters outcome areas counted = ap (λ (l : List Record). space_of l counters) areas ∙ ap (space_of outcome.areas) counted
