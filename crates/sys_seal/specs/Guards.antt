-- Calls with the tests of seals.
use Rattle.std.specs.Prelude.{ℕ, ◌≡◌, List}
use Rattle.mm_types.specs.declared.area.Record.{Record}
use Rattle.area_rules.specs.declared.placement.Bounds.{Bounds}
use Rattle.area_rules.specs.Tables.{Outcome, counters_of}
use Rattle.split_merge.specs.declared.planned.Planned.{Planned}
use Rattle.split_merge.specs.Plans.{PlanView}
use Rattle.split_merge.specs.Calls.{IsPlannedCall}

-- a call is planned whole where its plan, its reply and the counters after it are those of this outcome
pub record IsPlannedWhole (bounds : Bounds) (most : ℕ) (areas : List Record) (outcome : Outcome) (answer : Planned) (old new : PlanView) : Type 0 where
  pub planned : IsPlannedCall bounds most areas outcome answer.reply old new
  pub counters : answer.counters ≡ counters_of outcome.space
