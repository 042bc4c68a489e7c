-- What the plan calls ask and promise alike.
use Rattle.std.specs.Prelude.{ℕ, ◌≡◌, List}
use Rattle.mm_types.specs.declared.area.Record.{Record}
use Rattle.mm_types.specs.declared.call.Reply.{Reply}
use Rattle.mm_types.specs.declared.config.Config.{Config}
use Rattle.area_rules.specs.declared.placement.Bounds.{Bounds}
use Rattle.area_rules.specs.Placement.{bounds_of}
use Rattle.area_rules.specs.Tables.{Outcome}
use Rattle.split_merge.specs.Plans.{PlanView, applied, Makes, IsPlannedFor, IsFreshPlan}

-- a plan is prepared where the list goes by the numbers of the configuration, and the plan is fresh
pub record IsPrepared (config : Config) (bounds : Bounds) (most : ℕ) (plan : PlanView) : Type 0 where
  pub numbers : bounds ≡ bounds_of config
  pub allowed : most ≡ config.areas
  pub fresh : IsFreshPlan config.areas plan

-- a call is planned where the answer is the outcome's, and the plan makes the outcome's list, keeps it, and has the room that it had
pub record IsPlannedCall (bounds : Bounds) (most : ℕ) (areas : List Record) (outcome : Outcome) (answer : Reply) (old new : PlanView) : Type 0 where
  pub reply : answer ≡ outcome.reply
  pub makes : Makes new.changes areas outcome.space.areas
  pub kept : IsPlannedFor bounds most (applied new.changes areas)
  pub room : new.room ≡ old.room
