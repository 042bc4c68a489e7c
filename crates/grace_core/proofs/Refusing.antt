-- For `GraceState::publish`: why a publish of the next tree is refused.
use Rattle.std.proofs.Common.{ℕ, ◌≡◌, ◌+◌, true, cond, nat_eq, List, refl, Option, Some, None}
use Rattle.std.specs.List.{find}
use Rattle.std.specs.Option.{is_some, unwrap_or, option_map}
use Rattle.mm_types.specs.declared.slot.Row.{Row}
use Rattle.grace_core.specs.declared.events.GraceEvent.TheVariants.{Publish}
use Rattle.grace_core.specs.declared.events.GraceRefusal.TheVariants.{RowNotFree}
use Rattle.grace_core.specs.Core.{GraceCore, numbers_of}
use Rattle.grace_core.specs.Refusals.{is_unfit, grace_refusal}

-- by a row, where there is one
by_row : (row : Option Row) → cond (is_some row) (Some (RowNotFree (unwrap_or row (record { 0 = 0 })))) None ≡ option_map RowNotFree row
by_row (Some row) = refl
by_row None = refl

-- by the first row that can't be published
pub refusal_publish : (core : GraceCore) (number : ℕ) (rows : List Row) → nat_eq number (core.writer_state.tree.number + 1) ≡ true
    → grace_refusal core (Publish number rows) ≡ option_map RowNotFree (find (λ row. is_unfit core.writer_state (numbers_of rows) row.0) rows)
unfolding grace_refusal
refusal_publish core number rows next = rw next (by_row (find (λ row. is_unfit core.writer_state (numbers_of rows) row.0) rows))
