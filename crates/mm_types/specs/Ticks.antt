-- Counts of steps.
use Rattle.std.specs.Prelude.{ℕ, ◌+◌}
use Rattle.mm_types.specs.declared.steps.Ticks.{Ticks}
use Rattle.mm_types.specs.declared.steps.Ticks.TheOpen.{Ticks-F, Zero, More}
use Rattle.mm_types.specs.declared.steps.Ticks.TheFolds.{fold-Ticks}

-- one step more than before, or none
abbrev pub step_count : Ticks-F ℕ → ℕ
step_count Zero = 0
step_count (More before) = before.value + 1

-- how many steps were made
abbrev pub ticks_of : Ticks → ℕ
ticks_of = fold-Ticks ℕ step_count
