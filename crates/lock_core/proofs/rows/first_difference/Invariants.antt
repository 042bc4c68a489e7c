-- What the loop of `first_difference` keeps.
use Rattle.std.proofs.Common.{◌≡◌, take, map}
use Rattle.mm_types.specs.Packed.{packed}
use Rattle.lock_core.proofs.rows.first_difference.Given as goal

abbrev pub invariant-loop-place : goal.invariant-loop-place
invariant-loop-place l = take l.place l.rows ≡ take l.place (map packed l.areas)
