-- Serves the fits of placement and of moves: where user memory ends.
use Rattle.std.proofs.Common.{◌≤◌, arith, inl, inr}
use Rattle.mm_types.specs.declared.config.Config.{Config}
use Rattle.mm_types.specs.declared.config.TheConstants.{ADDRESS_LIMIT, WIDE_LIMIT}
use Rattle.mm_types.specs.Config.{IsValidConfig}

pub record IsBetween (config : Config) : Type 0 where
  pub low : ADDRESS_LIMIT ≤ config.limit
  pub high : config.limit ≤ WIDE_LIMIT

pub limit_between : (config : Config) → IsValidConfig config → IsBetween config
limit_between config valid = elim valid.limit [
  | inl narrow ↦ record { low = omega (arith, narrow); high = omega (arith, narrow) }
  | inr wide ↦ record { low = omega (arith, wide); high = omega (arith, wide) }
]
