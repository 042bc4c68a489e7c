-- The limit of areas that so many calls need.
use Rattle.std.specs.Prelude.{ℕ, ◌+◌, ◌*◌, min}
use Rattle.mm_types.specs.declared.config.Config.{Config}
use Rattle.area_rules.specs.declared.area_limit.TheConstants.{AREAS_BY_CALL}

-- the same configuration with this limit of areas
abbrev pub with_areas : ℕ → Config → Config
with_areas areas config = record config { areas = areas }

-- the configuration of a space for so many calls: its limit is one that they do not reach, or its own where that is lower
abbrev pub config_for : ℕ → Config → Config
config_for calls config = with_areas (min config.areas (AREAS_BY_CALL * calls + 1)) config
