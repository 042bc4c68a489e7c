-- What contracts see of an address space without locks.
use Rattle.mm_types.specs.declared.config.Config.{Config}
use Rattle.area_rules.specs.Tables.{AddressSpace}

-- the configuration that an address space was opened with, and the space as the model has it
pub record PlainView : Type 0 where
  pub config : Config
  pub space : AddressSpace
