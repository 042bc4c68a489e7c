-- What calls answer, and what they leave, one after the other.
use Rattle.std.specs.Prelude.{List, [], ◌∷◌}
use Rattle.mm_types.specs.declared.call.Call.{Call}
use Rattle.mm_types.specs.declared.call.Reply.{Reply}
use Rattle.mm_types.specs.declared.config.Config.{Config}
use Rattle.area_rules.specs.Tables.{AddressSpace}
use Rattle.area_rules.specs.Steps.{step}

-- the address space after calls
unfoldable pub space_after_calls : Config → AddressSpace → List Call → AddressSpace
space_after_calls config space [] = space
space_after_calls config space (call ∷ calls) = space_after_calls config (step config space call).space calls

-- the answer of each call, after those before it
unfoldable pub replies_of : Config → AddressSpace → List Call → List Reply
replies_of config space [] = []
replies_of config space (call ∷ calls) = (step config space call).reply ∷ replies_of config (step config space call).space calls
