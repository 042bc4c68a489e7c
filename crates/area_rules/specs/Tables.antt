-- What the tables of the calls have in common.
use Rattle.std.specs.Prelude.{ℕ, ◌+◌, ◌-◌, ◌/◌, ◌%◌, Bool, true, false, nat_eq, nat_lt, List, length, Option, Some, None}
use Rattle.mm_types.specs.declared.area.Record.{Record}
use Rattle.mm_types.specs.declared.call.Counters.{Counters}
use Rattle.mm_types.specs.declared.call.Errno.{Errno}
use Rattle.mm_types.specs.declared.call.Reply.{Reply}
use Rattle.mm_types.specs.declared.call.Reply.TheVariants.{Refused}
use Rattle.mm_types.specs.declared.config.Config.{Config}
use Rattle.mm_types.specs.declared.config.TheConstants.{PAGE_SIZE}

-- an address space as a list of areas, how many objects were numbered, and the break
pub record AddressSpace : Type 0 where
  pub areas : List Record
  pub objects : ℕ
  pub brk : ℕ

-- an address space from its parts
abbrev pub space_of : List Record → Counters → AddressSpace
space_of areas counters = record { areas = areas; objects = counters.objects; brk = counters.brk }

-- what it keeps besides the areas
abbrev pub counters_of : AddressSpace → Counters
counters_of space = record { objects = space.objects; brk = space.brk }

-- the outcome of a call: the address space after it, and its reply
pub record Outcome : Type 0 where
  pub space : AddressSpace
  pub reply : Reply

-- whether a reply is an error
abbrev pub is_refusal : Reply → Bool
is_refusal (Refused errno) = true
is_refusal _ = false

-- a refusal changes nothing, and without one the call goes through
abbrev pub unless_refused : AddressSpace → Option Errno → Outcome → Outcome
unless_refused space (Some errno) done = record { space = space; reply = Refused errno }
unless_refused space None done = done

-- an answer that changes nothing, and without one the call goes through
abbrev pub unless_answered : AddressSpace → Option Reply → Outcome → Outcome
unless_answered space (Some reply) done = record { space = space; reply = reply }
unless_answered space None done = done

-- whether an address begins a page
abbrev pub is_aligned : ℕ → Bool
is_aligned address = nat_eq (address % PAGE_SIZE) 0

-- how many pages a length takes
unfoldable pub pages_of : ℕ → ℕ
pages_of len = (len + (PAGE_SIZE - 1)) / PAGE_SIZE

-- whether a list has more areas than are allowed
abbrev pub has_too_many_areas : Config → List Record → Bool
has_too_many_areas config areas = nat_lt config.areas (length areas)
