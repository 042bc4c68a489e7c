-- Calls one after another: the step, and journals.
use Rattle.std.specs.Prelude.{ℕ, ◌≡◌, ◌≤◌, ◌<◌, ◌-◌, ◌^◌, List, [], take, fold, All, slice_get, Some}
use Rattle.mm_types.specs.declared.call.Call.{Call}
use Rattle.mm_types.specs.declared.call.Call.TheVariants.{Mmap, Munmap, Mprotect, Mremap, Touch, Brk, Mseal}
use Rattle.mm_types.specs.declared.call.Entry.{Entry}
use Rattle.mm_types.specs.declared.config.Config.{Config}
use Rattle.mm_types.specs.Config.{IsValidConfig, counters_at_opening}
use Rattle.area_list.specs.Areas.{IsSound}
use Rattle.area_rules.specs.Tables.{AddressSpace, Outcome, space_of}
use Rattle.area_rules.specs.Growing.{AreGrowersPrivate, touch}
use Rattle.area_rules.specs.Mmap.{mmap, mmap_unsealed}
use Rattle.area_rules.specs.Munmap.{munmap, munmap_unsealed}
use Rattle.area_rules.specs.Mprotect.{mprotect, mprotect_unsealed}
use Rattle.area_rules.specs.Mremap.{mremap_args, mremap, mremap_unsealed}
use Rattle.area_rules.specs.Brk.{brk}
use Rattle.area_rules.specs.Mseal.{mseal}

-- one call by its table
unfoldable pub step : Config → AddressSpace → Call → Outcome
step config space (Mmap args) = mmap config space args
step config space (Munmap addr len) = munmap config space addr len
step config space (Mprotect addr len prot) = mprotect config space addr len prot
step config space (Mremap old old_len new_len flags new) = mremap config space (mremap_args old old_len new_len flags new)
step config space (Touch page access) = touch config space page.0 access
step config space (Brk addr) = brk config space addr
step config space (Mseal addr len flags) = mseal config space addr len flags

-- the same without the tests of seals of mmap, munmap, mprotect and mremap, as a call is planned before it is guarded
unfoldable pub step_unsealed : Config → AddressSpace → Call → Outcome
step_unsealed config space (Mmap args) = mmap_unsealed config space args
step_unsealed config space (Munmap addr len) = munmap_unsealed config space addr len
step_unsealed config space (Mprotect addr len prot) = mprotect_unsealed config space addr len prot
step_unsealed config space (Mremap old old_len new_len flags new) = mremap_unsealed config space (mremap_args old old_len new_len flags new)
step_unsealed config space (Touch page access) = touch config space page.0 access
step_unsealed config space (Brk addr) = brk config space addr
step_unsealed config space (Mseal addr len flags) = mseal config space addr len flags

-- Where a step may be taken: the configuration is valid, the list sound, no object above the counter, which has room to count one
-- more, what may grow is private anonymous memory, and the break lies at or below the limit.
pub record IsReady (config : Config) (space : AddressSpace) : Type 0 where
  pub valid : IsValidConfig config
  pub sound : IsSound config space.areas
  pub counted : All (λ area. area.object ≤ space.objects) space.areas
  pub room : space.objects < 2 ^ 32 - 1
  pub private : AreGrowersPrivate space.areas
  pub bounded : space.brk ≤ config.limit

-- an address space without a call: no area, the files numbered, and the break at the begin of the heap
unfoldable pub opening : Config → AddressSpace
opening config = space_of [] (counters_at_opening config)

-- the address space after the calls of a journal, in order
unfoldable pub after : Config → List Entry → AddressSpace
after config journal = fold (λ space entry. (step config space entry.call).space) (opening config) journal

-- a journal is legal where each reply is that of the step at its place
pub record IsLegalJournal (config : Config) (journal : List Entry) : Type 0 where
  pub replies : (place : ℕ) (entry : Entry) → slice_get journal place ≡ Some entry → entry.reply ≡ (step config (after config (take place journal)) entry.call).reply
