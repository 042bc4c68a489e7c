-- What callers make of a journal: their entries, and what they read of the list of areas.
use Rattle.std.specs.Prelude.{ℕ, ◌≡◌, ◌≤◌, false, nat_eq, List, filter, length, take}
use Rattle.mm_types.specs.declared.call.Entry.{Entry}
use Rattle.mm_types.specs.declared.call.Seen.{Seen}
use Rattle.mm_types.specs.declared.call.Seen.TheVariants as reads
use Rattle.mm_types.specs.declared.config.Config.{Config}
use Rattle.area_rules.specs.Growing.{grows}
use Rattle.area_rules.specs.Steps.{after}
use Rattle.area_rules.specs.Verdicts.{verdict}

-- the entries of a caller, in order
abbrev pub calls_by : ℕ → List Entry → List Entry
calls_by caller journal = filter (λ entry. nat_eq entry.caller caller) journal

-- the version of a read: of how many entries it saw the list
abbrev pub version_of : Seen → ℕ
version_of (reads.Fault version page access verdict) = version
version_of (reads.Maps version list) = version

-- what was read is the verdict on a fault that does not grow, over the list after the journal, or that list
abbrev pub IsReadAfter : Config → List Entry → Seen → Type 0
IsReadAfter config journal (reads.Fault version page access found) = (grows config (after config journal).areas page.0 access ≡ false)
    × (found ≡ verdict config (after config journal).areas page.0 access)
IsReadAfter config journal (reads.Maps version list) = list ≡ (after config journal).areas

-- a read is right in a journal where it is so after as many entries as its version says, which the journal has
pub record IsReadRight (config : Config) (journal : List Entry) (read : Seen) : Type 0 where
  pub right : IsReadAfter config (take (version_of read) journal) read
  pub within : version_of read ≤ length journal
