-- Which configurations an address space may be opened with.
use Rattle.std.specs.Prelude.{ℕ, ◌+◌, ◌*◌, ◌≡◌, ◌≢◌, ◌<◌, ◌≤◌, ◌%◌, ◌⊎◌, List, length, AllPairs}
use Rattle.mm_types.specs.declared.call.Counters.{Counters}
use Rattle.mm_types.specs.declared.config.Config.{Config}
use Rattle.mm_types.specs.declared.files.FileRow.{FileRow}
use Rattle.mm_types.specs.declared.config.TheConstants.{PAGE_SIZE, ADDRESS_LIMIT, WIDE_LIMIT, DEFAULT_MIN, DEFAULT_TOP, MOST_AREAS, MOST_FILES}

-- an address that may bound the memory of a configuration: a whole number of pages, at least one, at most the limit that is not the wide one
pub record IsBound (address : ℕ) : Type 0 where
  pub aligned : address % PAGE_SIZE ≡ 0
  pub above_zero : PAGE_SIZE ≤ address
  pub within : address ≤ ADDRESS_LIMIT

-- min and top are such addresses, and so is the begin of the heap where there is one; the limit is one of the two, there may be
-- 1 to 65,530 areas, and no two of at most 1,024 files have one descriptor
pub record IsValidConfig (config : Config) : Type 0 where
  pub min : IsBound config.min
  pub top : IsBound config.top
  pub heap : (config.heap ≡ 0) ⊎ IsBound config.heap
  pub limit : (config.limit ≡ ADDRESS_LIMIT) ⊎ (config.limit ≡ WIDE_LIMIT)
  pub some_areas : 0 < config.areas
  pub most_areas : config.areas ≤ MOST_AREAS
  pub most_files : length config.files ≤ MOST_FILES
  pub distinct : AllPairs (λ a b. a.fd ≢ b.fd) config.files

-- the configuration of a trace that names nothing but its files
unfoldable pub default_config : List FileRow → Config
default_config files = record { min = DEFAULT_MIN; top = DEFAULT_TOP; limit = ADDRESS_LIMIT; areas = MOST_AREAS; files = files; heap = 0 }

-- how many rows the nodes of the trees of at most so many areas take
abbrev pub rows_for : ℕ → ℕ
rows_for areas = areas + 128

-- how many slots show at most so many areas while a call changes them
abbrev pub slots_for : ℕ → ℕ
slots_for areas = 2 * areas + 2

-- the counters of an address space without a call: the files are numbered, and the heap is empty
abbrev pub counters_at_opening : Config → Counters
counters_at_opening config = record { objects = length config.files; brk = config.heap }
