-- What a trace does that was made from a maps text.
use Rattle.std.specs.Prelude.{ℕ, ◌≡◌, ◌+◌, ◌*◌, List, [], ◌∷◌, ◌++◌, length, Ok}
use Rattle.mm_types.specs.declared.area.Record.{Record}
use Rattle.mm_types.specs.declared.call.Call.TheVariants.{Mmap}
use Rattle.mm_types.specs.declared.call.Reply.TheVariants.{Addr}
use Rattle.mm_types.specs.declared.config.TheConstants.{PAGE_SIZE}
use Rattle.mm_types.specs.declared.files.FileRow.{FileRow}
use Rattle.mm_types.specs.Config.{default_config, counters_at_opening}
use Rattle.mm_types.specs.MapsText.{list_text}
use Rattle.area_rules.specs.Tables.{AddressSpace, space_of}
use Rattle.area_rules.specs.Steps.{step}
use Rattle.trace_reader.specs.declared.trace.Trace.{Trace}
use Rattle.trace_reader.specs.Grammar.{trace_of}
use Rattle.maps_read.specs.Mappings.{mapping_of, mapping_lines}

-- an address space of the default configuration with these files that has these areas, and has numbered no object but the files
abbrev pub space_with : List FileRow → List Record → AddressSpace
space_with files areas = space_of areas (counters_at_opening (default_config files))

-- behind the areas before, each of these is mapped by its mmap(2): it is added to the list, and its address is the reply
abbrev pub AreMappedBehind : List FileRow → List Record → List Record → Type 0
AreMappedBehind files before [] = Unit {0}
AreMappedBehind files before (area ∷ areas) = (step (default_config files) (space_with files before) (Mmap (mapping_of area))
    ≡ record { space = space_with files (before ++ area ∷ []); reply = Addr (PAGE_SIZE * area.span.lo) })
    × AreMappedBehind files (before ++ area ∷ []) areas

-- the trace that maps these areas, one after another, in the default configuration with these files: a line for each file stands
-- between its header and its first line with a thread
abbrev pub mapping_trace : List FileRow → List Record → Trace
mapping_trace files areas = record { config = default_config files; lines = mapping_lines (2 + length files) areas }

-- A text is the trace that maps some areas, one after another, which it does from the empty list on, and the bytes are the maps text of
-- these areas.
pub record MakesMaps (bytes text : List ℕ) : Type 0 where
  pub files : List FileRow
  pub areas : List Record
  pub trace : trace_of text ≡ Ok (mapping_trace files areas)
  pub maps : AreMappedBehind files [] areas
  pub list : list_text files areas ≡ bytes
