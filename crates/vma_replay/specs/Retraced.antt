-- What `serial` gives over the traces that `retrace` gives.
use Rattle.std.specs.Prelude.{ℕ, ◌≡◌, ◌+◌, ◌*◌, List, [], ◌∷◌, ◌++◌, length, codes, decimal, Ok}
use Rattle.mm_types.specs.declared.area.Record.{Record}
use Rattle.mm_types.specs.declared.call.Reply.TheVariants.{Addr}
use Rattle.mm_types.specs.declared.config.TheConstants.{PAGE_SIZE}
use Rattle.mm_types.specs.MapsText.{list_text}
use Rattle.trace_reader.specs.declared.trace.Trace.{Trace}
use Rattle.trace_reader.specs.Grammar.{trace_of}
use Rattle.maps_read.specs.Mappings.{mapping_line}
use Rattle.mm_space.specs.Closing.{ClosedView}
use Rattle.vma_replay.specs.declared.words.Mode.TheVariants as modes
use Rattle.output.specs.Output.{item_start, reply_text, serial_output}
use Rattle.vma_replay.specs.Replaying.{GivesRuns}

-- the answer to the line of this number that maps an area: the address where the area begins, at this version
abbrev pub address_line : ℕ → ℕ → Record → List ℕ
address_line number version area = item_start (mapping_line number area) version ++ (reply_text (Addr (PAGE_SIZE * area.span.lo)) ++ codes "\n")

-- such an answer for each area, with the numbers and the versions from these on
abbrev pub address_lines : ℕ → ℕ → List Record → List ℕ
address_lines number version [] = []
address_lines number version (area ∷ areas) = address_line number version area ++ address_lines (number + 1) (version + 1) areas

-- an address for each area, from the line behind the header and the files on, then `maps` and how many areas there are, and then these
-- bytes
abbrev pub output_with : Trace → List Record → List ℕ → List ℕ
output_with trace areas bytes =
    address_lines (2 + length trace.config.files) 1 areas ++ (codes "maps " ++ (decimal (length areas) ++ (codes "\n" ++ bytes)))

-- A text is a trace, and the bytes are the maps text of some areas. The output of the trace in the order of its lines is an address for each
-- area, then `maps` and their number, and then exactly the bytes; and so is each text that `serial` gives for it, with whatever closed runs.
pub record EndsWith (bytes text : List ℕ) : Type 0 where
  pub trace : Trace
  pub areas : List Record
  pub read : trace_of text ≡ Ok trace
  pub list : list_text trace.config.files areas ≡ bytes
  pub output : serial_output trace ≡ output_with trace areas bytes
  pub given : (runs : List ClosedView) (given : List ℕ) → GivesRuns modes.Serial trace runs given → given ≡ output_with trace areas bytes
