-- A load: a trace of pseudo-random operations, made from two numbers alone, how many operations and a seed.
use Rattle.std.specs.Prelude.{ℕ, zero, suc, ◌+◌, ◌*◌, ◌/◌, ◌%◌, ◌^◌, List, [], ◌∷◌, ◌++◌, codes, flat_map, nat_eq, bit_or, negsuc, None, if◌then◌else◌}
use Rattle.mm_types.specs.declared.area.Access.TheVariants.{Read, Write}
use Rattle.mm_types.specs.declared.call.Call.TheVariants.{Mmap, Munmap, Mprotect, Mremap}
use Rattle.mm_types.specs.declared.config.TheConstants.{PAGE_SIZE}
use Rattle.mm_types.specs.declared.flags.TheConstants.{MAP_PRIVATE, MAP_FIXED, MAP_ANONYMOUS, MREMAP_MAYMOVE}
use Rattle.mm_types.specs.Config.{default_config}
use Rattle.trace_reader.specs.Fields.{prot_of_bits}
use Rattle.trace_reader.specs.declared.trace.Op.{Op}
use Rattle.trace_reader.specs.declared.trace.Op.TheVariants.{Call, Fault}
use Rattle.trace_reader.specs.declared.trace.Trace.{Trace}
use Rattle.trace_reader.specs.declared.trace.TraceLine.{TraceLine}
use Rattle.gen_load.specs.Numbers.{next_state, number_below}
use Rattle.gen_load.specs.declared.draw.Kind.{Kind}
use Rattle.gen_load.specs.declared.draw.Kind.TheVariants.{MapExactly, MapNear, MapAnywhere, Unmap, Protect, Move}
use Rattle.gen_load.specs.declared.draw.Kind.TheVariants as kinds
use Rattle.gen_load.specs.declared.draw.TheConstants.{FIRST_ADDRESS, DRAWS}
use Rattle.trace_reader.specs.LineTexts.{header, line_text}

-- the number after a number
abbrev pub next_of : ℕ → ℕ
next_of number = next_state number

-- the draw of a number: 31 bits
abbrev pub draw_of : ℕ → ℕ
draw_of number = number_below DRAWS number

-- the kind of operation of each remainder by eight
unfoldable pub kind_at : ℕ → Kind
kind_at place = if nat_eq place 0 then MapExactly else (if nat_eq place 1 then MapNear else (if nat_eq place 2 then MapAnywhere
    else (if nat_eq place 3 then Unmap else (if nat_eq place 4 then Protect else (if nat_eq place 5 then Move
    else (if nat_eq place 6 then kinds.Read else kinds.Write))))))

-- which kind of operation a draw is
abbrev pub kind_of : ℕ → Kind
kind_of draw = kind_at (draw % 8)

-- its thread, one of four
abbrev pub drawn_thread : ℕ → ℕ
drawn_thread draw = draw / 8 % 4

-- its address: that of one of 65,536 pages
abbrev pub drawn_address : ℕ → ℕ
drawn_address draw = FIRST_ADDRESS + PAGE_SIZE * (draw / 32 % 65536)

-- its length, of 1 to 16 pages
abbrev pub length_of : ℕ → ℕ
length_of draw = PAGE_SIZE * (1 + draw / 2 ^ 21 % 16)

-- the bits of its protection
abbrev pub prot_bits_of : ℕ → ℕ
prot_bits_of draw = draw / 2 ^ 25 % 8

-- the length to which it moves an area, of 1 to 8 pages
abbrev pub new_length_of : ℕ → ℕ
new_length_of draw = PAGE_SIZE * (1 + draw / 2 ^ 28 % 8)

-- private memory without a file, at an address or near it
unfoldable pub mapping : ℕ → ℕ → ℕ → Op
mapping address flags draw = Call (Mmap (record {
  addr = address;
  len = length_of draw;
  prot = prot_of_bits (prot_bits_of draw);
  flags = flags;
  fd = negsuc 0;
  offset = 0;
}))

-- the flags of memory that is mapped where there is room, or near a hint
abbrev pub anywhere : ℕ
anywhere = bit_or MAP_PRIVATE MAP_ANONYMOUS

-- the flags of memory that is mapped exactly at its address
abbrev pub exactly : ℕ
exactly = bit_or MAP_PRIVATE (bit_or MAP_FIXED MAP_ANONYMOUS)

-- the operation of a kind: three ways to map, then unmap, protect, move, read and write
unfoldable pub operation : Kind → ℕ → Op
operation MapExactly draw = mapping (drawn_address draw) exactly draw
operation MapNear draw = mapping (drawn_address draw) anywhere draw
operation MapAnywhere draw = mapping 0 anywhere draw
operation Unmap draw = Call (Munmap (drawn_address draw) (length_of draw))
operation Protect draw = Call (Mprotect (drawn_address draw) (length_of draw) (prot_of_bits (prot_bits_of draw)))
operation Move draw = Call (Mremap (drawn_address draw) (length_of draw) (new_length_of draw) MREMAP_MAYMOVE 0)
operation kinds.Read draw = Fault (record { 0 = drawn_address draw / PAGE_SIZE }) Read
operation kinds.Write draw = Fault (record { 0 = drawn_address draw / PAGE_SIZE }) Write

-- the operation of a draw
abbrev pub operation_of : ℕ → Op
operation_of draw = operation (kind_of draw) draw

-- the line of a draw, with its number in the trace
abbrev pub drawn_line : ℕ → ℕ → TraceLine
drawn_line number draw = record { number = number; thread = drawn_thread draw; op = operation_of draw; after = None }

-- the lines of so many draws after a number, the first line of this number in the trace
unfoldable pub lines_after : ℕ → ℕ → ℕ → List TraceLine
lines_after number zero last = []
lines_after number (suc count) last = drawn_line number (draw_of (next_of last)) ∷ lines_after (number + 1) count (next_of last)

-- the lines of a load: line 1 of the trace is its header
abbrev pub load_lines : ℕ → ℕ → List TraceLine
load_lines count seed = lines_after 2 count seed

-- the trace of a load: the default configuration without files, and so many operations
abbrev pub load_trace : ℕ → ℕ → Trace
load_trace count seed = record { config = default_config []; lines = load_lines count seed }

-- the text of a load
unfoldable pub load_text : ℕ → ℕ → List ℕ
load_text count seed = header ++ flat_map line_text (load_lines count seed)
