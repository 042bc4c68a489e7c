-- The lines of a trace that map areas where they lie.
use Rattle.std.specs.Prelude.{ℕ, zero, suc, ℤ, pos, negsuc, ◌*◌, ◌+◌, ◌-◌, List, [], ◌∷◌, ◌++◌, codes, bit_or, nat_eq, None, if◌then◌else◌}
use Rattle.std.specs.Fmt.{signed_decimal}
use Rattle.mm_types.specs.declared.area.Record.{Record}
use Rattle.mm_types.specs.declared.call.Call.{Call}
use Rattle.mm_types.specs.declared.call.Call.TheVariants.{Mmap, Munmap, Mprotect, Mremap, Touch, Brk, Mseal}
use Rattle.mm_types.specs.declared.call.MmapArgs.{MmapArgs}
use Rattle.mm_types.specs.declared.config.TheConstants.{PAGE_SIZE}
use Rattle.mm_types.specs.declared.flags.TheConstants.{MAP_SHARED, MAP_PRIVATE, MAP_FIXED, MAP_ANONYMOUS}
use Rattle.mm_types.specs.Flags.{has_flag}
use Rattle.trace_reader.specs.declared.trace.Op.{Op}
use Rattle.trace_reader.specs.declared.trace.Op.TheVariants as ops
use Rattle.trace_reader.specs.declared.trace.TraceLine.{TraceLine}
use Rattle.trace_reader.specs.LineTexts.{hexadecimal_text, mapping_words, call_words, op_words, line_text_by}
use Rattle.maps_read.specs.declared.file_lines.TheConstants.{FIRST_DESCRIPTOR}

-- the descriptor of an object: memory without a file has none, and files have those from the first on, in their order
unfoldable pub descriptor_of : ℕ → ℤ
descriptor_of zero = negsuc 0
descriptor_of (suc place) = pos (FIRST_DESCRIPTOR + place)

-- exactly at its address, shared or private, and without a file where it maps none
unfoldable pub mapping_flags : Record → ℕ
mapping_flags area = bit_or (if area.attr.shared then MAP_SHARED else MAP_PRIVATE)
    (bit_or MAP_FIXED (if nat_eq area.object 0 then MAP_ANONYMOUS else 0))

-- the mmap(2) that maps an area
unfoldable pub mapping_of : Record → MmapArgs
mapping_of area = record {
  addr = PAGE_SIZE * area.span.lo;
  len = PAGE_SIZE * (area.span.hi - area.span.lo);
  prot = area.attr.prot;
  flags = mapping_flags area;
  fd = descriptor_of area.object;
  offset = PAGE_SIZE * area.offset;
}

-- an offset in hexadecimal, or `0` where no file is mapped
unfoldable pub offset_word : MmapArgs → List ℕ
offset_word args = if has_flag args.flags MAP_ANONYMOUS then codes "0" else hexadecimal_text args.offset

-- the words of a call: as elsewhere, but for the offset of an mmap(2)
abbrev pub mapped_call_words : Call → List (List ℕ)
mapped_call_words (Mmap args) = mapping_words args (offset_word args)
mapped_call_words (Munmap addr len) = call_words (Munmap addr len)
mapped_call_words (Mprotect addr len prot) = call_words (Mprotect addr len prot)
mapped_call_words (Mremap old old_len new_len flags new) = call_words (Mremap old old_len new_len flags new)
mapped_call_words (Touch page access) = call_words (Touch page access)
mapped_call_words (Brk addr) = call_words (Brk addr)
mapped_call_words (Mseal addr len flags) = call_words (Mseal addr len flags)

-- and of an operation
abbrev pub mapped_words : Op → List (List ℕ)
mapped_words (ops.Call call) = mapped_call_words call
mapped_words (ops.Fault page access) = op_words (ops.Fault page access)
mapped_words ops.Maps = op_words ops.Maps
mapped_words (ops.Fork child) = op_words (ops.Fork child)

-- the line of this number, of thread 0, that maps an area
abbrev pub mapping_line : ℕ → Record → TraceLine
mapping_line number area = record { number = number; thread = 0; op = ops.Call (Mmap (mapping_of area)); after = None }

-- the lines that map areas, one for each, with the numbers from this one on
unfoldable pub mapping_lines : ℕ → List Record → List TraceLine
mapping_lines number [] = []
mapping_lines number (area ∷ areas) = mapping_line number area ∷ mapping_lines (number + 1) areas

-- the bytes of the line that maps an area, in which its number does not stand
unfoldable pub mapping_text : Record → List ℕ
mapping_text area = line_text_by mapped_words (mapping_line 0 area)

-- the last two words of that line: the descriptor and the offset
unfoldable pub backing_text : Record → List ℕ
backing_text area = codes " " ++ (signed_decimal (descriptor_of area.object) ++ (codes " " ++ (offset_word (mapping_of area) ++ codes "\n")))
