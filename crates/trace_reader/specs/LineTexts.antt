-- The text of a line of a trace, in the form that the reader of traces accepts.
use Rattle.std.specs.Prelude.{ℕ, ◌≡◌, ◌*◌, false, List, [], ◌∷◌, ◌++◌, codes, nat_eq, bit_or, Option, Some, None, Result, Err, if◌then◌else◌}
use Rattle.std.specs.Fmt.{digits, decimal, signed_decimal}
use Rattle.std.specs.List.{join_with_byte}
use Rattle.std.specs.Str.{byte}
use Rattle.mm_types.specs.declared.area.Access.{Access}
use Rattle.mm_types.specs.declared.area.Access.TheVariants.{Read, Write, Exec}
use Rattle.mm_types.specs.declared.area.Prot.{Prot}
use Rattle.mm_types.specs.declared.call.Call.{Call}
use Rattle.mm_types.specs.declared.call.Call.TheVariants.{Mmap, Munmap, Mprotect, Mremap, Touch, Brk, Mseal}
use Rattle.mm_types.specs.declared.call.MmapArgs.{MmapArgs}
use Rattle.mm_types.specs.declared.config.TheConstants.{PAGE_SIZE}
use Rattle.mm_types.specs.declared.flags.TheConstants.{PROT_READ, PROT_WRITE, PROT_EXEC, MREMAP_FIXED}
use Rattle.mm_types.specs.Flags.{has_flag}
use Rattle.flag_table.specs.Tables.{HasRows, prot_flags, map_flags, mremap_flags}
use Rattle.flag_table.specs.Printing.{printed}
use Rattle.trace_reader.specs.Operations.{note, read_line}
use Rattle.text_lexer.specs.Words.{words_of}
use Rattle.text_lexer.specs.declared.error.Cause.{Cause}
use Rattle.text_lexer.specs.declared.error.Cause.TheVariants.{Arity}
use Rattle.trace_reader.specs.declared.trace.Op.{Op}
use Rattle.trace_reader.specs.declared.trace.Op.TheVariants as ops
use Rattle.trace_reader.specs.declared.trace.TraceLine.{TraceLine}

-- line 1 of a trace
abbrev pub header : List ℕ
header = codes "vmatrace 1\n"

-- a number in hexadecimal: `0x` and its digits
abbrev pub hexadecimal_text : ℕ → List ℕ
hexadecimal_text n = codes "0x" ++ digits 16 false n

-- an address: its hexadecimal digits, or `0` for none
unfoldable pub address_word : ℕ → List ℕ
address_word address = if nat_eq address 0 then codes "0" else hexadecimal_text address

-- the bits of the accesses that a protection allows
abbrev pub bits_of_prot : Prot → ℕ
bits_of_prot prot = bit_or (if prot.read then PROT_READ else 0)
    (bit_or (if prot.write then PROT_WRITE else 0) (if prot.exec then PROT_EXEC else 0))

-- a protection, by the names of its bits
unfoldable pub prot_word : Prot → List ℕ
prot_word prot = printed prot_flags (bits_of_prot prot)

-- what a page fault wants to do
abbrev pub access_word : Access → List ℕ
access_word Read = codes "r"
access_word Write = codes "w"
access_word Exec = codes "x"

-- the words of an mmap(2) with its offset as this word
abbrev pub mapping_words : MmapArgs → List ℕ → List (List ℕ)
mapping_words args offset = codes "mmap" ∷ address_word args.addr ∷ decimal args.len ∷ prot_word args.prot
    ∷ printed map_flags args.flags ∷ signed_decimal args.fd ∷ offset ∷ []

-- the words of a call; a touch has none, since no line asks for one
unfoldable pub call_words : Call → List (List ℕ)
call_words (Mmap args) = mapping_words args (decimal args.offset)
call_words (Munmap addr len) = codes "munmap" ∷ address_word addr ∷ decimal len ∷ []
call_words (Mprotect addr len prot) = codes "mprotect" ∷ address_word addr ∷ decimal len ∷ prot_word prot ∷ []
call_words (Mremap old old_len new_len flags new) = codes "mremap" ∷ address_word old ∷ decimal old_len ∷ decimal new_len
    ∷ printed mremap_flags flags ∷ (if has_flag flags MREMAP_FIXED then address_word new ∷ [] else [])
call_words (Touch page access) = []
call_words (Brk addr) = codes "brk" ∷ address_word addr ∷ []
call_words (Mseal addr len flags) = codes "mseal" ∷ address_word addr ∷ decimal len ∷ decimal flags ∷ []

-- the words of an operation: its name, and the words of its form
unfoldable pub op_words : Op → List (List ℕ)
op_words (ops.Call call) = call_words call
op_words (ops.Fault page access) = codes "fault" ∷ address_word (PAGE_SIZE * page.0) ∷ access_word access ∷ []
op_words ops.Maps = codes "maps" ∷ []
op_words (ops.Fork child) = codes "fork" ∷ decimal child ∷ []

-- the word that names a line, where one is named
abbrev pub note_words : Option ℕ → List (List ℕ)
note_words None = []
note_words (Some number) = (note ++ decimal number) ∷ []

-- the words of a line whose operation has these: its thread, those words, and the line that it names
abbrev pub words_around : List (List ℕ) → TraceLine → List (List ℕ)
words_around words line = decimal line.thread ∷ (words ++ note_words line.after)

-- the words of a line
unfoldable pub line_words : TraceLine → List (List ℕ)
line_words line = words_around (op_words line.op) line

-- the text of a line whose operation is written so: its words with a space between each two
abbrev pub text_by : (Op → List (List ℕ)) → TraceLine → List ℕ
text_by write line = join_with_byte (byte " ") (words_around (write line.op) line)

-- the bytes of that line: its text, and a newline
abbrev pub line_text_by : (Op → List (List ℕ)) → TraceLine → List ℕ
line_text_by write line = text_by write line ++ codes "\n"

-- the text of a line
unfoldable pub text_of_line : TraceLine → List ℕ
text_of_line line = text_by op_words line

-- the bytes of a line: its text, and a newline
abbrev pub line_text : TraceLine → List ℕ
line_text line = text_of_line line ++ codes "\n"

-- the line of this number that words are
abbrev pub line_of_words : ℕ → List (List ℕ) → Result TraceLine Cause
line_of_words number [] = Err Arity
line_of_words number (first ∷ words) = read_line number first words

-- the line of this number that a text is
abbrev pub line_read : ℕ → List ℕ → Result TraceLine Cause
line_read number text = line_of_words number (words_of text)

-- the flags of an operation have names, and an mremap has a new address only where its flags ask for one
abbrev pub HasNames : Op → Type 0
HasNames (ops.Call (Mmap args)) = HasRows map_flags args.flags
HasNames (ops.Call (Munmap addr len)) = Unit {0}
HasNames (ops.Call (Mprotect addr len prot)) = Unit {0}
HasNames (ops.Call (Mremap old old_len new_len flags new)) =
    HasRows mremap_flags flags × (has_flag flags MREMAP_FIXED ≡ false → new ≡ 0)
HasNames (ops.Call (Touch page access)) = Unit {0}
HasNames (ops.Call (Brk addr)) = Unit {0}
HasNames (ops.Call (Mseal addr len flags)) = Unit {0}
HasNames (ops.Fault page access) = Unit {0}
HasNames ops.Maps = Unit {0}
HasNames (ops.Fork child) = Unit {0}
