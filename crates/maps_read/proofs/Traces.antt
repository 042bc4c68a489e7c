-- For `retraced_text_makes_the_maps`: the lines of a trace that was made are read as what was taken.
use Rattle.std.proofs.Common.{◌≡◌, ◌≤◌, ◌<◌, ◌≤ℤ◌, ◌+◌, ◌-◌, ◌*◌, ◌/◌, ◌%◌, ◌^◌, ◌==◌, ℕ, ℤ, pos, negsuc, zero, suc, Bool, true, false, not, ◌&&◌, nat_eq, List, [], ◌∷◌, ◌++◌, length, flat_map, replicate, codes, All, Ok, refl, sym, ap, ◌∙◌, subst, append_assoc, append-nil, arith, length-append, lit≤}
use Rattle.std.specs.Fmt.{digits, digits_onto, digit_glyph, decimal, signed_decimal}
use Rattle.std.specs.List.{AllByRecursion as Each}
use Rattle.std.specs.Ordering.{int_eq}
use Rattle.std.proofs.lemmas.Bool.{cond_both, and_parts, eqb-true, eq-eqb}
use Rattle.std.proofs.lemmas.Bool.Decides.{nat_tests}
use Rattle.std.proofs.lemmas.Fmt.{decimal_digit}
use Rattle.std.proofs.lemmas.Int.{ints}
use Rattle.std.proofs.lemmas.List.Elements.{All-nil, All-cons, All-append, All-replicate}
use Rattle.mm_types.specs.declared.area.Record.{Record}
use Rattle.mm_types.specs.declared.config.TheConstants.{PAGE_SIZE}
use Rattle.mm_types.specs.declared.flags.TheConstants.{MAP_ANONYMOUS}
use Rattle.mm_types.specs.declared.files.FileRow.{FileRow}
use Rattle.mm_types.specs.Config.{default_config}
use Rattle.mm_types.specs.Flags.{has_flag}
use Rattle.mm_types.specs.MapsText.{hex}
use Rattle.mm_types.specs.Records.{IsValid}
use Rattle.flag_table.specs.Printing.{printed}
use Rattle.flag_table.specs.Tables.{prot_flags}
use Rattle.trace_reader.specs.Grammar.{nothing, after_trace_lines, lines_read, config_of, trace_of}
use Rattle.trace_reader.specs.Lines.{SoFar, has_descriptor}
use Rattle.text_lexer.specs.Lines.{input_limit, is_newline, lines_from}
use Rattle.trace_reader.specs.LineTexts.{header, hexadecimal_text, prot_word, line_text_by, text_by}
use Rattle.trace_reader.proofs.Numerals.{length-address, length-number, length-hexadecimal}
use Rattle.trace_reader.proofs.OperationLines.{IsNumberWord, decimal_is_word, hexadecimal_is_word, mapping_read_from}
use Rattle.trace_reader.proofs.LinesRead.{IsReadableBy, AreNumberedFrom, with_lines, length-text, after_more, after_all, lines_read-header, trace_of-read}
use Rattle.maps_read.specs.declared.maps.MapsLine.{MapsLine}
use Rattle.maps_read.specs.FileLines.{file_text, file_texts, files_opened}
use Rattle.maps_read.specs.Mappings.{descriptor_of, mapping_flags, mapping_of, offset_word, mapped_words, mapping_line, mapping_lines, mapping_text}
use Rattle.maps_read.proofs.FileReading.{with_files, opens_behind, opens_short}
use Rattle.maps_read.proofs.Mapped.{flags_say}
use Rattle.maps_read.proofs.OpenFiles.{other_number}
use Rattle.maps_read.proofs.RawMaps.{IsSingle}
use Rattle.maps_read.proofs.Walks.{AreFilesOf, all_files, one_file}

-- ---- the lines that open files

glyph_single : (d : ℕ) → is_newline (digit_glyph false d) ≡ false
glyph_single d = grind (arith, nat_tests)

onto_single : (fuel base n : ℕ) (rest : List ℕ) → IsSingle rest → IsSingle (digits_onto fuel base false n rest)
onto_single zero base n rest single = single
onto_single (suc fuel) base n rest single =
    let more : IsSingle (digit_glyph false (n % base) ∷ rest) = All-cons (λ c. is_newline c ≡ false) (digit_glyph false (n % base)) rest (glyph_single (n % base)) single in
    cond_both (n / base == 0) (digit_glyph false (n % base) ∷ rest) (digits_onto fuel base false (n / base) (digit_glyph false (n % base) ∷ rest)) IsSingle
    (λ _. more) (λ _. onto_single fuel base (n / base) (digit_glyph false (n % base) ∷ rest) more)

digits_single : (base n : ℕ) → IsSingle (digits base false n)
unfolding digits
digits_single base n = onto_single 64 base n [] (All-nil (λ c. is_newline c ≡ false))

hex_single : (width n : ℕ) → IsSingle (hex width n)
unfolding hex
hex_single width n = All-append (λ c. is_newline c ≡ false) (replicate (width - length (digits 16 false n)) 48) (digits 16 false n)
    (All-replicate (λ c. is_newline c ≡ false) (width - length (digits 16 false n)) 48 refl) (digits_single 16 n)

-- a test of each byte of a text that stands written out
abbrev has_none : List ℕ → Bool
has_none [] = true
has_none (c ∷ text) = not (is_newline c) && has_none text

not_newline : (b : Bool) → not b ≡ true → b ≡ false
not_newline false e = refl
not_newline true e = absurd (cc e)

single_from_test : (text : List ℕ) → has_none text ≡ true → IsSingle text
single_from_test [] e = All-nil (λ c. is_newline c ≡ false)
single_from_test (c ∷ text) e =
    let parts = and_parts (not (is_newline c)) (has_none text) e in
    All-cons (λ c. is_newline c ≡ false) c text (not_newline (is_newline c) parts.0) (single_from_test text parts.1)

both_single : (a b : List ℕ) → IsSingle a → IsSingle b → IsSingle (a ++ b)
both_single a b first second = All-append (λ c. is_newline c ≡ false) a b first second

-- the line without its newline
abbrev file_front : ℕ → MapsLine → List ℕ
file_front fd line = codes "file " ++ (decimal fd ++ (codes " rw 9223372036854775807 " ++ (hex 2 line.major ++ (codes ":" ++ (hex 2 line.minor
    ++ (codes " " ++ (decimal line.inode ++ (codes " " ++ line.name))))))))

front_newline : (fd : ℕ) (line : MapsLine) → file_text fd line ≡ file_front fd line ++ codes "\n"
unfolding file_text
front_newline fd line = simp append_assoc refl

front_single : (fd : ℕ) (line : MapsLine) → IsSingle line.name → IsSingle (file_front fd line)
front_single fd line single =
    both_single (codes "file ") _ (single_from_test (codes "file ") refl)
    (both_single (decimal fd) _ (digits_single 10 fd)
    (both_single (codes " rw 9223372036854775807 ") _ (single_from_test (codes " rw 9223372036854775807 ") refl)
    (both_single (hex 2 line.major) _ (hex_single 2 line.major)
    (both_single (codes ":") _ (single_from_test (codes ":") refl)
    (both_single (hex 2 line.minor) _ (hex_single 2 line.minor)
    (both_single (codes " ") _ (single_from_test (codes " ") refl)
    (both_single (decimal line.inode) _ (digits_single 10 line.inode)
    (both_single (codes " ") line.name (single_from_test (codes " ") refl) single))))))))

-- the descriptors of files are below this one
pub record HasFdBelow (most : ℕ) (file : FileRow) : Type 0 where
  pub number : ℕ
  pub is : file.fd ≡ pos number
  pub below : number < most

new_descriptor : (files : List FileRow) (fd : ℕ) → Each (HasFdBelow fd) files → has_descriptor files (pos fd) ≡ false
unfolding has_descriptor
new_descriptor [] fd are = refl
new_descriptor (file ∷ files) fd are =
    let other : int_eq file.fd (pos fd) ≡ false = ap (λ (n : ℤ). int_eq n (pos fd)) are.0.is ∙ other_number are.0.number fd are.0.below in
    rw other (new_descriptor files fd are.1)

below_more : (files : List FileRow) (fd : ℕ) (file : FileRow) → Each (HasFdBelow fd) files → file.fd ≡ pos fd → Each (HasFdBelow (fd + 1)) (files ++ file ∷ [])
below_more [] fd file are is = (record { number = fd; is = is; below = omega arith }, tt)
below_more (first ∷ files) fd file are is =
    let below = are.0.below in
    (record { number = are.0.number; is = are.0.is; below = omega arith }, below_more files fd file are.1 is)

-- each line has at most 4,097 bytes
pub files_short : (fd : ℕ) (named : List MapsLine) (opened : List (List FileRow)) → AreFilesOf fd named opened
    → length (file_texts fd named) ≤ 4097 * length named
unfolding file_texts
files_short fd [] [] are = omega arith
files_short fd (line ∷ named) (files ∷ opened) are =
    let one = one_file fd files are.0.one in
    let text = front_newline fd line in
    let short = opens_short one.file (file_front fd line) (front_single fd line are.0.single)
    (ap (λ (t : List ℕ). files_opened t) (sym text) ∙ are.0.opened ∙ one.is) in
    let whole = ap length text in
    let newline = length-append (file_front fd line) (codes "\n") in
    let both = length-append (file_text fd line) (file_texts (fd + 1) named) in
    let rest = files_short (fd + 1) named opened are.1 in
    omega arith
files_short fd [] (files ∷ opened) are = absurd are
files_short fd (line ∷ named) [] are = absurd are

-- the files are read one after another
pub files_read : (fd : ℕ) (named : List MapsLine) (opened : List (List FileRow)) (so_far : SoFar) (number start : ℕ) (rest : List ℕ)
    → AreFilesOf fd named opened → so_far.lines ≡ [] → Each (HasFdBelow fd) so_far.files → length so_far.files + length named ≤ 1024
    → 1 < number → start + length (file_texts fd named) ≤ input_limit
    → after_trace_lines so_far (lines_from number start (file_texts fd named ++ rest))
    ≡ after_trace_lines (with_files so_far (all_files opened)) (lines_from (number + length named) (start + length (file_texts fd named)) rest)
unfolding file_texts
files_read fd [] [] so_far number start rest are before below few later within =
    ap (λ (n : ℕ). after_trace_lines so_far (lines_from n start rest)) (let e : number ≡ number + 0 = omega arith in e)
    ∙ ap (λ (n : ℕ). after_trace_lines so_far (lines_from (number + 0) n rest)) (let e : start ≡ start + 0 = omega arith in e)
    ∙ ap (λ (files : List FileRow). after_trace_lines (record so_far { files = files }) (lines_from (number + 0) (start + 0) rest)) (sym (append-nil so_far.files))
files_read fd (line ∷ named) (files ∷ opened) so_far number start rest are before below few later within =
    let one = one_file fd files are.0.one in
    let file = one.file in
    let front = file_front fd line in
    let others = file_texts (fd + 1) named in
    let text = front_newline fd line in
    let whole : length (file_text fd line) ≡ length front + 1 = ap length text ∙ length-append front (codes "\n") in
    let both = length-append (file_text fd line) others in
    let single = front_single fd line are.0.single in
    let opens : files_opened (front ++ codes "\n") ≡ file ∷ [] =
    ap files_opened (sym text) ∙ are.0.opened ∙ one.is in
    let new : has_descriptor so_far.files file.fd ≡ false = ap (has_descriptor so_far.files) one.open_as.fd ∙ new_descriptor so_far.files fd below in
    let next = with_files so_far (file ∷ []) in
    let reads = opens_behind so_far file number start front before new (omega arith) later (omega arith) single opens in
    let more = length-append so_far.files (file ∷ []) in
    ap (λ (bytes : List ℕ). after_trace_lines so_far (lines_from number start bytes)) (append_assoc (file_text fd line) others rest
    ∙ ap (λ (t : List ℕ). t ++ (others ++ rest)) text)
    ∙ after_more so_far next number start front (others ++ rest) single reads
    ∙ files_read (fd + 1) named opened next (number + 1) (start + length front + 1) rest are.1 before
    (below_more so_far.files fd file below one.open_as.fd) (omega arith) (omega arith) (omega arith)
    ∙ ap (λ (all : List FileRow). after_trace_lines (record so_far { files = all })
    (lines_from (number + 1 + length named) (start + length front + 1 + length others) rest))
    (append_assoc so_far.files (file ∷ []) (all_files opened) ∙ ap (λ (f : List FileRow). so_far.files ++ (f ++ all_files opened)) (sym one.is))
    ∙ ap (λ (n : ℕ). after_trace_lines (with_files so_far (files ++ all_files opened)) (lines_from n (start + length front + 1 + length others) rest))
    (let e : number + 1 + length named ≡ number + length (line ∷ named) = omega arith in e)
    ∙ ap (λ (n : ℕ). after_trace_lines (with_files so_far (files ++ all_files opened)) (lines_from (number + length (line ∷ named)) n rest))
    (let e : start + length front + 1 + length others ≡ start + length (file_text fd line ++ others) = omega arith in e)
files_read fd [] (files ∷ opened) so_far number start rest are before below few later within = absurd are
files_read fd (line ∷ named) [] so_far number start rest are before below few later within = absurd are

-- ---- the lines that map areas

length-prot : (r w x : Bool) → length (prot_word (record { read = r; write = w; exec = x })) ≤ 30
unfolding prot_word printed prot_flags
length-prot true true true = lit≤ tt
length-prot true true false = lit≤ tt
length-prot true false true = lit≤ tt
length-prot true false false = lit≤ tt
length-prot false true true = lit≤ tt
length-prot false true false = lit≤ tt
length-prot false false true = lit≤ tt
length-prot false false false = lit≤ tt

-- a valid area of one of few objects, below the limit
pub record IsShownArea (area : Record) : Type 0 where
  pub valid : IsValid area
  pub object : area.object ≤ 1024

small_offset : (area : Record) → IsValid area → area.offset < 2 ^ 51
small_offset area valid = by_none (nat_eq area.object 0) refl
  where
    by_none : (none : Bool) → nat_eq area.object 0 ≡ none → area.offset < 2 ^ 51
    by_none true is = let first = (valid.anonymous (eqb-true area.object 0 is)).0 in omega arith
    by_none false is = let backed = valid.backed (λ zero. absurd (cc (eq-eqb area.object 0 zero, is))) in omega arith

-- the descriptor of an object
record IsDescriptor (fd : ℤ) : Type 0 where
  low : negsuc 0 ≤ℤ fd
  high : fd ≤ℤ pos (2 ^ 31 - 1)
  short : length (signed_decimal fd) ≤ 20

descriptor : (object : ℕ) → object ≤ 1024 → IsDescriptor (descriptor_of object)
unfolding descriptor_of
descriptor zero few = record { low = omega (arith, ints); high = omega (arith, ints); short = rw (decimal_digit 1 (omega arith)) (lit≤ tt) }
descriptor (suc place) few = record { low = omega (arith, ints); high = omega (arith, ints); short = length-number (3 + place) (omega arith) }

-- the offset is read as it is written
record IsOffset (area : Record) : Type 0 where
  reads : IsNumberWord (PAGE_SIZE * area.offset) (offset_word (mapping_of area))
  short : length (offset_word (mapping_of area)) ≤ 18

offset_read : (area : Record) → IsValid area → IsOffset area
unfolding offset_word mapping_of
offset_read area valid =
    let say = flags_say area in
    let small = small_offset area valid in
    record {
      reads = cond_both (has_flag (mapping_flags area) MAP_ANONYMOUS) (codes "0") (hexadecimal_text (PAGE_SIZE * area.offset))
          (IsNumberWord (PAGE_SIZE * area.offset))
          (λ is. let none : area.offset ≡ 0 = (valid.anonymous (eqb-true area.object 0 (sym say.anonymous ∙ is))).0 in
          subst (λ (n : ℕ). IsNumberWord n (codes "0")) (let e : 0 ≡ PAGE_SIZE * area.offset = omega arith in e)
          (subst (IsNumberWord 0) (decimal_digit 0 (omega arith)) (decimal_is_word 0 (omega arith))))
          (λ _. hexadecimal_is_word (PAGE_SIZE * area.offset) (omega arith));
      short = cond_both (has_flag (mapping_flags area) MAP_ANONYMOUS) (codes "0") (hexadecimal_text (PAGE_SIZE * area.offset))
          (λ (word : List ℕ). length word ≤ 18) (λ _. omega arith) (λ _. length-hexadecimal (PAGE_SIZE * area.offset) (omega arith));
    }

-- a line that maps an area is short, and read as it is written
record IsMappingLine (number : ℕ) (area : Record) : Type 0 where
  readable : IsReadableBy mapped_words (mapping_line number area)
  short : length (line_text_by mapped_words (mapping_line number area)) ≤ 200

mapping_read : (number : ℕ) (area : Record) → IsShownArea area → IsMappingLine number area
unfolding mapping_of
mapping_read number area is =
    let valid = is.valid in
    let some = valid.some_pages in
    let end = valid.below_end in
    let say = flags_say area in
    let fd = descriptor area.object is.object in
    let offset = offset_read area valid in
    let small = small_offset area valid in
    let lo : PAGE_SIZE * area.span.lo < 2 ^ 64 = omega arith in
    let len : PAGE_SIZE * (area.span.hi - area.span.lo) < 2 ^ 64 = omega arith in
    let a = length-address (PAGE_SIZE * area.span.lo) lo in
    let l = length-number (PAGE_SIZE * (area.span.hi - area.span.lo)) len in
    let p = length-prot area.attr.prot.read area.attr.prot.write area.attr.prot.exec in
    let f = say.short in
    let d = fd.short in
    let o = offset.short in
    let readable : IsReadableBy mapped_words (mapping_line number area) = record {
      few = omega arith;
      from = record {
        thread = omega arith;
        from = mapping_read_from (mapping_of area) (offset_word (mapping_of area))
            (record { addr = lo; len = len; flags = say.small; low = fd.low; high = fd.high; offset = omega arith }) say.rows offset.reads;
        after = tt;
      };
      no_maps = refl;
      no_child = refl;
      alone = refl;
      room = omega arith;
    } in
    let text = length-text mapped_words (mapping_line number area) readable in
    let newline = length-append (text_by mapped_words (mapping_line number area)) (codes "\n") in
    record { readable = readable; short = omega arith }

lines_readable : (number : ℕ) (areas : List Record) → Each IsShownArea areas → All (IsReadableBy mapped_words) (mapping_lines number areas)
unfolding mapping_lines
lines_readable number [] are = All-nil (IsReadableBy mapped_words)
lines_readable number (area ∷ areas) are = All-cons (IsReadableBy mapped_words) (mapping_line number area) (mapping_lines (number + 1) areas)
    (mapping_read number area are.0).readable (lines_readable (number + 1) areas are.1)

lines_numbered : (number : ℕ) (areas : List Record) → AreNumberedFrom number (mapping_lines number areas)
unfolding mapping_lines
lines_numbered number [] = tt
lines_numbered number (area ∷ areas) = (refl, lines_numbered (number + 1) areas)

lines_count : (number : ℕ) (areas : List Record) → length (mapping_lines number areas) ≡ length areas
unfolding mapping_lines
lines_count number [] = refl
lines_count number (area ∷ areas) = let rest = lines_count (number + 1) areas in omega arith

lines_short : (number : ℕ) (areas : List Record) → Each IsShownArea areas
    → length (flat_map (line_text_by mapped_words) (mapping_lines number areas)) ≤ 200 * length areas
unfolding mapping_lines
lines_short number [] are = omega arith
lines_short number (area ∷ areas) are =
    let one = (mapping_read number area are.0).short in
    let rest = lines_short (number + 1) areas are.1 in
    let both = length-append (line_text_by mapped_words (mapping_line number area)) (flat_map (line_text_by mapped_words) (mapping_lines (number + 1) areas)) in
    omega arith

lines_text : (number : ℕ) (areas : List Record) → flat_map mapping_text areas ≡ flat_map (line_text_by mapped_words) (mapping_lines number areas)
unfolding mapping_lines mapping_text
lines_text number [] = refl
lines_text number (area ∷ areas) = ap (λ (rest : List ℕ). line_text_by mapped_words (mapping_line number area) ++ rest) (lines_text (number + 1) areas)

-- ---- the whole

module _ (named : List MapsLine) (opened : List (List FileRow)) (areas : List Record) (files : AreFilesOf 3 named opened) (few : length named ≤ 1024)
    (shown : Each IsShownArea areas) (room : length areas ≤ 65530) where
  text_read : lines_read (header ++ (file_texts 3 named ++ flat_map mapping_text areas))
      ≡ Ok (with_lines (with_files nothing (all_files opened)) (mapping_lines (2 + length named) areas))
  unfolding input_limit
  text_read =
      let text = flat_map mapping_text areas in
      let lines = mapping_lines (2 + length named) areas in
      let short = files_short 3 named opened files in
      let count = lines_count (2 + length named) areas in
      let all = lines_short (2 + length named) areas shown in
      lines_read-header (file_texts 3 named ++ text)
      ∙ files_read 3 named opened nothing 2 11 text files refl tt (omega arith) (omega arith) (omega arith)
      ∙ ap (λ (bytes : List ℕ). after_trace_lines (with_files nothing (all_files opened)) (lines_from (2 + length named) (11 + length (file_texts 3 named)) bytes))
      (lines_text (2 + length named) areas)
      ∙ after_all mapped_words lines (2 + length named) (11 + length (file_texts 3 named)) (with_files nothing (all_files opened)) (omega arith)
      (lines_numbered (2 + length named) areas) (lines_readable (2 + length named) areas shown) (omega arith) (omega arith)

  pub trace_read : trace_of (header ++ (file_texts 3 named ++ flat_map mapping_text areas))
      ≡ Ok (record { config = default_config (all_files opened); lines = mapping_lines (2 + length named) areas })
  unfolding config_of default_config
  trace_read = trace_of-read (header ++ (file_texts 3 named ++ flat_map mapping_text areas))
      (with_lines (with_files nothing (all_files opened)) (mapping_lines (2 + length named) areas)) (omega arith) text_read
