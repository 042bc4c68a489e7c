-- Printed bytes have no newline.
use Rattle.std.proofs.Common.{ℕ, suc, zero, ◌≡◌, ◌-◌, ◌/◌, ◌%◌, ◌==◌, refl, Bool, true, false, List, [], ◌∷◌, ◌++◌, if◌then◌else◌, length, replicate, flat_map, codes, arith, inl, inr}
use Rattle.std.specs.Str.{byte}
use Rattle.std.specs.Fmt.{digits, digits_onto, digit_glyph}
use Rattle.std.proofs.lemmas.Bool.{cases_Bool}
use Rattle.std.proofs.lemmas.Bool.Decides.{nat_tests}
use Rattle.text_lexer.specs.Lines.{is_newline}
use Rattle.output.specs.Internal.Printed.{has_none, IsOfOneLine, IsLine}
use Rattle.output.proofs.TextLines.{plain_parts}
use Rattle.mm_types.specs.declared.area.Record.{Record}
use Rattle.mm_types.specs.declared.area.Span.{Span}
use Rattle.mm_types.specs.declared.files.FileRow.{FileRow}
use Rattle.mm_types.specs.MapsText.{hex, page_text, span_text, letter, perms, range_text, place_text, front_text, shown_byte, spaces_before, name_text, Backing, backing, area_text}

none_append : (a b : List ℕ) → has_none a ≡ true → has_none b ≡ true → has_none (a ++ b) ≡ true
none_append [] b first second = second
none_append (c ∷ a) b first second =
    let parts = plain_parts (is_newline c) (has_none a) first in
    let other : is_newline c ≡ false = parts.0 in
    rw other (none_append a b parts.1 second)

-- plain bytes behind plain bytes
pub both : {a b : List ℕ} → IsOfOneLine a → IsOfOneLine b → IsOfOneLine (a ++ b)
both {a} {b} first second = record { none = none_append a b first.none second.none }

-- bytes that are written out
pub written : (text : List ℕ) → has_none text ≡ true → IsOfOneLine text
written text none = record { none = none }

-- plain bytes and a newline are a line
pub line_of : {text : List ℕ} → IsOfOneLine text → IsLine (text ++ codes "\n")
line_of {text} plain = record { body = text; plain = plain; is = refl }

glyph_plain : (upper : Bool) (d : ℕ) → is_newline (digit_glyph upper d) ≡ false
glyph_plain upper d = grind (arith, nat_tests)

onto_plain : (k base n : ℕ) (acc : List ℕ) → has_none acc ≡ true → has_none (digits_onto k base false n acc) ≡ true
onto_plain zero base n acc plain = plain
onto_plain (suc k) base n acc plain =
    let glyph : ℕ = digit_glyph false (n % base) in
    let other : is_newline glyph ≡ false = glyph_plain false (n % base) in
    let more : has_none (glyph ∷ acc) ≡ true = rw other plain in
    elim (cases_Bool (n / base == 0)) [
      | inl last ↦ rw last more
      | inr front ↦ rw front (onto_plain k base (n / base) (glyph ∷ acc) more)
    ]

pub digits_plain : (base n : ℕ) → IsOfOneLine (digits base false n)
unfolding digits
digits_plain base n = record { none = onto_plain 64 base n [] refl }

filled_plain : (count c : ℕ) → is_newline c ≡ false → has_none (replicate count c) ≡ true
filled_plain zero c other = refl
filled_plain (suc count) c other = rw other (filled_plain count c other)

filled : (count c : ℕ) → is_newline c ≡ false → IsOfOneLine (replicate count c)
filled count c other = record { none = filled_plain count c other }

hex_plain : (width n : ℕ) → IsOfOneLine (hex width n)
unfolding hex
hex_plain width n = let text : List ℕ = digits 16 false n in both (filled (width - length text) (byte "0") refl) (digits_plain 16 n)

start_plain : (page : ℕ) → IsOfOneLine (page_text page)
unfolding page_text
start_plain page = hex_plain 8 _

span_plain : (span : Span) → IsOfOneLine (span_text span)
unfolding span_text
span_plain span = both (both (start_plain span.lo) (written (codes "-") refl)) (start_plain span.hi)

letter_plain : (allowed : Bool) (access : ℕ) → is_newline access ≡ false → is_newline (letter allowed access) ≡ false
letter_plain true access other = other
letter_plain false access other = refl

four : (a b c d : ℕ) → is_newline a ≡ false → is_newline b ≡ false → is_newline c ≡ false → is_newline d ≡ false
    → has_none (a ∷ b ∷ c ∷ d ∷ []) ≡ true
four a b c d first second third fourth = rw (first, second, third, fourth) refl

sharing_plain : (shared : Bool) → is_newline (if shared then byte "s" else byte "p") ≡ false
sharing_plain true = refl
sharing_plain false = refl

perms_plain : (area : Record) → IsOfOneLine (perms area)
unfolding perms
perms_plain area = written (perms area)
    (four (letter area.attr.prot.read (byte "r")) (letter area.attr.prot.write (byte "w")) (letter area.attr.prot.exec (byte "x"))
    (if area.attr.shared then byte "s" else byte "p") (letter_plain area.attr.prot.read (byte "r") refl)
    (letter_plain area.attr.prot.write (byte "w") refl) (letter_plain area.attr.prot.exec (byte "x") refl) (sharing_plain area.attr.shared))

pub range_plain : (area : Record) → IsOfOneLine (range_text area)
unfolding range_text
range_plain area = both (both (span_plain area.span) (written (codes " ") refl)) (perms_plain area)

place_plain : (offset : ℕ) (backing : Backing) → IsOfOneLine (place_text offset backing)
unfolding place_text
place_plain offset backing =
    both (both (both (both (both (both (start_plain offset) (written (codes " ") refl)) (hex_plain 2 backing.major)) (written (codes ":") refl))
    (hex_plain 2 backing.minor)) (written (codes " ") refl)) (digits_plain 10 backing.inode)

front_plain : (area : Record) (backing : Backing) → IsOfOneLine (front_text area backing)
unfolding front_text
front_plain area backing =
    both (both (both (range_plain area) (written (codes " ") refl)) (place_plain area.offset backing)) (written (codes " ") refl)

shown_plain : (c : ℕ) → has_none (shown_byte c) ≡ true
shown_plain c = elim (cases_Bool (is_newline c)) [
  | inl ends ↦ rw ends refl
  | inr other ↦ rw other (rw other refl)
]

name_bytes : (name : List ℕ) → has_none (flat_map shown_byte name) ≡ true
name_bytes [] = refl
name_bytes (c ∷ name) = none_append (shown_byte c) (flat_map shown_byte name) (shown_plain c) (name_bytes name)

name_plain : (column : ℕ) (name : List ℕ) → IsOfOneLine (name_text column name)
unfolding name_text
name_plain column [] = written [] refl
name_plain column (c ∷ name) =
    both (filled (spaces_before column) (byte " ") refl) (written (flat_map shown_byte (c ∷ name)) (name_bytes (c ∷ name)))

-- the line of an area is one line
pub area_line : (files : List FileRow) (area : Record) → IsLine (area_text files area)
unfolding area_text
area_line files area = line_of (both (front_plain area (backing files area)) (name_plain _ (backing files area).name))
