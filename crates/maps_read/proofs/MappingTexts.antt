-- For `push_words` and `push_backing`: the text of the line that maps an area.
use Rattle.std.proofs.Common.{◌≡◌, ◌≢◌, ◌<◌, ◌+◌, ◌-◌, ◌*◌, ℕ, zero, suc, false, List, ◌++◌, codes, refl, ap, ◌∙◌, append_assoc, arith}
use Rattle.std.specs.Fmt.{digits, decimal, signed_decimal}
use Rattle.std.proofs.lemmas.Bool.{cond-true, cond-false, eq-eqb, ne_eqb}
use Rattle.std.proofs.lemmas.Fmt.{decimal_digit}
use Rattle.mm_types.specs.declared.area.Record.{Record}
use Rattle.mm_types.specs.declared.config.TheConstants.{PAGE_SIZE}
use Rattle.mm_types.specs.declared.flags.TheConstants.{MAP_ANONYMOUS}
use Rattle.mm_types.specs.Flags.{has_flag}
use Rattle.flag_table.specs.Printing.{printed}
use Rattle.flag_table.specs.Tables.{map_flags}
use Rattle.trace_reader.specs.LineTexts.{hexadecimal_text, address_word, prot_word}
use Rattle.trace_reader.proofs.Numerals.{address_word-some}
use Rattle.maps_read.specs.Mappings.{descriptor_of, mapping_flags, mapping_of, offset_word, backing_text, mapping_text}
use Rattle.maps_read.proofs.Mapped.{flags_say}

-- the words, one after another
words : (area : Record) → mapping_text area ≡ codes "0 mmap " ++ (address_word (PAGE_SIZE * area.span.lo) ++ (codes " "
    ++ (decimal (PAGE_SIZE * (area.span.hi - area.span.lo)) ++ (codes " " ++ (prot_word area.attr.prot ++ (codes " "
    ++ (printed map_flags (mapping_flags area) ++ (codes " " ++ (signed_decimal (descriptor_of area.object) ++ (codes " "
    ++ (offset_word (mapping_of area) ++ codes "\n")))))))))))
unfolding mapping_text mapping_of
words area = rw (decimal_digit 0 (omega arith)) (simp append_assoc)

no_descriptor : (object : ℕ) → object ≡ 0 → signed_decimal (descriptor_of object) ≡ codes "-1"
unfolding descriptor_of
no_descriptor object none = ap (λ (n : ℕ). signed_decimal (descriptor_of n)) none ∙ rw (decimal_digit 1 (omega arith)) refl

some_descriptor : (object : ℕ) → object ≢ 0 → signed_decimal (descriptor_of object) ≡ decimal (3 + (object - 1))
unfolding descriptor_of
some_descriptor zero some = absurd (some refl)
some_descriptor (suc place) some = ap decimal (let e : 3 + place ≡ 3 + (suc place - 1) = omega arith in e)

no_offset : (area : Record) → area.object ≡ 0 → offset_word (mapping_of area) ≡ codes "0"
unfolding offset_word mapping_of
no_offset area none = cond-true (has_flag (mapping_flags area) MAP_ANONYMOUS) (codes "0") (hexadecimal_text (PAGE_SIZE * area.offset))
    ((flags_say area).anonymous ∙ eq-eqb area.object 0 none)

some_offset : (area : Record) → area.object ≢ 0 → offset_word (mapping_of area) ≡ hexadecimal_text (PAGE_SIZE * area.offset)
unfolding offset_word mapping_of
some_offset area some = cond-false (has_flag (mapping_flags area) MAP_ANONYMOUS) (codes "0") (hexadecimal_text (PAGE_SIZE * area.offset))
    ((flags_say area).anonymous ∙ ne_eqb area.object 0 some)

-- what stands before the descriptor
abbrev pub front : Record → List ℕ
front area = codes "0 mmap 0x" ++ (digits 16 false (PAGE_SIZE * area.span.lo) ++ (codes " "
    ++ (decimal (PAGE_SIZE * (area.span.hi - area.span.lo)) ++ (codes " " ++ (prot_word area.attr.prot ++ (codes " "
    ++ printed map_flags (mapping_flags area)))))))

address : (area : Record) → 0 < area.span.lo → address_word (PAGE_SIZE * area.span.lo) ≡ hexadecimal_text (PAGE_SIZE * area.span.lo)
address area above = address_word-some (PAGE_SIZE * area.span.lo) (omega arith)

-- the front and what follows
pub whole_text : (area : Record) → 0 < area.span.lo → mapping_text area ≡ front area ++ backing_text area
unfolding backing_text
whole_text area above = words area ∙ rw (address area above) (simp append_assoc)

-- the end of private memory
pub anonymous_end : (area : Record) → area.object ≡ 0 → backing_text area ≡ codes " -1 0\n"
unfolding backing_text
anonymous_end area none = rw (no_descriptor area.object none, no_offset area none) refl

-- and of a file
pub file_end : (area : Record) → area.object ≢ 0
    → backing_text area ≡ codes " " ++ (decimal (3 + (area.object - 1)) ++ (codes " 0x" ++ (digits 16 false (PAGE_SIZE * area.offset) ++ codes "\n")))
unfolding backing_text
file_end area some = rw (some_descriptor area.object some, some_offset area some) refl
