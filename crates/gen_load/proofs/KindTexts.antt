-- For `push_line`: the text of a line of each kind.
use Rattle.std.proofs.Common.{◌≡◌, ℕ, ◌*◌, ◌/◌, ◌<◌, false, ◌++◌, codes, None, refl, ap, ◌∙◌, append_assoc, arith}
use Rattle.std.specs.Fmt.{digits, decimal}
use Rattle.std.proofs.lemmas.Fmt.{decimal_digit}
use Rattle.mm_types.specs.declared.config.TheConstants.{PAGE_SIZE}
use Rattle.flag_table.specs.Printing.{printed}
use Rattle.flag_table.specs.Tables.{map_flags, mremap_flags}
use Rattle.trace_reader.specs.Fields.{prot_of_bits}
use Rattle.trace_reader.specs.LineTexts.{address_word, prot_word, call_words, op_words, line_words, text_of_line, line_text}
use Rattle.trace_reader.proofs.Numerals.{address_word-some}
use Rattle.gen_load.specs.declared.draw.Kind.{Kind}
use Rattle.gen_load.specs.declared.draw.Kind.TheVariants.{MapExactly, MapNear, MapAnywhere, Unmap, Protect, Move}
use Rattle.gen_load.specs.declared.draw.Kind.TheVariants as kinds
use Rattle.gen_load.specs.Loads.{kind_of, drawn_thread, drawn_address, length_of, prot_bits_of, new_length_of, mapping, exactly, anywhere, operation, drawn_line}

address_of-some : (draw : ℕ) → 0 < drawn_address draw
address_of-some draw = omega arith

-- the page of an address begins there
page_address : (draw : ℕ) → PAGE_SIZE * (drawn_address draw / PAGE_SIZE) ≡ drawn_address draw
page_address draw = omega arith

-- a line that maps
mapping_text : (thread address flags draw : ℕ) → line_text (record { number = 0; thread = thread; op = mapping address flags draw; after = None })
    ≡ decimal thread ++ (codes " mmap " ++ (address_word address ++ (codes " " ++ (decimal (length_of draw) ++ (codes " "
    ++ (prot_word (prot_of_bits (prot_bits_of draw)) ++ (codes " " ++ (printed map_flags flags ++ codes " -1 0\n"))))))))
unfolding text_of_line line_words op_words call_words mapping
mapping_text thread address flags draw = rw (decimal_digit 0 (omega arith), decimal_digit 1 (omega arith)) (simp append_assoc)

-- a line by its kind
by_kind : (kind : Kind) (draw : ℕ) → kind_of draw ≡ kind
    → line_text (drawn_line 0 draw) ≡ line_text (record { number = 0; thread = drawn_thread draw; op = operation kind draw; after = None })
by_kind kind draw is = ap (λ (k : Kind). line_text (record { number = 0; thread = drawn_thread draw; op = operation k draw; after = None })) is

pub exactly_text : (draw : ℕ) → kind_of draw ≡ MapExactly → line_text (drawn_line 0 draw) ≡ decimal (drawn_thread draw)
    ++ (codes " mmap 0x" ++ (digits 16 false (drawn_address draw) ++ (codes " " ++ (decimal (length_of draw) ++ (codes " "
    ++ (prot_word (prot_of_bits (prot_bits_of draw)) ++ codes " MAP_PRIVATE|MAP_FIXED|MAP_ANONYMOUS -1 0\n"))))))
unfolding operation printed map_flags
exactly_text draw is = by_kind MapExactly draw is ∙ mapping_text (drawn_thread draw) (drawn_address draw) exactly draw
    ∙ rw (address_word-some (drawn_address draw) (address_of-some draw)) refl

pub near_text : (draw : ℕ) → kind_of draw ≡ MapNear → line_text (drawn_line 0 draw) ≡ decimal (drawn_thread draw)
    ++ (codes " mmap 0x" ++ (digits 16 false (drawn_address draw) ++ (codes " " ++ (decimal (length_of draw) ++ (codes " "
    ++ (prot_word (prot_of_bits (prot_bits_of draw)) ++ codes " MAP_PRIVATE|MAP_ANONYMOUS -1 0\n"))))))
unfolding operation printed map_flags
near_text draw is = by_kind MapNear draw is ∙ mapping_text (drawn_thread draw) (drawn_address draw) anywhere draw
    ∙ rw (address_word-some (drawn_address draw) (address_of-some draw)) refl

pub anywhere_text : (draw : ℕ) → kind_of draw ≡ MapAnywhere → line_text (drawn_line 0 draw) ≡ decimal (drawn_thread draw)
    ++ (codes " mmap 0 " ++ (decimal (length_of draw) ++ (codes " "
    ++ (prot_word (prot_of_bits (prot_bits_of draw)) ++ codes " MAP_PRIVATE|MAP_ANONYMOUS -1 0\n"))))
unfolding operation printed map_flags address_word
anywhere_text draw is = by_kind MapAnywhere draw is ∙ mapping_text (drawn_thread draw) 0 anywhere draw

pub unmap_text : (draw : ℕ) → kind_of draw ≡ Unmap → line_text (drawn_line 0 draw) ≡ decimal (drawn_thread draw)
    ++ (codes " munmap 0x" ++ (digits 16 false (drawn_address draw) ++ (codes " " ++ (decimal (length_of draw) ++ codes "\n"))))
unfolding operation text_of_line line_words op_words call_words
unmap_text draw is = by_kind Unmap draw is ∙ rw (address_word-some (drawn_address draw) (address_of-some draw)) (simp append_assoc)

pub protect_text : (draw : ℕ) → kind_of draw ≡ Protect → line_text (drawn_line 0 draw) ≡ decimal (drawn_thread draw)
    ++ (codes " mprotect 0x" ++ (digits 16 false (drawn_address draw) ++ (codes " " ++ (decimal (length_of draw) ++ (codes " " ++ (prot_word (prot_of_bits (prot_bits_of draw)) ++ codes "\n"))))))
unfolding operation text_of_line line_words op_words call_words
protect_text draw is = by_kind Protect draw is ∙ rw (address_word-some (drawn_address draw) (address_of-some draw)) (simp append_assoc)

pub move_text : (draw : ℕ) → kind_of draw ≡ Move → line_text (drawn_line 0 draw) ≡ decimal (drawn_thread draw)
    ++ (codes " mremap 0x" ++ (digits 16 false (drawn_address draw) ++ (codes " " ++ (decimal (length_of draw) ++ (codes " "
    ++ (decimal (new_length_of draw) ++ codes " MREMAP_MAYMOVE\n"))))))
unfolding operation text_of_line line_words op_words call_words printed mremap_flags
move_text draw is = by_kind Move draw is ∙ rw (address_word-some (drawn_address draw) (address_of-some draw)) (simp append_assoc)

pub read_text : (draw : ℕ) → kind_of draw ≡ kinds.Read → line_text (drawn_line 0 draw) ≡ decimal (drawn_thread draw)
    ++ (codes " fault 0x" ++ (digits 16 false (drawn_address draw) ++ codes " r\n"))
unfolding operation text_of_line line_words op_words
read_text draw is = by_kind kinds.Read draw is ∙ rw (page_address draw, address_word-some (drawn_address draw) (address_of-some draw)) (simp append_assoc)

pub write_text : (draw : ℕ) → kind_of draw ≡ kinds.Write → line_text (drawn_line 0 draw) ≡ decimal (drawn_thread draw)
    ++ (codes " fault 0x" ++ (digits 16 false (drawn_address draw) ++ codes " w\n"))
unfolding operation text_of_line line_words op_words
write_text draw is = by_kind kinds.Write draw is ∙ rw (page_address draw, address_word-some (drawn_address draw) (address_of-some draw)) (simp append_assoc)
