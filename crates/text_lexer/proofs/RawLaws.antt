-- For `first_bad_line`: the lines of bytes are these bytes.
use Rattle.std.proofs.Common.{◌≡◌, ◌≢◌, ℕ, ◌+◌, Bool, true, false, nat_eq, List, [], ◌∷◌, ◌++◌, length, flat_map, All, refl, sym, ap, ◌∙◌, subst, append_assoc, arith}
use Rattle.std.specs.List.{slice_split, onto_first, join_with_byte}
use Rattle.std.proofs.lemmas.Bool.{cond_both, eqb-true, eqb-false}
use Rattle.std.proofs.lemmas.List.{append-nil, nil_from_length, length-append}
use Rattle.std.proofs.lemmas.List.Elements.{All-nil, All-cons, All-head, All-tail, All-weaker}
use Rattle.std.proofs.lemmas.List.Splits.{join_with_byte-slice_split}
use Rattle.text_lexer.specs.Lines.{RawLine, raw_line, is_newline, lines_of_pieces, lines_from, raw_lines}
use Rattle.text_lexer.specs.Laws.{line_bytes, Follow, End, AreLinesOf}

-- pieces hold nothing at which they were cut
abbrev IsUncut : (ℕ → Bool) → List ℕ → Type 0
IsUncut p piece = All (λ c. p c ≡ false) piece

onto_first-uncut : (p : ℕ → Bool) (x : ℕ) (parts : List (List ℕ)) → p x ≡ false → All (IsUncut p) parts
    → All (IsUncut p) (onto_first x parts)
onto_first-uncut p x [] e h = All-cons (IsUncut p) (x ∷ []) []
    (All-cons (λ c. p c ≡ false) x [] e (All-nil (λ c. p c ≡ false))) (All-nil (IsUncut p))
onto_first-uncut p x (part ∷ parts) e h = All-cons (IsUncut p) (x ∷ part) parts
    (All-cons (λ c. p c ≡ false) x part e (All-head (IsUncut p) part parts h)) (All-tail (IsUncut p) part parts h)

slice_split-uncut : (p : ℕ → Bool) (xs : List ℕ) → All (IsUncut p) (slice_split p xs)
slice_split-uncut p [] = All-cons (IsUncut p) [] [] (All-nil (λ c. p c ≡ false)) (All-nil (IsUncut p))
slice_split-uncut p (x ∷ xs) = cond_both (p x) ([] ∷ slice_split p xs) (onto_first x (slice_split p xs))
    (All (IsUncut p))
    (λ e. All-cons (IsUncut p) [] (slice_split p xs) (All-nil (λ c. p c ≡ false)) (slice_split-uncut p xs))
    (λ e. onto_first-uncut p x (slice_split p xs) e (slice_split-uncut p xs))

-- ---- what holds of the lines that pieces are

bytes_of_pieces : (number start : ℕ) (pieces : List (List ℕ))
    → flat_map line_bytes (lines_of_pieces number start pieces) ≡ join_with_byte 10 pieces
bytes_of_pieces number start [] = refl
bytes_of_pieces number start (text ∷ []) =
    cond_both (nat_eq (length text) 0) [] (raw_line number start text false ∷ [])
    (λ lines. flat_map line_bytes lines ≡ text)
    (λ none. sym (nil_from_length text (eqb-true (length text) 0 none)))
    (λ some. append-nil (text ++ []) ∙ append-nil text)
bytes_of_pieces number start (text ∷ next ∷ pieces) =
    ap (λ (rest : List ℕ). (text ++ 10 ∷ []) ++ rest) (bytes_of_pieces (number + 1) (start + length text + 1)
    (next ∷ pieces))
    ∙ append_assoc text (10 ∷ []) (join_with_byte 10 (next ∷ pieces))

follow_pieces : (number start : ℕ) (pieces : List (List ℕ)) → Follow number start (lines_of_pieces number start pieces)
follow_pieces number start [] = tt
follow_pieces number start (text ∷ []) = cond_both (nat_eq (length text) 0) [] (raw_line number start text false ∷ [])
    (Follow number start) (λ _. tt) (λ _. (refl, refl, tt))
follow_pieces number start (text ∷ next ∷ pieces) =
    let after : start + length text + 1 ≡ start + length (text ++ 10 ∷ []) =
    omega (arith, length-append text (10 ∷ [])) in (
      refl,
      refl,
      subst (λ (k : ℕ). Follow (number + 1) k (lines_of_pieces (number + 1) (start + length text + 1)
          (next ∷ pieces))) after
          (follow_pieces (number + 1) (start + length text + 1) (next ∷ pieces)),
    )

-- a line that ends may stand before others
end_more : (line : RawLine) (lines : List RawLine) → line.ended ≡ true → End lines → End (line ∷ lines)
end_more line [] ends h = λ open_end. absurd cc
end_more line (next ∷ lines) ends h = (ends, h)

end_pieces : (number start : ℕ) (pieces : List (List ℕ)) → End (lines_of_pieces number start pieces)
end_pieces number start [] = tt
end_pieces number start (text ∷ []) = cond_both (nat_eq (length text) 0) []
    (raw_line number start text false ∷ []) End (λ _. tt)
    (λ some _. let apart = eqb-false (length text) 0 some in omega (arith, apart))
end_pieces number start (text ∷ next ∷ pieces) =
    end_more (raw_line number start text true) (lines_of_pieces (number + 1) (start + length text + 1)
    (next ∷ pieces)) refl (end_pieces (number + 1) (start + length text + 1) (next ∷ pieces))

single_pieces : (number start : ℕ) (pieces : List (List ℕ)) → All (IsUncut is_newline) pieces
    → All (λ line. IsUncut is_newline line.text) (lines_of_pieces number start pieces)
single_pieces number start [] h = All-nil (λ (line : RawLine). IsUncut is_newline line.text)
single_pieces number start (text ∷ []) h =
    cond_both (nat_eq (length text) 0) [] (raw_line number start text false ∷ [])
    (All (λ (line : RawLine). IsUncut is_newline line.text))
    (λ _. All-nil (λ (line : RawLine). IsUncut is_newline line.text))
    (λ _. All-cons (λ (line : RawLine). IsUncut is_newline line.text) (raw_line number start text false) []
    (All-head (IsUncut is_newline) text [] h) (All-nil (λ (line : RawLine). IsUncut is_newline line.text)))
single_pieces number start (text ∷ next ∷ pieces) h =
    All-cons (λ (line : RawLine). IsUncut is_newline line.text) (raw_line number start text true)
    (lines_of_pieces (number + 1) (start + length text + 1) (next ∷ pieces))
    (All-head (IsUncut is_newline) text (next ∷ pieces) h)
    (single_pieces (number + 1) (start + length text + 1) (next ∷ pieces)
    (All-tail (IsUncut is_newline) text (next ∷ pieces) h))

pub raw_lines-AreLinesOf : (bytes : List ℕ) → AreLinesOf bytes (raw_lines bytes)
unfolding lines_from
raw_lines-AreLinesOf bytes =
    let pieces = slice_split is_newline bytes in
    record {
      whole = bytes_of_pieces 1 0 pieces ∙ join_with_byte-slice_split 10 bytes;
      follow = follow_pieces 1 0 pieces;
      end = end_pieces 1 0 pieces;
      single = All-weaker (λ (line : RawLine). IsUncut is_newline line.text)
          (λ (line : RawLine). All (λ c. c ≢ 10) line.text)
          (λ line h. All-weaker (λ c. is_newline c ≡ false) (λ c. c ≢ 10) (λ c e. eqb-false c 10 e) line.text h)
          (lines_of_pieces 1 0 pieces) (single_pieces 1 0 pieces (slice_split-uncut is_newline bytes));
    }
