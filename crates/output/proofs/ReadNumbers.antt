-- For `number_at`: the number that an item's line tells is read as it was printed, and each that is read is told.
use Rattle.std.proofs.Common.{ℕ, zero, suc, ◌≡◌, ◌/◌, ◌%◌, ◌^◌, ◌<◌, ◌==◌, ◌∙◌, refl, sym, ap, subst, Bool, true, false, not, ◌&&◌, nat_eq, nat_lt, List, [], ◌∷◌, ◌++◌, append_assoc, length, length-append, take, drop, drop-cons, get_or, codes, Option, Some, None, IfSome, position, arith, inl, inr}
use Rattle.std.proofs.Math.Seq.{take-append_seam}
use Rattle.std.specs.Char.{is_digit, digit_value}
use Rattle.std.specs.Fmt.{digits, digits_onto, digit_glyph, decimal}
use Rattle.std.specs.List.{list_all, position_or_len}
use Rattle.std.specs.Str.Parse.{AllDigits, digits_value}
use Rattle.std.proofs.lemmas.Bool.{cases_Bool, and_from, eqb-true, lt-ltb, le-leb, cond-true}
use Rattle.std.proofs.lemmas.Bool.Decides.{nat_tests}
use Rattle.std.proofs.lemmas.Fmt.{decimal_is_IsNumeral, length-decimal-le}
use Rattle.std.proofs.lemmas.Fmt.{IsAscii-decimal}
use Rattle.std.proofs.lemmas.Option.{none-some, same_Some}
use Rattle.std.proofs.lemmas.List.{take-append-drop}
use Rattle.std.proofs.lemmas.List.Quantifiers.{position-Some}
use Rattle.std.proofs.lemmas.Str.{IsUtf8-from_ascii}
use Rattle.std.specs.Str.{IsUtf8}
use Rattle.trace_reader.specs.declared.trace.TraceLine.{TraceLine}
use Rattle.text_lexer.specs.Numbers.{digits_of, decimal_of}
use Rattle.output.specs.Output.{item_start}
use Rattle.output.specs.Internal.Judging.{TellsNumber}

-- what an item begins with: its number, between `L` and a space
pub number_between : (line : TraceLine) (version : ℕ) (rest text : List ℕ) → text ≡ item_start line version ++ rest
    → (behind : List ℕ) × (text ≡ 76 ∷ (decimal line.number ++ (32 ∷ behind)))
unfolding item_start
number_between line version rest text is =
    let tail : List ℕ = decimal line.thread ++ (codes " v" ++ (decimal version ++ codes " = ")) in
    (116 ∷ (tail ++ rest), is ∙ ap (λ (t : List ℕ). 76 ∷ t) (append_assoc (decimal line.number) (codes " t" ++ tail) rest))

-- a space
abbrev pub is_space : ℕ → Bool
is_space c = nat_eq c 32

-- no byte is a space
abbrev no_space : List ℕ → Bool
no_space [] = true
no_space (c ∷ text) = not (is_space c) && no_space text

space_parts : (first rest : Bool) → (not first && rest) ≡ true → (first ≡ false) × (rest ≡ true)
space_parts true rest plain = absurd (cc)
space_parts false rest plain = (refl, plain)

glyph_space : (d : ℕ) → is_space (digit_glyph false d) ≡ false
glyph_space d = grind (arith, nat_tests)

onto_space : (k base n : ℕ) (acc : List ℕ) → no_space acc ≡ true → no_space (digits_onto k base false n acc) ≡ true
onto_space zero base n acc plain = plain
onto_space (suc k) base n acc plain =
    let glyph : ℕ = digit_glyph false (n % base) in
    let other : is_space glyph ≡ false = glyph_space (n % base) in
    let more : no_space (glyph ∷ acc) ≡ true = rw other plain in
    elim (cases_Bool (n / base == 0)) [
      | inl last ↦ rw last more
      | inr front ↦ rw front (onto_space k base (n / base) (glyph ∷ acc) more)
    ]

decimal_space : (n : ℕ) → no_space (decimal n) ≡ true
unfolding digits
decimal_space n = onto_space 64 10 n [] refl

first_space : (word behind : List ℕ) → no_space word ≡ true → position_or_len is_space (word ++ (32 ∷ behind)) ≡ length word
first_space [] behind plain = refl
first_space (c ∷ word) behind plain =
    let parts = space_parts (is_space c) (no_space word) plain in
    let other : is_space c ≡ false = parts.0 in
    let rest : position_or_len is_space (word ++ (32 ∷ behind)) ≡ length word = first_space word behind parts.1 in
    rw other (omega (arith, rest))

-- the first space stands behind the number
pub space_behind : (n : ℕ) (behind : List ℕ) → position is_space (decimal n ++ (32 ∷ behind)) ≡ Some (length (decimal n))
space_behind n behind =
    let at : position_or_len is_space (decimal n ++ (32 ∷ behind)) ≡ length (decimal n) = first_space (decimal n) behind (decimal_space n) in
    let long = length-append (decimal n) (32 ∷ behind) in
    cond-true (nat_lt (position_or_len is_space (decimal n ++ (32 ∷ behind))) (length (decimal n ++ (32 ∷ behind))))
    (Some (position_or_len is_space (decimal n ++ (32 ∷ behind)))) None
    (lt-ltb (position_or_len is_space (decimal n ++ (32 ∷ behind))) (length (decimal n ++ (32 ∷ behind))) (omega (arith, at, long)))
    ∙ ap Some at

-- what stands before it is the number
pub before_space : (n : ℕ) (behind : List ℕ) → take (length (decimal n)) (decimal n ++ (32 ∷ behind)) ≡ decimal n
before_space n behind = take-append_seam (decimal n) (32 ∷ behind)

digits-tested : (base : ℕ) (word : List ℕ) → AllDigits base word → list_all (λ c. is_digit c base) word ≡ true
digits-tested base [] are = refl
digits-tested base (c ∷ word) are = and_from _ _ (lt-ltb (digit_value c) base are.0) (digits-tested base word are.1)

-- it is read as it was printed
pub decimal_of-decimal : (n : ℕ) → n < 2 ^ 64 → decimal_of (decimal n) ≡ Some n
unfolding digits_of
decimal_of-decimal n fits =
    let word : List ℕ = decimal n in
    let is = decimal_is_IsNumeral n fits in
    let value : digits_value 10 word ≡ n = is.1 in
    cond-true _ (Some (digits_value 10 word)) None
    (and_from _ _ (lt-ltb 0 (length word) is.0.0) (and_from _ _ (le-leb (length word) 20 (length-decimal-le 20 n (omega arith) (omega arith) fits))
    (and_from _ _ (digits-tested 10 word is.0.1) (lt-ltb (digits_value 10 word) (2 ^ 64) (omega (arith, value, fits))))))
    ∙ ap Some value

-- what stands behind the letter
pub rest_between : (n : ℕ) (behind digits text : List ℕ) → text ≡ 76 ∷ (decimal n ++ (32 ∷ behind)) → text ≡ 76 ∷ digits
    → digits ≡ decimal n ++ (32 ∷ behind)
rest_between n behind digits text one two = let whole : 76 ∷ digits ≡ 76 ∷ (decimal n ++ (32 ∷ behind)) = sym two ∙ one in cc

-- there is a space
pub no_end : (n : ℕ) (behind digits : List ℕ) (found : Option ℕ) → digits ≡ decimal n ++ (32 ∷ behind) → found ≡ position is_space digits
    → found ≡ None → ⊥
no_end n behind digits found is at none =
    none-some (length (decimal n)) (sym none ∙ at ∙ ap (position is_space) is ∙ space_behind n behind)

-- it stands behind the number
pub end_is : (n : ℕ) (behind digits : List ℕ) (found : Option ℕ) (end : ℕ) → digits ≡ decimal n ++ (32 ∷ behind) → found ≡ position is_space digits
    → found ≡ Some end → end ≡ length (decimal n)
end_is n behind digits found end is at some =
    same_Some end (length (decimal n)) (sym some ∙ at ∙ ap (position is_space) is ∙ space_behind n behind)

-- what stands before it is the number
pub word_is : (n : ℕ) (behind digits word : List ℕ) (end : ℕ) → digits ≡ decimal n ++ (32 ∷ behind) → end ≡ length (decimal n)
    → word ≡ take end digits → word ≡ decimal n
word_is n behind digits word end is at cut =
    cut ∙ ap (λ (k : ℕ). take k digits) at ∙ ap (take (length (decimal n))) is ∙ before_space n behind

-- and it is text
pub decimal_utf8 : (n : ℕ) (word : List ℕ) → n < 2 ^ 64 → word ≡ decimal n → IsUtf8 word
decimal_utf8 n word fits is = subst (λ (w : List ℕ). IsUtf8 w) (sym is) (IsUtf8-from_ascii (decimal n) (IsAscii-decimal n fits))

-- ---- what is read is told

-- what stands before the first space behind the letter
pub told_between : (text digits word : List ℕ) (end number : ℕ) → text ≡ 76 ∷ digits → position is_space digits ≡ Some end
    → word ≡ take end digits → decimal_of word ≡ Some number → TellsNumber text number
told_between text digits word end number split found cut read =
    let at = position-Some is_space digits end 0 found in
    let space : get_or digits end 0 ≡ 32 = eqb-true (get_or digits end 0) 32 at.1 in
    let behind : List ℕ = drop (suc end) digits in
    let parted : digits ≡ word ++ (32 ∷ behind) =
    sym (take-append-drop end digits) ∙ ap (λ (t : List ℕ). take end digits ++ t) (drop-cons digits end 0 at.0)
    ∙ ap (λ (c : ℕ). take end digits ++ (c ∷ behind)) space ∙ ap (λ (w : List ℕ). w ++ (32 ∷ behind)) (sym cut) in
    record { digits = word; behind = behind; begins = split ∙ ap (λ (t : List ℕ). 76 ∷ t) parted; is = read }

-- where that is a number
pub told_at : (text digits word : List ℕ) (end : ℕ) (found : Option ℕ) → text ≡ 76 ∷ digits → position is_space digits ≡ Some end
    → word ≡ take end digits → IfSome found (λ number. decimal_of word ≡ Some number) → IfSome found (TellsNumber text)
told_at text digits word end None split at cut read = tt
told_at text digits word end (Some number) split at cut read = told_between text digits word end number split at cut read

-- what is found is what is read
pub read_is : (found read : Option ℕ) → found ≡ read → IfSome found (λ number. read ≡ Some number)
read_is None read is = tt
read_is (Some number) read is = sym is
