-- Numbers are read as they were printed.
use Rattle.std.proofs.Common.{◌≡◌, ℕ, zero, suc, ◌+◌, ◌/◌, ◌%◌, ◌^◌, ◌<◌, ◌≤◌, ◌==◌, Bool, true, false, ◌&&◌, nat_eq, nat_le, List, [], ◌∷◌, ◌++◌, length, drop, codes, All, Some, None, Ok, ok_or, option_and_then, if◌then◌else◌, refl, sym, ap, ◌∙◌, arith}
use Rattle.std.proofs.Math.Nat.{pow-suc}
use Rattle.std.specs.Char.{is_digit, digit_value}
use Rattle.std.specs.Fmt.{digits, digits_onto, digit_glyph, decimal}
use Rattle.std.specs.List.{list_all, starts_with}
use Rattle.std.specs.Str.Parse.{AllDigits, IsNumeral, digits_value}
use Rattle.std.proofs.lemmas.Bool.{and_from, lt-ltb, le-leb, cond-true, cond-false, cond_both, eqb-true, ne_eqb}
use Rattle.std.proofs.lemmas.Bool.Decides.{nat_tests}
use Rattle.std.proofs.lemmas.Fmt.{decimal_digit, decimal_is_IsNumeral, digits_is_IsNumeral, length-decimal-le}
use Rattle.std.proofs.lemmas.List.Elements.{All-nil, All-cons, All-append}
use Rattle.text_lexer.specs.declared.error.Cause.TheVariants.{Number}
use Rattle.text_lexer.specs.Numbers.{number, digits_of, number_of, decimal_of}
use Rattle.trace_reader.specs.Fields.{read_thread}
use Rattle.trace_reader.specs.LineTexts.{hexadecimal_text, address_word}
use Rattle.trace_reader.proofs.PlainWords.{IsPlain, IsWord}

digit-plain : (base c : ℕ) → base ≤ 16 → digit_value c < base → IsPlain c
digit-plain base c small digit = let low : 32 < c = grind (arith, nat_tests) in let high : c < 127 = grind (arith, nat_tests) in (low, high)

digits-plain : (base : ℕ) (word : List ℕ) → base ≤ 16 → AllDigits base word → All IsPlain word
digits-plain base [] small are = All-nil IsPlain
digits-plain base (c ∷ word) small are = All-cons IsPlain c word (digit-plain base c small are.0) (digits-plain base word small are.1)

numeral-word : (base : ℕ) (word : List ℕ) → base ≤ 16 → IsNumeral base word → IsWord word
numeral-word base word small is = record { some = is.0; plain = digits-plain base word small is.1 }

digits-tested : (base : ℕ) (word : List ℕ) → AllDigits base word → list_all (λ c. is_digit c base) word ≡ true
digits-tested base [] are = refl
digits-tested base (c ∷ word) are = and_from _ _ (lt-ltb (digit_value c) base are.0) (digits-tested base word are.1)

-- what is known of a numeral of so many digits at most
record Spells (base most n : ℕ) (word : List ℕ) : Type 0 where
  numeral : IsNumeral base word
  value : digits_value base word ≡ n
  short : length word ≤ most
  fits : n < 2 ^ 64

digits_of-numeral : (base most n : ℕ) (word : List ℕ) → Spells base most n word → digits_of base most word ≡ Some n
unfolding digits_of
digits_of-numeral base most n word spells =
    let value = spells.value in
    let fits = spells.fits in
    let small : digits_value base word < 2 ^ 64 = omega arith in
    cond-true _ (Some (digits_value base word)) None
    (and_from _ _ (lt-ltb 0 (length word) spells.numeral.0) (and_from _ _ (le-leb (length word) most spells.short)
    (and_from _ _ (digits-tested base word spells.numeral.1) (lt-ltb (digits_value base word) (2 ^ 64) small))))
    ∙ ap Some value

decimal-spells : (n : ℕ) → n < 2 ^ 64 → Spells 10 20 n (decimal n)
decimal-spells n fits = let is = decimal_is_IsNumeral n fits in record {
  numeral = is.0;
  value = is.1;
  short = length-decimal-le 20 n (omega arith) (omega arith) fits;
  fits = fits;
}

pub decimal-word : (n : ℕ) → n < 2 ^ 64 → IsWord (decimal n)
decimal-word n fits = numeral-word 10 (decimal n) (omega arith) (decimal_is_IsNumeral n fits).0

-- a decimal numeral does not begin with `0x`
and_false : (b : Bool) → (b && false) ≡ false
and_false true = refl
and_false false = refl

no_prefix : (word : List ℕ) → AllDigits 10 word → starts_with nat_eq word (codes "0x") ≡ false
no_prefix [] are = refl
no_prefix (c ∷ []) are = and_false (nat_eq 48 c)
no_prefix (c ∷ d ∷ word) are =
    let digit : digit_value d < 10 = are.1.0 in
    let other : nat_eq 120 d ≡ false = grind (arith, nat_tests) in
    ap (λ (b : Bool). nat_eq 48 c && (b && true)) other ∙ and_false (nat_eq 48 c)

pub number-decimal : (n : ℕ) → n < 2 ^ 64 → number (decimal n) ≡ Ok n
unfolding number number_of
number-decimal n fits =
    ap (λ o. ok_or o Number) (cond-false (starts_with nat_eq (decimal n) (codes "0x")) (digits_of 16 16 (drop 2 (decimal n)))
    (digits_of 10 20 (decimal n)) (no_prefix (decimal n) (decimal_is_IsNumeral n fits).0.1)
    ∙ digits_of-numeral 10 20 n (decimal n) (decimal-spells n fits))

pub decimal_of-decimal : (n : ℕ) → n < 2 ^ 64 → decimal_of (decimal n) ≡ Some n
decimal_of-decimal n fits = digits_of-numeral 10 20 n (decimal n) (decimal-spells n fits)

pub thread_of-decimal : (n : ℕ) → n < 64 → read_thread (decimal n) ≡ Some n
unfolding read_thread
thread_of-decimal n few =
    ap (option_and_then (λ (k : ℕ). if nat_le k 63 then Some k else None))
    (digits_of-numeral 10 20 n (decimal n) (decimal-spells n (omega arith)))
    ∙ cond-true (nat_le n 63) (Some n) None (le-leb n 63 (omega arith))

-- ---- hexadecimal

length-onto : (fuel k n : ℕ) (rest : List ℕ) → 0 < k → k ≤ fuel → n < 16 ^ k
    → length (digits_onto fuel 16 false n rest) ≤ k + length rest
length-onto zero k n rest some enough small = absurd (omega arith)
length-onto (suc fuel) zero n rest some enough small = absurd (omega arith)
length-onto (suc fuel) (suc zero) n rest some enough small =
    let digit = digit_glyph false (n % 16) in
    let last : n / 16 ≡ 0 = omega arith in
    cond_both (n / 16 == 0) (digit ∷ rest) (digits_onto fuel 16 false (n / 16) (digit ∷ rest))
    (λ (text : List ℕ). length text ≤ 1 + length rest)
    (λ _. omega arith)
    (λ more. absurd (grind (arith, nat_tests)))
length-onto (suc fuel) (suc (suc k)) n rest some enough small =
    let digit = digit_glyph false (n % 16) in
    let power = pow-suc 16 (suc k) in
    cond_both (n / 16 == 0) (digit ∷ rest) (digits_onto fuel 16 false (n / 16) (digit ∷ rest))
    (λ (text : List ℕ). length text ≤ suc (suc k) + length rest)
    (λ _. omega arith)
    (λ _. let later = length-onto fuel (suc k) (n / 16) (digit ∷ rest) (omega arith) (omega arith) (omega arith) in omega arith)

hex-short : (n : ℕ) → n < 2 ^ 64 → length (digits 16 false n) ≤ 16
unfolding digits
hex-short n fits = let short = length-onto 64 16 n [] (omega arith) (omega arith) (omega arith) in omega arith

hex_is_IsNumeral : (n : ℕ) → n < 2 ^ 64 → IsNumeral 16 (digits 16 false n) × (digits_value 16 (digits 16 false n) ≡ n)
hex_is_IsNumeral n fits = digits_is_IsNumeral 16 false (omega arith) (omega arith) n (omega arith)

hex-spells : (n : ℕ) → n < 2 ^ 64 → Spells 16 16 n (digits 16 false n)
hex-spells n fits = let is = hex_is_IsNumeral n fits in record {
  numeral = is.0;
  value = is.1;
  short = hex-short n fits;
  fits = fits;
}

pub number-hexadecimal : (n : ℕ) → n < 2 ^ 64 → number (hexadecimal_text n) ≡ Ok n
unfolding number number_of
number-hexadecimal n fits = ap (λ o. ok_or o Number) (digits_of-numeral 16 16 n (digits 16 false n) (hex-spells n fits))

-- an address is read as it was printed
pub number-address : (n : ℕ) → n < 2 ^ 64 → number (address_word n) ≡ Ok n
unfolding address_word
number-address n fits = cond_both (nat_eq n 0) (codes "0") (codes "0x" ++ digits 16 false n) (λ (word : List ℕ). number word ≡ Ok n)
    (λ none. none_read n (eqb-true n 0 none)) (λ _. number-hexadecimal n fits)
  where
    none_read : (k : ℕ) → k ≡ 0 → number (codes "0") ≡ Ok k
    none_read k none = ap number (sym (decimal_digit 0 (omega arith))) ∙ number-decimal 0 (omega arith) ∙ ap Ok (sym none)

zero_x : All IsPlain (codes "0x")
zero_x = All-cons IsPlain 48 (120 ∷ []) (omega arith, omega arith) (All-cons IsPlain 120 [] (omega arith, omega arith) (All-nil IsPlain))

zero_plain : IsWord (codes "0")
zero_plain = record { some = omega arith; plain = All-cons IsPlain 48 [] (omega arith, omega arith) (All-nil IsPlain) }

pub hexadecimal-word : (n : ℕ) → n < 2 ^ 64 → IsWord (hexadecimal_text n)
hexadecimal-word n fits = record {
  some = omega arith;
  plain = All-append IsPlain (codes "0x") (digits 16 false n) zero_x (digits-plain 16 (digits 16 false n) (omega arith) (hex_is_IsNumeral n fits).0.1);
}

pub address-word : (n : ℕ) → n < 2 ^ 64 → IsWord (address_word n)
unfolding address_word
address-word n fits = cond_both (nat_eq n 0) (codes "0") (codes "0x" ++ digits 16 false n) IsWord
    (λ _. zero_plain) (λ _. hexadecimal-word n fits)

pub length-hexadecimal : (n : ℕ) → n < 2 ^ 64 → length (hexadecimal_text n) ≤ 18
length-hexadecimal n fits = let short = hex-short n fits in omega arith

-- an address that is there
pub address_word-some : (address : ℕ) → 0 < address → address_word address ≡ hexadecimal_text address
unfolding address_word
address_word-some address some = let apart : nat_eq address 0 ≡ false = ne_eqb address 0 (λ none. omega arith) in
    cond-false (nat_eq address 0) (codes "0") (hexadecimal_text address) apart

pub length-address : (n : ℕ) → n < 2 ^ 64 → length (address_word n) ≤ 18
unfolding address_word
length-address n fits = cond_both (nat_eq n 0) (codes "0") (codes "0x" ++ digits 16 false n) (λ (word : List ℕ). length word ≤ 18)
    (λ _. omega arith) (λ _. let short = hex-short n fits in omega arith)

pub length-number : (n : ℕ) → n < 2 ^ 64 → length (decimal n) ≤ 20
length-number n fits = length-decimal-le 20 n (omega arith) (omega arith) fits
