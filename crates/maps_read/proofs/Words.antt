-- For the fields of a line: where a text may be cut, and which numbers fit.
use Rattle.std.proofs.Common.{◌≡◌, ℕ, zero, suc, ◌+◌, ◌^◌, ◌<◌, Bool, true, false, cond, nat_eq, List, get_or, Option, Some, None, Ok, ok_or, refl, subst, arith}
use Rattle.std.specs.List.{position_or_len, list_all}
use Rattle.std.specs.Str.{IsUtf8, IsCharBoundary, byte}
use Rattle.std.proofs.lemmas.Bool.{not-false}
use Rattle.std.proofs.lemmas.Bool.Decides.{nat_tests}
use Rattle.std.proofs.lemmas.List.Sums.{fails_before_first}
use Rattle.std.proofs.lemmas.Str.{IsCharBoundary-start, IsCharBoundary-after_ascii}
use Rattle.text_lexer.specs.declared.error.Cause.{Cause}
use Rattle.text_lexer.specs.Numbers.{digits_of, is_lower_digit, lower_hexadecimal_of}
use Rattle.text_lexer.proofs.Digits.{part_fits}
use Rattle.text_lexer.proofs.WordParts.{position_or_len-le}
use Rattle.maps_read.specs.Fields.{is_no_space, leading_spaces, read_hexadecimal}

space_is_ascii : (c : ℕ) → nat_eq c (byte " ") ≡ true → c < 128
space_is_ascii c e = grind (arith, nat_tests)

-- a text may be cut after its first spaces
pub boundary_at_part : (text : List ℕ) → IsUtf8 text → IsCharBoundary text (leading_spaces text)
unfolding leading_spaces
boundary_at_part text utf8 = at_place (position_or_len is_no_space text) refl
  where
    at_place : (n : ℕ) → position_or_len is_no_space text ≡ n → IsCharBoundary text n
    at_place zero e = IsCharBoundary-start text utf8
    at_place (suc n) e =
        let before : n < position_or_len is_no_space text = omega arith in
        let space : nat_eq (get_or text n 0) (byte " ") ≡ true = not-false (nat_eq (get_or text n 0) (byte " "))
        (fails_before_first is_no_space text n 0 before) in
        let next : n + 1 ≡ suc n = omega arith in
        subst (IsCharBoundary text) next (IsCharBoundary-after_ascii text n utf8
        (omega (arith, position_or_len-le is_no_space text)) (space_is_ascii (get_or text n 0) space))

some_of : (o : Option ℕ) (cause : Cause) (n : ℕ) → ok_or o cause ≡ Ok n → o ≡ Some n
some_of None cause n e = absurd cc
some_of (Some x) cause n e = cc

digits_if : (b : Bool) (o : Option ℕ) (n : ℕ) → cond b o None ≡ Some n → o ≡ Some n
digits_if true o n e = e
digits_if false o n e = absurd cc

-- a number of at most 8 digits fits 32 bits
pub half_fits : (word : List ℕ) (n : ℕ) → read_hexadecimal 8 word ≡ Ok n → n < 2 ^ 32
unfolding read_hexadecimal lower_hexadecimal_of
half_fits word n e = part_fits 8 word n (omega arith)
    (digits_if (list_all is_lower_digit word) (digits_of 16 8 word) n (some_of (lower_hexadecimal_of 8 word) _ n e))
