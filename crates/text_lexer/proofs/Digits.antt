-- For `digits_of` and `device_part`: digits of a base, read one after another.
use Rattle.std.proofs.Common.{◌≡◌, ℕ, ◌+◌, ◌*◌, ◌^◌, ◌<◌, ◌≤◌, Bool, true, false, ◌&&◌, nat_lt, nat_le, List, [], ◌∷◌, length, get_or, take, Some, None, if◌then◌else◌, refl, sym, ap, ◌∙◌, subst, arith}
use Rattle.std.specs.Char.{is_digit, digit_value}
use Rattle.std.specs.List.{list_all}
use Rattle.std.specs.Str.Parse.{AllDigits, digits_value}
use Rattle.std.proofs.lemmas.Bool.{false≢true, and_parts, and_from, ltb-true, lt-ltb, le-leb, leb-true, cond-true, cond-false, false_from_ne_true}
use Rattle.std.proofs.lemmas.Int.Digits.{digits_value-lt, digits_value_more}
use Rattle.std.proofs.lemmas.List.{take_all, length-take-le}
use Rattle.std.proofs.lemmas.List.Folds.{list_all_more}
use Rattle.std.proofs.lemmas.Str.Parse.{digits_value-take-le}
use Rattle.std.proofs.Math.Nat.{pow-le-pow_left, pow-le-pow_right}
use Rattle.text_lexer.specs.Numbers.{digits_of}

-- each of them, where all are
all_digits : (base : ℕ) (word : List ℕ) → list_all (λ c. is_digit c base) word ≡ true → AllDigits base word
all_digits base [] digits = tt
all_digits base (c ∷ word) digits =
    let parts = and_parts (is_digit c base) (list_all (λ c. is_digit c base) word) digits in
    (ltb-true (digit_value c) base parts.0, all_digits base word parts.1)

-- so many bytes of a word were read: they are digits, and this is the value that they spell
pub record AreRead (base : ℕ) (word : List ℕ) (read value : ℕ) : Type 0 where
  pub digits : list_all (λ c. is_digit c base) (take read word) ≡ true
  pub spelled : value ≡ digits_value base (take read word)

-- one digit more
pub AreRead-more : (base read value : ℕ) (word : List ℕ) → AreRead base word read value → read < length word
    → digit_value (get_or word read 0) < base
    → AreRead base word (read + 1) (value * base + digit_value (get_or word read 0))
AreRead-more base read value word so_far within digit = record {
  digits = list_all_more (λ c. is_digit c base) word read 0 within
      ∙ and_from _ _ so_far.digits (lt-ltb (digit_value (get_or word read 0)) base digit);
  spelled = ap (λ (n : ℕ). n * base + digit_value (get_or word read 0)) so_far.spelled
      ∙ sym (digits_value_more base word read within);
}

-- the value of at most 12 digits fits
read_fits : (base read value : ℕ) (word : List ℕ) → 2 ≤ base → base ≤ 36 → read ≤ length word → read ≤ 12
    → AreRead base word read value → value < 2 ^ 64
read_fits base read value word low high within few so_far =
    let below : digits_value base (take read word) < base ^ length (take read word) =
    digits_value-lt base (take read word) (all_digits base (take read word) so_far.digits) in
    let len : length (take read word) ≡ read = length-take-le read word within in
    let wide : base ^ length (take read word) ≤ base ^ 12 = pow-le-pow_right (omega arith) (omega arith) in
    let wider : base ^ 12 ≤ 36 ^ 12 = pow-le-pow_left high 12 in
    omega (arith, so_far.spelled)

-- and so does the next one
pub next_fits : (base read value : ℕ) (word : List ℕ) → 2 ≤ base → base ≤ 36 → length word ≤ 12
    → AreRead base word read value → read < length word → digit_value (get_or word read 0) < base
    → value * base + digit_value (get_or word read 0) < 2 ^ 64
next_fits base read value word low high few so_far within digit = read_fits base (read + 1) _ word low high (omega arith)
    (omega arith) (AreRead-more base read value word so_far within digit)

-- all of few bytes were read
pub some_of_few : (base read value : ℕ) (word : List ℕ) → length word ≤ read → AreRead base word read value
    → Some value ≡ (if list_all (λ c. is_digit c base) word then Some (digits_value base word) else None)
some_of_few base read value word past so_far =
    let whole : take read word ≡ word = take_all read word past in
    let digits : list_all (λ c. is_digit c base) word ≡ true = subst
    (λ (bs : List ℕ). list_all (λ c. is_digit c base) bs ≡ true) whole so_far.digits in
    ap Some (so_far.spelled ∙ ap (digits_value base) whole)
    ∙ sym (cond-true (list_all (λ c. is_digit c base) word) (Some (digits_value base word)) None digits)

-- tests that all hold, one by one
last_test : (a b c d : Bool) → a && (b && (c && d)) ≡ true → d ≡ true
last_test true true true true e = refl
last_test false b c d e = absurd cc
last_test true false c d e = absurd cc
last_test true true false d e = absurd cc
last_test true true true false e = absurd cc

third_test : (a b c d : Bool) → a && (b && (c && d)) ≡ true → c ≡ true
third_test true true true true e = refl
third_test false b c d e = absurd cc
third_test true false c d e = absurd cc
third_test true true false d e = absurd cc
third_test true true true false e = absurd cc

module _ (base most : ℕ) (word : List ℕ) where
  -- where so many of its bytes spell too much, so do all
  pub none_by_value : (read value : ℕ) → 1 ≤ base → AreRead base word read value → 2 ^ 64 ≤ value
      → None ≡ digits_of base most word
  unfolding digits_of
  none_by_value read value some so_far large = sym (cond-false _ (Some (digits_value base word)) None (false_from_ne_true _
      (λ tests.
      let below : digits_value base word < 2 ^ 64 = ltb-true (digits_value base word) (2 ^ 64)
      (last_test (nat_lt 0 (length word)) (nat_le (length word) most) (list_all (λ c. is_digit c base) word)
      (nat_lt (digits_value base word) (2 ^ 64)) tests) in
      let rises : digits_value base (take read word) ≤ digits_value base word = digits_value-take-le base word read some in
      omega (arith, so_far.spelled))))

  -- few digits spell a value that fits
  pub digits_of-few : 2 ≤ base → base ≤ 36 → 0 < length word → length word ≤ most → length word ≤ 12
      → (if list_all (λ c. is_digit c base) word then Some (digits_value base word) else None) ≡ digits_of base most word
  unfolding digits_of
  digits_of-few low high some few short = by_test (list_all (λ c. is_digit c base) word) refl
    where
      by_test : (all : Bool) → list_all (λ c. is_digit c base) word ≡ all
          → (if list_all (λ c. is_digit c base) word then Some (digits_value base word) else None)
          ≡ (if nat_lt 0 (length word) && (nat_le (length word) most && (list_all (λ c. is_digit c base) word
          && nat_lt (digits_value base word) (2 ^ 64))) then Some (digits_value base word) else None)
      by_test true e =
          let whole : take (length word) word ≡ word = take_all (length word) word (omega arith) in
          let read : AreRead base word (length word) (digits_value base word) = record {
            digits = ap (list_all (λ c. is_digit c base)) whole ∙ e;
            spelled = ap (digits_value base) (sym whole);
          } in
          cond-true (list_all (λ c. is_digit c base) word) (Some (digits_value base word)) None e
          ∙ sym (cond-true _ (Some (digits_value base word)) None
          (and_from _ _ (lt-ltb 0 (length word) some) (and_from _ _ (le-leb (length word) most few)
          (and_from _ _ e (lt-ltb (digits_value base word) (2 ^ 64)
          (read_fits base (length word) (digits_value base word) word low high (omega arith) short read))))))
      by_test false e =
          cond-false (list_all (λ c. is_digit c base) word) (Some (digits_value base word)) None e
          ∙ sym (cond-false _ (Some (digits_value base word)) None (false_from_ne_true _ (λ tests.
          false≢true (sym e ∙ third_test (nat_lt 0 (length word)) (nat_le (length word) most)
          (list_all (λ c. is_digit c base) word) (nat_lt (digits_value base word) (2 ^ 64)) tests))))

  -- all of its bytes were read
  pub some_when_read : (read value : ℕ) → 0 < length word → length word ≤ most → length word ≤ read
      → AreRead base word read value → value < 2 ^ 64 → Some value ≡ digits_of base most word
  unfolding digits_of
  some_when_read read value some few past so_far fits =
      let whole : take read word ≡ word = take_all read word past in
      let digits : list_all (λ c. is_digit c base) word ≡ true = subst
      (λ (bs : List ℕ). list_all (λ c. is_digit c base) bs ≡ true) whole so_far.digits in
      let spelled : value ≡ digits_value base word = so_far.spelled ∙ ap (digits_value base) whole in
      ap Some spelled ∙ sym (cond-true _ (Some (digits_value base word)) None
      (and_from _ _ (lt-ltb 0 (length word) some) (and_from _ _ (le-leb (length word) most few)
      (and_from _ _ digits (lt-ltb (digits_value base word) (2 ^ 64) (omega arith))))))

-- what is known of a number that so many digits spell
pub record AreDigits (base most n : ℕ) : Type 0 where
  pub fits : n < 2 ^ 64
  pub short : n < base ^ most

if_all : (a b c d : Bool) (m n : ℕ) → (if a && (b && (c && d)) then Some m else None) ≡ Some n
    → (b ≡ true) × (c ≡ true) × (d ≡ true) × (m ≡ n)
if_all true true true true m n e = (refl, refl, refl, cc)
if_all false b c d m n e = absurd cc
if_all true false c d m n e = absurd cc
if_all true true false d m n e = absurd cc
if_all true true true false m n e = absurd cc

pub digits_of-Some : (base most : ℕ) (word : List ℕ) (n : ℕ) → 0 < base → digits_of base most word ≡ Some n
    → AreDigits base most n
unfolding digits_of
digits_of-Some base most word n some e =
    let value = digits_value base word in
    let known = if_all (nat_lt 0 (length word)) (nat_le (length word) most) (list_all (λ c. is_digit c base) word)
    (nat_lt value (2 ^ 64)) value n e in
    let long : length word ≤ most = leb-true (length word) most known.0 in
    let below : value < base ^ length word = digits_value-lt base word (all_digits base word known.1) in
    let wide : base ^ length word ≤ base ^ most = pow-le-pow_right some long in
    let same : value ≡ n = known.3 in
    subst (AreDigits base most) same (record { fits = ltb-true value (2 ^ 64) known.2; short = omega arith })

-- a half of a device number fits 32 bits
pub part_fits : (most : ℕ) (word : List ℕ) (n : ℕ) → most ≤ 8 → digits_of 16 most word ≡ Some n → n < 2 ^ 32
part_fits most word n few e =
    let short : n < 16 ^ most = (digits_of-Some 16 most word n (omega arith) e).short in
    let wide : 16 ^ most ≤ 16 ^ 8 = pow-le-pow_right (omega arith) few in
    omega arith
