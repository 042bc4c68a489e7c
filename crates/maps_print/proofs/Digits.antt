-- For `hex_digits`: a number's digits in hexadecimal, written from the last to the first.
use Rattle.std.proofs.Common.{◌≡◌, ℕ, zero, suc, ◌^◌, ◌+◌, ◌-◌, ◌/◌, ◌%◌, ◌<◌, ◌≤◌, ◌==◌, true, false, if◌then◌else◌, List, [], ◌∷◌, ◌++◌, length, take, drop, set, min, ◌⊎◌, inl, inr, sym, ap, ◌∙◌, subst, refl, arith, replicate, take-append-drop}
use Rattle.std.proofs.Math.Nat.{pow-suc}
use Rattle.std.proofs.Math.Seq.{take-length}
use Rattle.std.proofs.Math.Nat.{min-eq_left, min-eq_right}
use Rattle.std.proofs.lemmas.Bool.{cases_lt}
use Rattle.std.proofs.lemmas.Bool.Decides.{nat_tests}
use Rattle.std.proofs.lemmas.List.{drop-set, take-set, take-replicate, drop-replicate, length-replicate, length-set, length-drop, drop-append-le}
use Rattle.std.specs.Fmt.{digits, digits_onto, digit_glyph}
use Rattle.mm_types.specs.MapsText.{hex}

-- the digits of a number, in front of those that stand, if there are any left; so many at most
abbrev before_digits : ℕ → ℕ → List ℕ → List ℕ
before_digits most rest written = if rest == 0 then written else digits_onto most 16 false rest written

-- the digits of a number down to this place are written, and what is left of it is this
pub record IsWriting (number first rest : ℕ) (text : List ℕ) : Type 0 where
  pub low : first < 16
  pub long : length text ≡ 16
  pub small : rest < 16 ^ first
  pub zeros : take first text ≡ replicate first 48
  pub written : before_digits (first + 48) rest (drop first text) ≡ digits 16 false number

-- a beginning of a beginning
take_less : {X : Type 0} (n m : ℕ) (xs : List X) → n ≤ m → take n (take m xs) ≡ take n xs
take_less zero m xs few = refl
take_less (suc n) zero xs few = absurd (omega arith)
take_less (suc n) (suc m) [] few = refl
take_less (suc n) (suc m) (x ∷ xs) few = ap (λ l. x ∷ l) (take_less n m xs (omega arith))

-- the last digit of a number is written
pub first_written : (number glyph : ℕ) (text : List ℕ) → number < 2 ^ 64 → text ≡ replicate 16 48 → glyph ≡ digit_glyph false (number % 16)
    → IsWriting number 15 (number / 16) (set text 15 glyph)
unfolding digits
first_written number glyph text fits fresh is =
    let long : length text ≡ 16 = ap length fresh in
    let one : drop 15 (set text 15 glyph) ≡ digit_glyph false (number % 16) ∷ [] =
    drop-set text 15 glyph (omega (arith, long)) ∙ ap (λ l. glyph ∷ drop 16 l) fresh ∙ ap (λ g. g ∷ []) is in
    record {
      low = omega arith;
      long = length-set text 15 glyph ∙ long;
      small = omega arith;
      zeros = take-set text 15 glyph ∙ ap (take 15) fresh;
      written = ap (before_digits 63 (number / 16)) one;
    }

-- and then the one before those that stand
next_at : (number place rest glyph : ℕ) (text : List ℕ) → IsWriting number (suc place) rest text → 0 < rest → glyph ≡ digit_glyph false (rest % 16)
    → IsWriting number place (rest / 16) (set text place glyph)
next_at number place rest glyph text is some digit =
    let long = is.long in
    let low = is.low in
    let small = is.small in
    let more : (rest == 0) ≡ false = grind (arith, nat_tests) in
    let here : drop place (set text place glyph) ≡ digit_glyph false (rest % 16) ∷ drop (suc place) text =
    drop-set text place glyph (omega arith) ∙ ap (λ g. g ∷ drop (place + 1) text) digit
    ∙ ap (λ n. digit_glyph false (rest % 16) ∷ drop n text) (let same : place + 1 ≡ suc place = omega arith in same) in
    let count : suc place + 48 ≡ suc (place + 48) = omega arith in
    let step : before_digits (place + 48) (rest / 16) (digit_glyph false (rest % 16) ∷ drop (suc place) text)
    ≡ before_digits (suc place + 48) rest (drop (suc place) text) =
    sym (ap (λ b. if b then drop (suc place) text else digits_onto (suc place + 48) 16 false rest (drop (suc place) text)) more
    ∙ ap (λ most. digits_onto most 16 false rest (drop (suc place) text)) count) in
    record {
      low = omega arith;
      long = length-set text place glyph ∙ long;
      small = let power = pow-suc 16 place in omega arith;
      zeros = take-set text place glyph ∙ sym (take_less place (suc place) text (omega arith)) ∙ ap (take place) is.zeros
          ∙ take-replicate place (suc place) 48 (omega arith);
      written = ap (before_digits (place + 48) (rest / 16)) here ∙ step ∙ is.written;
    }

pub next_written : (number first rest glyph : ℕ) (text : List ℕ) → IsWriting number first rest text → 0 < rest → glyph ≡ digit_glyph false (rest % 16)
    → IsWriting number (first - 1) (rest / 16) (set text (first - 1) glyph)
next_written number zero rest glyph text is some digit = absurd (let small = is.small in omega arith)
next_written number (suc place) rest glyph text is some digit =
    let same : suc place - 1 ≡ place = omega arith in
    subst (λ f. IsWriting number f (rest / 16) (set text f glyph)) (sym same) (next_at number place rest glyph text is some digit)

-- once nothing is left, all digits are written
pub all_written : (number first rest : ℕ) (text : List ℕ) → IsWriting number first rest text → rest ≤ 0 → drop first text ≡ digits 16 false number
all_written number first rest text is none =
    let end : (rest == 0) ≡ true = grind (arith, nat_tests) in
    sym (ap (λ b. if b then drop first text else digits_onto (first + 48) 16 false rest (drop first text)) end) ∙ is.written

-- where few digits stand, zeros stand before them
padded : (width number first : ℕ) (text : List ℕ) → width ≤ 16 → first < 16 → length text ≡ 16 → take first text ≡ replicate first 48
    → drop first text ≡ digits 16 false number → drop (min first (16 - width)) text ≡ hex width number
unfolding hex
padded width number first text few low long zeros all = by (cases_lt (16 - width) first)
  where
    number_digits : List ℕ
    number_digits = digits 16 false number

    count : length number_digits ≡ 16 - first
    count = ap length (sym all) ∙ length-drop first text ∙ ap (λ n. n - first) long

    long_zeros : length (replicate {A = ℕ} first 48) ≡ first
    long_zeros = length-replicate first 48

    whole : text ≡ replicate first 48 ++ number_digits
    whole = sym (take-append-drop first text) ∙ ap (λ front. front ++ drop first text) zeros ∙ ap (λ back. replicate first 48 ++ back) all

    by : (16 - width < first) ⊎ (first ≤ 16 - width) → drop (min first (16 - width)) text ≡ replicate (width - length number_digits) 48 ++ number_digits
    by (inl large) =
        let zeros_left : first - (16 - width) ≡ width - length number_digits = omega (arith, count) in
        ap (λ n. drop n text) (min-eq_right (omega arith)) ∙ ap (drop (16 - width)) whole
        ∙ drop-append-le (16 - width) (replicate first 48) number_digits (omega (arith, long_zeros))
        ∙ ap (λ front. front ++ number_digits) (drop-replicate (16 - width) first 48 ∙ ap (λ n. replicate n 48) zeros_left)
    by (inr small) =
        let none : width - length number_digits ≡ 0 = omega (arith, count) in
        ap (λ n. drop n text) (min-eq_left small) ∙ all ∙ ap (λ n. replicate n 48 ++ number_digits) (sym none)

-- and that is all from that place to the end
pub padded_whole : (width number first at : ℕ) (text : List ℕ) → width ≤ 16 → first < 16 → length text ≡ 16 → take first text ≡ replicate first 48
    → drop first text ≡ digits 16 false number → at ≡ min first (16 - width) → take (16 - at) (drop at text) ≡ hex width number
padded_whole width number first at text few low long zeros all is =
    ap (λ n. take n (drop at text)) (sym (length-drop at text ∙ ap (λ n. n - at) long)) ∙ take-length (drop at text)
    ∙ ap (λ n. drop n text) is ∙ padded width number first text few low long zeros all
