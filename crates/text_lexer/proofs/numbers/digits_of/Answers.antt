-- For `digits_of`: its goals.
use Rattle.std.proofs.Common.{◌≡◌, ℕ, ◌+◌, ◌*◌, ◌<◌, List, length, get_or, None, Some, ◌∙◌, subst, arith}
use Rattle.std.specs.Char.{digit_value}
use Rattle.std.proofs.lemmas.Bool.Decides.{nat_tests}
use Rattle.text_lexer.specs.Numbers.{digits_of}
use Rattle.text_lexer.proofs.Digits.{AreRead, AreRead-more, digits_of-few, none_by_value, some_when_read}
use Rattle.text_lexer.proofs.numbers.digits_of.Goals as goal

pub returns-then-digits-le-FEW_DIGITS : goal.returns-then-digits-le-FEW_DIGITS
returns-then-digits-le-FEW_DIGITS c =
    let bytes = c.as_bytes-digits.result.now in
    let some : 0 < length bytes = grind (arith, nat_tests, c.is_empty.ensures, c.if-is_empty.false) in
    subst (λ (bs : List ℕ). c.value_of_few.result ≡ digits_of c.args.base c.args.most bs) c.as_bytes-digits.ensures.value
    (c.value_of_few.ensures ∙ digits_of-few c.args.base c.args.most bytes c.requires.low c.requires.high some (omega arith)
    (omega arith))

pub returns-in_default-checked_mul : goal.returns-in_default-checked_mul
returns-in_default-checked_mul c =
    let bytes = c.as_bytes-digits.result.now in
    let i = c.loop-byte.byte-index in
    let digit : digit_value (get_or bytes i 0) < c.args.base = c.in-Some.ensures.0 in
    subst (λ (bs : List ℕ). None ≡ digits_of c.args.base c.args.most bs) c.as_bytes-digits.ensures.value
    (none_by_value c.args.base c.args.most bytes (i + 1) _ (omega arith)
    (AreRead-more c.args.base i c.loop-byte.value bytes c.loop-byte.invariant.read c.loop-byte-test.true digit)
    (omega (arith, c.in_default-checked_mul.ensures)))

pub returns-in_default-checked_add : goal.returns-in_default-checked_add
returns-in_default-checked_add c =
    let bytes = c.as_bytes-digits.result.now in
    let i = c.loop-byte.byte-index in
    let digit : digit_value (get_or bytes i 0) < c.args.base = c.in-Some.ensures.0 in
    let spelled : c.in-Some.digit ≡ digit_value (get_or bytes i 0) = c.in-Some.ensures.1 in
    subst (λ (bs : List ℕ). None ≡ digits_of c.args.base c.args.most bs) c.as_bytes-digits.ensures.value
    (none_by_value c.args.base c.args.most bytes (i + 1) _ (omega arith)
    (AreRead-more c.args.base i c.loop-byte.value bytes c.loop-byte.invariant.read c.loop-byte-test.true digit)
    (omega (arith, spelled, c.in-Some-checked_mul.ensures, c.in_default-checked_add.ensures)))

pub loop-byte-preserved : goal.loop-byte-preserved
loop-byte-preserved c =
    let bytes = c.as_bytes-digits.result.now in
    let i = c.loop-byte.byte-index in
    let digit : digit_value (get_or bytes i 0) < c.args.base = c.in-Some.ensures.0 in
    let spelled : c.in-Some.digit ≡ digit_value (get_or bytes i 0) = c.in-Some.ensures.1 in
    let next : c.loop-byte.value * c.args.base + digit_value (get_or bytes i 0) ≡ c.in-Some-checked_add.next =
    omega (arith, spelled, c.in-Some-checked_mul.ensures, c.in-Some-checked_add.ensures) in
    record {
      read = subst (AreRead c.args.base bytes (i + 1)) next
          (AreRead-more c.args.base i c.loop-byte.value bytes c.loop-byte.invariant.read c.loop-byte-test.true digit);
      fits = omega (arith, c.in-Some-checked_add.ensures);
    }

pub returns : goal.returns
returns c =
    let bytes = c.as_bytes-digits.result.now in
    let some : 0 < length bytes = grind (arith, nat_tests, c.is_empty.ensures, c.if-is_empty.false) in
    subst (λ (bs : List ℕ). Some c.loop-byte.value ≡ digits_of c.args.base c.args.most bs) c.as_bytes-digits.ensures.value
    (some_when_read c.args.base c.args.most bytes c.loop-byte.byte-index c.loop-byte.value some (omega arith)
    (omega (arith, c.loop-byte-test.false)) c.loop-byte.invariant.read c.loop-byte.invariant.fits)
