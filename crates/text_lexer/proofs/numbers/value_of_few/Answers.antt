-- For `value_of_few`: its goals.
use Rattle.std.proofs.Common.{◌≡◌, ℕ, ◌+◌, ◌*◌, ◌<◌, get_or, ◌∙◌, ap, subst, sym, arith}
use Rattle.std.specs.Char.{digit_value}
use Rattle.text_lexer.proofs.Digits.{AreRead, AreRead-more, next_fits, some_of_few}
use Rattle.text_lexer.proofs.numbers.value_of_few.Goals as goal

pub overflow_mul-value : goal.overflow_mul-value
overflow_mul-value c =
    let bytes = c.args.digits.now in
    let i = c.loop-byte.byte-index in
    let digit : digit_value (get_or bytes i 0) < c.args.base = c.in-Some.ensures.0 in
    omega (
      arith,
      next_fits c.args.base i c.loop-byte.value bytes c.requires.low c.requires.high c.requires.few
          c.loop-byte.invariant c.loop-byte-test.true digit,
    )

pub overflow_add-value : goal.overflow_add-value
overflow_add-value c =
    let bytes = c.args.digits.now in
    let i = c.loop-byte.byte-index in
    let digit : digit_value (get_or bytes i 0) < c.args.base = c.in-Some.ensures.0 in
    let spelled : c.in-Some.digit ≡ digit_value (get_or bytes i 0) = c.in-Some.ensures.1 in
    omega (
      arith,
      spelled,
      next_fits c.args.base i c.loop-byte.value bytes c.requires.low c.requires.high c.requires.few
          c.loop-byte.invariant c.loop-byte-test.true digit,
    )

pub loop-byte-preserved : goal.loop-byte-preserved
loop-byte-preserved c =
    let bytes = c.args.digits.now in
    let i = c.loop-byte.byte-index in
    let digit : digit_value (get_or bytes i 0) < c.args.base = c.in-Some.ensures.0 in
    let spelled : digit_value (get_or bytes i 0) ≡ c.in-Some.digit = sym (c.in-Some.ensures.1) in
    subst (AreRead c.args.base bytes (i + 1)) (ap (λ (d : ℕ). c.loop-byte.value * c.args.base + d) spelled)
    (AreRead-more c.args.base i c.loop-byte.value bytes c.loop-byte.invariant c.loop-byte-test.true digit)

pub returns : goal.returns
returns c = some_of_few c.args.base c.loop-byte.byte-index c.loop-byte.value c.args.digits.now
    (omega (arith, c.loop-byte-test.false)) c.loop-byte.invariant
