-- For `first_low`: its goals.
use Rattle.std.proofs.Common.{◌≡◌, ◌∙◌, ap, drop, arith}
use Rattle.std.specs.List.{position_or_len}
use Rattle.std.proofs.lemmas.List.{take_rest}
use Rattle.text_lexer.proofs.WordParts.{is_low, position_or_len-le, high_more, low_in_lanes, low_in_rest}
use Rattle.text_lexer.proofs.words.first_low.Goals as goal

pub loop-from-init : goal.loop-from-init
loop-from-init c = record { within = omega arith; high = λ k below. absurd (omega arith) }

pub loop-from-preserved : goal.loop-from-preserved
loop-from-preserved c = record {
  within = omega arith;
  high = high_more c.args.text.now c.loop-from.from c.bytes_before_low-before.result (omega arith) c.loop-from.invariant.high
      c.bytes_before_low-before.ensures (omega arith);
}

pub returns-then-before-lt-LANES : goal.returns-then-before-lt-LANES
returns-then-before-lt-LANES c = low_in_lanes c.args.text.now c.loop-from.from c.bytes_before_low-before.result (omega arith)
    c.loop-from.invariant.high c.bytes_before_low-before.ensures (omega arith)

pub overflow_add-result-2 : goal.overflow_add-result-2
overflow_add-result-2 c =
    let text = c.args.text.now in
    let from = c.loop-from.from in
    let rest : c.first_low_by_one.result ≡ position_or_len is_low (drop from text) =
    c.first_low_by_one.ensures ∙ ap (position_or_len is_low) (take_rest text from) in
    omega (
      arith,
      low_in_rest text from c.first_low_by_one.result c.loop-from.invariant.within c.loop-from.invariant.high rest,
      position_or_len-le is_low text,
    )

pub returns : goal.returns
returns c =
    let text = c.args.text.now in
    let from = c.loop-from.from in
    low_in_rest text from c.first_low_by_one.result c.loop-from.invariant.within c.loop-from.invariant.high
    (c.first_low_by_one.ensures ∙ ap (position_or_len is_low) (take_rest text from))
