-- For `text_at`: its goals.
use Rattle.std.proofs.Common.{◌≡◌, ◌+◌, ◌-◌, ◌∙◌, ℕ, Option, Some, IfSome, slice_get, length, sym, ap, subst, refl, arith}
use Rattle.text_lexer.specs.Reading.{line_view}
use Rattle.text_lexer.specs.Lines.{RawLine, lines_from, raw_lines}
use Rattle.maps_read.proofs.Answers.{some_left, text_step}
use Rattle.maps_read.proofs.answering.text_at.Goals as goal

pub first_line-requires : goal.first_line-requires
first_line-requires c = some_left _ _ c.loop-passed.passed c.loop-passed.rest.now (raw_lines c.args.bytes.now) c.loop-passed.invariant.read (omega arith)

pub loop-passed-preserved : goal.loop-passed-preserved
loop-passed-preserved c =
    let bytes = c.args.bytes.now in
    let rest = c.loop-passed.rest.now in
    let more = c.first_line.result.1.now in
    let place = c.loop-passed.passed in
    let step = text_step _ _ _ place rest more (line_view c.first_line.result.0) (raw_lines bytes) (omega arith) c.loop-passed.invariant.read c.first_line.ensures.line in
    let start : length bytes - length rest + (length rest - length more) ≡ length bytes - length more = omega (arith, c.first_line.ensures.shorter, c.loop-passed.invariant.within) in
    record {
      read = ap (λ (n : ℕ). lines_from (place + 1 + 1) n more) (sym start) ∙ step.0;
      within = omega (arith, c.first_line.ensures.shorter, c.loop-passed.invariant.within);
    }

pub first_line-requires-2 : goal.first_line-requires-2
first_line-requires-2 c = some_left _ _ c.loop-passed.passed c.loop-passed.rest.now (raw_lines c.args.bytes.now) c.loop-passed.invariant.read (omega arith)

pub returns : goal.returns
returns c =
    let bytes = c.args.bytes.now in
    let rest = c.loop-passed.rest.now in
    let place = c.loop-passed.passed in
    let line = line_view c.first_line-2.result.0 in
    let step = text_step _ _ _ place rest c.first_line-2.result.1.now line (raw_lines bytes) (omega arith) c.loop-passed.invariant.read c.first_line-2.ensures.line in
    let last : place ≡ c.args.place = omega arith in
    let found : Some line ≡ slice_get (raw_lines bytes) c.args.place = sym step.1 ∙ ap (slice_get (raw_lines bytes)) last in
    subst (λ (o : Option RawLine). IfSome o (λ raw. line.text ≡ raw.text)) found refl
