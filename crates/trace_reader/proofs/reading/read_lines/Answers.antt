-- For `read_lines`: its goals.
use Rattle.std.proofs.Common.{◌≡◌, ◌∙◌, ℕ, ◌+◌, ◌-◌, length, Ok, Err, sym, ap, arith}
use Rattle.std.proofs.lemmas.Bool.Decides.{nat_tests}
use Rattle.trace_reader.specs.Grammar.{after_trace_lines, lines_read}
use Rattle.trace_reader.specs.Lines.{after_trace_line}
use Rattle.text_lexer.specs.Lines.{lines_from}
use Rattle.trace_reader.specs.Reading.{so_far}
use Rattle.text_lexer.specs.Reading.{line_view}
use Rattle.trace_reader.proofs.LineFails.{first_fails, header_tested}
use Rattle.text_lexer.proofs.FirstLine.{first_told}
use Rattle.text_lexer.proofs.RawReading.{first_good, none_left}
use Rattle.trace_reader.proofs.TraceValues.{after_line-good}
use Rattle.trace_reader.proofs.reading.read_lines.Goals as goal

pub returns-in-Err-clause-lines : goal.returns-in-Err-clause-lines
returns-in-Err-clause-lines c = rw c.error_at.ensures (first_fails _ _ _ _ c.in-Err.error _ c.loop-rest.number
    c.loop-rest.invariant.read c.first_line.ensures.line c.first_line.ensures.number c.in-Err.ensures.added)

pub returns-in-Err-clause-first : goal.returns-in-Err-clause-first
returns-in-Err-clause-first c = λ first is one. ap Err (c.error_at.ensures ∙ first_told after_trace_line (so_far c.loop-rest.builder)
    (line_view c.first_line.result.0) c.loop-rest.number _ _ c.loop-rest.rest.now c.first_line.result.1.now c.in-Err.error (lines_read c.args.bytes.now) first
    c.loop-rest.invariant.read c.first_line.ensures.line c.first_line.ensures.number c.in-Err.ensures.added
    (λ number. header_tested c.in-Err.error (after_trace_line (so_far c.loop-rest.builder) (line_view c.first_line.result.0)) c.in-Err.ensures.added
    (c.in-Err.ensures.header (c.first_line.ensures.number ∙ number)))
    c.loop-rest.invariant.begun is one)

pub loop-rest-preserved : goal.loop-rest-preserved
loop-rest-preserved c =
    let more = c.first_line.result.1.now in
    let line = line_view c.first_line.result.0 in
    let before = so_far c.loop-rest.builder in
    let after = so_far c.add.new.self in
    let number = c.loop-rest.number in
    let start : length c.args.bytes.now - length c.loop-rest.rest.now + (length c.loop-rest.rest.now - length more)
    ≡ length c.args.bytes.now - length more =
    omega (arith, c.first_line.ensures.shorter, c.loop-rest.invariant.within) in
    record {
      read = ap (λ (n : ℕ). after_trace_lines after (lines_from (number + 1) n more)) (sym start)
          ∙ first_good after_trace_line before after _ _ line _ c.loop-rest.invariant.read c.first_line.ensures.line c.in_default.ensures.added;
      known = after_line-good before after line number c.loop-rest.invariant.known c.first_line.ensures.number
          (omega (arith, c.loop-rest.auto.number-fits)) c.in_default.ensures.added;
      within = omega (arith, c.first_line.ensures.shorter, c.loop-rest.invariant.within);
      begun = omega (arith, c.loop-rest.invariant.begun);
      counted = omega (arith, c.first_line.ensures.shorter, c.loop-rest.invariant.within, c.loop-rest.invariant.counted);
    }

pub returns-clause-lines : goal.returns-clause-lines
returns-clause-lines c =
    let none : length c.loop-rest.rest.now ≡ 0 = grind (arith, nat_tests, c.is_empty.ensures, c.loop-rest-test.false) in
    none_left after_trace_line _ _ _ c.loop-rest.rest.now _ none c.loop-rest.invariant.read

pub returns-clause-first : goal.returns-clause-first
returns-clause-first c =
    let none : length c.loop-rest.rest.now ≡ 0 = grind (arith, nat_tests, c.is_empty.ensures, c.loop-rest-test.false) in
    let read : lines_read c.args.bytes.now ≡ Ok (so_far c.loop-rest.builder) =
    none_left after_trace_line _ _ _ c.loop-rest.rest.now _ none c.loop-rest.invariant.read in
    λ first is one. absurd (cc (read, is))
