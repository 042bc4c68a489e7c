-- For `read_lines`: its goals.
use Rattle.std.proofs.Common.{◌≡◌, length, subst, arith}
use Rattle.std.specs.Prelude.{IsErrOf, Option, Err}
use Rattle.std.proofs.lemmas.Bool.Decides.{nat_tests}
use Rattle.text_lexer.proofs.RawReading.{none_left}
use Rattle.text_lexer.specs.Reading.{line_view}
use Rattle.text_lexer.specs.declared.error.ReadError.{ReadError}
use Rattle.text_lexer.specs.declared.error.ReadError.TheVariants as reads
use Rattle.step_script.specs.Lines.{after_script_line}
use Rattle.step_script.specs.declared.script.Script.{Script}
use Rattle.step_script.proofs.FirstLine.{memory_below}
use Rattle.step_script.proofs.reading.read_lines.Goals as goal

pub returns-clause-value : goal.returns-clause-value
returns-clause-value c =
    let none : length c.loop-rest.rest.now ≡ 0 = grind (arith, nat_tests, c.is_empty.ensures, c.loop-rest-test.false) in
    none_left after_script_line _ _ _ c.loop-rest.rest.now _ none c.loop-rest.invariant.read

pub returns-in-Err-clause-memory : goal.returns-in-Err-clause-memory
returns-in-Err-clause-memory c lacks =
    memory_below c.loop-rest.script _ (line_view c.first_line.result.0) c.loop-rest.number _ c.first_line.result.1.now c.args.bytes.now c.in-Err.error
    c.loop-rest.invariant.read c.first_line.ensures.line c.first_line.ensures.number c.loop-rest.invariant.begun c.in-Err.ensures.memory
    (subst (λ (error : ReadError). IsErrOf {T = Option Script} (Err error) reads.NoMemory) c.error_at.ensures lacks)
