-- For `read_maps`: its goals.
use Rattle.std.proofs.Common.{◌≡◌, ◌∙◌, length, Ok, Err, ap, sym, arith}
use Rattle.std.proofs.lemmas.Bool.Decides.{nat_tests}
use Rattle.text_lexer.specs.Reading.{line_view}
use Rattle.text_lexer.proofs.FirstLine.{first_told, tested_fails}
use Rattle.text_lexer.proofs.RawReading.{none_left}
use Rattle.maps_read.specs.Maps.{after_maps_line, maps_of}
use Rattle.maps_read.proofs.Bytes.{maps_in_order}
use Rattle.maps_read.proofs.reading.read_maps.Goals as goal

pub of-requires : goal.of-requires
of-requires c =
    let none : length c.loop-rest.rest.now ≡ 0 = grind (arith, nat_tests, c.is_empty.ensures, c.loop-rest-test.false) in
    maps_in_order c.args.bytes.now c.loop-rest.lines.items
    (none_left after_maps_line _ _ _ c.loop-rest.rest.now _ none c.loop-rest.invariant.read)

pub returns-clause-maps : goal.returns-clause-maps
returns-clause-maps c =
    let none : length c.loop-rest.rest.now ≡ 0 = grind (arith, nat_tests, c.is_empty.ensures, c.loop-rest-test.false) in
    none_left after_maps_line _ _ _ c.loop-rest.rest.now _ none c.loop-rest.invariant.read ∙ ap Ok (sym c.of.ensures)

pub returns-in-Err-clause-empty : goal.returns-in-Err-clause-empty
returns-in-Err-clause-empty c = λ none. absurd (omega (arith, c.first_line.ensures.shorter, c.loop-rest.invariant.within))

pub returns-in-Err-clause-first : goal.returns-in-Err-clause-first
returns-in-Err-clause-first c = λ first is one. ap Err (c.error_at.ensures ∙ first_told after_maps_line c.loop-rest.lines.items (line_view c.first_line.result.0)
    c.loop-rest.number _ _ c.loop-rest.rest.now c.first_line.result.1.now c.in-Err.error (maps_of c.args.bytes.now) first c.loop-rest.invariant.read
    c.first_line.ensures.line c.first_line.ensures.number
    (tested_fails c.in-Err.error (after_maps_line c.loop-rest.lines.items (line_view c.first_line.result.0)) c.in-Err.ensures) (λ number. c.in-Err.ensures)
    c.loop-rest.invariant.begun is one)

pub returns-clause-first : goal.returns-clause-first
returns-clause-first c =
    let none : length c.loop-rest.rest.now ≡ 0 = grind (arith, nat_tests, c.is_empty.ensures, c.loop-rest-test.false) in
    let read : maps_of c.args.bytes.now ≡ Ok c.loop-rest.lines.items = none_left after_maps_line _ _ _ c.loop-rest.rest.now _ none c.loop-rest.invariant.read in
    λ first is one. absurd (cc (read, is))
