-- For `mark_of`: its goals.
use Rattle.std.proofs.Common.{◌≡◌, ◌+◌, position, ◌∙◌, sym, rules, tests}
use Rattle.std.proofs.lemmas.Iterator.{YieldsList-from_slice}
use Rattle.std.proofs.lemmas.Iterator.Search.{position_from_yields_List}
use Rattle.std.proofs.lemmas.List.{take_rest}
use Rattle.text_lexer.specs.Lines.{is_newline}
use Rattle.output.proofs.MarkLines.{mark_is}
use Rattle.output.proofs.Marks.{mark_step, mark_none, mark_found, left_within}
use Rattle.output.proofs.input.mark_of.Goals as goal

pub returns-in_err-len-clause-place : goal.returns-in_err-len-clause-place
returns-in_err-len-clause-place c =
    let rest = c.loop-rest.rest.now in
    let found : c.position.result ≡ position is_newline rest =
    position_from_yields_List is_newline _ _ c.position.result c.position.ensures.ran
    (YieldsList-from_slice rest cc) (λ x b q k. search (rules, tests)) in
    c.from_residual.ensures ∙ sym (mark_is c.args.bytes.now ∙ mark_none c.args.bytes.now rest c.loop-rest.invariant.same c.loop-rest-test.ensures.value
    (sym found ∙ c.in_err-len.was))

pub loop-rest-preserved : goal.loop-rest-preserved
loop-rest-preserved c =
    let bytes = c.args.bytes.now in
    let rest = c.loop-rest.rest.now in
    let left = take_rest rest (c.in_ok-len.len + 1) in
    let found : c.position.result ≡ position is_newline rest =
    position_from_yields_List is_newline _ _ c.position.result c.position.ensures.ran
    (YieldsList-from_slice rest cc) (λ x b q k. search (rules, tests)) in
    record {
      same = mark_step bytes rest _ c.in_ok-len.len c.loop-rest.invariant.same c.loop-rest.invariant.within c.loop-rest-test.ensures.value
          (sym found ∙ c.in_ok-len.was) left;
      within = left_within bytes rest _ c.in_ok-len.len left c.loop-rest.invariant.within;
    }

pub returns-clause-place : goal.returns-clause-place
returns-clause-place c = sym (mark_is c.args.bytes.now
    ∙ mark_found c.args.bytes.now c.loop-rest.rest.now c.loop-rest.invariant.same c.loop-rest-test.ensures.value)
