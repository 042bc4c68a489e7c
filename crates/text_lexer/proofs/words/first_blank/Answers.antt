-- For `first_blank`: its goals.
use Rattle.std.proofs.Common.{◌∙◌, sym, rules, tests, arith}
use Rattle.std.proofs.lemmas.Iterator.{YieldsList-from_slice}
use Rattle.std.proofs.lemmas.Iterator.Search.{position_from_yields_List}
use Rattle.text_lexer.specs.Words.{is_blank}
use Rattle.text_lexer.proofs.WordParts.{is_low, position_or_len-le, place_is, place_at_low}
use Rattle.text_lexer.proofs.words.first_blank.Goals as goal

pub bounds-text-low : goal.bounds-text-low
bounds-text-low c = omega (arith, c.first_low-low.ensures, position_or_len-le is_low c.args.text.now)

pub returns-then-low-text : goal.returns-then-low-text
returns-then-low-text c = place_at_low c.args.text.now c.first_low-low.result c.first_low-low.ensures
    (λ within. absurd (omega arith))

pub returns-then-is_blank : goal.returns-then-is_blank
returns-then-is_blank c = place_at_low c.args.text.now c.first_low-low.result c.first_low-low.ensures
    (λ within. sym c.is_blank.ensures ∙ c.if-is_blank.true)

pub returns : goal.returns
returns c =
    let text = c.args.text.now in
    place_is is_blank text c.position.result c.unwrap_or.result
    (position_from_yields_List is_blank _ _ c.position.result c.position.ensures.ran (YieldsList-from_slice text cc)
    (λ x b q k. search (rules, tests)))
    c.unwrap_or.ensures
