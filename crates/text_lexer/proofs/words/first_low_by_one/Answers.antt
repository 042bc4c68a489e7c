-- For `first_low_by_one`: its goals.
use Rattle.std.proofs.Common.{rules, tests}
use Rattle.std.proofs.lemmas.Iterator.{YieldsList-from_slice}
use Rattle.std.proofs.lemmas.Iterator.Search.{position_from_yields_List}
use Rattle.text_lexer.proofs.WordParts.{is_low, place_is}
use Rattle.text_lexer.proofs.words.first_low_by_one.Goals as goal

pub returns : goal.returns
returns c =
    let text = c.args.text.now in
    place_is is_low text c.position.result c.unwrap_or.result
    (position_from_yields_List is_low _ _ c.position.result c.position.ensures.ran (YieldsList-from_slice text cc)
    (λ x b q k. search (rules, tests)))
    c.unwrap_or.ensures
