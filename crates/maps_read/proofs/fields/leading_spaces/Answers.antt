-- For `leading_spaces`: its goals.
use Rattle.std.proofs.Common.{rules, tests}
use Rattle.std.proofs.lemmas.Iterator.{YieldsList-from_slice}
use Rattle.std.proofs.lemmas.Iterator.Search.{position_from_yields_List}
use Rattle.text_lexer.proofs.WordParts.{place_is}
use Rattle.maps_read.specs.Fields.{is_no_space, leading_spaces}
use Rattle.maps_read.proofs.fields.leading_spaces.Goals as goal

pub returns : goal.returns
unfolding leading_spaces
returns c =
    let text = c.args.text.now in
    place_is is_no_space text c.position.result c.unwrap_or.result
    (position_from_yields_List is_no_space _ _ c.position.result c.position.ensures.ran (YieldsList-from_slice text cc)
    (λ x b q k. search (rules, tests)))
    c.unwrap_or.ensures
