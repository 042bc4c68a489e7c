-- The proof of `AnsweredLines::new`: nothing is answered before the first item.
use Rattle.std.proofs.Common.{◌≡◌, ◌∙◌, ap, replicate, arith}
use Rattle.history.specs.CallerPlaces.{callers_of}
use Rattle.output.proofs.Answering.{answered_none}
use Rattle.output.proofs.answered.AnsweredLines.new.Goals as goal

pub returns : goal.returns
returns c =
    let count : c.len.result ≡ callers_of c.args.lines.now = omega (arith, c.len.ensures, c.in_ok-places.places.ok.0, c.in_ok-places.ensures.all) in
    answered_none c.args.lines.now (callers_of c.args.lines.now) _ c.items.ensures.lines c.in_ok-places.ensures
    (c.in_ok-answered.ensures.items_if_clones_equal (λ y same. same) ∙ ap (λ n. replicate n 0) count)
