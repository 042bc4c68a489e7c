-- The proof of `Given::expect`: the line is the next one, or it is not.
use Rattle.std.proofs.Common.{◌≡◌, ◌++◌, refl, sym, subst, Some, None}
use Rattle.std.proofs.lemmas.Bool.Decides.{Decides-eqb}
use Rattle.std.proofs.lemmas.Slice.Eq.{strip_prefix_is}
use Rattle.output.specs.declared.stop.Stop.{Stop}
use Rattle.output.specs.Internal.Judging.{IsBadAt}
use Rattle.output.proofs.Compared.{read_more, differs_line}
use Rattle.output.proofs.given.Given.expect.Goals as goal

pub returns-in-Some-clause-ok : goal.returns-in-Some-clause-ok
returns-in-Some-clause-ok c =
    let split : c.args.self.now.rest.now ≡ c.args.line.now ++ c.in-Some.rest.now =
    strip_prefix_is Decides-eqb c.args.self.now.rest.now c.args.line.now (Some c.in-Some.rest) c.in-Some.ensures.cases in
    λ text before read. read_more text before c.args.line.now c.args.self.now _ read c.requires.line split refl

pub returns-in-None-clause-bad : goal.returns-in-None-clause-bad
returns-in-None-clause-bad c = λ text before read.
    subst (λ (stop : Stop). IsBadAt text (before ++ c.args.line.now) stop) (sym c.bad.ensures)
    (differs_line text before c.args.line.now c.args.self.now read c.requires.line
    (strip_prefix_is Decides-eqb c.args.self.now.rest.now c.args.line.now None c.in-None.ensures.cases))
