-- The proof of `Walk::line_to_come`: the text tells no number, or the line of the number comes, or none does.
use Rattle.std.proofs.Common.{ℕ, ◌≡◌, ◌∙◌, sym, subst, Option, Some}
use Rattle.std.specs.Prelude.{IfSome, MatchOption}
use Rattle.std.proofs.lemmas.Option.{none-some}
use Rattle.trace_reader.specs.declared.trace.TraceLine.{TraceLine}
use Rattle.output.specs.Internal.Judging.{NoneComes, TellsNumber, TheOneComes}
use Rattle.output.proofs.ToldRuns.{number_fits, come_from}
use Rattle.output.proofs.judging.Walk.line_to_come.Goals as goal

pub returns-in_err-number : goal.returns-in_err-number
returns-in_err-number c = λ text walked.
    subst (λ (o : Option (TraceLine × ℕ)). MatchOption o (NoneComes c.args.lines.now walked.items c.args.self.now.given.rest.now)
    (λ found. TheOneComes c.args.lines.now walked.items c.args.self.now.given.rest.now found.0 found.1)) (sym c.from_residual.ensures)
    (λ line caller begins. none-some line.number
    (sym c.in_err-number.was ∙ c.number.ensures.printed line begins.version begins.behind
    (number_fits c.args.lines.now walked.items line caller walked.kept begins.next) begins.begins))

pub returns : goal.returns
returns c = λ text walked.
    come_from c.args.lines.now walked.items c.args.self.now.given.rest.now c.in_ok-number.number c.line_to_come.result
    (c.line_to_come.ensures c.args.lines.now walked.items walked.progress)
    (subst (λ (o : Option ℕ). IfSome o (TellsNumber c.args.self.now.given.rest.now)) c.in_ok-number.was c.number.ensures.told)
    (λ other teller begins. same_number other.number c.in_ok-number.number
    (sym (c.number.ensures.printed other begins.version begins.behind
    (number_fits c.args.lines.now walked.items other teller walked.kept begins.next) begins.begins) ∙ c.in_ok-number.was))
  where
    same_number : (a b : ℕ) → Some a ≡ Some b → a ≡ b
    same_number a b same = cc
