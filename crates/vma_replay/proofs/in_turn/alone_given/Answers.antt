-- The proof of `alone_given`: where memory runs out before anything was given, and what giving the text of the run results in.
use Rattle.std.proofs.Common.{◌≡◌, ◌∙◌, ap, refl, subst, sym, List, [], ◌∷◌, ◌++◌, ℕ, get_or}
use Rattle.mm_space.specs.Closing.{ClosedView}
use Rattle.output.specs.Output.{listed_text}
use Rattle.vma_replay.specs.Internal.Giving.{GivesAnOutput}
use Rattle.vma_replay.specs.Replaying.{IsRunOf, history_of_run}
use Rattle.vma_replay.proofs.Alone.{only_gives, own_run}
use Rattle.vma_replay.proofs.Doing.{doing_cut, wants_memory}
use Rattle.vma_replay.proofs.in_turn.alone_given.Goals as goal

pub returns-in_err-runs : goal.returns-in_err-runs
returns-in_err-runs g c = wants_memory _ _ _ _ c.from_residual.ensures.1 refl

pub returns-in_err-run : goal.returns-in_err-run
returns-in_err-run g c = wants_memory _ _ _ _ c.from_residual-in_err-run.ensures.1 refl

pub give_alone-requires-clause-run : goal.give_alone-requires-clause-run
give_alone-requires-clause-run g c =
    let one : c.push_reserved.new.self.items ≡ c.in_ok-run.run' ∷ [] = c.push_reserved.ensures.items
    ∙ ap (λ (l : List ClosedView). l ++ c.in_ok-run.run' ∷ []) c.in_ok-runs.ensures.items in
    let first : c.index.result.now ≡ c.in_ok-run.run' = c.index.ensures ∙ ap (λ (l : List ClosedView). get_or l 0 c.index.result.now) one in
    subst (λ (run : ClosedView). IsRunOf c.args.mode c.args.trace.now run) (sym first)
    (own_run c.args.mode c.args.trace.now c.in_ok-run.run' c.requires.alone c.in_ok-run.ensures.run)

pub returns-in_err-give_alone : goal.returns-in_err-give_alone
returns-in_err-give_alone g c =
    let one : c.push_reserved.new.self.items ≡ c.in_ok-run.run' ∷ [] = c.push_reserved.ensures.items
    ∙ ap (λ (l : List ClosedView). l ++ c.in_ok-run.run' ∷ []) c.in_ok-runs.ensures.items in
    doing_cut _ _ _ _ _ _ _
    (only_gives c.args.mode c.args.trace.now c.in_ok-run.run' c.index.result.now c.push_reserved.new.self.items c.requires.trace c.requires.alone
    (own_run c.args.mode c.args.trace.now c.in_ok-run.run' c.requires.alone c.in_ok-run.ensures.run) c.in_ok-run.ensures.list one c.index.ensures)
    c.from_residual-in_err-give_alone.ensures.1 c.in_err-give_alone.ensures

pub returns : goal.returns
returns g c =
    let one : c.push_reserved.new.self.items ≡ c.in_ok-run.run' ∷ [] = c.push_reserved.ensures.items
    ∙ ap (λ (l : List ClosedView). l ++ c.in_ok-run.run' ∷ []) c.in_ok-runs.ensures.items in
    let text : List ℕ = listed_text c.args.trace.now.config.files c.args.trace.now.lines
    (history_of_run c.args.mode c.args.trace.now c.index.result.now) c.index.result.now.list in (
      text,
      subst (λ (r : List ClosedView). GivesAnOutput c.args.mode c.args.trace.now r text) (sym c.of.ensures)
          (only_gives c.args.mode c.args.trace.now c.in_ok-run.run' c.index.result.now c.push_reserved.new.self.items c.requires.trace
          c.requires.alone
          (own_run c.args.mode c.args.trace.now c.in_ok-run.run' c.requires.alone c.in_ok-run.ensures.run) c.in_ok-run.ensures.list one c.index.ensures),
      c.in_ok-give_alone.ensures,
    )
