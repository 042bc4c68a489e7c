-- The proof of `summary_given`: where memory runs out before anything was given, and what giving the summary results in.
use Rattle.std.proofs.Common.{◌≡◌, ◌∙◌, ap, refl, List, [], ◌∷◌, ◌++◌}
use Rattle.mm_space.specs.Closing.{ClosedView}
use Rattle.vma_replay.specs.Summaries.{text_of_summary}
use Rattle.vma_replay.proofs.Doing.{doing_cut, wants_memory}
use Rattle.vma_replay.proofs.Summaries.{text_is_summary}
use Rattle.vma_replay.proofs.generating.summary_given.Goals as goal

pub returns-in_err-runs : goal.returns-in_err-runs
returns-in_err-runs g c = wants_memory _ _ _ _ c.from_residual.ensures.1 refl

pub returns-in_err-run : goal.returns-in_err-run
returns-in_err-run g c = wants_memory _ _ _ _ c.from_residual-in_err-run.ensures.1 refl

pub returns-in_err-text : goal.returns-in_err-text
returns-in_err-text g c = wants_memory _ _ _ _ c.from_residual-in_err-text.ensures.1 refl

pub returns-in_err-give_all : goal.returns-in_err-give_all
returns-in_err-give_all g c = doing_cut _ _ _ _ _ (c.in_ok-run.run' ∷ []) c.deref.result.now (
  (c.in_ok-run.run', refl, c.in_ok-run.ensures.run, c.in_ok-run.ensures.list),
  text_is_summary c.args.count c.args.seed c.in_ok-run.run' c.deref.result.now c.in_ok-run.ensures.run c.in_ok-run.ensures.list
      (c.deref.ensures.value ∙ c.in_ok-text.ensures ∙ ap text_of_summary c.of.ensures),
) c.from_residual-in_err-give_all.ensures.1 c.in_err-give_all.ensures

pub returns : goal.returns
returns g c =
    let kept : c.of-2.result ≡ c.in_ok-run.run' ∷ [] = c.of-2.ensures ∙ c.push_reserved.ensures.items
    ∙ ap (λ (l : List ClosedView). l ++ c.in_ok-run.run' ∷ []) c.in_ok-runs.ensures.items in (
      c.deref.result.now,
      (
        (c.in_ok-run.run', kept, c.in_ok-run.ensures.run, c.in_ok-run.ensures.list),
        text_is_summary c.args.count c.args.seed c.in_ok-run.run' c.deref.result.now c.in_ok-run.ensures.run c.in_ok-run.ensures.list
            (c.deref.ensures.value ∙ c.in_ok-text.ensures ∙ ap text_of_summary c.of.ensures),
      ),
      c.in_ok-give_all.ensures,
    )
