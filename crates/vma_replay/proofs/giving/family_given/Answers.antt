-- The proof of `family_given`: where memory runs out before anything was given, and what giving the texts of the runs results in.
use Rattle.std.proofs.Common.{refl, subst, sym, List, ℕ}
use Rattle.mm_space.specs.Closing.{ClosedView}
use Rattle.vma_replay.specs.Internal.Families.{text_of_family}
use Rattle.vma_replay.specs.Internal.Giving.{GivesAnOutput}
use Rattle.vma_replay.proofs.Doing.{doing_cut, wants_memory}
use Rattle.vma_replay.proofs.FamilyTexts.{family_gives}
use Rattle.vma_replay.proofs.giving.family_given.Goals as goal

pub returns-in_err-lines : goal.returns-in_err-lines
returns-in_err-lines g c = wants_memory _ _ _ _ c.from_residual.ensures.1 refl

pub returns-in_err-family : goal.returns-in_err-family
returns-in_err-family g c = wants_memory _ _ _ _ c.from_residual-in_err-family.ensures.1 refl

pub give_family-requires-clause-family : goal.give_family-requires-clause-family
give_family-requires-clause-family g c = (c.args.mode, c.in_ok-family.ensures)

pub returns-in_err-give_family : goal.returns-in_err-give_family
returns-in_err-give_family g c = doing_cut _ _ _ _ _ _ _
    (family_gives c.args.mode c.args.trace.now _ _ _ c.requires.trace c.in_ok-family.ensures)
    c.from_residual-in_err-give_family.ensures.1 c.in_err-give_family.ensures

pub returns : goal.returns
returns g c =
    let text : List ℕ =
    text_of_family c.args.trace.now c.in_ok-family.family.history c.in_ok-family.family.forks.items c.in_ok-family.family.runs.items in (
      text,
      subst (λ (r : List ClosedView). GivesAnOutput c.args.mode c.args.trace.now r text) (sym c.of.ensures)
          (family_gives c.args.mode c.args.trace.now c.in_ok-family.family.history c.in_ok-family.family.forks.items
          c.in_ok-family.family.runs.items c.requires.trace c.in_ok-family.ensures),
      c.in_ok-give_family.ensures,
    )
