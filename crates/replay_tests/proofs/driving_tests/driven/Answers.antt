-- The proof of `driven`: a pass that has two operations for each line has enough for the lines of its thread, and to tell as often as these are named.
use Rattle.std.proofs.Common.{ℕ, max, zero, suc, ◌≡◌, ◌<◌, ◌≤◌, ◌+◌, ◌∙◌, refl, sym, ap, subst, List, [], ◌∷◌, length, get_or, arith}
use Rattle.std.proofs.lemmas.List.Sums.{count_by-le-length}
use Rattle.std.proofs.lemmas.Option.{slice_get_within}
use Rattle.trace_reader.specs.declared.trace.TraceLine.{TraceLine}
use Rattle.history.specs.declared.callers.TheConstants.{MOST_THREADS}
use Rattle.history.specs.Histories.{caller_of}
use Rattle.history.specs.Parents.{parent_lines}
use Rattle.history.proofs.Advances.{lines_within}
use Rattle.fault_path.specs.Passes.{PassView}
use Rattle.mm_space.specs.Names.{SpaceId, ArePasses}
use Rattle.mm_space.specs.Opening.{AreOpened}
use Rattle.vma_drive.specs.Naming.{names_caller}
use Rattle.vma_drive.specs.Sharing.{AreEnough}
use Rattle.vma_drive.proofs.ClosedRuns.{back}
use Rattle.vma_drive.proofs.Operations.{opened_unused}
use Rattle.replay_tests.proofs.driving_tests.driven.Goals as goal

same : (most place : ℕ) → place < 2 → get_or (most ∷ most ∷ []) place 0 ≡ most
same most zero within = refl
same most (suc zero) within = refl
same most (suc (suc place)) within = absurd (omega (arith, within))

enough : (name : SpaceId) (lines : List TraceLine) (passes : List PassView) (most : ℕ) → AreOpened name passes → caller_of lines MOST_THREADS ≡ 2
    → length lines + length lines ≤ most → most ∷ most ∷ [] ≡ name.operations → AreEnough lines passes
enough name lines passes most opened two twice operations = record {
  all = opened.passes_are.all ∙ sym (ap length operations) ∙ sym (ap (λ (n : ℕ). max 1 n) two);
  each = λ place pass found.
      let is = opened.passes_are.each place pass found in
      let within : place < 2 = omega (arith, slice_get_within passes place pass found, opened.passes_are.all, ap length operations) in
      let left : pass.left ≡ most =
      (opened.opened place pass found).left ∙ is.0.operations ∙ ap (λ (k : ℕ). get_or name.operations k 0) is.1
      ∙ ap (λ (l : List ℕ). get_or l place 0) (sym operations) ∙ same most place within in
      omega (arith, left, twice, lines_within lines place, count_by-le-length (names_caller lines place) lines);
}

pub close-requires : goal.close-requires
close-requires g c = subst (λ (l : List PassView). ArePasses g.N.SpaceName.name l)
    (sym (back c.drive-done.new.passes _ _ (c.drive-done.auto.passes ∙ c.as_mut_slice.ensures.len))) c.drive-done.ensures.passes

pub drive-done-requires-clause-passes : goal.drive-done-requires-clause-passes
drive-done-requires-clause-passes g c lifetimes outlives =
    (subst (λ (l : List PassView). AreOpened g.N.SpaceName.name l) (sym c.as_mut_slice.ensures.value) c.open-space.ensures).passes_are

pub drive-done-requires-clause-unused : goal.drive-done-requires-clause-unused
drive-done-requires-clause-unused g c lifetimes outlives =
    opened_unused g.N.SpaceName.name _ (sym (ap (λ (r : SpaceId). r.before) c.requires.name) ∙ c.requires.before)
    (subst (λ (l : List PassView). AreOpened g.N.SpaceName.name l) (sym c.as_mut_slice.ensures.value) c.open-space.ensures)

pub drive-done-requires-clause-enough : goal.drive-done-requires-clause-enough
drive-done-requires-clause-enough g c lifetimes outlives =
    enough g.N.SpaceName.name (parent_lines c.args.trace.now.lines) _ _
    (subst (λ (l : List PassView). AreOpened g.N.SpaceName.name l) (sym c.as_mut_slice.ensures.value) c.open-space.ensures)
    c.requires.callers c.requires.most (sym c.requires.enough ∙ ap (λ (r : SpaceId). r.operations) c.requires.name)
