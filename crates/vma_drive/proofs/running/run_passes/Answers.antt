-- The proof of `run_passes`: each of the space's passes ran the lines of its caller.
use Rattle.std.proofs.Common.{ℕ, ◌∙◌, sym, ap, subst, List, []}
use Rattle.mm_types.specs.declared.config.Config.{Config}
use Rattle.history.specs.Runs.{IsRun}
use Rattle.fault_path.specs.Passes.{PassView}
use Rattle.mm_space.specs.Names.{SpaceId, ArePasses}
use Rattle.mm_space.specs.Closing.{Closes}
use Rattle.mm_space.specs.Opening.{AreOpened}
use Rattle.history.specs.CallerPlaces.{callers_of}
use Rattle.vma_drive.specs.Sharing.{AreShares}
use Rattle.vma_drive.proofs.ClosedRuns.{back, threads_run}
use Rattle.vma_drive.proofs.Operations.{opened_unused, opened_enough}
use Rattle.vma_drive.proofs.running.run_passes.Goals as goal

pub close-requires : goal.close-requires
close-requires g c = subst (λ (l : List PassView). ArePasses g.N.SpaceName.name l)
    (sym (back c.drive_lines.new.passes _ _ (c.drive_lines.auto.passes ∙ c.as_mut_slice.ensures.len))) c.in_ok-drive_lines.ensures.passes

pub returns-clause-run : goal.returns-clause-run
returns-clause-run g c =
    subst (λ (s : Config). IsRun s [] c.args.lines.now (callers_of c.args.lines.now) c.close.result.journal c.close.result.logs)
    (sym (ap (λ (r : SpaceId). r.config) c.requires.name))
    (threads_run g.N.SpaceName.name c.args.lines.now _ c.close.result
    (sym (ap (λ (r : SpaceId). r.before) c.requires.name) ∙ c.requires.before) c.in_ok-drive_lines.ensures.passes
    (subst (λ (l : List PassView). Closes g.N.SpaceName.name l c.close.result)
    (back c.drive_lines.new.passes _ _ (c.drive_lines.auto.passes ∙ c.as_mut_slice.ensures.len)) c.close.ensures)
    (subst
    (λ (l : List ℕ). AreShares c.args.lines.now l) (ap (λ (r : SpaceId). r.operations) c.requires.name) c.requires.shares) c.in_ok-drive_lines.ensures.kept.values c.in_ok-drive_lines.ensures.told
    c.in_ok-drive_lines.ensures.grown c.in_ok-drive_lines.ensures.done)

pub drive_lines-requires-clause-passes : goal.drive_lines-requires-clause-passes
drive_lines-requires-clause-passes g c lifetimes outlives =
    (subst (λ (l : List PassView). AreOpened g.N.SpaceName.name l) (sym c.as_mut_slice.ensures.value) c.open-space.ensures).passes_are

pub drive_lines-requires-clause-unused : goal.drive_lines-requires-clause-unused
drive_lines-requires-clause-unused g c lifetimes outlives =
    opened_unused g.N.SpaceName.name _ (sym (ap (λ (r : SpaceId). r.before) c.requires.name) ∙ c.requires.before)
    (subst (λ (l : List PassView). AreOpened g.N.SpaceName.name l) (sym c.as_mut_slice.ensures.value) c.open-space.ensures)

pub drive_lines-requires-clause-enough : goal.drive_lines-requires-clause-enough
drive_lines-requires-clause-enough g c lifetimes outlives =
    opened_enough g.N.SpaceName.name c.args.lines.now _
    (subst (λ (l : List PassView). AreOpened g.N.SpaceName.name l) (sym c.as_mut_slice.ensures.value) c.open-space.ensures)
    (subst (λ (l : List ℕ). AreShares c.args.lines.now l) (ap (λ (r : SpaceId). r.operations) c.requires.name) c.requires.shares)
