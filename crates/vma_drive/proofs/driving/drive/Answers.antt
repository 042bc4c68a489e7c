-- The proof of `drive`: where memory runs out before a round nothing was done, and the lines that were run are the parent's.
use Rattle.std.proofs.Common.{subst, List}
use Rattle.std.specs.Prelude.{OnOk}
use Rattle.trace_reader.specs.declared.trace.TraceLine.{TraceLine}
use Rattle.vma_drive.specs.Hearing.{AreToldBy}
use Rattle.vma_drive.proofs.Standing.{begun_fresh}
use Rattle.vma_drive.proofs.driving.drive.Goals as goal

pub returns-in_err-own-clause-begun : goal.returns-in_err-own-clause-begun
returns-in_err-own-clause-begun g c = begun_fresh _ _ c.requires.unused

pub returns-clause-told : goal.returns-clause-told
returns-clause-told g c =
    subst (λ (l : List TraceLine). OnOk c.drive_lines.result (AreToldBy l c.drive_lines.new.passes)) c.in_ok-own.ensures.own c.drive_lines.ensures.told
