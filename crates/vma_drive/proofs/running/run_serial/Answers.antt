-- The proof of `run_serial`: the lines are those of the parent, the space began empty, and their calls pass no limit of areas.
use Rattle.std.proofs.Common.{◌≡◌, ◌∙◌, List, [], length, refl, sym, subst, arith}
use Rattle.std.specs.Prelude.{IfOk}
use Rattle.mm_types.specs.declared.config.Config.{Config}
use Rattle.mm_types.specs.Config.{IsValidConfig}
use Rattle.area_rules.proofs.SameJournals.{valid_for}
use Rattle.trace_reader.specs.declared.trace.TraceLine.{TraceLine}
use Rattle.history.specs.Parents.{parent_lines}
use Rattle.vma_drive.specs.Alone.{RanAlone}
use Rattle.vma_drive.proofs.Limits.{alone_result}
use Rattle.vma_drive.proofs.OnePass.{serial_result, list_result}
use Rattle.vma_drive.proofs.running.run_serial.Goals as goal

pub make-requires-clause-config : goal.make-requires-clause-config
make-requires-clause-config g c = subst (λ (s : Config). IsValidConfig s) (sym c.in_ok-config.ensures) (valid_for _ _ c.requires.config)

pub returns : goal.returns
returns g c =
    let own : c.items-lines.result.now ≡ parent_lines c.args.trace.now.lines = c.items-lines.ensures.lines ∙ c.in_ok-own.ensures.own in
    let ran : IfOk c.run_alone.result (RanAlone c.args.trace.now.config [] (parent_lines c.args.trace.now.lines)) =
    subst (λ (l : List TraceLine). IfOk c.run_alone.result (RanAlone c.args.trace.now.config [] l)) own
    (alone_result (length c.items-lines.result.now) _ c.requires.config (omega (arith, c.items-lines.ensures.kept.few)) _ _ []
    c.items-lines.result.now _
    (c.in_ok-ready.ensures.config ∙ c.in_ok-config.ensures) c.in_ok-ready.ensures.before (omega arith) c.run_alone.ensures) in
    record { run = serial_result _ [] _ _ refl ran; list = list_result _ [] _ _ ran }
