-- The proof of `run_child`: the one pass ran the lines of the child's one thread, and the calls before them and theirs pass no limit of areas.
use Rattle.std.proofs.Common.{◌+◌, ◌∙◌, ℕ, List, length, sym, ap, subst, arith}
use Rattle.std.specs.Prelude.{IfOk}
use Rattle.mm_types.specs.declared.config.Config.{Config}
use Rattle.trace_reader.specs.declared.trace.TraceLine.{TraceLine}
use Rattle.mm_types.specs.Config.{IsValidConfig}
use Rattle.area_rules.proofs.SameJournals.{valid_for, legal_for}
use Rattle.area_rules.specs.Steps.{IsLegalJournal}
use Rattle.vma_drive.specs.Alone.{RanAlone}
use Rattle.vma_drive.proofs.Limits.{alone_result}
use Rattle.vma_drive.proofs.OnePass.{child_result, list_result}
use Rattle.vma_drive.proofs.alone.run_child.Goals as goal

pub make_after-requires-clause-config : goal.make_after-requires-clause-config
make_after-requires-clause-config g c = subst (λ (s : Config). IsValidConfig s) (sym c.in_ok-config.ensures) (valid_for _ _ c.requires.config)

pub make_after-requires-clause-legal : goal.make_after-requires-clause-legal
make_after-requires-clause-legal g c =
    subst (λ (s : Config). IsLegalJournal s c.args.before.now) (sym c.in_ok-config.ensures)
    ((legal_for (length c.args.before.now + length c.items-lines.result.now) c.args.config.now c.requires.config
    (omega (arith, c.requires.few, ap length c.items-lines.ensures.lines)) c.args.before.now (omega arith)).1 c.requires.legal)

pub returns : goal.returns
returns g c =
    let calls : ℕ = length c.args.before.now + length c.items-lines.result.now in
    let ran : IfOk c.run_alone.result (RanAlone c.args.config.now c.args.before.now c.args.own.now) =
    subst (λ (l : List TraceLine). IfOk c.run_alone.result (RanAlone c.args.config.now c.args.before.now l)) c.items-lines.ensures.lines
    (alone_result calls _ c.requires.config (omega (arith, c.requires.few, ap length c.items-lines.ensures.lines)) _ _ c.args.before.now
    c.items-lines.result.now _
    (c.in_ok-ready.ensures.config ∙ c.in_ok-config.ensures) c.in_ok-ready.ensures.before (omega arith) c.run_alone.ensures) in
    record { run = child_result _ _ _ _ ran c.requires.strangers c.requires.own c.requires.alone; list = list_result _ _ _ _ ran }
