-- The proof of `give_family`: the parent's text is printed into an empty piece, then those of its children, and then the rest is given.
use Rattle.std.proofs.Common.{◌∙◌, ◌-◌, ap, arith, drop, get_or, length, refl, take}
use Rattle.history.specs.Parents.{parent_trace}
use Rattle.history.proofs.OneSpace.{parent_is_trace}
use Rattle.vma_replay.proofs.FamilyTexts.{family_whole}
use Rattle.output.proofs.Outputs.{cut_first, cut_second, prints_both}
use Rattle.vma_replay.proofs.Parents.{family_children, legal_items}
use Rattle.output.proofs.Pieces.{at_error, giving_last}
use Rattle.vma_replay.proofs.printing.give_family.Goals as goal

pub print_history-requires-clause-held : goal.print_history-requires-clause-held
print_history-requires-clause-held g c = omega (arith, ap length c.in_ok-piece.ensures.items)

pub print_history-requires-clause-legal : goal.print_history-requires-clause-legal
print_history-requires-clause-legal g c =
    let family = c.requires.family.1 in
    legal_items c.requires.family.0 (parent_trace c.args.trace.now) family.parent c.args.own.now c.args.family.now.history c.items.result.now
    (parent_is_trace c.args.trace.now c.requires.trace) family.parent_is c.requires.own family.history_is c.items.ensures

pub print_children-requires-clause-forks : goal.print_children-requires-clause-forks
print_children-requires-clause-forks g c =
    family_children c.requires.family.0 c.args.trace.now c.args.family.now.history c.args.family.now.forks.items c.as_slice.result.now
    c.args.family.now.runs.items c.requires.trace c.requires.family.1 c.as_slice.ensures.value

pub returns-in_err-print_history : goal.returns-in_err-print_history
returns-in_err-print_history g c = at_error _ _ _ _ c.from_residual-in_err-print_history.ensures.1
    (cut_first _ _ _ _ _ _ _ c.in_ok-piece.ensures.items
    (family_whole c.requires.family.0 c.args.trace.now c.args.family.now.history c.items.result.now c.args.family.now.forks.items
    c.args.family.now.forks.items c.args.family.now.runs.items _ c.args.own.now c.items-areas.result.now c.index-runs-0.result
    c.requires.family.1 c.requires.own c.items.ensures
    (c.index-runs-0.is ∙ ap (λ runs. get_or runs 0 c.index-runs-0.result) c.as_slice-runs.ensures.value)
    (c.items-areas.ensures ∙ c.list.ensures) refl
    (refl))
    c.in_err-print_history.ensures)

pub returns-in_err-print_children : goal.returns-in_err-print_children
returns-in_err-print_children g c = at_error _ _ _ _ c.from_residual-in_err-print_children.ensures.1
    (cut_second _ _ _ _ _ _ _ _ _ c.in_ok-piece.ensures.items
    (family_whole c.requires.family.0 c.args.trace.now c.args.family.now.history c.items.result.now c.args.family.now.forks.items
    c.as_slice.result.now c.args.family.now.runs.items _ c.args.own.now c.items-areas.result.now c.index-runs-0.result
    c.requires.family.1 c.requires.own c.items.ensures
    (c.index-runs-0.is ∙ ap (λ runs. get_or runs 0 c.index-runs-0.result) c.as_slice-runs.ensures.value)
    (c.items-areas.ensures ∙ c.list.ensures) c.as_slice.ensures.value
    (ap (λ runs. take (length runs - 1) (drop 1 runs)) c.as_slice-runs.ensures.value))
    c.in_ok-print_history.ensures c.in_err-print_children.ensures)

pub returns : goal.returns
returns g c = giving_last _ _ _ _ _ _ _
    (prints_both _ _ _ _ _ _ _ _ _ c.in_ok-piece.ensures.items
    (family_whole c.requires.family.0 c.args.trace.now c.args.family.now.history c.items.result.now c.args.family.now.forks.items
    c.as_slice.result.now c.args.family.now.runs.items _ c.args.own.now c.items-areas.result.now c.index-runs-0.result
    c.requires.family.1 c.requires.own c.items.ensures
    (c.index-runs-0.is ∙ ap (λ runs. get_or runs 0 c.index-runs-0.result) c.as_slice-runs.ensures.value)
    (c.items-areas.ensures ∙ c.list.ensures) c.as_slice.ensures.value
    (ap (λ runs. take (length runs - 1) (drop 1 runs)) c.as_slice-runs.ensures.value))
    c.in_ok-print_history.ensures c.in_ok-print_children.ensures) c.deref.ensures.value c.give_all.ensures
