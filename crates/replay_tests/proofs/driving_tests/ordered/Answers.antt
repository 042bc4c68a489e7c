-- The proof of `ordered`: the space has one pass with which nothing was done, and an operation for each line.
use Rattle.std.proofs.Common.{◌≤◌, ◌∙◌, sym, ap, subst, List}
use Rattle.std.proofs.lemmas.List.Elements.{All-nil}
use Rattle.mm_types.specs.declared.call.Entry.{Entry}
use Rattle.history.specs.Parents.{parent_lines}
use Rattle.history.proofs.Calls.{values_ask}
use Rattle.mm_space.specs.Names.{SpaceId, AreStrangers}
use Rattle.vma_drive.proofs.OnePass.{only_pass, used_alone}
use Rattle.replay_tests.proofs.driving_tests.ordered.Goals as goal

pub in_order-done-requires-clause-pass : goal.in_order-done-requires-clause-pass
in_order-done-requires-clause-pass g c = (only_pass g.N.SpaceName.name _ _ c.index_mut.result.now (parent_lines c.args.trace.now.lines) c.open-space.ensures
    (subst (λ (l : List Entry). AreStrangers l) (sym c.requires.before ∙ ap (λ (r : SpaceId). r.before) c.requires.name) (All-nil (λ (e : Entry). 64 ≤ e.caller)))
    (ap (λ (r : SpaceId). r.operations) c.requires.name) c.requires.enough c.index_mut.ensures.value).pass_is

pub in_order-done-requires-clause-unused : goal.in_order-done-requires-clause-unused
in_order-done-requires-clause-unused g c = (only_pass g.N.SpaceName.name _ _ c.index_mut.result.now (parent_lines c.args.trace.now.lines) c.open-space.ensures
    (subst (λ (l : List Entry). AreStrangers l) (sym c.requires.before ∙ ap (λ (r : SpaceId). r.before) c.requires.name) (All-nil (λ (e : Entry). 64 ≤ e.caller)))
    (ap (λ (r : SpaceId). r.operations) c.requires.name) c.requires.enough c.index_mut.ensures.value).unused

pub in_order-done-requires-clause-left : goal.in_order-done-requires-clause-left
in_order-done-requires-clause-left g c = (only_pass g.N.SpaceName.name _ _ c.index_mut.result.now (parent_lines c.args.trace.now.lines) c.open-space.ensures
    (subst (λ (l : List Entry). AreStrangers l) (sym c.requires.before ∙ ap (λ (r : SpaceId). r.before) c.requires.name) (All-nil (λ (e : Entry). 64 ≤ e.caller)))
    (ap (λ (r : SpaceId). r.operations) c.requires.name) c.requires.enough c.index_mut.ensures.value).left

pub in_order-done-requires-clause-lines : goal.in_order-done-requires-clause-lines
in_order-done-requires-clause-lines g c = values_ask c.args.trace.now.lines c.requires.trace.lines

pub close-requires : goal.close-requires
close-requires g c = used_alone g.N.SpaceName.name _ _ _ (parent_lines c.args.trace.now.lines)
    (only_pass g.N.SpaceName.name _ _ c.index_mut.result.now (parent_lines c.args.trace.now.lines) c.open-space.ensures
    (subst (λ (l : List Entry). AreStrangers l) (sym c.requires.before ∙ ap (λ (r : SpaceId). r.before) c.requires.name) (All-nil (λ (e : Entry). 64 ≤ e.caller)))
    (ap (λ (r : SpaceId). r.operations) c.requires.name) c.requires.enough c.index_mut.ensures.value)
    c.in_order-done.ensures.pass c.in_order-done.ensures.later
