-- The proof of `run_alone`: the space has one pass with which nothing was done, which ran all lines.
use Rattle.std.proofs.Common.{sym, ap, subst, List}
use Rattle.mm_types.specs.declared.call.Entry.{Entry}
use Rattle.mm_space.specs.Names.{SpaceId, AreStrangers}
use Rattle.vma_drive.proofs.OnePass.{only_pass, used_alone, alone_closed}
use Rattle.vma_drive.proofs.alone.run_alone.Goals as goal

pub in_order_with-requires-clause-pass : goal.in_order_with-requires-clause-pass
in_order_with-requires-clause-pass g c = (only_pass g.N.SpaceName.name _ _ c.index_mut.result.now c.args.lines.now c.open-space.ensures
    (subst (λ (l : List Entry). AreStrangers l) (ap (λ (r : SpaceId). r.before) c.requires.name) c.requires.strangers)
    (ap (λ (r : SpaceId). r.operations) c.requires.name) c.requires.one c.index_mut.ensures.value).pass_is

pub in_order_with-requires-clause-unused : goal.in_order_with-requires-clause-unused
in_order_with-requires-clause-unused g c = (only_pass g.N.SpaceName.name _ _ c.index_mut.result.now c.args.lines.now c.open-space.ensures
    (subst (λ (l : List Entry). AreStrangers l) (ap (λ (r : SpaceId). r.before) c.requires.name) c.requires.strangers)
    (ap (λ (r : SpaceId). r.operations) c.requires.name) c.requires.one c.index_mut.ensures.value).unused

pub in_order_with-requires-clause-left : goal.in_order_with-requires-clause-left
in_order_with-requires-clause-left g c = (only_pass g.N.SpaceName.name _ _ c.index_mut.result.now c.args.lines.now c.open-space.ensures
    (subst (λ (l : List Entry). AreStrangers l) (ap (λ (r : SpaceId). r.before) c.requires.name) c.requires.strangers)
    (ap (λ (r : SpaceId). r.operations) c.requires.name) c.requires.one c.index_mut.ensures.value).left

pub close-requires : goal.close-requires
close-requires g c = used_alone g.N.SpaceName.name _ _ _ _
    (only_pass g.N.SpaceName.name _ _ c.index_mut.result.now c.args.lines.now c.open-space.ensures
    (subst (λ (l : List Entry). AreStrangers l) (ap (λ (r : SpaceId). r.before) c.requires.name) c.requires.strangers)
    (ap (λ (r : SpaceId). r.operations) c.requires.name) c.requires.one c.index_mut.ensures.value)
    c.in_order_with.ensures.pass c.in_order_with.ensures.later

pub returns : goal.returns
returns g c =
    let strangers : AreStrangers g.N.SpaceName.name.before =
    subst (λ (l : List Entry). AreStrangers l) (ap (λ (r : SpaceId). r.before) c.requires.name) c.requires.strangers in
    alone_closed g.N.SpaceName.name _ _ c.args.lines.now _ _ _ c.close.result
    (only_pass g.N.SpaceName.name _ _ c.index_mut.result.now c.args.lines.now c.open-space.ensures strangers
    (ap (λ (r : SpaceId). r.operations) c.requires.name) c.requires.one c.index_mut.ensures.value)
    c.in_order_with.ensures.later c.close.ensures strangers (sym (ap (λ (r : SpaceId). r.before) c.requires.name))
    (sym (ap (λ (r : SpaceId). r.config) c.requires.name))
    c.in_order_with.ensures.grown c.in_ok-in_order_with.ensures.done c.in_order_with.ensures.late
