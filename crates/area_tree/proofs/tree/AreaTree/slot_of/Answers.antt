-- For `AreaTree::slot_of`: the first pair above the area's first page is its own.
use Rattle.std.proofs.Common.{sym, subst, ◌∙◌}
use Rattle.std.specs.Prelude.{Contains}
use Rattle.std.proofs.lemmas.Option.{same_Some, none-some}
use Rattle.mm_types.specs.declared.slot.Slot.{Slot}
use Rattle.area_tree.specs.AreaTrees.{shown_of}
use Rattle.area_tree.proofs.Changing.{slot_told}
use Rattle.area_tree.proofs.tree.AreaTree.slot_of.Goals as goal

pub unreachable-requires : goal.unreachable-requires
unreachable-requires c =
    let told = slot_told c.self.inside c.args.self.now c.args.area.now c.next_slot.result c.self.invariant c.self.view_is c.facts.ensures.pairs c.next_slot.ensures.slot c.requires in
    none-some told.0 (sym c.in-None.is ∙ told.1)

pub returns : goal.returns
returns c =
    let told = slot_told c.self.inside c.args.self.now c.args.area.now c.next_slot.result c.self.invariant c.self.view_is c.facts.ensures.pairs c.next_slot.ensures.slot c.requires in
    subst (λ (s : Slot). Contains (shown_of c.args.self.now) (record { slot = s.0; area = c.args.area.now }))
    (same_Some told.0 c.in-Some.slot (sym told.1 ∙ c.in-Some.is)) told.2
