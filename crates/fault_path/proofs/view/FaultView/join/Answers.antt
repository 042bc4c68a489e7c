-- For `join`: both seats of the pass went on, and it has seen the longer of two legal journals.
use Rattle.std.proofs.Common.{◌≡◌, ◌%◌, ◌∙◌, refl, sym, ap, subst}
use Rattle.mm_types.specs.declared.config.Config.{Config}
use Rattle.area_rules.specs.Steps.{IsLegalJournal}
use Rattle.vma_lock.specs.declared.view.View.{View}
use Rattle.vma_lock.specs.Seats.{lock_view, seen}
use Rattle.node_slots.specs.declared.view.NodeView.{NodeView}
use Rattle.fault_path.specs.Passes.{pass_config}
use Rattle.fault_path.proofs.Passes.{gone_on, joined_goes, sits_in}
use Rattle.fault_path.proofs.view.FaultView.join.Goals as goal

pub join-requires-2-clause-tables : goal.join-requires-2-clause-tables
join-requires-2-clause-tables c =
    let into = sits_in _ _ _ _ c.self.view_is c.into.view_is c.requires.0 in
    let other = sits_in _ _ _ _ c.self.view_is c.other.view_is c.requires.1 in
    let size = sym c.self.invariant.size_is in (
      record { same = into.nodes; size_is = into.size ∙ size },
      record { same = other.nodes; size_is = other.size ∙ size },
    )

pub invariant_of-into : goal.invariant_of-into
invariant_of-into c =
    let joined = c.join.ensures in
    let pass = c.into.inside in
    let other = c.other.inside in
    let same : (lock_view other.reader).config ≡ (lock_view pass.reader).config =
    ap pass_config c.other.view_is ∙ c.requires.1.config_is ∙ sym c.requires.0.config_is ∙ sym (ap pass_config c.into.view_is) in
    gone_on _ _ _ c.into.invariant
    (joined_goes (lock_view pass.reader) (lock_view other.reader) (lock_view c.join.new.seat) joined.view joined.old joined.own
    (subst (λ (k : Config). IsLegalJournal k (seen other.reader)) same c.other.invariant.keeps.legal))
    (ap (λ (v : View). v.stage) joined.view ∙ c.into.invariant.free)
    (subst (λ (v : NodeView). v.pin % 2 ≡ 0) (sym c.join-2.ensures.view) c.into.invariant.keeps.closed) refl refl refl
