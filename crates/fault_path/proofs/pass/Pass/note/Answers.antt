-- For `note`: a pass with one read more.
use Rattle.std.proofs.Common.{arith, subst, sym, ◌≤◌, ◌+◌, length, All, ◌∙◌}
use Rattle.area_rules.specs.Journals.{version_of, IsReadRight}
use Rattle.fault_path.specs.Passes.{PassView, pass_config, seen_by, made_by}
use Rattle.fault_path.proofs.Passes.{noted}
use Rattle.fault_path.proofs.pass.Pass.note.Goals as goal

pub invariant_of-self : goal.invariant_of-self
invariant_of-self c =
    let spent = sym (c.self.view_is ∙ c.spend.ensures.same) in
    let few = c.spend.ensures.few in
    let some = c.requires.left in
    rw (c.push_reserved.ensures.items, c.push_reserved.ensures.capacity)
    (noted _ _ c.args.read c.self.invariant
    (subst (λ (p : PassView). length (made_by p) + length p.log + p.left + 1 ≤ p.operations) spent (omega (arith, few, some)))
    (subst (λ (p : PassView). IsReadRight (pass_config p) (seen_by p) c.args.read) spent c.requires.right)
    (subst (λ (p : PassView). All (λ earlier. version_of earlier ≤ version_of c.args.read) p.log) spent c.requires.rises))
