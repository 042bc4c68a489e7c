-- For `fault_fast`: the verdict of the area that is locked is that over the list.
use Rattle.std.proofs.Common.{◌∙◌, sym, ap, subst, refl}
use Rattle.vma_lock.specs.declared.view.View.{View}
use Rattle.vma_lock.specs.Seats.{lock_view}
use Rattle.mm_types.specs.declared.config.Config.{Config}
use Rattle.fault_path.specs.Passes.{PassView, ViewedTable, pass_config, pass_of}
use Rattle.fault_path.specs.Faults.{IsAnswer}
use Rattle.fault_path.proofs.Passes.{gone_on}
use Rattle.fault_path.proofs.Answers.{sub_goes, answered}
use Rattle.fault_path.proofs.view.FaultView.fault_fast.Goals as goal

pub invariant_of-pass : goal.invariant_of-pass
invariant_of-pass c =
    gone_on _ _ _ c.pass.invariant
    (sub_goes (lock_view c.pass.inside.reader) (lock_view c.lock_page.new.reader) (lock_view c.sub.new.seat) c.lock_page.ensures.goes_on c.sub.ensures.view)
    (ap (λ (v : View). v.stage) c.sub.ensures.view) c.lock_page.ensures.closed refl refl refl

pub returns-in-Ok-clause-fast : goal.returns-in-Ok-clause-fast
returns-in-Ok-clause-fast c =
    let held = c.lock_page.new.reader in
    let config_is = ap (λ (v : View). v.config) c.sub.ensures.view ∙ c.lock_page.ensures.goes_on.config
    ∙ ap pass_config c.pass.view_is ∙ c.requires.config_is ∙ sym (ap (λ (v : ViewedTable). v.config) c.self.view_is) in
    let inside = c.pass.inside in
    let old : PassView = pass_of inside.reader inside.unlocked inside.rest in
    let new : PassView = pass_of c.sub.new.seat inside.unlocked (record inside.rest { nodes = c.lock_page.new.walker }) in
    subst (λ (was : PassView). IsAnswer c.args.page.0 c.args.access c.area_verdict.result c.version.result was new) c.pass.view_is
    (answered c.args.page.0 c.args.access c.area_verdict.result c.version.result c.in-Ok.area c.items.result.now old new (lock_view held)
    c.in-Ok.ensures.locked.0 c.in-Ok.ensures.locked.1 c.sub.ensures.view c.area_verdict.ensures
    (c.items.ensures ∙ ap (λ (k : Config). k.files) (c.self.invariant.config_is ∙ sym config_is)) c.version.ensures)
