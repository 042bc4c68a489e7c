-- For `read_lock`: the area is locked, and what is kept of the pass.
use Rattle.std.proofs.Common.{refl, sym, ap, subst, ◌∙◌, rules, ◌≡◌}
use Rattle.mm_types.specs.Config.{IsValidConfig}
use Rattle.fault_path.specs.Passes.{PassView, ViewedTable, pass_config, walker, pass_of}
use Rattle.fault_path.specs.Holding.{HeldView, Locks}
use Rattle.fault_path.proofs.Holding.{locks}
use Rattle.fault_path.proofs.Passes.{keeps_on}
use Rattle.fault_path.proofs.view.FaultView.read_lock.Goals as goal

pub invariant_of-result : goal.invariant_of-result
invariant_of-result c =
    let lock = c.lock_page.ensures in
    let config_is = lock.goes_on.config ∙ ap pass_config c.pass.view_is ∙ c.requires.config_is ∙ sym (ap (λ (v : ViewedTable). v.config) c.self.view_is) in
    record {
      table_is = lock.tables.0;
      valid = subst IsValidConfig (sym config_is) c.self.invariant.valid;
      locked = c.in-Ok.ensures.locked.0;
      keeps = keeps_on _ _ _ c.pass.invariant.keeps lock.goes_on lock.closed refl refl refl;
    }

pub returns-in-Ok-clause-held : goal.returns-in-Ok-clause-held
returns-in-Ok-clause-held c =
    let lock = c.lock_page.ensures in
    let inside = c.pass.inside in
    let old : PassView = pass_of inside.reader inside.unlocked inside.rest in
    let new : PassView = pass_of c.lock_page.new.reader inside.unlocked (record inside.rest { nodes = c.lock_page.new.walker }) in
    let held : HeldView = record { area = c.in-Ok.area; pass = new } in
    let table : new.reader.seat.table_id ≡ old.reader.seat.table_id = search rules in
    let nodes : new.nodes.seat.table_id ≡ old.nodes.seat.table_id = search rules in
    let size : (walker new).size ≡ (walker old).size = search rules in
    subst (λ (was : PassView). Locks c.args.page.0 was held) c.pass.view_is
    (locks c.args.page.0 old held lock.goes_on c.pass.invariant.keeps.turn table nodes size refl refl refl refl lock.walk c.in-Ok.ensures.locked.0 c.in-Ok.ensures.locked.1)
