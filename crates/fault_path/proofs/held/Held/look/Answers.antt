-- For `Held::look`: the area stays locked.
use Rattle.std.proofs.Common.{refl, sym, ap, subst}
use Rattle.mm_types.specs.Config.{IsValidConfig}
use Rattle.vma_lock.specs.declared.view.View.{View}
use Rattle.vma_lock.specs.Seats.{lock_view}
use Rattle.fault_path.proofs.Passes.{keeps_on}
use Rattle.fault_path.proofs.Holding.{look_goes, look_locked}
use Rattle.fault_path.proofs.held.Held.look.Goals as goal

pub invariant_of-self : goal.invariant_of-self
invariant_of-self c =
    let kept = c.self.invariant in
    let look = c.look.ensures in
    record {
      table_is = look.table;
      valid = subst IsValidConfig (sym (ap (λ (v : View). v.config) look.view)) kept.valid;
      locked = look_locked c.self.inside.area (lock_view c.self.inside.reader) (lock_view c.look.new.seat) c.look.result kept.valid kept.locked look.seen look.slot look.view;
      keeps = keeps_on _ _ _ kept.keeps (look_goes (lock_view c.self.inside.reader) (lock_view c.look.new.seat) c.look.result look.seen look.view) kept.keeps.closed
          refl refl refl;
    }

pub returns-clause-member : goal.returns-clause-member
returns-clause-member c =
    let kept = c.self.invariant in
    let look = c.look.ensures in
    (look_locked c.self.inside.area (lock_view c.self.inside.reader) (lock_view c.look.new.seat) c.look.result kept.valid kept.locked look.seen look.slot look.view).member
