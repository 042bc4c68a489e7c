-- For `area_at` of lookups.rt: its goals.
use Rattle.std.proofs.Common.{◌∙◌, sym}
use Rattle.split_merge.proofs.Walking.{in_order}
use Rattle.split_merge.proofs.Stopping.{at_found, at_none}
use Rattle.split_merge.proofs.lookups.area_at.Goals as goal

pub returns-in_err-area : goal.returns-in_err-area
returns-in_err-area g c = c.from_residual.ensures ∙ sym (at_none _ c.args.page (sym c.from.ensures ∙ c.in_err-area.was))

pub returns : goal.returns
returns g c = c.then_some.ensures
    ∙ sym (at_found _ c.args.page c.in_ok-area.area (in_order _ _ c.requires) (sym c.from.ensures ∙ c.in_ok-area.was))
