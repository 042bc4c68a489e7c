-- For `grower` of lookups.rt: its goals.
use Rattle.std.proofs.Common.{◌-◌, List, sym, ◌∙◌, ap, arith}
use Rattle.std.specs.Bool.{then_some}
use Rattle.mm_types.specs.declared.area.Record.{Record}
use Rattle.split_merge.proofs.Growers.{grower_found, grower_none, grower_low, grower_zero}
use Rattle.split_merge.proofs.Walking.{in_order, next_is}
use Rattle.split_merge.proofs.lookups.grower.Goals as goal
use Rattle.split_merge.proofs.lookups.grower.Goals.{then-page-eq0-via-then-page-eq0, then-page-eq0-via-else-page-eq0+then-page-page_of}

pub returns-then-page-eq0 : goal.returns-then-page-eq0
returns-then-page-eq0 g c = let areas : List Record = g.A.Areas.list c.args.areas.now in
    elim c.then-page-eq0.branch [
      | then-page-eq0-via-then-page-eq0 w ↦ sym (grower_zero c.args.config.now areas c.args.page w.if-page-eq0.true (in_order _ areas c.requires).valid)
      | then-page-eq0-via-else-page-eq0+then-page-page_of w ↦
          sym (grower_low c.args.config.now areas c.args.page (omega (arith, w.page_of.ensures, w.if-page-page_of.true)))
    ]

pub returns-in_err-area : goal.returns-in_err-area
returns-in_err-area g c = let areas : List Record = g.A.Areas.list c.args.areas.now in
    c.from_residual.ensures ∙ sym (grower_none c.args.config.now areas c.args.page (omega (arith, c.if-page-eq0.false))
    (omega (arith, c.page_of.ensures, c.if-page-page_of.false)) (in_order _ areas c.requires).valid (sym c.from.ensures ∙ c.in_err-area.was))

pub is_above-requires : goal.is_above-requires
is_above-requires g c = let areas : List Record = g.A.Areas.list c.args.areas.now in
    let next = next_is areas (c.args.page - 1) c.in_ok-area.area (in_order _ areas c.requires) (sym c.from.ensures ∙ c.in_ok-area.was) in
    omega (arith, next.above, next.valid.below_end)

pub returns : goal.returns
returns g c = let areas : List Record = g.A.Areas.list c.args.areas.now in
    c.then_some.ensures ∙ ap (λ test. then_some test c.in_ok-area.area) c.is_above.ensures
    ∙ grower_found c.args.config.now areas c.args.page c.in_ok-area.area (omega (arith, c.if-page-eq0.false))
    (omega (arith, c.page_of.ensures, c.if-page-page_of.false)) (in_order _ areas c.requires) (sym c.from.ensures ∙ c.in_ok-area.was)
