-- For `low_place`: its goals.
use Rattle.std.proofs.Common.{◌+◌, ◌≤◌, sym, inl, inr, arith}
use Rattle.std.proofs.lemmas.Bool.{cases_lt}
use Rattle.area_rules.specs.declared.placement.TheConstants.{WINDOW_END}
use Rattle.area_rules.proofs.Placing.{fits_true, fits_false, free_from_none, in_way, taken, low_found, low_none}
use Rattle.area_model.proofs.placement.low_place.Goals as goal

pub returns-in-None-clause-value : goal.returns-in-None-clause-value
returns-in-None-clause-value c = sym (low_found c.args.bounds c.args.areas.now c.args.pages c.loop-pages.start
    c.loop-pages.invariant.above (fits_true _ _ _ c.fits.ensures c.loop-pages-test.true) c.loop-pages.invariant.none
    (free_from_none c.args.areas.now c.args.pages c.loop-pages.start (sym c.in-None.ensures)))

pub loop-pages-smaller : goal.loop-pages-smaller
loop-pages-smaller c =
    let room : c.loop-pages.start + c.args.pages ≤ WINDOW_END = fits_true _ _ _ c.fits.ensures c.loop-pages-test.true in
    omega (arith, (in_way c.args.areas.now c.args.pages c.loop-pages.start c.in-Some.area (sym c.in-Some.ensures)).ends)

pub loop-pages-preserved : goal.loop-pages-preserved
loop-pages-preserved c =
    let way = in_way c.args.areas.now c.args.pages c.loop-pages.start c.in-Some.area (sym c.in-Some.ensures) in record {
      above = omega (arith, way.ends);
      none = λ start from before. elim (cases_lt start c.loop-pages.start) [
        | inl lower ↦ c.loop-pages.invariant.none start from lower
        | inr past ↦ taken c.args.areas.now c.args.pages c.loop-pages.start c.in-Some.area start (sym c.in-Some.ensures) (omega (arith, way.begins)) before
      ];
    }

pub returns-clause-value : goal.returns-clause-value
returns-clause-value c = sym (low_none c.args.bounds c.args.areas.now c.args.pages c.loop-pages.start
    (fits_false _ _ _ c.fits.ensures c.loop-pages-test.false) c.loop-pages.invariant.none)
