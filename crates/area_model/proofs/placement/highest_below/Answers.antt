-- For `highest_below`: its goals.
use Rattle.std.proofs.Common.{◌+◌, ◌-◌, ◌≤◌, sym, inl, inr, arith}
use Rattle.std.proofs.lemmas.Bool.{cases_lt}
use Rattle.area_rules.proofs.Placing.{fits_true, fits_false, free_from_none, in_way, taken, highest_found, highest_none}
use Rattle.area_model.proofs.placement.highest_below.Goals as goal

pub returns-in-None-clause-value : goal.returns-in-None-clause-value
returns-in-None-clause-value c = sym (highest_found c.args.bounds c.args.end c.args.areas.now c.args.pages c.loop-bounds.last
    (fits_true _ _ _ c.fits.ensures c.loop-bounds-test.true) c.loop-bounds.invariant.within c.loop-bounds.invariant.none
    (free_from_none c.args.areas.now c.args.pages (c.loop-bounds.last - c.args.pages) (sym c.in-None.ensures)))

pub loop-bounds-smaller : goal.loop-bounds-smaller
loop-bounds-smaller c =
    let room : c.args.bounds.low + c.args.pages ≤ c.loop-bounds.last = fits_true _ _ _ c.fits.ensures c.loop-bounds-test.true in
    omega (arith, (in_way c.args.areas.now c.args.pages (c.loop-bounds.last - c.args.pages) c.in-Some.area (sym c.in-Some.ensures)).begins)

pub loop-bounds-preserved : goal.loop-bounds-preserved
loop-bounds-preserved c =
    let room : c.args.bounds.low + c.args.pages ≤ c.loop-bounds.last = fits_true _ _ _ c.fits.ensures c.loop-bounds-test.true in
    let way = in_way c.args.areas.now c.args.pages (c.loop-bounds.last - c.args.pages) c.in-Some.area (sym c.in-Some.ensures) in record {
      within = omega (arith, way.begins);
      none = λ start past within. elim (cases_lt c.loop-bounds.last (start + c.args.pages)) [
        | inl past_last ↦ c.loop-bounds.invariant.none start past_last within
        | inr before ↦ taken c.args.areas.now c.args.pages (c.loop-bounds.last - c.args.pages) c.in-Some.area start (sym c.in-Some.ensures) past (omega (arith, way.ends))
      ];
    }

pub returns-clause-value : goal.returns-clause-value
returns-clause-value c = sym (highest_none c.args.bounds c.args.end c.args.areas.now c.args.pages c.loop-bounds.last
    (fits_false _ _ _ c.fits.ensures c.loop-bounds-test.false) c.loop-bounds.invariant.none)
