-- For `scan_down` of scanning.rt: its goals.
use Rattle.std.proofs.Common.{◌+◌, ◌-◌, sym, ap, ◌∙◌, inl, inr, arith}
use Rattle.std.proofs.lemmas.Bool.{cases_lt, true≢false}
use Rattle.mm_types.specs.declared.area.Record.{Record}
use Rattle.area_rules.proofs.Placing.{fits_true, fits_false}
use Rattle.plain_space.proofs.Ranging.{rise_from_ascend}
use Rattle.plain_space.proofs.Searching.{parted_by_begins, parted_at, last_at, no_last, not_free, free_between, rise_by}
use Rattle.plain_space.proofs.scanning.scan_down.Goals as goal

pub begins_below-below-requires : goal.begins_below-below-requires
begins_below-below-requires c = rise_from_ascend c.args.areas.now c.requires.begins

pub loop-area-init : goal.loop-area-init
loop-area-init c = record {
  within = omega arith;
  around = parted_by_begins c.args.areas.now c.args.end c.begins_below-below.result
      (rise_from_ascend c.args.areas.now c.requires.begins) c.begins_below-below.ensures.value c.begins_below-below.ensures.within;
  none = λ start past within. absurd (omega arith);
}

pub returns-then-fits : goal.returns-then-fits
returns-then-fits c =
    let around = c.loop-area.invariant.around in
    let last = last_at c.args.areas.now c.loop-area.below c.in-Some.area around.within (sym c.last_of.ensures ∙ c.in-Some.is) in
    let room = fits_true _ _ _ c.fits.ensures c.if-fits.true in
    record {
      within = c.loop-area.invariant.within;
      none = c.loop-area.invariant.none;
      passed = λ not. absurd (true≢false not);
      found = λ is. record {
        free = free_between c.args.areas.now c.args.pages (c.loop-area.page - c.args.pages) c.loop-area.below
            (λ k d before within. omega (
              arith,
              rise_by (λ (a : Record). a.span.hi) c.args.areas.now c.requires.ends k (c.loop-area.below - 1) d (omega (arith, last.0)) last.1.within,
              ap (λ (a : Record). a.span.hi) (last.1.there d),
              room,
            ))
            (λ k d behind within. omega (arith, around.above k d behind within, room));
        lower = c.in-Some.area;
        member = (c.loop-area.below - 1, last.1.within, last.1.there c.in-Some.area);
        ends = room;
      };
    }

pub loop-area-preserved : goal.loop-area-preserved
loop-area-preserved c =
    let around = c.loop-area.invariant.around in
    let last = last_at c.args.areas.now c.loop-area.below c.in-Some.area around.within (sym c.last_of.ensures ∙ c.in-Some.is) in
    let lower = fits_false _ _ _ c.fits.ensures c.if-fits.false in
    record {
      within = omega (
        arith,
        around.below (c.loop-area.below - 1) c.in-Some.area (omega (arith, last.0)),
        ap (λ (a : Record). a.span.lo) (last.1.there c.in-Some.area),
        c.loop-area.invariant.within,
      );
      around = (parted_at (λ area. area.span.lo) c.args.areas.now (c.loop-area.below - 1) c.in-Some.area c.requires.begins last.1).0;
      none = λ start past within. elim (cases_lt c.loop-area.page (start + c.args.pages)) [
        | inl past_end ↦ c.loop-area.invariant.none start past_end within
        | inr before ↦ not_free c.args.areas.now c.args.pages start (c.loop-area.below - 1) c.in-Some.area last.1 past (omega (arith, lower))
      ];
    }

pub returns : goal.returns
returns c =
    let around = c.loop-area.invariant.around in
    let none = no_last c.args.areas.now c.loop-area.below around.within (sym c.last_of.ensures ∙ c.in_default.is) in
    record {
      within = c.loop-area.invariant.within;
      none = c.loop-area.invariant.none;
      passed = λ not k d within. around.above k d (omega (arith, none)) within;
      found = λ is. absurd (true≢false (sym is));
    }
