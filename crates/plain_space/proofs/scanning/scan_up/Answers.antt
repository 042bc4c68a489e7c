-- For `scan_up` of scanning.rt: its goals.
use Rattle.std.proofs.Common.{◌<◌, sym, ap, ◌∙◌, inl, inr, arith}
use Rattle.std.proofs.lemmas.Bool.{cases_lt, true≢false}
use Rattle.mm_types.specs.declared.area.Record.{Record}
use Rattle.area_rules.proofs.Placing.{fits_true, fits_false}
use Rattle.plain_space.proofs.Ranging.{rise_from_ascend}
use Rattle.plain_space.proofs.Searching.{parted_by_ends, parted_at, at_found, past_end, not_free, free_between, rise_by}
use Rattle.plain_space.proofs.scanning.scan_up.Goals as goal

pub ends_by-next-requires : goal.ends_by-next-requires
ends_by-next-requires c = rise_by (λ (a : Record). a.span.hi) c.args.areas.now c.requires.ends

pub loop-area-init : goal.loop-area-init
loop-area-init c = record {
  within = omega arith;
  around = parted_by_ends c.args.areas.now c.args.start c.ends_by-next.result (rise_by (λ (a : Record). a.span.hi) c.args.areas.now c.requires.ends)
      c.ends_by-next.ensures.value c.ends_by-next.ensures.within;
  none = λ other from before. absurd (omega arith);
}

pub returns-then-fits : goal.returns-then-fits
returns-then-fits c =
    let around = c.loop-area.invariant.around in
    let at = at_found c.args.areas.now c.loop-area.next c.in-Some.area (sym c.area_at.ensures ∙ c.in-Some.is) in
    let room = fits_true _ _ _ c.fits.ensures c.if-fits.true in
    record {
      within = c.loop-area.invariant.within;
      none = c.loop-area.invariant.none;
      passed = λ not. absurd (true≢false not);
      found = λ is. record {
        free = free_between c.args.areas.now c.args.pages c.loop-area.page c.loop-area.next
            (λ k d before within. omega (arith, around.below k d before))
            (λ k d behind within. omega (
              arith,
              rise_from_ascend c.args.areas.now c.requires.begins c.loop-area.next k d behind within,
              ap (λ (a : Record). a.span.lo) (at.there d),
              room,
            ));
        upper = c.in-Some.area;
        member = (c.loop-area.next, at.within, at.there c.in-Some.area);
        begins = room;
      };
    }

pub loop-area-smaller : goal.loop-area-smaller
loop-area-smaller c =
    let at = at_found c.args.areas.now c.loop-area.next c.in-Some.area (sym c.area_at.ensures ∙ c.in-Some.is) in
    omega (arith, at.within)

pub loop-area-preserved : goal.loop-area-preserved
loop-area-preserved c =
    let around = c.loop-area.invariant.around in
    let at = at_found c.args.areas.now c.loop-area.next c.in-Some.area (sym c.area_at.ensures ∙ c.in-Some.is) in
    let above = around.above c.loop-area.next c.in-Some.area (omega arith) at.within in
    let higher : c.loop-area.page < c.in-Some.area.span.hi = omega (arith, above, ap (λ (a : Record). a.span.hi) (at.there c.in-Some.area)) in
    let short = fits_false _ _ _ c.fits.ensures c.if-fits.false in
    record {
      within = omega (arith, c.loop-area.invariant.within);
      around = (parted_at (λ area. area.span.hi) c.args.areas.now c.loop-area.next c.in-Some.area c.requires.ends at).1;
      none = λ other from before. elim (cases_lt other c.loop-area.page) [
        | inl lower ↦ c.loop-area.invariant.none other from lower
        | inr past ↦ not_free c.args.areas.now c.args.pages other c.loop-area.next c.in-Some.area at (omega (arith, short)) before
      ];
    }

pub returns : goal.returns
returns c =
    let around = c.loop-area.invariant.around in
    let past = past_end c.args.areas.now c.loop-area.next (sym c.area_at.ensures ∙ c.in_default.is) in
    record {
      within = c.loop-area.invariant.within;
      none = c.loop-area.invariant.none;
      passed = λ not k d within. omega (arith, around.below k d (omega (arith, past, within)));
      found = λ is. absurd (true≢false (sym is));
    }
