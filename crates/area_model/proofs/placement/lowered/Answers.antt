-- For `lowered`: its goals.
use Rattle.std.proofs.Common.{◌≡◌, ◌+◌, ◌≤◌, ◌∷◌, [], sym, ◌∙◌, append-nil, inl, inr, arith}
use Rattle.std.proofs.lemmas.Bool.{cases_lt}
use Rattle.area_rules.proofs.Placing.{fits_true}
use Rattle.area_model.proofs.Lowering.{way_of_one, one_less}
use Rattle.area_model.proofs.placement.lowered.Goals as goal

pub loop-area-init : goal.loop-area-init
loop-area-init c =
    let all : c.into_iter-area-iterator.result.iter.rest.now ≡ c.args.areas.now = cc (c.into_iter-area-iterator.ensures.into_iter_gives, c.rev-area-items.ensures.source, c.iter.ensures.rest) in record {
      within = omega arith;
      none = λ start past within. absurd (omega arith);
      left = ([], sym (append-nil _ ∙ all));
    }

pub loop-area-preserved-then-last-pages : goal.loop-area-preserved-then-last-pages
loop-area-preserved-then-last-pages c =
    let room : c.args.low + c.args.pages ≤ c.loop-area.last = fits_true _ _ _ c.fits.ensures c.if-fits.true in
    let parts = one_less c.args.areas.now _ _ c.in-Some.area.now c.loop-area.invariant.left.0 c.loop-area.invariant.left.1 c.in-Some.ensures.steps in record {
      within = omega arith;
      none = λ start past within. elim (cases_lt c.loop-area.last (start + c.args.pages)) [
        | inl past_last ↦ c.loop-area.invariant.none start past_last within
        | inr before ↦ way_of_one c.args.areas.now _ c.loop-area.invariant.left.0 c.in-Some.area.now c.args.pages start parts past (omega arith)
      ];
      left = (c.in-Some.area.now ∷ c.loop-area.invariant.left.0, parts);
    }

pub loop-area-preserved : goal.loop-area-preserved
loop-area-preserved c = record {
  within = c.loop-area.invariant.within;
  none = c.loop-area.invariant.none;
  left = (
    c.in-Some.area.now ∷ c.loop-area.invariant.left.0,
    one_less c.args.areas.now _ _ c.in-Some.area.now c.loop-area.invariant.left.0 c.loop-area.invariant.left.1 c.in-Some.ensures.steps,
  );
}
