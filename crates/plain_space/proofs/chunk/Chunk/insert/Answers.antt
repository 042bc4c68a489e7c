-- For `Chunk::insert` of chunk.rt: its goals.
use Rattle.std.proofs.Common.{◌≡◌, true, max, length, ap, sym, ◌∙◌, arith}
use Rattle.std.specs.List.{insert}
use Rattle.std.specs.Result.{is_ok}
use Rattle.std.proofs.lemmas.Bool.{cond-true}
use Rattle.area_list.specs.Changes.{insert_area}
use Rattle.split_merge.specs.Sorted.{begins_below}
use Rattle.split_merge.proofs.Going.{insert_is}
use Rattle.plain_space.specs.Internal.Gaps.{gap_before, gap_around, widest_gap}
use Rattle.plain_space.proofs.Widening.{come_changed}
use Rattle.plain_space.proofs.chunk.Chunk.insert.Goals as goal

pub widest_after-self-inside-requires : goal.widest_after-self-inside-requires
widest_after-self-inside-requires c =
    let areas = c.self.inside.items.items in
    let new = c.args.new in
    let place = c.begins_below-place.result in
    let len : c.self.inside.items.len ≡ length areas = c.self.inside.items.ok.0 in
    let same : length areas ≡ length c.args.self.now = ap length c.self.view_is in
    let fits : is_ok c.insert-fits.result ≡ true = c.insert-fits.ensures.succeeds (omega (arith, len, same, c.requires.room, c.self.invariant.fits)) in
    let items : c.insert-fits.new.self.items ≡ insert areas place new = c.insert-fits.ensures.items ∙ cond-true _ _ _ fits in
    let changed = come_changed areas place new (omega (arith, c.begins_below-place.ensures.within, ap length c.as_slice.ensures.value)) in
    let gone = c.gap_before-gone.ensures ∙ ap (λ list. gap_before list place) c.as_slice-2.ensures.value in
    let come = c.gap_around-come.ensures ∙ ap (λ list. gap_around list place) (c.as_slice-3.ensures.value ∙ items) in
    record {
      rest = changed.rest;
      was = c.self.invariant.gap ∙ changed.was ∙ ap (max changed.rest) (sym gone);
      is = ap widest_gap (c.as_slice-4.ensures.value ∙ items) ∙ changed.is ∙ ap (max changed.rest) (sym come);
    }

pub returns : goal.returns
returns c =
    let areas = c.self.inside.items.items in
    let new = c.args.new in
    let len : c.self.inside.items.len ≡ length areas = c.self.inside.items.ok.0 in
    let same : length areas ≡ length c.args.self.now = ap length c.self.view_is in
    let fits : is_ok c.insert-fits.result ≡ true = c.insert-fits.ensures.succeeds (omega (arith, len, same, c.requires.room, c.self.invariant.fits)) in
    c.insert-fits.ensures.items ∙ cond-true _ _ _ fits
    ∙ ap (λ place. insert areas place new) (c.begins_below-place.ensures.value ∙ ap (begins_below new.span.lo) c.as_slice.ensures.value)
    ∙ insert_is areas new
    ∙ ap (insert_area new) c.self.view_is
