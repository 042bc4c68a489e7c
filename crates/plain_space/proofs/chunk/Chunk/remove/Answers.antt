-- For `Chunk::remove` of chunk.rt: its goals.
use Rattle.std.proofs.Common.{◌≡◌, max, [], ◌∷◌, List, length, subst, sym, ap, ◌∙◌, arith}
use Rattle.std.specs.List.{remove, Contains}
use Rattle.mm_types.specs.declared.area.Record.{Record}
use Rattle.split_merge.specs.Plans.{without}
use Rattle.split_merge.specs.Sorted.{begins_below, BeginsAscend}
use Rattle.split_merge.proofs.Editing.{begins_member}
use Rattle.split_merge.proofs.Going.{remove_is}
use Rattle.plain_space.specs.Internal.Gaps.{gap_before, gap_around, widest_gap}
use Rattle.plain_space.proofs.Widening.{gone_changed}
use Rattle.plain_space.proofs.chunk.Chunk.remove.Goals as goal

pub gap_around-gone-requires : goal.gap_around-gone-requires
gap_around-gone-requires c =
    let areas = c.self.inside.items.items in
    let old = c.args.old.now in
    let member = subst (λ (list : List Record). Contains list old) (sym c.self.view_is) c.requires.member in
    let place = c.begins_below-place.ensures.value ∙ ap (begins_below old.span.lo) c.as_slice.ensures.value in
    omega (arith, place, begins_member areas old member, ap length c.as_slice-2.ensures.value)

pub widest_after-self-inside-requires : goal.widest_after-self-inside-requires
widest_after-self-inside-requires c =
    let areas = c.self.inside.items.items in
    let old = c.args.old.now in
    let member = subst (λ (list : List Record). Contains list old) (sym c.self.view_is) c.requires.member in
    let place = c.begins_below-place.result in
    let is = c.begins_below-place.ensures.value ∙ ap (begins_below old.span.lo) c.as_slice.ensures.value in
    let changed = gone_changed areas place (omega (arith, is, begins_member areas old member)) in
    let gone = c.gap_around-gone.ensures ∙ ap (λ list. gap_around list place) c.as_slice-2.ensures.value in
    let come = c.gap_before-come.ensures ∙ ap (λ list. gap_before list place) (c.as_slice-3.ensures.value ∙ c.remove.ensures.items) in
    record {
      rest = changed.rest;
      was = c.self.invariant.gap ∙ changed.was ∙ ap (max changed.rest) (sym gone);
      is = ap widest_gap (c.as_slice-4.ensures.value ∙ c.remove.ensures.items) ∙ changed.is ∙ ap (max changed.rest) (sym come);
    }

pub remove-requires : goal.remove-requires
remove-requires c =
    let areas = c.self.inside.items.items in
    let old = c.args.old.now in
    let member = subst (λ (list : List Record). Contains list old) (sym c.self.view_is) c.requires.member in
    let place = c.begins_below-place.ensures.value ∙ ap (begins_below old.span.lo) c.as_slice.ensures.value in
    let len : c.self.inside.items.len ≡ length areas = c.self.inside.items.ok.0 in
    omega (arith, place, len, begins_member areas old member)

pub returns : goal.returns
returns c =
    let areas = c.self.inside.items.items in
    let old = c.args.old.now in
    c.remove.ensures.items
    ∙ ap (remove areas) (c.begins_below-place.ensures.value ∙ ap (begins_below old.span.lo) c.as_slice.ensures.value)
    ∙ remove_is areas old (subst BeginsAscend (sym c.self.view_is) c.requires.ascend)
    (subst (λ (list : List Record). Contains list old) (sym c.self.view_is) c.requires.member)
    ∙ ap (without (old ∷ [])) c.self.view_is
