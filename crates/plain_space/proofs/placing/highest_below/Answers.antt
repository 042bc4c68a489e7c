-- For `highest_below` of placing.rt: its goals.
use Rattle.std.proofs.Common.{◌≡◌, ◌≤◌, ◌<◌, ◌+◌, ◌-◌, ℕ, inl, inr, List, [], length, drop, false, sym, ◌∙◌, subst, arith}
use Rattle.std.specs.List.{AllByRecursion as Each}
use Rattle.std.proofs.lemmas.Bool.{cases_lt}
use Rattle.std.proofs.lemmas.List.{get_or_read}
use Rattle.mm_types.specs.declared.area.Record.{Record}
use Rattle.area_list.proofs.Elements.{Each-weaker}
use Rattle.area_rules.proofs.Placing.{fits_false}
use Rattle.area_rules.specs.Placement.{is_free}
use Rattle.plain_space.specs.Internal.Chunks.{areas_in_chunks}
use Rattle.plain_space.specs.Internal.Gaps.{IsAscending, HasScannedDown}
use Rattle.plain_space.proofs.Among.{ascending_at, begins_after}
use Rattle.plain_space.proofs.Rooms.{above_more, answer_below, free_below, room_below, taken_at}
use Rattle.plain_space.proofs.Searching.{highest_none}
use Rattle.plain_space.proofs.placing.highest_below.Goals as goal

pub loop-left-init : goal.loop-left-init
loop-left-init c = record {
  within = omega arith;
  place = c.beginning_below-left.ensures.within;
  above = subst (λ n. Each (λ area. c.args.last ≤ area.span.lo) (areas_in_chunks (drop n c.args.chunks.now))) (sym c.beginning_below-left.ensures.value)
      (begins_after c.args.chunks.now c.args.last c.requires);
  none = λ start past within. absurd (omega arith);
}

pub returns-then-not-fits : goal.returns-then-not-fits
returns-then-not-fits c = sym (highest_none c.args.bounds c.args.last (areas_in_chunks c.args.chunks.now) c.args.pages c.loop-left.end
    (fits_false _ _ _ c.fits.ensures c.if-not-fits.true) c.loop-left.invariant.none)

pub look_down-scan-requires-clause-ascend : goal.look_down-scan-requires-clause-ascend
look_down-scan-requires-clause-ascend c =
    let chunks = c.args.chunks.now in
    let place = c.loop-left.left - 1 in
    let within : place < length chunks = omega (arith, c.loop-left.invariant.place, c.loop-left-test.true) in
    subst IsAscending (sym (get_or_read chunks place c.index-chunks-left.result within c.index-chunks-left.is [])) (ascending_at chunks place c.requires within)

-- no start is free that was passed at this chunk or before
none_more : (chunks : List (List Record)) (place pages last end page : ℕ) → place < length chunks
    → ((start : ℕ) → end < start + pages → start + pages ≤ last → is_free (areas_in_chunks chunks) pages start ≡ false)
    → ((start : ℕ) → page < start + pages → start + pages ≤ end → is_free (areas_in_chunks chunks) pages start ≡ false)
    → (start : ℕ) → page < start + pages → start + pages ≤ last → is_free (areas_in_chunks chunks) pages start ≡ false
none_more chunks place pages last end page within before here start past low = elim (cases_lt end (start + pages)) [
  | inl beyond ↦ before start beyond low
  | inr inside ↦ here start past inside
]

pub returns-then-scan : goal.returns-then-scan
returns-then-scan c =
    let chunks = c.args.chunks.now in
    let place = c.loop-left.left - 1 in
    let page = c.look_down-scan.result.page in
    let some : 0 < c.loop-left.left = c.loop-left-test.true in
    let within : place < length chunks = omega (arith, c.loop-left.invariant.place, some) in
    let next : c.loop-left.left ≡ place + 1 = omega (arith, some) in
    let here = subst (λ (chunk : List Record). HasScannedDown chunk c.loop-left.end c.args.pages page c.look_down-scan.result.has_room)
    (get_or_read chunks place c.index-chunks-left.result within c.index-chunks-left.is []) c.look_down-scan.ensures in
    c.start_below.ensures
    ∙ answer_below c.args.bounds c.args.last (areas_in_chunks chunks) c.args.pages page (omega (arith, here.within, c.loop-left.invariant.within))
    (none_more chunks place c.args.pages c.args.last c.loop-left.end page within c.loop-left.invariant.none
    (λ start past inside. taken_at chunks place c.args.pages start within (here.none start past inside)))
    (λ room. room_below chunks place c.args.pages page c.requires within (here.found c.if-scan.true)
    (Each-weaker (λ area. c.loop-left.end ≤ area.span.lo) (λ area. page ≤ area.span.lo) (λ area above. omega (arith, above, here.within)) (areas_in_chunks (drop (place + 1) chunks))
    (subst (λ n. Each (λ area. c.loop-left.end ≤ area.span.lo) (areas_in_chunks (drop n chunks))) next c.loop-left.invariant.above)))

pub loop-left-preserved : goal.loop-left-preserved
loop-left-preserved c =
    let chunks = c.args.chunks.now in
    let place = c.loop-left.left - 1 in
    let page = c.look_down-scan.result.page in
    let some : 0 < c.loop-left.left = c.loop-left-test.true in
    let within : place < length chunks = omega (arith, c.loop-left.invariant.place, some) in
    let here = subst (λ (chunk : List Record). HasScannedDown chunk c.loop-left.end c.args.pages page c.look_down-scan.result.has_room)
    (get_or_read chunks place c.index-chunks-left.result within c.index-chunks-left.is []) c.look_down-scan.ensures in
    record {
      within = omega (arith, here.within, c.loop-left.invariant.within);
      place = omega (arith, c.loop-left.invariant.place);
      above = above_more chunks place c.loop-left.left page c.loop-left.end within (omega (arith, some)) here.within (here.passed c.if-scan.false) c.loop-left.invariant.above;
      none = none_more chunks place c.args.pages c.args.last c.loop-left.end page within c.loop-left.invariant.none
          (λ start past inside. taken_at chunks place c.args.pages start within (here.none start past inside));
    }

pub returns : goal.returns
returns c =
    let chunks = c.args.chunks.now in
    let none : c.loop-left.left ≡ 0 = omega (arith, c.loop-left-test.false) in
    c.start_below-2.ensures
    ∙ answer_below c.args.bounds c.args.last (areas_in_chunks chunks) c.args.pages c.loop-left.end c.loop-left.invariant.within c.loop-left.invariant.none
    (λ room. free_below (areas_in_chunks chunks) c.args.pages (c.loop-left.end - c.args.pages)
    (Each-weaker (λ area. c.loop-left.end ≤ area.span.lo) (λ area. c.loop-left.end - c.args.pages + c.args.pages ≤ area.span.lo)
    (λ area above. omega (arith, above, room)) (areas_in_chunks chunks)
    (subst (λ n. Each (λ area. c.loop-left.end ≤ area.span.lo) (areas_in_chunks (drop n chunks))) none c.loop-left.invariant.above)))
