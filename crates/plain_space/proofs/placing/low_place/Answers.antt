-- For `low_place` of placing.rt: its goals.
use Rattle.std.proofs.Common.{◌≡◌, ◌≤◌, ◌<◌, ℕ, inl, inr, List, [], length, take, false, sym, ◌∙◌, subst, arith}
use Rattle.std.specs.List.{AllByRecursion as Each}
use Rattle.std.proofs.lemmas.Bool.{cases_lt}
use Rattle.std.proofs.lemmas.List.{get_or_read, take_all}
use Rattle.mm_types.specs.declared.area.Record.{Record}
use Rattle.area_list.proofs.Elements.{Each-weaker}
use Rattle.area_rules.proofs.Placing.{fits_false, low_none}
use Rattle.area_rules.specs.Placement.{is_free}
use Rattle.plain_space.specs.Internal.Chunks.{areas_in_chunks}
use Rattle.plain_space.specs.Internal.Gaps.{IsAscending, HasScannedUp}
use Rattle.plain_space.proofs.Among.{ascending_at, ends_before}
use Rattle.plain_space.proofs.Rooms.{answer_above, below_more, free_above, room_above, taken_at}
use Rattle.plain_space.proofs.placing.low_place.Goals as goal

pub loop-next-init : goal.loop-next-init
loop-next-init c = record {
  above = omega (arith, c.max-start.ensures);
  place = c.ending_by-next.ensures.within;
  below = subst (λ n. Each (λ area. area.span.hi ≤ c.max-start.result) (areas_in_chunks (take n c.args.chunks.now))) (sym c.ending_by-next.ensures.value)
      (ends_before c.args.chunks.now c.max-start.result c.requires);
  none = λ start from before. absurd (omega (arith, c.max-start.ensures));
}

pub returns-then-not-fits : goal.returns-then-not-fits
returns-then-not-fits c = sym (low_none c.args.bounds (areas_in_chunks c.args.chunks.now) c.args.pages c.loop-next.start
    (fits_false _ _ _ c.fits.ensures c.if-not-fits.true) c.loop-next.invariant.none)

pub look_up-scan-requires-clause-ascend : goal.look_up-scan-requires-clause-ascend
look_up-scan-requires-clause-ascend c =
    let chunks = c.args.chunks.now in
    let place = c.loop-next.next in
    subst IsAscending (sym (get_or_read chunks place c.index-chunks-next.result c.loop-next-test.true c.index-chunks-next.is []))
    (ascending_at chunks place c.requires c.loop-next-test.true)

-- no start is free that was passed at this chunk or before
none_more : (chunks : List (List Record)) (pages first start page : ℕ)
    → ((other : ℕ) → first ≤ other → other < start → is_free (areas_in_chunks chunks) pages other ≡ false)
    → ((other : ℕ) → start ≤ other → other < page → is_free (areas_in_chunks chunks) pages other ≡ false)
    → (other : ℕ) → first ≤ other → other < page → is_free (areas_in_chunks chunks) pages other ≡ false
none_more chunks pages first start page before here other from low = elim (cases_lt other start) [
  | inl lower ↦ before other from lower
  | inr past ↦ here other past low
]

pub returns-then-scan : goal.returns-then-scan
returns-then-scan c =
    let chunks = c.args.chunks.now in
    let place = c.loop-next.next in
    let page = c.look_up-scan.result.page in
    let within : place < length chunks = c.loop-next-test.true in
    let here = subst (λ (chunk : List Record). HasScannedUp chunk c.loop-next.start c.args.pages page c.look_up-scan.result.has_room)
    (get_or_read chunks place c.index-chunks-next.result within c.index-chunks-next.is []) c.look_up-scan.ensures in
    c.start_within.ensures
    ∙ answer_above c.args.bounds (areas_in_chunks chunks) c.args.pages page (omega (arith, here.within, c.loop-next.invariant.above))
    (none_more chunks c.args.pages _ c.loop-next.start page c.loop-next.invariant.none
    (λ other past inside. taken_at chunks place c.args.pages other within (here.none other past inside)))
    (room_above chunks place c.args.pages page c.requires within (here.found c.if-scan.true)
    (Each-weaker (λ area. area.span.hi ≤ c.loop-next.start) (λ area. area.span.hi ≤ page) (λ area below. omega (arith, below, here.within)) (areas_in_chunks (take place chunks))
    c.loop-next.invariant.below))

pub loop-next-preserved : goal.loop-next-preserved
loop-next-preserved c =
    let chunks = c.args.chunks.now in
    let place = c.loop-next.next in
    let page = c.look_up-scan.result.page in
    let within : place < length chunks = c.loop-next-test.true in
    let here = subst (λ (chunk : List Record). HasScannedUp chunk c.loop-next.start c.args.pages page c.look_up-scan.result.has_room)
    (get_or_read chunks place c.index-chunks-next.result within c.index-chunks-next.is []) c.look_up-scan.ensures in
    record {
      above = omega (arith, here.within, c.loop-next.invariant.above);
      place = omega (arith, within);
      below = below_more chunks place page c.loop-next.start within here.within (here.passed c.if-scan.false) c.loop-next.invariant.below;
      none = none_more chunks c.args.pages _ c.loop-next.start page c.loop-next.invariant.none
          (λ other past inside. taken_at chunks place c.args.pages other within (here.none other past inside));
    }

pub returns : goal.returns
returns c =
    let chunks = c.args.chunks.now in
    c.start_within-2.ensures
    ∙ answer_above c.args.bounds (areas_in_chunks chunks) c.args.pages c.loop-next.start c.loop-next.invariant.above c.loop-next.invariant.none
    (free_above (areas_in_chunks chunks) c.args.pages c.loop-next.start
    (subst (λ list. Each (λ area. area.span.hi ≤ c.loop-next.start) (areas_in_chunks list)) (take_all c.loop-next.next chunks c.loop-next-test.false) c.loop-next.invariant.below))
