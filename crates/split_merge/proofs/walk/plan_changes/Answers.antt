-- The walk along the areas near the spans.
use Rattle.std.proofs.Common.{◌≡◌, ◌<◌, ◌-◌, ◌++◌, [], ◌∷◌, List, IfSome, map, length, refl, ap, sym, subst, ◌∙◌, arith}
use Rattle.mm_types.specs.declared.area.Span.{Span}
use Rattle.mm_types.specs.declared.area.Record.{Record}
use Rattle.split_merge.specs.Internal.Becoming.{lower_span, upper_span, parts_left, BeginsOne}
use Rattle.split_merge.specs.declared.planner.Planner.{Planner}
use Rattle.split_merge.specs.Internal.Planner.{Event, planned, events_along, weight}
use Rattle.split_merge.proofs.Planning.{same_plan}
use Rattle.split_merge.proofs.Walking.{in_order, next_is, ending_above}
use Rattle.split_merge.proofs.Walks.{first_planned, first_within, next_close, next_far, next_planned, next_within, passed_planned, passed_weight, end_planned, high_planned, still_begins, near_either, taken_weight}
use Rattle.split_merge.proofs.Passing.{coming_high, ending_shorter}
use Rattle.split_merge.proofs.walk.plan_changes.Goals as goal
use Rattle.split_merge.proofs.walk.plan_changes.Goals.{in-Some+then-high-area, in_default}

pub loop-area-init : goal.loop-area-init
loop-area-init g c = let areas : List Record = g.A.Areas.list c.args.areas.now in
    let order = in_order _ areas c.requires.canonical in
    let low = ap (λ (s : Span). s.lo) c.low-low.ensures in
    record {
      low = omega (arith, c.saturating_sub-page.ensures);
      room = refl;
      within = omega (
        arith,
        c.requires.room,
        first_within c.args.becoming.now areas c.args.new c.new-planner.result c.saturating_sub-page.result c.requires.spans order c.new-planner.ensures,
      );
      planned = ap (λ changes. c.args.plan.now.changes ++ changes)
          (first_planned c.args.becoming.now c.requires.spans areas order c.args.new c.new-planner.result c.saturating_sub-page.result c.requires.new
          c.new-planner.ensures (c.saturating_sub-page.ensures ∙ ap (λ n. n - 1) low));
      coming = subst (λ (p : Planner). BeginsOne c.args.becoming.now p.coming) (sym c.new-planner.ensures) c.requires.new;
    }

pub loop-area-smaller-then-area-high : goal.loop-area-smaller-then-area-high
loop-area-smaller-then-area-high g c = let areas : List Record = g.A.Areas.list c.args.areas.now in
    let next = next_is areas c.loop-area.page c.in-Some.area (in_order _ areas c.requires.canonical) (sym c.from.ensures ∙ c.in-Some.is) in
    omega (arith, ap length next.rest, ending_shorter c.in-Some.area.span.hi (c.high-high.result.lo - 1) areas (omega (arith, c.if-area-high.true)))

pub loop-area-preserved-then-area-high : goal.loop-area-preserved-then-area-high
loop-area-preserved-then-area-high g c = let areas : List Record = g.A.Areas.list c.args.areas.now in
    let becoming = c.args.becoming.now in
    let area = c.in-Some.area in
    let order = in_order _ areas c.requires.canonical in
    let next = next_is areas c.loop-area.page area order (sym c.from.ensures ∙ c.in-Some.is) in
    let low : (lower_span becoming).hi < area.span.lo = omega (arith, c.if-low-area.true, ap (λ (s : Span). s.hi) c.low-low.ensures) in
    let high : area.span.hi < (upper_span becoming).lo = omega (arith, c.if-area-high.true, ap (λ (s : Span). s.lo) c.high-high.ensures) in
    let far = next_far becoming c.requires.spans areas order c.loop-area.page area next low high in
    let begins = coming_high becoming c.requires.spans c.loop-area.planner area.span.lo c.loop-area.invariant.coming low in
    let after = ap (λ (s : Span). s.lo - 1) c.high-high.ensures in
    record {
      low = omega (arith, c.if-area-high.true, c.if-low-area.true, next.valid.some_pages, c.requires.spans.lower, ap (λ (s : Span). s.hi) c.low-low.ensures, ap (λ (s : Span). s.lo) c.low-low.ensures);
      room = c.pass.ensures.along.room ∙ c.loop-area.invariant.room;
      within = omega (
        arith,
        next_within becoming c.requires.spans areas order c.loop-area.page area.span.hi (Event.Passed area ∷ []) c.pass.ensures.along far,
        passed_weight becoming c.requires.spans areas order area (c.high-high.result.lo - 1) (omega (arith, c.if-area-high.true)),
        c.pass.ensures.along.room,
        c.loop-area.invariant.within,
      );
      planned = ap (λ changes. c.pass.new.plan.changes ++ changes)
          (passed_planned becoming c.requires.spans areas order area (c.high-high.result.lo - 1) c.pass.new.self next.valid next.spares c.pass.ensures.pending c.pass.ensures.merging
          (subst (λ coming. IfSome coming (λ (new : Record). new.span.lo ≡ (upper_span becoming).lo)) (sym c.pass.ensures.coming) begins) low high after)
          ∙ next_planned becoming c.requires.spans areas order c.loop-area.page area.span.hi (Event.Passed area ∷ []) c.pass.ensures.along far
          ∙ c.loop-area.invariant.planned;
      coming = still_begins becoming c.loop-area.planner.coming c.pass.new.self.coming c.pass.ensures.along.coming c.loop-area.invariant.coming;
    }

pub take-requires-clause-valid : goal.take-requires-clause-valid
take-requires-clause-valid g c = let areas : List Record = g.A.Areas.list c.args.areas.now in
    (next_is areas c.loop-area.page c.in-Some.area (in_order _ areas c.requires.canonical) (sym c.from.ensures ∙ c.in-Some.is)).valid

pub take-requires-clause-room : goal.take-requires-clause-room
take-requires-clause-room g c = let areas : List Record = g.A.Areas.list c.args.areas.now in
    let becoming = c.args.becoming.now in
    let area = c.in-Some.area in
    let order = in_order _ areas c.requires.canonical in
    let next = next_is areas c.loop-area.page area order (sym c.from.ensures ∙ c.in-Some.is) in
    let close = next_close becoming c.requires.spans areas order c.loop-area.page area next
    (omega (arith, c.loop-area.invariant.low, ap (λ (s : Span). s.lo) c.low-low.ensures))
    (omega (arith, c.if-high-area.false, ap (λ (s : Span). s.hi) c.high-high.ensures))
    (near_either (ap (λ (s : Span). s.hi) c.low-low.ensures) (ap (λ (s : Span). s.lo) c.high-high.ensures) c.else-low-area.either) in
    omega (arith, taken_weight becoming area (ending_above area.span.hi areas) (ap weight close), c.loop-area.invariant.within)

pub loop-area-smaller : goal.loop-area-smaller
loop-area-smaller g c = let areas : List Record = g.A.Areas.list c.args.areas.now in
    let next = next_is areas c.loop-area.page c.in-Some.area (in_order _ areas c.requires.canonical) (sym c.from.ensures ∙ c.in-Some.is) in
    omega (arith, ap length next.rest)

pub loop-area-preserved : goal.loop-area-preserved
loop-area-preserved g c = let areas : List Record = g.A.Areas.list c.args.areas.now in
    let becoming = c.args.becoming.now in
    let area = c.in-Some.area in
    let order = in_order _ areas c.requires.canonical in
    let next = next_is areas c.loop-area.page area order (sym c.from.ensures ∙ c.in-Some.is) in
    let events : List Event = Event.Begins area ∷ map Event.Comes (parts_left becoming area) in
    let close = next_close becoming c.requires.spans areas order c.loop-area.page area next
    (omega (arith, c.loop-area.invariant.low, ap (λ (s : Span). s.lo) c.low-low.ensures))
    (omega (arith, c.if-high-area.false, ap (λ (s : Span). s.hi) c.high-high.ensures))
    (near_either (ap (λ (s : Span). s.hi) c.low-low.ensures) (ap (λ (s : Span). s.lo) c.high-high.ensures) c.else-low-area.either) in
    record {
      low = omega (arith, next.above, c.loop-area.invariant.low);
      room = c.take.ensures.room ∙ c.loop-area.invariant.room;
      within = omega (
        arith,
        next_within becoming c.requires.spans areas order c.loop-area.page area.span.hi events c.take.ensures close,
        c.take.ensures.room,
        c.loop-area.invariant.within,
      );
      planned = next_planned becoming c.requires.spans areas order c.loop-area.page area.span.hi events c.take.ensures close ∙ c.loop-area.invariant.planned;
      coming = still_begins becoming c.loop-area.planner.coming c.take.new.self.coming c.take.ensures.coming c.loop-area.invariant.coming;
    }

pub returns : goal.returns
returns g c = let areas : List Record = g.A.Areas.list c.args.areas.now in
    let becoming = c.args.becoming.now in
    let order = in_order _ areas c.requires.canonical in
    let none : planned c.loop-area.planner (events_along becoming (ending_above c.loop-area.page areas)) ≡ planned c.loop-area.planner [] = elim c.match-from.branch [
      | in-Some+then-high-area w ↦ high_planned becoming c.requires.spans areas order c.loop-area.page w.in-Some.area c.loop-area.planner
          (next_is areas c.loop-area.page w.in-Some.area order (sym c.from.ensures ∙ w.in-Some.is)) c.loop-area.invariant.coming
          (omega (arith, w.if-high-area.true, ap (λ (s : Span). s.hi) c.high-high.ensures))
      | in_default w ↦ end_planned becoming c.requires.spans areas order c.loop-area.page c.loop-area.planner (sym c.from.ensures ∙ w.in_default.is)
    ] in
    c.finish.ensures ∙ same_plan _ _
    (ap (λ changes. c.loop-area.plan.changes ++ changes) (sym none) ∙ c.loop-area.invariant.planned)
    c.loop-area.invariant.room
