-- For `Planner::begin`, `Planner::come_to`, `Planner::come_to_outside` and others: the planner's steps: what each plans.
use Rattle.std.proofs.Common.{◌≡◌, ◌≤◌, ◌+◌, ◌⊎◌, inl, inr, ℕ, Bool, true, false, ◌&&◌, if◌then◌else◌, nat_eq, nat_lt, List, [], ◌∷◌, ◌++◌, length, map, Option, Some, None, refl, ap, sym, subst, ◌∙◌, arith}
use Rattle.std.specs.Option.{option_len}
use Rattle.std.proofs.lemmas.Bool.{and_parts, eqb-true}
use Rattle.std.proofs.lemmas.List.{append_assoc, length-append, map-append}
use Rattle.mm_types.specs.declared.area.Attr.{Attr}
use Rattle.mm_types.specs.declared.area.Record.{Record}
use Rattle.area_list.specs.Areas.{joins, same_attr}
use Rattle.area_list.proofs.Merging.{joins_true}
use Rattle.split_merge.specs.declared.plan.Change.{Change}
use Rattle.split_merge.specs.declared.plan.Change.TheVariants.{Alter}
use Rattle.split_merge.specs.declared.planner.Merging.{Merging}
use Rattle.split_merge.specs.declared.planner.Planner.{Planner}
use Rattle.split_merge.specs.Plans.{PlanView}
use Rattle.split_merge.specs.Internal.Planner.{Event, page_at, same_area, detaching, replacing, closing, taken, left, spare, left_over, merging_behind, unsettled, planned_with, along, come, come_in, laid, reached, reached_with, reaching, reaching_with, changes_left, weight, GoesAlong}

-- attributes are the same where areas with them would join
same_attrs : (a b : Attr) → same_attr a b ≡ true → a ≡ b
unfolding joins
same_attrs a b h = (joins_true (nowhere a) (nowhere b) (rw h)).attr
  where
    nowhere : Attr → Record
    nowhere attr = record { span = record { lo = 0; hi = 0 }; attr = attr; object = 0; offset = 0 }

pub same_areas : (a b : Record) → same_area a b ≡ true → a ≡ b
same_areas a b h =
    let span = and_parts (nat_eq a.span.lo b.span.lo && nat_eq a.span.hi b.span.hi) _ h in
    let ends = and_parts (nat_eq a.span.lo b.span.lo) (nat_eq a.span.hi b.span.hi) span.0 in
    let attr = and_parts (same_attr a.attr b.attr) _ span.1 in
    let object = and_parts (nat_eq a.object b.object) (nat_eq a.offset b.offset) attr.1 in
    λ i. record {
      span = record { lo = eqb-true a.span.lo b.span.lo ends.0 i; hi = eqb-true a.span.hi b.span.hi ends.1 i };
      attr = same_attrs a.attr b.attr attr.0 i;
      object = eqb-true a.object b.object object.0 i;
      offset = eqb-true a.offset b.offset object.1 i;
    }

-- an area that is the old one again brings nothing
pub replaced_same : (found : Option Record) (old new : Record) → found ≡ Some old → same_area old new ≡ true → replacing found new ≡ []
replaced_same found old new is same = rw (is, same)

pub length-detaching : (old : Option Record) → length (detaching old) ≡ option_len old
length-detaching None = refl
length-detaching (Some old) = refl

length-replacing : (old : Option Record) (new : Record) → length (replacing old new) ≤ 1
length-replacing None new = omega arith
length-replacing (Some old) new = by (same_area old new)
  where
    by : (same : Bool) → length (if same then [] else Alter old new ∷ []) ≤ 1
    by true = omega arith
    by false = omega arith

pub length-closing : (merging : Option Merging) → length (closing merging) ≤ option_len merging
length-closing None = omega arith
length-closing (Some merging) = length-replacing merging.replaces merging.area

taken_or_left : (pending : Option Record) (part : Record) → option_len (taken pending part) + option_len (left pending part) ≡ option_len pending
taken_or_left None part = refl
taken_or_left (Some old) part = by (nat_lt part.span.lo old.span.hi)
  where
    by : (test : Bool) → option_len (if test then Some old else None) + option_len (if test then None else Some old) ≡ 1
    by true = refl
    by false = refl

spare_short : (partner old : Option Record) → option_len (spare partner old) ≤ option_len old
spare_short None old = omega arith
spare_short (Some other) old = omega arith

-- a part brings at most one change more
pub laid_short : (pending : Option Record) (merging : Option Merging) (part : Record)
    → length (planned_with pending merging part) + option_len (left pending part) ≤ option_len pending + option_len merging
laid_short pending None part = omega (arith, taken_or_left pending part)
laid_short pending (Some merging) part = by (joins merging.area part)
  where
    by : (join : Bool) → length (if join then detaching (spare merging.replaces (taken pending part)) else replacing merging.replaces merging.area) + option_len (left pending part)
        ≤ option_len pending + 1
    by true = omega (arith, length-detaching (spare merging.replaces (taken pending part)), spare_short merging.replaces (taken pending part), taken_or_left pending part)
    by false = omega (arith, length-replacing merging.replaces merging.area, taken_or_left pending part)

left_over_short : (partner pending : Option Record) (new : Record) → option_len (left_over partner pending new) ≤ option_len pending
left_over_short (Some partner) pending new = omega arith
left_over_short None None new = omega arith
left_over_short None (Some old) new = by (nat_lt old.span.lo new.span.hi)
  where
    by : (test : Bool) → option_len (if test then None else Some old) ≤ 1
    by true = omega arith
    by false = omega arith

-- what is settled brings no change more
pub settled_short : (pending : Option Record) (merging : Option Merging)
    → option_len (unsettled pending merging) + option_len (merging_behind pending merging) ≤ option_len pending + option_len merging
settled_short pending None = omega arith
settled_short pending (Some merging) = omega (arith, left_over_short merging.replaces pending merging.area)

-- where the planner reaches a page, it holds no more
pub reach_short : (planner : Planner) (page : ℕ) → length (reaching planner page) + changes_left (reached planner page) ≤ changes_left planner
reach_short planner page = by planner.coming refl
  where
    by : (coming : Option Record) → planner.coming ≡ coming
        → length (reaching_with coming planner page) + changes_left (reached_with coming planner page) ≤ changes_left planner
    by None is = omega arith
    by (Some new) is = test (nat_lt new.span.lo page)
      where
        test : (below : Bool)
            → length (if below then planned_with planner.pending planner.merging new else [])
            + changes_left (if below then laid (record planner { coming = None }) new else planner) ≤ changes_left planner
        test true = omega (arith, laid_short planner.pending planner.merging new, ap (λ (c : Option Record). option_len c) is)
        test false = omega arith

pub reach_coming : (planner : Planner) (page : ℕ) → ((reached planner page).coming ≡ None) ⊎ ((reached planner page).coming ≡ planner.coming)
reach_coming planner page = by planner.coming
  where
    by : (coming : Option Record) → ((reached_with coming planner page).coming ≡ None) ⊎ ((reached_with coming planner page).coming ≡ planner.coming)
    by None = inr refl
    by (Some new) = test (nat_lt new.span.lo page)
      where
        test : (below : Bool)
            → ((if below then laid (record planner { coming = None }) new else planner).coming ≡ None)
            ⊎ ((if below then laid (record planner { coming = None }) new else planner).coming ≡ planner.coming)
        test true = inl refl
        test false = inr refl

-- and then plans what it would have planned with the new area in its place
pub reach_planned : (planner : Planner) (event : Event) (later : List Event)
    → reaching planner (page_at event) ++ along (reached planner (page_at event)).pending (reached planner (page_at event)).merging
    (event ∷ come (reached planner (page_at event)).coming later)
    ≡ along planner.pending planner.merging (come planner.coming (event ∷ later))
reach_planned planner event later = by planner.coming refl
  where
    page : ℕ
    page = page_at event

    by : (coming : Option Record) → planner.coming ≡ coming
        → reaching_with coming planner page ++ along (reached_with coming planner page).pending (reached_with coming planner page).merging
        (event ∷ come (reached_with coming planner page).coming later)
        ≡ along planner.pending planner.merging (come coming (event ∷ later))
    by None is = ap (λ (c : Option Record). along planner.pending planner.merging (event ∷ come c later)) is
    by (Some new) is = test (nat_lt new.span.lo page)
      where
        after : Bool → Planner
        after below = if below then laid (record planner { coming = None }) new else planner

        test : (below : Bool)
            → (if below then planned_with planner.pending planner.merging new else [])
            ++ along (if below then laid (record planner { coming = None }) new else planner).pending
            (if below then laid (record planner { coming = None }) new else planner).merging
            (event ∷ come (if below then laid (record planner { coming = None }) new else planner).coming later)
            ≡ along planner.pending planner.merging (if below then Event.Comes new ∷ (event ∷ later) else event ∷ come_in new later)
        test true = refl
        test false = ap (λ (c : Option Record). along planner.pending planner.merging (event ∷ come c later)) is

-- a step: the page of what comes is reached, and then this is planned
step : (event : Event) (planner : Planner) (rest : Planner → Planner) (more : Planner → List Change) (old : PlanView)
    → ((q : Planner) (later : List Event) → more q ++ along (rest q).pending (rest q).merging (come (rest q).coming later) ≡ along q.pending q.merging (event ∷ come q.coming later))
    → ((q : Planner) → length (more q) + changes_left (rest q) ≤ changes_left q + weight (event ∷ []))
    → ((q : Planner) → (rest q).coming ≡ q.coming)
    → GoesAlong (event ∷ []) planner (rest (reached planner (page_at event))) old
    (record old { changes = (old.changes ++ reaching planner (page_at event)) ++ more (reached planner (page_at event)) })
step event planner rest more old plans holds keeps =
    let page : ℕ = page_at event in
    let next : Planner = reached planner page in
    record {
      planned = λ later. append_assoc (old.changes ++ reaching planner page) (more next) (along (rest next).pending (rest next).merging (come (rest next).coming later))
          ∙ ap (λ tail. (old.changes ++ reaching planner page) ++ tail) (plans next later)
          ∙ append_assoc old.changes (reaching planner page) (along next.pending next.merging (event ∷ come next.coming later))
          ∙ ap (λ tail. old.changes ++ tail) (reach_planned planner event later);
      within = omega (
        arith,
        length-append (old.changes ++ reaching planner page) (more next),
        length-append old.changes (reaching planner page),
        holds next,
        reach_short planner page,
      );
      room = refl;
      coming = kept (reach_coming planner page);
    }
  where
    kept : ((reached planner (page_at event)).coming ≡ None) ⊎ ((reached planner (page_at event)).coming ≡ planner.coming)
        → ((rest (reached planner (page_at event))).coming ≡ None) ⊎ ((rest (reached planner (page_at event))).coming ≡ planner.coming)
    kept (inl none) = inl (keeps (reached planner (page_at event)) ∙ none)
    kept (inr same) = inr (keeps (reached planner (page_at event)) ∙ same)

pub begin_goes : (planner next last : Planner) (area : Record) (old mid new : PlanView) → next ≡ reached planner area.span.lo
    → mid ≡ record old { changes = old.changes ++ reaching planner area.span.lo } → last ≡ record next { pending = None; merging = merging_behind next.pending next.merging }
    → new ≡ record mid { changes = mid.changes ++ detaching (unsettled next.pending next.merging) }
    → GoesAlong (Event.Begins area ∷ []) planner (record last { pending = Some area }) old new
begin_goes planner next last area old mid new reach first settle second =
    subst (GoesAlong (Event.Begins area ∷ []) planner (record last { pending = Some area }) old)
    (sym (second ∙ ap (λ (plan : PlanView). record plan { changes = plan.changes ++ detaching (unsettled next.pending next.merging) }) first))
    (subst (λ (q : Planner). GoesAlong (Event.Begins area ∷ []) planner (record q { pending = Some area }) old
    (record old { changes = (old.changes ++ reaching planner area.span.lo) ++ detaching (unsettled next.pending next.merging) })) (sym settle)
    (subst (λ (q : Planner). GoesAlong (Event.Begins area ∷ []) planner (record q { pending = Some area; merging = merging_behind q.pending q.merging }) old
    (record old { changes = (old.changes ++ reaching planner area.span.lo) ++ detaching (unsettled q.pending q.merging) })) (sym reach)
    (step (Event.Begins area) planner (λ q. record q { pending = Some area; merging = merging_behind q.pending q.merging }) (λ q. detaching (unsettled q.pending q.merging)) old
    (λ q later. refl) (λ q. omega (arith, length-detaching (unsettled q.pending q.merging), settled_short q.pending q.merging)) (λ q. refl))))

pub come_to_goes : (planner next last : Planner) (part : Record) (old mid new : PlanView) → next ≡ reached planner part.span.lo
    → mid ≡ record old { changes = old.changes ++ reaching planner part.span.lo } → last ≡ laid next part
    → new ≡ record mid { changes = mid.changes ++ planned_with next.pending next.merging part }
    → GoesAlong (Event.Comes part ∷ []) planner last old new
come_to_goes planner next last part old mid new reach first lay second =
    subst (GoesAlong (Event.Comes part ∷ []) planner last old)
    (sym (second ∙ ap (λ (plan : PlanView). record plan { changes = plan.changes ++ planned_with next.pending next.merging part }) first))
    (subst (λ (q : Planner). GoesAlong (Event.Comes part ∷ []) planner q old
    (record old { changes = (old.changes ++ reaching planner part.span.lo) ++ planned_with next.pending next.merging part })) (sym lay)
    (subst (λ (q : Planner). GoesAlong (Event.Comes part ∷ []) planner (laid q part) old
    (record old { changes = (old.changes ++ reaching planner part.span.lo) ++ planned_with q.pending q.merging part })) (sym reach)
    (step (Event.Comes part) planner (λ q. laid q part) (λ q. planned_with q.pending q.merging part) old
    (λ q later. refl) (λ q. omega (arith, laid_short q.pending q.merging part)) (λ q. refl))))

pub pass_goes : (planner next last : Planner) (area : Record) (old mid more new : PlanView) → next ≡ reached planner area.span.lo
    → mid ≡ record old { changes = old.changes ++ reaching planner area.span.lo } → last ≡ record next { pending = None; merging = merging_behind next.pending next.merging }
    → more ≡ record mid { changes = mid.changes ++ detaching (unsettled next.pending next.merging) }
    → new ≡ record more { changes = more.changes ++ closing last.merging }
    → GoesAlong (Event.Passed area ∷ []) planner (record last { merging = None }) old new
pass_goes planner next last area old mid more new reach first settle second third =
    subst (GoesAlong (Event.Passed area ∷ []) planner (record last { merging = None }) old)
    (sym (third ∙ ap (λ (plan : PlanView). record plan { changes = plan.changes ++ closing last.merging })
    (second ∙ ap (λ (plan : PlanView). record plan { changes = plan.changes ++ detaching (unsettled next.pending next.merging) }) first)
    ∙ ap (λ changes. record old { changes = changes }) (append_assoc (old.changes ++ reaching planner area.span.lo) (detaching (unsettled next.pending next.merging)) (closing last.merging))))
    (subst (λ (q : Planner). GoesAlong (Event.Passed area ∷ []) planner (record q { merging = None }) old
    (record old { changes = (old.changes ++ reaching planner area.span.lo) ++ (detaching (unsettled next.pending next.merging) ++ closing q.merging) })) (sym settle)
    (subst (λ (q : Planner). GoesAlong (Event.Passed area ∷ []) planner (record q { pending = None; merging = None }) old
    (record old { changes = (old.changes ++ reaching planner area.span.lo) ++ (detaching (unsettled q.pending q.merging) ++ closing (merging_behind q.pending q.merging)) })) (sym reach)
    (step (Event.Passed area) planner (λ q. record q { pending = None; merging = None })
    (λ q. detaching (unsettled q.pending q.merging) ++ closing (merging_behind q.pending q.merging)) old
    (λ q later. refl)
    (λ q. omega (
      arith,
      length-append (detaching (unsettled q.pending q.merging)) (closing (merging_behind q.pending q.merging)),
      length-detaching (unsettled q.pending q.merging),
      length-closing (merging_behind q.pending q.merging),
      settled_short q.pending q.merging,
    )) (λ q. refl))))

pub weight-append : (xs ys : List Event) → weight (xs ++ ys) ≡ weight xs + weight ys
weight-append [] ys = omega arith
weight-append (Event.Begins area ∷ xs) ys = omega (arith, weight-append xs ys)
weight-append (Event.Comes part ∷ xs) ys = omega (arith, weight-append xs ys)
weight-append (Event.Passed area ∷ xs) ys = weight-append xs ys

pub weight-comes : (parts : List Record) → weight (map Event.Comes parts) ≡ length parts
weight-comes [] = refl
weight-comes (part ∷ parts) = omega (arith, weight-comes parts)

-- along some and then along others is along all
pub goes_on : (xs ys : List Event) {planner next last : Planner} {old new newest : PlanView} → GoesAlong xs planner next old new
    → GoesAlong ys next last new newest → GoesAlong (xs ++ ys) planner last old newest
goes_on xs ys {planner = planner} {next = next} {last = last} {old = old} first second = record {
  planned = λ later. second.planned later ∙ first.planned (ys ++ later)
      ∙ ap (λ events. old.changes ++ along planner.pending planner.merging (come planner.coming events)) (sym (append_assoc xs ys later));
  within = omega (arith, first.within, second.within, weight-append xs ys);
  room = second.room ∙ first.room;
  coming = kept second.coming first.coming;
}
  where
    kept : (last.coming ≡ None) ⊎ (last.coming ≡ next.coming) → (next.coming ≡ None) ⊎ (next.coming ≡ planner.coming)
        → (last.coming ≡ None) ⊎ (last.coming ≡ planner.coming)
    kept (inl none) before = inl none
    kept (inr same) (inl none) = inl (same ∙ none)
    kept (inr same) (inr before) = inr (same ∙ before)

-- the room that is left where a page is reached
pub reach_room : (planner next : Planner) (page : ℕ) (old mid : PlanView) → next ≡ reached planner page
    → mid ≡ record old { changes = old.changes ++ reaching planner page } → (more : ℕ) → length old.changes + (changes_left planner + more) ≤ old.room
    → length mid.changes + (changes_left next + more) ≤ mid.room
reach_room planner next page old mid reach first more room = omega (
  arith,
  ap (λ (plan : PlanView). length plan.changes) first,
  ap (λ (plan : PlanView). plan.room) first,
  length-append old.changes (reaching planner page),
  ap (λ (p : Planner). changes_left p) reach,
  reach_short planner page,
  room,
)

-- the room that is left where the pending old area was settled
pub settle_room : (planner next : Planner) (mid new : PlanView) (more : ℕ) → next ≡ record planner { pending = None; merging = merging_behind planner.pending planner.merging }
    → new ≡ record mid { changes = mid.changes ++ detaching (unsettled planner.pending planner.merging) }
    → length mid.changes + (option_len planner.pending + (option_len planner.merging + more)) ≤ mid.room → length new.changes + (option_len next.merging + more) ≤ new.room
settle_room planner next mid new more settle is room = omega (
  arith,
  ap (λ (plan : PlanView). length plan.changes) is,
  ap (λ (plan : PlanView). plan.room) is,
  length-append mid.changes (detaching (unsettled planner.pending planner.merging)),
  length-detaching (unsettled planner.pending planner.merging),
  settled_short planner.pending planner.merging,
  ap (λ (p : Planner). option_len p.merging) settle,
  room,
)

-- the room that is left at the end, after the new area if that is still to come
pub last_room : (planner next : Planner) (new : Record) (old mid : PlanView) → planner.coming ≡ Some new → next ≡ laid planner new
    → mid ≡ record old { changes = old.changes ++ planned_with planner.pending planner.merging new } → length old.changes + changes_left planner ≤ old.room
    → length mid.changes + (option_len next.pending + option_len next.merging) ≤ mid.room
last_room planner next new old mid coming lay is room = omega (
  arith,
  ap (λ (plan : PlanView). length plan.changes) is,
  ap (λ (plan : PlanView). plan.room) is,
  length-append old.changes (planned_with planner.pending planner.merging new),
  laid_short planner.pending planner.merging new,
  ap (λ (c : Option Record). option_len c) coming,
  ap (λ (p : Planner). option_len p.pending) lay,
  ap (λ (p : Planner). option_len p.merging) lay,
  room,
)

pub same_room : (planner next : Planner) (old mid : PlanView) → next ≡ planner → mid ≡ old → length old.changes + changes_left planner ≤ old.room
    → length mid.changes + (option_len next.pending + option_len next.merging) ≤ mid.room
same_room planner next old mid same is room = omega (
  arith,
  ap (λ (plan : PlanView). length plan.changes) is,
  ap (λ (plan : PlanView). plan.room) is,
  ap (λ (p : Planner). option_len p.pending) same,
  ap (λ (p : Planner). option_len p.merging) same,
  room,
)

-- along some parts and then along others is along all
pub comes_on : (xs ys : List Record) {planner next last : Planner} {old new newest : PlanView} → GoesAlong (map Event.Comes xs) planner next old new
    → GoesAlong (map Event.Comes ys) next last new newest → GoesAlong (map Event.Comes (xs ++ ys)) planner last old newest
comes_on xs ys {planner = planner} {last = last} {old = old} {newest = newest} first second =
    subst (λ events. GoesAlong events planner last old newest) (sym (map-append Event.Comes xs ys))
    (goes_on (map Event.Comes xs) (map Event.Comes ys) first second)

-- the room that is left for others where the planner came to some parts
pub comes_room : (xs ys : List Record) {planner next : Planner} {old new : PlanView} → GoesAlong (map Event.Comes xs) planner next old new
    → length old.changes + (changes_left planner + length (xs ++ ys)) ≤ old.room → length new.changes + (changes_left next + length ys) ≤ new.room
comes_room xs ys g room = omega (arith, g.within, g.room, weight-comes xs, length-append xs ys, room)
