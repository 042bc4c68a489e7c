-- For `plan_cut`, `plan_move`, `plan_protect` and others: what a list brings, with the new area in its place: in ascending order, and what it is made of.
use Rattle.std.proofs.Common.{◌≡◌, ◌≤◌, ◌<◌, ◌+◌, ◌*◌, ℕ, Bool, true, false, nat_lt, List, [], ◌∷◌, ◌++◌, map, Option, Some, None, refl, ap, ◌∙◌, sym, subst, arith}
use Rattle.std.specs.List.{flat_map, AllByRecursion as Each}
use Rattle.std.proofs.lemmas.Bool.{cond_both, cond-true, lt-ltb, ltb-true, ltb-false}
use Rattle.mm_types.specs.declared.area.Record.{Record}
use Rattle.mm_types.specs.Records.{IsValid}
use Rattle.area_list.specs.Changes.{insert_area}
use Rattle.area_list.proofs.Elements.{Pairs, Each-append, Each-weaker, Each-also, Each-always}
use Rattle.area_list.proofs.Parts.{Apart}
use Rattle.area_list.proofs.Order.{Before}
use Rattle.split_merge.specs.declared.becoming.Becoming.{Becoming}
use Rattle.split_merge.specs.Internal.Becoming.{lower_span, upper_span, parts_left, AreSpansInOrder}
use Rattle.split_merge.specs.Internal.Planner.{Event, page_at, come, come_in, events_at, events_along}
use Rattle.split_merge.proofs.Lists.{Pairs-images}
use Rattle.split_merge.proofs.Ascending.{Below, insert_front}
use Rattle.split_merge.proofs.Walking.{InOrder}
use Rattle.split_merge.proofs.Passing.{is_close, events_close, events_far}
use Rattle.split_merge.proofs.Parting.{Unjoined, IsPartOf, parts_within, parts_ascend}

-- events by ascending page: an old area comes before a part that begins at its first page
abbrev pub key : Event → ℕ
key (Event.Begins area) = 2 * area.span.lo
key (Event.Comes part) = 2 * part.span.lo + 1
key (Event.Passed area) = 2 * area.span.lo + 1

abbrev pub Precedes : Event → Event → Type 0
Precedes a b = key a < key b

-- what holds of each part holds of each event that one brings
Each-comes : (P : Record → Type 0) (Q : Event → Type 0) → ((part : Record) → P part → Q (Event.Comes part)) → (parts : List Record) → Each P parts
    → Each Q (map Event.Comes parts)
Each-comes P Q step [] each = tt
Each-comes P Q step (part ∷ parts) each = (step part each.0, Each-comes P Q step parts each.1)

Pairs-comes : (becoming : Becoming) (area : Record) (parts : List Record) → Each (IsPartOf area) parts → Pairs Before parts → Pairs Precedes (map Event.Comes parts)
Pairs-comes becoming area [] each pairs = tt
Pairs-comes becoming area (part ∷ parts) each pairs = (
  Each-comes (Before part) (Precedes (Event.Comes part)) (λ next before. omega (arith, each.0.some)) parts pairs.0,
  Pairs-comes becoming area parts each.1 pairs.1,
)

-- an event of an area, between its first page and its end
abbrev IsEventOf : Record → Event → Type 0
IsEventOf area event = (2 * area.span.lo ≤ key event) × (key event < 2 * area.span.hi)

events_within : (becoming : Becoming) (area : Record) → AreSpansInOrder (lower_span becoming) (upper_span becoming) → IsValid area → Each (IsEventOf area) (events_at becoming area)
events_within becoming area order valid = by (is_close becoming area) refl
  where
    by : (test : Bool) → is_close becoming area ≡ test → Each (IsEventOf area) (events_at becoming area)
    by true close = subst (Each (IsEventOf area)) (sym (events_close becoming area close)) (
      (omega arith, omega (arith, valid.some_pages)),
      Each-comes (IsPartOf area) (IsEventOf area) (λ part p. (omega (arith, p.low), omega (arith, p.some, p.high))) (parts_left becoming area)
          (parts_within becoming area order),
    )
    by false far = subst (Each (IsEventOf area)) (sym (events_far becoming area far)) ((omega arith, omega (arith, valid.some_pages)), tt)

events_ascend : (becoming : Becoming) (area : Record) → AreSpansInOrder (lower_span becoming) (upper_span becoming) → Pairs Precedes (events_at becoming area)
events_ascend becoming area order = by (is_close becoming area) refl
  where
    by : (test : Bool) → is_close becoming area ≡ test → Pairs Precedes (events_at becoming area)
    by true close = subst (Pairs Precedes) (sym (events_close becoming area close)) (
      Each-comes (IsPartOf area) (Precedes (Event.Begins area)) (λ part p. omega (arith, p.low)) (parts_left becoming area) (parts_within becoming area order),
      Pairs-comes becoming area (parts_left becoming area) (parts_within becoming area order) (parts_ascend becoming area order),
    )
    by false far = subst (Pairs Precedes) (sym (events_far becoming area far)) (tt, tt)

-- what a list brings ascends
pub along_ascends : (becoming : Becoming) (areas : List Record) → AreSpansInOrder (lower_span becoming) (upper_span becoming) → InOrder areas → Pairs Precedes (events_along becoming areas)
along_ascends becoming areas order o = Pairs-images IsValid Before Precedes (events_at becoming)
    (λ area valid. events_ascend becoming area order)
    (λ a b first second before. Each-weaker (IsEventOf a) (λ event. Each (Precedes event) (events_at becoming b))
    (λ event of. Each-weaker (IsEventOf b) (Precedes event) (λ next later. omega (arith, before, of.1, later.0)) (events_at becoming b)
    (events_within becoming b order second)) (events_at becoming a) (events_within becoming a order first))
    areas o.valid o.ordered

-- where a new area comes in
pub Each-come : (P : Event → Type 0) (new : Record) (events : List Event) → P (Event.Comes new) → Each P events → Each P (come_in new events)
Each-come P new [] here each = (here, tt)
Each-come P new (event ∷ events) here each =
    cond_both (nat_lt new.span.lo (page_at event)) (Event.Comes new ∷ (event ∷ events)) (event ∷ come_in new events) (Each P)
    (λ before. (here, each)) (λ after. (each.0, Each-come P new events here each.1))

page_from_key : (a b : Event) → key a < key b → page_at a ≤ page_at b
page_from_key (Event.Begins a) (Event.Begins b) less = omega arith
page_from_key (Event.Begins a) (Event.Comes b) less = omega arith
page_from_key (Event.Begins a) (Event.Passed b) less = omega arith
page_from_key (Event.Comes a) (Event.Begins b) less = omega arith
page_from_key (Event.Comes a) (Event.Comes b) less = omega arith
page_from_key (Event.Comes a) (Event.Passed b) less = omega arith
page_from_key (Event.Passed a) (Event.Begins b) less = omega arith
page_from_key (Event.Passed a) (Event.Comes b) less = omega arith
page_from_key (Event.Passed a) (Event.Passed b) less = omega arith

-- a relation of each event and each later one keeps
pub Pairs-come : (R : Event → Event → Type 0) (new : Record) (events : List Event) → Each (λ event. new.span.lo < page_at event → R (Event.Comes new) event) events
    → Each (λ event. page_at event ≤ new.span.lo → R event (Event.Comes new)) events → Pairs Precedes events → Pairs R events → Pairs R (come_in new events)
Pairs-come R new [] after before order pairs = (tt, tt)
Pairs-come R new (event ∷ events) after before order pairs =
    cond_both (nat_lt new.span.lo (page_at event)) (Event.Comes new ∷ (event ∷ events)) (event ∷ come_in new events) (Pairs R)
    (λ first. let lower : new.span.lo < page_at event = ltb-true new.span.lo (page_at event) first in (
      (
        after.0 lower,
        Each-also (λ next. new.span.lo < page_at next → R (Event.Comes new) next) (Precedes event) (R (Event.Comes new))
            (λ next step less. step (omega (arith, page_from_key event next less))) events after.1 order.0,
      ),
      pairs,
    ))
    (λ later. (
      Each-come (R event) new events (before.0 (ltb-false new.span.lo (page_at event) later)) pairs.0,
      Pairs-come R new events after.1 before.1 order.1 pairs.1,
    ))

-- no part and no area that is passed over begins where the new area begins
abbrev pub Beside : Record → Event → Type 0
Beside new (Event.Begins area) = Unit {0}
Beside new (Event.Comes part) = part.span.lo ≡ new.span.lo → ⊥
Beside new (Event.Passed area) = area.span.lo ≡ new.span.lo → ⊥

pub come_ascends : (new : Record) (events : List Event) → Each (Beside new) events → Pairs Precedes events → Pairs Precedes (come_in new events)
come_ascends new events beside order = Pairs-come Precedes new events
    (Each-always (λ event. new.span.lo < page_at event → Precedes (Event.Comes new) event) above events)
    (Each-weaker (Beside new) (λ event. page_at event ≤ new.span.lo → Precedes event (Event.Comes new)) below events beside) order order
  where
    above : (event : Event) → new.span.lo < page_at event → Precedes (Event.Comes new) event
    above (Event.Begins area) less = omega arith
    above (Event.Comes part) less = omega arith
    above (Event.Passed area) less = omega arith

    below : (event : Event) → Beside new event → page_at event ≤ new.span.lo → Precedes event (Event.Comes new)
    below (Event.Begins area) apart most = omega arith
    below (Event.Comes part) apart most = omega (arith, less_from part.span.lo new.span.lo most apart)
      where
        less_from : (a b : ℕ) → a ≤ b → (a ≡ b → ⊥) → a < b
        less_from a b most apart = omega arith
    below (Event.Passed area) apart most = omega (arith, less_from area.span.lo new.span.lo most apart)
      where
        less_from : (a b : ℕ) → a ≤ b → (a ≡ b → ⊥) → a < b
        less_from a b most apart = omega arith

-- the parts and the areas that are passed over: the new list, before its areas join
abbrev pub parts_in : List Event → List Record
parts_in [] = []
parts_in (Event.Begins area ∷ events) = parts_in events
parts_in (Event.Comes part ∷ events) = part ∷ parts_in events
parts_in (Event.Passed area ∷ events) = area ∷ parts_in events

parts_above_page : (new : Record) (events : List Event) → Each (λ event. new.span.lo < page_at event) events → Each (Below new) (parts_in events)
parts_above_page new [] above = tt
parts_above_page new (Event.Begins area ∷ events) above = parts_above_page new events above.1
parts_above_page new (Event.Comes part ∷ events) above = (above.0, parts_above_page new events above.1)
parts_above_page new (Event.Passed area ∷ events) above = (above.0, parts_above_page new events above.1)

insert_later : (new first : Record) (areas list : List Record) → first.span.lo ≤ new.span.lo → (first.span.lo ≡ new.span.lo → ⊥) → list ≡ insert_area new areas
    → first ∷ list ≡ insert_area new (first ∷ areas)
insert_later new first areas list most apart is = ap (λ rest. first ∷ rest) is
    ∙ sym (cond-true (nat_lt first.span.lo new.span.lo) (first ∷ insert_area new areas) (new ∷ (first ∷ areas)) (lt-ltb first.span.lo new.span.lo (omega arith)))

-- with the new area in its place
pub parts_come : (new : Record) (events : List Event) → Each (Beside new) events → Pairs Precedes events
    → parts_in (come_in new events) ≡ insert_area new (parts_in events)
parts_come new [] beside order = refl
parts_come new (event ∷ events) beside order =
    cond_both (nat_lt new.span.lo (page_at event)) (Event.Comes new ∷ (event ∷ events)) (event ∷ come_in new events)
    (λ list. parts_in list ≡ insert_area new (parts_in (event ∷ events)))
    (λ first. let lower : new.span.lo < page_at event = ltb-true new.span.lo (page_at event) first in
    sym (insert_front new (parts_in (event ∷ events)) (parts_above_page new (event ∷ events) (
      lower,
      Each-weaker (Precedes event) (λ next. new.span.lo < page_at next) (λ next less. omega (arith, lower, page_from_key event next less)) events order.0,
    ))))
    (λ later. by event (ltb-false new.span.lo (page_at event) later) beside.0 (parts_come new events beside.1 order.1))
  where
    by : (e : Event) → page_at e ≤ new.span.lo → Beside new e → parts_in (come_in new events) ≡ insert_area new (parts_in events)
        → parts_in (e ∷ come_in new events) ≡ insert_area new (parts_in (e ∷ events))
    by (Event.Begins area) most apart rest = rest
    by (Event.Comes part) most apart rest = insert_later new part (parts_in events) (parts_in (come_in new events)) most apart rest
    by (Event.Passed area) most apart rest = insert_later new area (parts_in events) (parts_in (come_in new events)) most apart rest

parts_in-append : (xs ys : List Event) → parts_in (xs ++ ys) ≡ parts_in xs ++ parts_in ys
parts_in-append [] ys = refl
parts_in-append (Event.Begins area ∷ xs) ys = parts_in-append xs ys
parts_in-append (Event.Comes part ∷ xs) ys = ap (λ rest. part ∷ rest) (parts_in-append xs ys)
parts_in-append (Event.Passed area ∷ xs) ys = ap (λ rest. area ∷ rest) (parts_in-append xs ys)

parts_in-comes : (parts : List Record) → parts_in (map Event.Comes parts) ≡ parts
parts_in-comes [] = refl
parts_in-comes (part ∷ parts) = ap (λ rest. part ∷ rest) (parts_in-comes parts)

-- without the new area they are what becomes of the areas
pub parts_along : (becoming : Becoming) (areas : List Record) → Each (λ area. is_close becoming area ≡ false → parts_left becoming area ≡ area ∷ []) areas
    → parts_in (events_along becoming areas) ≡ flat_map (parts_left becoming) areas
parts_along becoming [] away = refl
parts_along becoming (area ∷ areas) away =
    parts_in-append (events_at becoming area) (events_along becoming areas)
    ∙ ap (λ rest. parts_in (events_at becoming area) ++ rest) (parts_along becoming areas away.1)
    ∙ ap (λ first. first ++ flat_map (parts_left becoming) areas) (by (is_close becoming area) refl)
  where
    by : (test : Bool) → is_close becoming area ≡ test → parts_in (events_at becoming area) ≡ parts_left becoming area
    by true close = ap parts_in (events_close becoming area close) ∙ parts_in-comes (parts_left becoming area)
    by false far = ap parts_in (events_far becoming area far) ∙ sym (away.0 far)

-- the old areas
abbrev pub olds_in : List Event → List Record
olds_in [] = []
olds_in (Event.Begins area ∷ events) = area ∷ olds_in events
olds_in (Event.Comes part ∷ events) = olds_in events
olds_in (Event.Passed area ∷ events) = area ∷ olds_in events

pub olds_come : (new : Option Record) (events : List Event) → olds_in (come new events) ≡ olds_in events
olds_come None events = refl
olds_come (Some new) [] = refl
olds_come (Some new) (event ∷ events) =
    cond_both (nat_lt new.span.lo (page_at event)) (Event.Comes new ∷ (event ∷ events)) (event ∷ come_in new events) (λ list. olds_in list ≡ olds_in (event ∷ events))
    (λ first. refl) (λ later. by event (olds_come (Some new) events))
  where
    by : (e : Event) → olds_in (come_in new events) ≡ olds_in events → olds_in (e ∷ come_in new events) ≡ olds_in (e ∷ events)
    by (Event.Begins area) rest = ap (λ list. area ∷ list) rest
    by (Event.Comes part) rest = rest
    by (Event.Passed area) rest = ap (λ list. area ∷ list) rest

olds_in-append : (xs ys : List Event) → olds_in (xs ++ ys) ≡ olds_in xs ++ olds_in ys
olds_in-append [] ys = refl
olds_in-append (Event.Begins area ∷ xs) ys = ap (λ rest. area ∷ rest) (olds_in-append xs ys)
olds_in-append (Event.Comes part ∷ xs) ys = olds_in-append xs ys
olds_in-append (Event.Passed area ∷ xs) ys = ap (λ rest. area ∷ rest) (olds_in-append xs ys)

olds_in-comes : (parts : List Record) → olds_in (map Event.Comes parts) ≡ []
olds_in-comes [] = refl
olds_in-comes (part ∷ parts) = olds_in-comes parts

-- are those of the list
pub olds_along : (becoming : Becoming) (areas : List Record) → olds_in (events_along becoming areas) ≡ areas
olds_along becoming [] = refl
olds_along becoming (area ∷ areas) =
    olds_in-append (events_at becoming area) (events_along becoming areas)
    ∙ ap (λ rest. olds_in (events_at becoming area) ++ rest) (olds_along becoming areas)
    ∙ ap (λ first. first ++ areas) (by (is_close becoming area) refl)
  where
    by : (test : Bool) → is_close becoming area ≡ test → olds_in (events_at becoming area) ≡ area ∷ []
    by true close = ap olds_in (events_close becoming area close) ∙ ap (λ rest. area ∷ rest) (olds_in-comes (parts_left becoming area))
    by false far = ap olds_in (events_far becoming area far)

-- an area that is passed over joins no part before or after it
abbrev pub JoinsNo : Record → Event → Type 0
JoinsNo part (Event.Begins area) = Unit {0}
JoinsNo part (Event.Comes other) = Unit {0}
JoinsNo part (Event.Passed area) = Unjoined part area

abbrev pub IsJoinedByNo : Record → Event → Type 0
IsJoinedByNo area (Event.Begins other) = Unit {0}
IsJoinedByNo area (Event.Comes part) = Unjoined area part
IsJoinedByNo area (Event.Passed other) = Unjoined area other

abbrev pub Parted : Event → Event → Type 0
Parted (Event.Begins area) event = Unit {0}
Parted (Event.Comes part) event = JoinsNo part event
Parted (Event.Passed area) event = IsJoinedByNo area event

-- what is asked of each area that is passed over: it is its only part, and joins no part of another
pub record IsAlone (becoming : Becoming) (areas : List Record) : Type 0 where
  pub below : (area other : Record) → IsValid area → IsValid other → Apart area other → is_close becoming other ≡ false → Each (λ part. Unjoined part other) (parts_left becoming area)
  pub above : (area other : Record) → IsValid area → IsValid other → Apart other area → is_close becoming other ≡ false → Each (Unjoined other) (parts_left becoming area)

parted_comes : (parts : List Record) → Pairs Parted (map Event.Comes parts)
parted_comes [] = tt
parted_comes (part ∷ parts) = (Each-comes (λ next. Unit {0}) (Parted (Event.Comes part)) (λ next h. tt) parts (Each-always (λ next. Unit {0}) (λ next. tt) parts), parted_comes parts)

pub along_parted : (becoming : Becoming) (areas : List Record) → IsAlone becoming areas → Each IsValid areas → Pairs Apart areas → Pairs Parted (events_along becoming areas)
along_parted becoming areas alone valid pairs = Pairs-images IsValid Apart Parted (events_at becoming) (λ area v. within area) across areas valid pairs
  where
    within : (area : Record) → Pairs Parted (events_at becoming area)
    within area = by (is_close becoming area) refl
      where
        by : (test : Bool) → is_close becoming area ≡ test → Pairs Parted (events_at becoming area)
        by true close = subst (Pairs Parted) (sym (events_close becoming area close))
            (Each-always (Parted (Event.Begins area)) (λ event. tt) (map Event.Comes (parts_left becoming area)), parted_comes (parts_left becoming area))
        by false far = subst (Pairs Parted) (sym (events_far becoming area far)) (tt, tt)

    across : (a b : Record) → IsValid a → IsValid b → Apart a b → Each (λ event. Each (Parted event) (events_at becoming b)) (events_at becoming a)
    across a b first second apart = by (is_close becoming a) (is_close becoming b) refl refl
      where
        by : (one other : Bool) → is_close becoming a ≡ one → is_close becoming b ≡ other → Each (λ event. Each (Parted event) (events_at becoming b)) (events_at becoming a)
        by true true near close = subst (λ ys. Each (λ event. Each (Parted event) ys) (events_at becoming a)) (sym (events_close becoming b close))
            (subst (Each (λ event. Each (Parted event) (Event.Begins b ∷ map Event.Comes (parts_left becoming b)))) (sym (events_close becoming a near)) (
              Each-always (Parted (Event.Begins a)) (λ event. tt) (Event.Begins b ∷ map Event.Comes (parts_left becoming b)),
              Each-comes (λ part. Unit {0}) (λ event. Each (Parted event) (Event.Begins b ∷ map Event.Comes (parts_left becoming b)))
                  (λ part h. (
                    tt,
                    Each-comes (λ next. Unit {0}) (Parted (Event.Comes part)) (λ next k. tt) (parts_left becoming b)
                        (Each-always (λ next. Unit {0}) (λ next. tt) (parts_left becoming b)),
                  )) (parts_left becoming a)
                  (Each-always (λ part. Unit {0}) (λ part. tt) (parts_left becoming a)),
            ))
        by true false near far = subst (λ ys. Each (λ event. Each (Parted event) ys) (events_at becoming a)) (sym (events_far becoming b far))
            (subst (Each (λ event. Each (Parted event) (Event.Passed b ∷ []))) (sym (events_close becoming a near)) (
              (tt, tt),
              Each-comes (λ part. Unjoined part b) (λ event. Each (Parted event) (Event.Passed b ∷ [])) (λ part h. (h, tt)) (parts_left becoming a)
                  (alone.below a b first second apart far),
            ))
        by false true away close = subst (λ ys. Each (λ event. Each (Parted event) ys) (events_at becoming a)) (sym (events_close becoming b close))
            (subst (Each (λ event. Each (Parted event) (Event.Begins b ∷ map Event.Comes (parts_left becoming b)))) (sym (events_far becoming a away)) (
              (tt, Each-comes (Unjoined a) (Parted (Event.Passed a)) (λ part h. h) (parts_left becoming b) (alone.above b a second first apart away)),
              tt,
            ))
        by false false away far = subst (λ ys. Each (λ event. Each (Parted event) ys) (events_at becoming a)) (sym (events_far becoming b far))
            (subst (Each (λ event. Each (Parted event) (Event.Passed b ∷ []))) (sym (events_far becoming a away)) ((apart.apart, tt), tt))

-- the new area joins none that is passed over
abbrev pub IsClear : Record → Event → Type 0
IsClear new (Event.Begins area) = Unit {0}
IsClear new (Event.Comes part) = Unit {0}
IsClear new (Event.Passed area) = Unjoined new area × Unjoined area new

pub come_parted : (new : Record) (events : List Event) → Each (IsClear new) events → Pairs Precedes events → Pairs Parted events → Pairs Parted (come_in new events)
come_parted new events clear order parted = Pairs-come Parted new events
    (Each-weaker (IsClear new) (λ event. new.span.lo < page_at event → Parted (Event.Comes new) event) after events clear)
    (Each-weaker (IsClear new) (λ event. page_at event ≤ new.span.lo → Parted event (Event.Comes new)) before events clear) order parted
  where
    after : (event : Event) → IsClear new event → new.span.lo < page_at event → Parted (Event.Comes new) event
    after (Event.Begins area) clear less = tt
    after (Event.Comes part) clear less = tt
    after (Event.Passed area) clear less = clear.0

    before : (event : Event) → IsClear new event → page_at event ≤ new.span.lo → Parted event (Event.Comes new)
    before (Event.Begins area) clear most = tt
    before (Event.Comes part) clear most = tt
    before (Event.Passed area) clear most = clear.1

-- what holds of each event of a list, by its areas
pub Each-along : (Q : Event → Type 0) (P : Record → Type 0) (becoming : Becoming) (areas : List Record) → ((area : Record) → P area → Q (Event.Begins area))
    → ((area : Record) → P area → Each (λ part. Q (Event.Comes part)) (parts_left becoming area))
    → ((area : Record) → P area → is_close becoming area ≡ false → Q (Event.Passed area)) → Each P areas → Each Q (events_along becoming areas)
Each-along Q P becoming [] begins comes passed each = tt
Each-along Q P becoming (area ∷ areas) begins comes passed each =
    Each-append Q (events_at becoming area) (events_along becoming areas) (by (is_close becoming area) refl) (Each-along Q P becoming areas begins comes passed each.1)
  where
    by : (test : Bool) → is_close becoming area ≡ test → Each Q (events_at becoming area)
    by true close = subst (Each Q) (sym (events_close becoming area close))
        (begins area each.0, Each-comes (λ part. Q (Event.Comes part)) Q (λ part h. h) (parts_left becoming area) (comes area each.0))
    by false far = subst (Each Q) (sym (events_far becoming area far)) (passed area each.0 far, tt)
