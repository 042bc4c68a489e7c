-- For `plan_cut`, `plan_move`, `plan_protect` and others: each change along the events of a list is real, takes away an area near a span, and is one of a few.
use mathlib.Core.Bool.{beq as same_bool}
use Rattle.std.proofs.Common.{◌≡◌, ◌≤◌, ◌<◌, ◌+◌, ◌*◌, ◌⊎◌, inl, inr, ℕ, Bool, true, false, ◌&&◌, nat_eq, nat_lt, if◌then◌else◌, List, [], ◌∷◌, ◌++◌, length, map, Option, Some, None, IfSome, refl, ap, ◌∙◌, sym, subst, arith}
use Rattle.std.specs.List.{Contains, AllByRecursion as Each}
use Rattle.std.specs.Option.{option_len, option_or}
use Rattle.std.proofs.lemmas.Bool.{both_ways, cond_both, cond-true, lt-ltb}
use Rattle.std.proofs.lemmas.Bool.Decides.{nat_tests}
use Rattle.std.proofs.lemmas.List.{length-append}
use Rattle.std.proofs.lemmas.List.Elements.{All-contains, All-from_recursion}
use Rattle.mm_types.specs.declared.area.Prot.{Prot}
use Rattle.mm_types.specs.declared.area.Attr.{Attr}
use Rattle.mm_types.specs.declared.area.Record.{Record}
use Rattle.area_list.specs.Areas.{joins, same_prot, same_attr}
use Rattle.area_list.specs.Changes.{joined_area}
use Rattle.area_list.proofs.Elements.{Pairs, Each-append, Each-weaker, Each-also}
use Rattle.split_merge.specs.declared.plan.Change.{Change}
use Rattle.split_merge.specs.declared.plan.Change.TheVariants.{Alter}
use Rattle.split_merge.specs.declared.planner.Merging.{Merging}
use Rattle.split_merge.specs.Plans.{olds_of}
use Rattle.split_merge.specs.Internal.Planner.{Event, page_at, same_area, detaching, replacing, closing, taken, left, spare, covered, left_over, merging_behind, unsettled, merging_with, planned_with, along, come, come_in, weight}
use Rattle.split_merge.proofs.Replacing.{olds_of-append}
use Rattle.split_merge.proofs.Counting.{contains_cases}
use Rattle.split_merge.proofs.Turning.{Unlike, IsRealChange}
use Rattle.split_merge.proofs.Steps.{length-detaching, length-closing, laid_short, settled_short}
use Rattle.split_merge.proofs.Events.{key, Precedes, olds_in}

prot_alike : (a : Prot) → same_prot a a ≡ true
prot_alike a = all a.read a.write a.exec
  where
    all : (x y z : Bool) → (same_bool x x && (same_bool y y && same_bool z z)) ≡ true
    all x y z = grind arith

attr_alike : (a : Attr) → same_attr a a ≡ true
attr_alike a = all (same_prot a.prot a.prot) (same_prot a.most a.most) a.shared a.grows a.sealed a.heap (prot_alike a.prot) (prot_alike a.most)
  where
    all : (p q w x y z : Bool) → p ≡ true → q ≡ true
        → (p && (q && (same_bool w w && (same_bool x x && (same_bool y y && same_bool z z))))) ≡ true
    all p q w x y z first second = grind arith

area_alike : (a : Record) → same_area a a ≡ true
area_alike a = all a.span.lo a.span.hi a.object a.offset (same_attr a.attr a.attr) (attr_alike a.attr)
  where
    all : (lo hi object offset : ℕ) (alike : Bool) → alike ≡ true
        → ((nat_eq lo lo && nat_eq hi hi) && (alike && (nat_eq object object && nat_eq offset offset))) ≡ true
    all lo hi object offset alike is = grind (arith, nat_tests)

-- an old area that begins where the new one does is the one whose place that takes
abbrev IsRealMerging : List Record → Option Record → Record → Type 0
IsRealMerging areas old new = Each (λ area. new.span.lo ≡ area.span.lo → old ≡ Some area) areas

some_same : (a b : Record) → Some a ≡ Some b → a ≡ b
some_same a b is = cc

none_some : (a : Record) → None ≡ Some a → ⊥
none_some a is = cc

real_detaching : (areas : List Record) (old : Option Record) → Each (IsRealChange areas) (detaching old)
real_detaching areas None = tt
real_detaching areas (Some old) = (tt, tt)

real_replacing : (areas : List Record) (old : Option Record) (new : Record) → IsRealMerging areas old new → Each (IsRealChange areas) (replacing old new)
real_replacing areas None new real =
    (Each-weaker (λ area. new.span.lo ≡ area.span.lo → None ≡ Some area) (Unlike new) (λ area begins same. none_some area (begins same)) areas real, tt)
real_replacing areas (Some old) new real = by (same_area old new) refl
  where
    by : (same : Bool) → same_area old new ≡ same → Each (IsRealChange areas) (if same then [] else Alter old new ∷ [])
    by true is = tt
    by false is = (
      (
        Each-weaker (λ area. new.span.lo ≡ area.span.lo → Some old ≡ Some area) (λ area. new.span.lo ≡ area.span.lo → old ≡ area)
            (λ area begins same. some_same old area (begins same)) areas real,
        (λ equal. both_ways (same_area old new) is (ap (same_area old) (sym equal) ∙ area_alike old)),
      ),
      tt,
    )

abbrev pub MergingIsReal : List Record → Option Merging → Type 0
MergingIsReal areas merging = IfSome merging (λ m. IsRealMerging areas m.replaces m.area)

real_closing : (areas : List Record) (merging : Option Merging) → MergingIsReal areas merging → Each (IsRealChange areas) (closing merging)
real_closing areas None real = tt
real_closing areas (Some merging) real = real_replacing areas merging.replaces merging.area real

-- where a part begins, the area that begins there is the pending one, which is taken
abbrev Fits : List Record → Option Record → List Event → Type 0
Fits areas pending [] = Unit {0}
Fits areas pending (Event.Begins area ∷ events) = Fits areas (Some area) events
Fits areas pending (Event.Comes part ∷ events) = IsRealMerging areas (taken pending part) part × Fits areas (left pending part) events
Fits areas pending (Event.Passed area ∷ events) = Fits areas None events

-- a merging that is real stays so where it takes an area that it has not yet
real_sharing : (areas : List Record) (partner old : Option Record) (new : Record) → IsRealMerging areas partner new → IsRealMerging areas (option_or partner old) new
real_sharing areas None old new real = Each-weaker (λ area. new.span.lo ≡ area.span.lo → None ≡ Some area) (λ area. new.span.lo ≡ area.span.lo → old ≡ Some area)
    (λ area begins same. absurd (none_some area (begins same))) areas real
real_sharing areas (Some partner) old new real = real

real_part : (areas : List Record) (pending : Option Record) (merging : Option Merging) (part : Record) → MergingIsReal areas merging
    → IsRealMerging areas (taken pending part) part
    → Each (IsRealChange areas) (planned_with pending merging part) × MergingIsReal areas (Some (merging_with pending merging part))
real_part areas pending None part real fits = (tt, fits)
real_part areas pending (Some merging) part real fits = by (joins merging.area part)
  where
    by : (join : Bool)
        → Each (IsRealChange areas) (if join then detaching (spare merging.replaces (taken pending part)) else replacing merging.replaces merging.area)
        × MergingIsReal areas (Some (if join then record { replaces = option_or merging.replaces (taken pending part); area = joined_area merging.area part }
        else record { replaces = taken pending part; area = part }))
    by true = (real_detaching areas (spare merging.replaces (taken pending part)), real_sharing areas merging.replaces (taken pending part) merging.area real)
    by false = (real_replacing areas merging.replaces merging.area real, fits)

real_settled : (areas : List Record) (pending : Option Record) (merging : Option Merging) → MergingIsReal areas merging → MergingIsReal areas (merging_behind pending merging)
real_settled areas pending None real = tt
real_settled areas pending (Some merging) real = real_sharing areas merging.replaces (covered pending merging.area) merging.area real

real_end : (areas : List Record) (pending : Option Record) (merging : Option Merging) → MergingIsReal areas merging
    → Each (IsRealChange areas) (detaching (unsettled pending merging) ++ closing (merging_behind pending merging))
real_end areas pending merging real = Each-append (IsRealChange areas) (detaching (unsettled pending merging)) (closing (merging_behind pending merging))
    (real_detaching areas (unsettled pending merging)) (real_closing areas (merging_behind pending merging) (real_settled areas pending merging real))

real_along : (areas : List Record) (pending : Option Record) (merging : Option Merging) (events : List Event) → MergingIsReal areas merging → Fits areas pending events
    → Each (IsRealChange areas) (along pending merging events)
real_along areas pending merging [] real fits = real_end areas pending merging real
real_along areas pending merging (Event.Begins area ∷ events) real fits =
    Each-append (IsRealChange areas) (detaching (unsettled pending merging)) (along (Some area) (merging_behind pending merging) events) (real_detaching areas (unsettled pending merging))
    (real_along areas (Some area) (merging_behind pending merging) events (real_settled areas pending merging real) fits)
real_along areas pending merging (Event.Comes part ∷ events) real fits =
    let here = real_part areas pending merging part real fits.0 in
    Each-append (IsRealChange areas) (planned_with pending merging part) (along (left pending part) (Some (merging_with pending merging part)) events) here.0
    (real_along areas (left pending part) (Some (merging_with pending merging part)) events here.1 fits.1)
real_along areas pending merging (Event.Passed area ∷ events) real fits =
    Each-append (IsRealChange areas) (detaching (unsettled pending merging) ++ closing (merging_behind pending merging)) (along None None events) (real_end areas pending merging real)
    (real_along areas None None events tt fits)

-- an old area is below all that comes, is the pending one, or comes
abbrev Place : Option Record → List Event → Record → Type 0
Place pending events area = (Each (λ event. 2 * area.span.lo + 1 < key event) events) ⊎ (pending ≡ Some area) ⊎ Contains (olds_in events) area

olds_above : (page : ℕ) (events : List Event) → Each (λ event. 2 * page + 1 < key event) events → Each (λ area. page < area.span.lo) (olds_in events)
olds_above page [] above = tt
olds_above page (Event.Begins area ∷ events) above = (omega (arith, above.0), olds_above page events above.1)
olds_above page (Event.Comes part ∷ events) above = olds_above page events above.1
olds_above page (Event.Passed area ∷ events) above = (omega (arith, above.0), olds_above page events above.1)

-- what comes is above the pending area
abbrev Above : Option Record → List Event → Type 0
Above pending events = IfSome pending (λ old. Each (λ event. 2 * old.span.lo < key event) events)

-- a pending area is taken by a part that begins where it begins
taken_begins : (pending : Option Record) (part area : Record) → pending ≡ Some area → area.span.lo < area.span.hi → part.span.lo ≡ area.span.lo
    → taken pending part ≡ Some area
taken_begins pending part area is some begins = ap (λ found. taken found part) is
    ∙ cond-true (nat_lt part.span.lo area.span.hi) (Some area) None (lt-ltb part.span.lo area.span.hi (omega (arith, some, begins)))

abbrev pub SomePages : Record → Type 0
SomePages area = area.span.lo < area.span.hi

-- each old area has its place at each event
fits_along : (areas : List Record) (pending : Option Record) (events : List Event) → Each SomePages areas → Each (Place pending events) areas → Above pending events
    → Pairs Precedes events → Fits areas pending events
fits_along areas pending [] some places above order = tt
fits_along areas pending (Event.Begins next ∷ events) some places above order =
    fits_along areas (Some next) events some (Each-weaker (Place pending (Event.Begins next ∷ events)) (Place (Some next) events) step areas places) order.0 order.1
  where
    step : (area : Record) → Place pending (Event.Begins next ∷ events) area → Place (Some next) events area
    step area (inl below) = inl below.1
    step area (inr (inl is)) = inl (higher (subst (λ found. Above found (Event.Begins next ∷ events)) is above))
      where
        higher : Each (λ event. 2 * area.span.lo < key event) (Event.Begins next ∷ events) → Each (λ event. 2 * area.span.lo + 1 < key event) events
        higher each = Each-weaker (Precedes (Event.Begins next)) (λ event. 2 * area.span.lo + 1 < key event) (λ event less. omega (arith, each.0)) events order.0
    step area (inr (inr comes)) = by (contains_cases next (olds_in events) area comes)
      where
        by : (next ≡ area) ⊎ Contains (olds_in events) area → Place (Some next) events area
        by (inl same) = inr (inl (ap (λ (a : Record). Some a) same))
        by (inr later) = inr (inr later)
fits_along areas pending (Event.Comes part ∷ events) some places above order = (
  Each-also SomePages (Place pending (Event.Comes part ∷ events)) (λ area. part.span.lo ≡ area.span.lo → taken pending part ≡ Some area) at areas some places,
  fits_along areas (left pending part) events some (Each-weaker (Place pending (Event.Comes part ∷ events)) (Place (left pending part) events) step areas places)
      (stays pending above) order.1,
)
  where
    at : (area : Record) → SomePages area → Place pending (Event.Comes part ∷ events) area → part.span.lo ≡ area.span.lo → taken pending part ≡ Some area
    at area pages (inl below) same = absurd (omega (arith, below.0, same))
    at area pages (inr (inl is)) same = taken_begins pending part area is pages same
    at area pages (inr (inr comes)) same = absurd (omega (
      arith,
      same,
      All-contains (λ (old : Record). part.span.lo < old.span.lo) (olds_in events) area
          (All-from_recursion (λ (old : Record). part.span.lo < old.span.lo) (olds_in events) (olds_above part.span.lo events order.0)) comes,
    ))

    step : (area : Record) → Place pending (Event.Comes part ∷ events) area → Place (left pending part) events area
    step area (inl below) = inl below.1
    step area (inr (inl is)) = by (nat_lt part.span.lo area.span.hi) (ap (λ found. left found part) is)
        (subst (λ found. Above found (Event.Comes part ∷ events)) is above).0
      where
        by : (test : Bool) → left pending part ≡ (if test then None else Some area) → 2 * area.span.lo < key (Event.Comes part) → Place (left pending part) events area
        by true is begins = inl (Each-weaker (Precedes (Event.Comes part)) (λ event. 2 * area.span.lo + 1 < key event) (λ event less. omega (arith, begins)) events order.0)
        by false is begins = inr (inl is)
    step area (inr (inr comes)) = inr (inr comes)

    stays : (found : Option Record) → Above found (Event.Comes part ∷ events) → Above (left found part) events
    stays None above = tt
    stays (Some old) above = cond_both (nat_lt part.span.lo old.span.hi) None (Some old) (λ kept. Above kept events) (λ within. tt) (λ past. above.1)
fits_along areas pending (Event.Passed next ∷ events) some places above order =
    fits_along areas None events some (Each-weaker (Place pending (Event.Passed next ∷ events)) (Place None events) step areas places) tt order.1
  where
    step : (area : Record) → Place pending (Event.Passed next ∷ events) area → Place None events area
    step area (inl below) = inl below.1
    step area (inr (inl is)) = inl (higher (subst (λ found. Above found (Event.Passed next ∷ events)) is above))
      where
        higher : Each (λ event. 2 * area.span.lo < key event) (Event.Passed next ∷ events) → Each (λ event. 2 * area.span.lo + 1 < key event) events
        higher each = Each-weaker (Precedes (Event.Passed next)) (λ event. 2 * area.span.lo + 1 < key event) (λ event less. omega (arith, each.0)) events order.0
    step area (inr (inr comes)) = by (contains_cases next (olds_in events) area comes)
      where
        by : (next ≡ area) ⊎ Contains (olds_in events) area → Place None events area
        by (inl same) = inl (Each-weaker (Precedes (Event.Passed next)) (λ event. 2 * area.span.lo + 1 < key event)
            (λ event less. omega (arith, ap (λ (a : Record). a.span.lo) same)) events order.0)
        by (inr later) = inr (inr later)

-- each change of a plan along a list is real
pub changes_real : (areas : List Record) (events : List Event) → Each SomePages areas → Each (Contains (olds_in events)) areas → Pairs Precedes events
    → Each (IsRealChange areas) (along None None events)
changes_real areas events some members order = real_along areas None None events tt
    (fits_along areas None events some (Each-weaker (Contains (olds_in events)) (Place None events) (λ area member. inr (inr member)) areas members) tt order)

-- the old areas that the events do not pass over
abbrev pub begun_in : List Event → List Record
begun_in [] = []
begun_in (Event.Begins area ∷ events) = area ∷ begun_in events
begun_in (Event.Comes part ∷ events) = begun_in events
begun_in (Event.Passed area ∷ events) = begun_in events

abbrev MergingHas : (Record → Type 0) → Option Merging → Type 0
MergingHas P merging = IfSome merging (λ m. IfSome m.replaces P)

olds_of-detaching : (P : Record → Type 0) (old : Option Record) → IfSome old P → Each P (olds_of (detaching old))
olds_of-detaching P None has = tt
olds_of-detaching P (Some old) has = (has, tt)

olds_of-replacing : (P : Record → Type 0) (old : Option Record) (new : Record) → IfSome old P → Each P (olds_of (replacing old new))
olds_of-replacing P None new has = tt
olds_of-replacing P (Some old) new has = by (same_area old new)
  where
    by : (same : Bool) → Each P (olds_of (if same then [] else Alter old new ∷ []))
    by true = tt
    by false = (has, tt)

olds_of-closing : (P : Record → Type 0) (merging : Option Merging) → MergingHas P merging → Each P (olds_of (closing merging))
olds_of-closing P None has = tt
olds_of-closing P (Some merging) has = olds_of-replacing P merging.replaces merging.area has

each_olds : (P : Record → Type 0) (xs ys : List Change) → Each P (olds_of xs) → Each P (olds_of ys) → Each P (olds_of (xs ++ ys))
each_olds P xs ys first second = subst (Each P) (sym (olds_of-append xs ys)) (Each-append P (olds_of xs) (olds_of ys) first second)

taken_has : (P : Record → Type 0) (pending : Option Record) (part : Record) → IfSome pending P → IfSome (taken pending part) P × IfSome (left pending part) P
taken_has P None part has = (tt, tt)
taken_has P (Some old) part has = by (nat_lt part.span.lo old.span.hi)
  where
    by : (test : Bool) → IfSome (if test then Some old else None) P × IfSome (if test then None else Some old) P
    by true = (has, tt)
    by false = (tt, has)

spare_has : (P : Record → Type 0) (partner old : Option Record) → IfSome old P → IfSome (spare partner old) P
spare_has P None old has = tt
spare_has P (Some partner) old has = has

shared_has : (P : Record → Type 0) (partner old : Option Record) → IfSome partner P → IfSome old P → IfSome (option_or partner old) P
shared_has P None old first second = second
shared_has P (Some partner) old first second = first

part_has : (P : Record → Type 0) (pending : Option Record) (merging : Option Merging) (part : Record) → IfSome pending P → MergingHas P merging
    → Each P (olds_of (planned_with pending merging part)) × MergingHas P (Some (merging_with pending merging part))
part_has P pending None part has of_merging = (tt, (taken_has P pending part has).0)
part_has P pending (Some merging) part has of_merging = by (joins merging.area part)
  where
    by : (join : Bool) → Each P (olds_of (if join then detaching (spare merging.replaces (taken pending part)) else replacing merging.replaces merging.area))
        × MergingHas P (Some (if join then record { replaces = option_or merging.replaces (taken pending part); area = joined_area merging.area part }
        else record { replaces = taken pending part; area = part }))
    by true = (
      olds_of-detaching P (spare merging.replaces (taken pending part)) (spare_has P merging.replaces (taken pending part) (taken_has P pending part has).0),
      shared_has P merging.replaces (taken pending part) of_merging (taken_has P pending part has).0,
    )
    by false = (olds_of-replacing P merging.replaces merging.area of_merging, (taken_has P pending part has).0)

covered_has : (P : Record → Type 0) (partner pending : Option Record) (new : Record) → IfSome pending P
    → IfSome (left_over partner pending new) P × IfSome (covered pending new) P
covered_has P (Some partner) None new has = (tt, tt)
covered_has P None None new has = (tt, tt)
covered_has P (Some partner) (Some old) new has = by (nat_lt old.span.lo new.span.hi)
  where
    by : (test : Bool) → P old × IfSome (if test then Some old else None) P
    by true = (has, has)
    by false = (has, tt)
covered_has P None (Some old) new has = by (nat_lt old.span.lo new.span.hi)
  where
    by : (test : Bool) → IfSome (if test then None else Some old) P × IfSome (if test then Some old else None) P
    by true = (tt, has)
    by false = (has, tt)

settled_has : (P : Record → Type 0) (pending : Option Record) (merging : Option Merging) → IfSome pending P → MergingHas P merging
    → IfSome (unsettled pending merging) P × MergingHas P (merging_behind pending merging)
settled_has P pending None has of_merging = (has, tt)
settled_has P pending (Some merging) has of_merging = let parts = covered_has P merging.replaces pending merging.area has in
    (parts.0, shared_has P merging.replaces (covered pending merging.area) of_merging parts.1)

end_olds : (P : Record → Type 0) (pending : Option Record) (merging : Option Merging) → IfSome pending P → MergingHas P merging
    → Each P (olds_of (detaching (unsettled pending merging) ++ closing (merging_behind pending merging)))
end_olds P pending merging has of_merging = let here = settled_has P pending merging has of_merging in
    each_olds P (detaching (unsettled pending merging)) (closing (merging_behind pending merging)) (olds_of-detaching P (unsettled pending merging) here.0)
    (olds_of-closing P (merging_behind pending merging) here.1)

-- only they go
along_olds : (P : Record → Type 0) (pending : Option Record) (merging : Option Merging) (events : List Event) → IfSome pending P → MergingHas P merging → Each P (begun_in events)
    → Each P (olds_of (along pending merging events))
along_olds P pending merging [] has of_merging each = end_olds P pending merging has of_merging
along_olds P pending merging (Event.Begins area ∷ events) has of_merging each =
    let here = settled_has P pending merging has of_merging in
    each_olds P (detaching (unsettled pending merging)) (along (Some area) (merging_behind pending merging) events) (olds_of-detaching P (unsettled pending merging) here.0)
    (along_olds P (Some area) (merging_behind pending merging) events each.0 here.1 each.1)
along_olds P pending merging (Event.Comes part ∷ events) has of_merging each =
    let here = part_has P pending merging part has of_merging in
    each_olds P (planned_with pending merging part) (along (left pending part) (Some (merging_with pending merging part)) events) here.0
    (along_olds P (left pending part) (Some (merging_with pending merging part)) events (taken_has P pending part has).1 here.1 each)
along_olds P pending merging (Event.Passed area ∷ events) has of_merging each =
    each_olds P (detaching (unsettled pending merging) ++ closing (merging_behind pending merging)) (along None None events) (end_olds P pending merging has of_merging)
    (along_olds P None None events tt tt each)

pub changes_olds : (P : Record → Type 0) (events : List Event) → Each P (begun_in events) → Each P (olds_of (along None None events))
changes_olds P events each = along_olds P None None events tt tt each

pub begun_come : (new : Option Record) (events : List Event) → begun_in (come new events) ≡ begun_in events
begun_come None events = refl
begun_come (Some new) [] = refl
begun_come (Some new) (event ∷ events) =
    cond_both (nat_lt new.span.lo (page_at event)) (Event.Comes new ∷ (event ∷ events)) (event ∷ come_in new events) (λ list. begun_in list ≡ begun_in (event ∷ events))
    (λ first. refl) (λ later. by event (begun_come (Some new) events))
  where
    by : (e : Event) → begun_in (come_in new events) ≡ begun_in events → begun_in (e ∷ come_in new events) ≡ begun_in (e ∷ events)
    by (Event.Begins area) rest = ap (λ list. area ∷ list) rest
    by (Event.Comes part) rest = rest
    by (Event.Passed area) rest = rest

pub begun_append : (P : Record → Type 0) (xs ys : List Event) → Each P (begun_in xs) → Each P (begun_in ys) → Each P (begun_in (xs ++ ys))
begun_append P [] ys first second = second
begun_append P (Event.Begins area ∷ xs) ys first second = (first.0, begun_append P xs ys first.1 second)
begun_append P (Event.Comes part ∷ xs) ys first second = begun_append P xs ys first second
begun_append P (Event.Passed area ∷ xs) ys first second = begun_append P xs ys first second

pub begun_comes : (P : Record → Type 0) (parts : List Record) → Each P (begun_in (map Event.Comes parts))
begun_comes P [] = tt
begun_comes P (part ∷ parts) = begun_comes P parts

end_short : (pending : Option Record) (merging : Option Merging)
    → length (detaching (unsettled pending merging) ++ closing (merging_behind pending merging)) ≤ option_len pending + option_len merging
end_short pending merging = omega (
  arith,
  length-append (detaching (unsettled pending merging)) (closing (merging_behind pending merging)),
  length-detaching (unsettled pending merging),
  length-closing (merging_behind pending merging),
  settled_short pending merging,
)

-- at most so many changes are planned
along_short : (pending : Option Record) (merging : Option Merging) (events : List Event)
    → length (along pending merging events) ≤ option_len pending + (option_len merging + weight events)
along_short pending merging [] = omega (arith, end_short pending merging)
along_short pending merging (Event.Begins area ∷ events) =
    omega (
      arith,
      length-append (detaching (unsettled pending merging)) (along (Some area) (merging_behind pending merging) events),
      length-detaching (unsettled pending merging),
      settled_short pending merging,
      along_short (Some area) (merging_behind pending merging) events,
    )
along_short pending merging (Event.Comes part ∷ events) = omega (
  arith,
  length-append (planned_with pending merging part) (along (left pending part) (Some (merging_with pending merging part)) events),
  laid_short pending merging part,
  along_short (left pending part) (Some (merging_with pending merging part)) events,
)
along_short pending merging (Event.Passed area ∷ events) = omega (
  arith,
  length-append (detaching (unsettled pending merging) ++ closing (merging_behind pending merging)) (along None None events),
  end_short pending merging,
  along_short None None events,
)

come_weight : (new : Record) (events : List Event) → weight (come_in new events) ≡ 1 + weight events
come_weight new [] = refl
come_weight new (event ∷ events) =
    cond_both (nat_lt new.span.lo (page_at event)) (Event.Comes new ∷ (event ∷ events)) (event ∷ come_in new events) (λ list. weight list ≡ 1 + weight (event ∷ events))
    (λ first. refl) (λ later. by event (come_weight new events))
  where
    by : (e : Event) → weight (come_in new events) ≡ 1 + weight events → weight (e ∷ come_in new events) ≡ 1 + weight (e ∷ events)
    by (Event.Begins area) rest = omega (arith, rest)
    by (Event.Comes part) rest = omega (arith, rest)
    by (Event.Passed area) rest = rest

pub changes_short : (new : Option Record) (events : List Event) → length (along None None (come new events)) ≤ 1 + weight events
changes_short None events = omega (arith, along_short None None events)
changes_short (Some new) events = omega (arith, along_short None None (come_in new events), come_weight new events)
