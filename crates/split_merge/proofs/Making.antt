-- For `plan_cut`, `plan_move`, `plan_protect` and others: what a plan along the events of a list makes of it.
use Rattle.std.proofs.Common.{◌≡◌, ◌<◌, Bool, true, false, nat_lt, if◌then◌else◌, List, [], ◌∷◌, ◌++◌, Option, Some, None, refl, ap, ◌∙◌, sym, subst, arith}
use Rattle.std.specs.List.{AllByRecursion as Each}
use Rattle.std.specs.Option.{option_to_list, option_or}
use Rattle.std.proofs.lemmas.Bool.{cond-false}
use Rattle.std.proofs.lemmas.List.{append-nil, append_assoc}
use Rattle.mm_types.specs.declared.area.Record.{Record}
use Rattle.area_list.specs.Areas.{joins}
use Rattle.area_list.specs.Changes.{joined_area, merge_from, merge}
use Rattle.area_list.proofs.Elements.{Pairs, Each-weaker}
use Rattle.area_list.proofs.Merging.{joins_true}
use Rattle.split_merge.specs.declared.plan.Change.{Change}
use Rattle.split_merge.specs.declared.plan.Change.TheVariants.{Alter}
use Rattle.split_merge.specs.declared.planner.Merging.{Merging}
use Rattle.split_merge.specs.Internal.Planner.{Event, same_area, detaching, replacing, closing, taken, left, spare, covered, left_over, merging_behind, unsettled, merging_with, planned_with, along}
use Rattle.split_merge.proofs.Joining.{joins-joined_area}
use Rattle.split_merge.proofs.Turning.{Turns}
use Rattle.split_merge.proofs.Steps.{same_areas}
use Rattle.split_merge.proofs.Parting.{Unjoined}
use Rattle.split_merge.proofs.Events.{parts_in, olds_in, JoinsNo, IsJoinedByNo, Parted}

-- the areas that are made along the events, with the one that is being made
abbrev pub made : Option Record → List Event → List Record
made new [] = option_to_list new
made new (Event.Begins area ∷ events) = made new events
made None (Event.Comes part ∷ events) = made (Some part) events
made (Some new) (Event.Comes part ∷ events) = if joins new part then made (Some (joined_area new part)) events else new ∷ made (Some part) events
made new (Event.Passed area ∷ events) = option_to_list new ++ area ∷ made None events

-- the area that a merging makes, and the old one that it takes the place of
abbrev pub new_of_merging : Option Merging → Option Record
new_of_merging None = None
new_of_merging (Some merging) = Some merging.area

abbrev pub old_of_merging : Option Merging → List Record
old_of_merging None = []
old_of_merging (Some merging) = option_to_list merging.replaces

turns_detaching : (front : List Record) (old : Option Record) (areas : List Record) {plan : List Change} {list : List Record} → Turns plan (front ++ areas) list
    → Turns (detaching old ++ plan) (front ++ (option_to_list old ++ areas)) list
turns_detaching front None areas t = t
turns_detaching front (Some old) areas t = Turns.goes front old areas t

turns_replacing : (old : Option Record) (new : Record) {plan : List Change} {areas list : List Record} → Turns plan areas list
    → Turns (replacing old new ++ plan) (option_to_list old ++ areas) (new ∷ list)
turns_replacing None new t = Turns.comes new t
turns_replacing (Some old) new {plan = plan} {areas = areas} {list = list} t = by (same_area old new) refl
  where
    by : (same : Bool) → same_area old new ≡ same
        → Turns ((if same then [] else Alter old new ∷ []) ++ plan) (old ∷ areas) (new ∷ list)
    by true is = subst (λ other. Turns plan (old ∷ areas) (other ∷ list)) (same_areas old new is) (Turns.stays old t)
    by false is = Turns.becomes old new t

turns_closing : (merging : Option Merging) {plan : List Change} {areas list : List Record} → Turns plan areas list
    → Turns (closing merging ++ plan) (old_of_merging merging ++ areas) (option_to_list (new_of_merging merging) ++ list)
turns_closing None t = t
turns_closing (Some merging) t = turns_replacing merging.replaces merging.area t

-- the pending area is taken or left
pending_split : (pending : Option Record) (part : Record) (areas : List Record)
    → option_to_list (taken pending part) ++ (option_to_list (left pending part) ++ areas) ≡ option_to_list pending ++ areas
pending_split None part areas = refl
pending_split (Some old) part areas = by (nat_lt part.span.lo old.span.hi)
  where
    by : (test : Bool) → option_to_list (if test then Some old else None) ++ (option_to_list (if test then None else Some old) ++ areas) ≡ old ∷ areas
    by true = refl
    by false = refl

-- a merging that has an old area leaves another over, and else takes it
turns_sharing : (partner old : Option Record) (areas : List Record) {plan : List Change} {list : List Record}
    → Turns plan (option_to_list (option_or partner old) ++ areas) list
    → Turns (detaching (spare partner old) ++ plan) (option_to_list partner ++ (option_to_list old ++ areas)) list
turns_sharing None old areas t = t
turns_sharing (Some partner) old areas t = turns_detaching (partner ∷ []) old areas t

turns_part : (merging : Merging) (pending : Option Record) (part : Record) (events : List Event)
    → ((next : Merging) → Turns (along (left pending part) (Some next) events) (option_to_list next.replaces ++ (option_to_list (left pending part) ++ olds_in events))
    (made (Some next.area) events))
    → Turns (planned_with pending (Some merging) part ++ along (left pending part) (Some (merging_with pending (Some merging) part)) events)
    (option_to_list merging.replaces ++ (option_to_list pending ++ olds_in events)) (made (Some merging.area) (Event.Comes part ∷ events))
turns_part merging pending part events goes_on = by (joins merging.area part)
  where
    joined : Record
    joined = joined_area merging.area part

    rest : List Record
    rest = option_to_list (left pending part) ++ olds_in events

    by : (join : Bool)
        → Turns ((if join then detaching (spare merging.replaces (taken pending part)) else replacing merging.replaces merging.area)
        ++ along (left pending part) (Some (if join then record { replaces = option_or merging.replaces (taken pending part); area = joined }
        else record { replaces = taken pending part; area = part })) events)
        (option_to_list merging.replaces ++ (option_to_list pending ++ olds_in events))
        (if join then made (Some joined) events else merging.area ∷ made (Some part) events)
    by true = subst (λ areas. Turns (detaching (spare merging.replaces (taken pending part))
        ++ along (left pending part) (Some (record { replaces = option_or merging.replaces (taken pending part); area = joined })) events)
        (option_to_list merging.replaces ++ areas) (made (Some joined) events)) (pending_split pending part (olds_in events))
        (turns_sharing merging.replaces (taken pending part) rest (goes_on (record { replaces = option_or merging.replaces (taken pending part); area = joined })))
    by false = turns_replacing merging.replaces merging.area
        (subst (λ areas. Turns (along (left pending part) (Some (record { replaces = taken pending part; area = part })) events) areas (made (Some part) events))
        (pending_split pending part (olds_in events)) (goes_on (record { replaces = taken pending part; area = part })))

-- what is settled: the merging takes the pending old area, or that goes
turns_settling : (pending : Option Record) (merging : Option Merging) (areas : List Record) {plan : List Change} {list : List Record}
    → Turns plan (old_of_merging (merging_behind pending merging) ++ areas) list
    → Turns (detaching (unsettled pending merging) ++ plan) (old_of_merging merging ++ (option_to_list pending ++ areas)) list
turns_settling pending None areas t = turns_detaching [] pending areas t
turns_settling pending (Some merging) areas {plan = plan} {list = list} t = by merging.replaces pending t
  where
    by : (partner old : Option Record) → Turns plan (option_to_list (option_or partner (covered old merging.area)) ++ areas) list
        → Turns (detaching (left_over partner old merging.area) ++ plan) (option_to_list partner ++ (option_to_list old ++ areas)) list
    by (Some partner) old t = turns_detaching (partner ∷ []) old areas t
    by None None t = t
    by None (Some old) t = test (nat_lt old.span.lo merging.area.span.hi) t
      where
        test : (within : Bool) → Turns plan (option_to_list (if within then Some old else None) ++ areas) list
            → Turns (detaching (if within then None else Some old) ++ plan) (old ∷ areas) list
        test true t = t
        test false t = Turns.goes [] old areas t

-- and makes the same area
new_settled : (pending : Option Record) (merging : Option Merging) → new_of_merging (merging_behind pending merging) ≡ new_of_merging merging
new_settled pending None = refl
new_settled pending (Some merging) = refl

turns_end : (pending : Option Record) (merging : Option Merging)
    → Turns (detaching (unsettled pending merging) ++ closing (merging_behind pending merging)) (old_of_merging merging ++ (option_to_list pending ++ [])) (option_to_list (new_of_merging merging))
turns_end pending merging = turns_settling pending merging [] (subst (λ plan. Turns plan (old_of_merging last ++ []) (option_to_list (new_of_merging merging))) (append-nil (closing last))
    (subst (λ list. Turns (closing last ++ []) (old_of_merging last ++ []) list) (append-nil (option_to_list (new_of_merging last)) ∙ ap option_to_list (new_settled pending merging))
    (turns_closing last Turns.done)))
  where
    last : Option Merging
    last = merging_behind pending merging

-- the plan along these events turns the old areas into those that are made
pub turns_along : (pending : Option Record) (merging : Option Merging) (events : List Event)
    → Turns (along pending merging events) (old_of_merging merging ++ (option_to_list pending ++ olds_in events)) (made (new_of_merging merging) events)
turns_along pending merging [] = turns_end pending merging
turns_along pending merging (Event.Begins area ∷ events) =
    turns_settling pending merging (area ∷ olds_in events)
    (subst (λ new. Turns (along (Some area) (merging_behind pending merging) events) (old_of_merging (merging_behind pending merging) ++ area ∷ olds_in events) (made new events))
    (new_settled pending merging) (turns_along (Some area) (merging_behind pending merging) events))
turns_along pending None (Event.Comes part ∷ events) =
    subst (λ areas. Turns (along (left pending part) (Some (record { replaces = taken pending part; area = part })) events) areas (made (Some part) events))
    (pending_split pending part (olds_in events)) (turns_along (left pending part) (Some (record { replaces = taken pending part; area = part })) events)
turns_along pending (Some merging) (Event.Comes part ∷ events) =
    turns_part merging pending part events (λ next. turns_along (left pending part) (Some next) events)
turns_along pending merging (Event.Passed area ∷ events) =
    subst (λ plan. Turns plan (old_of_merging merging ++ (option_to_list pending ++ area ∷ olds_in events)) (option_to_list (new_of_merging merging) ++ area ∷ made None events))
    (sym (append_assoc (detaching (unsettled pending merging)) (closing (merging_behind pending merging)) (along None None events)))
    (turns_settling pending merging (area ∷ olds_in events)
    (subst (λ new. Turns (closing (merging_behind pending merging) ++ along None None events) (old_of_merging (merging_behind pending merging) ++ area ∷ olds_in events)
    (option_to_list new ++ area ∷ made None events)) (new_settled pending merging)
    (turns_closing (merging_behind pending merging) (Turns.stays area (turns_along None None events)))))

-- parts have pages
abbrev pub HasPages : Event → Type 0
HasPages (Event.Begins area) = Unit {0}
HasPages (Event.Comes part) = part.span.lo < part.span.hi
HasPages (Event.Passed area) = Unit {0}

-- the merge of areas after one, if there is one
abbrev merged : Option Record → List Record → List Record
merged None areas = merge areas
merged (Some new) areas = merge_from new areas

record EndsApart (new : Record) (events : List Event) : Type 0 where
  some : new.span.lo < new.span.hi
  apart : Each (JoinsNo new) events

abbrev MayFollow : Option Record → List Event → Type 0
MayFollow None events = Unit {0}
MayFollow (Some new) events = EndsApart new events

later : (new : Option Record) (event : Event) (events : List Event) → MayFollow new (event ∷ events) → MayFollow new events
later None event events may = tt
later (Some new) event events may = record { some = may.some; apart = may.apart.1 }

-- where the area that is being made joins a part, it ends as the part does
joined_apart : (new part : Record) (events : List Event) → EndsApart new (Event.Comes part ∷ events) → part.span.lo < part.span.hi → Each (JoinsNo part) events
    → joins new part ≡ true → EndsApart (joined_area new part) events
joined_apart new part events may some apart join = let j = joins_true new part join in record {
  some = omega (arith, may.some, some, j.touch);
  apart = Each-weaker (JoinsNo part) (JoinsNo (joined_area new part)) same events apart;
}
  where
    same : (event : Event) → JoinsNo part event → JoinsNo (joined_area new part) event
    same (Event.Begins area) h = tt
    same (Event.Comes other) h = tt
    same (Event.Passed area) h = joins-joined_area new part area may.some some (joins_true new part join) ∙ h

unjoined_in : (area : Record) (events : List Event) → Each (IsJoinedByNo area) events → Each (Unjoined area) (parts_in events)
unjoined_in area [] each = tt
unjoined_in area (Event.Begins other ∷ events) each = unjoined_in area events each.1
unjoined_in area (Event.Comes part ∷ events) each = (each.0, unjoined_in area events each.1)
unjoined_in area (Event.Passed other ∷ events) each = (each.0, unjoined_in area events each.1)

merge_from_front : (area : Record) (areas : List Record) → Each (Unjoined area) areas → merge_from area areas ≡ area ∷ merge areas
merge_from_front area [] apart = refl
merge_from_front area (next ∷ areas) apart = cond-false (joins area next) (merge_from (joined_area area next) areas) (area ∷ merge_from next areas) apart.0

-- an area that is passed over stays
passed_over : (new : Option Record) (area : Record) (events : List Event) (rest : List Record) → MayFollow new (Event.Passed area ∷ events)
    → Each (IsJoinedByNo area) events → rest ≡ merge (parts_in events) → option_to_list new ++ area ∷ rest ≡ merged new (area ∷ parts_in events)
passed_over None area events rest may apart is = ap (λ list. area ∷ list) is ∙ sym (merge_from_front area (parts_in events) (unjoined_in area events apart))
passed_over (Some new) area events rest may apart is =
    ap (λ list. new ∷ (area ∷ list)) is
    ∙ ap (λ list. new ∷ list) (sym (merge_from_front area (parts_in events) (unjoined_in area events apart)))
    ∙ sym (cond-false (joins new area) (merge_from (joined_area new area) (parts_in events)) (new ∷ merge_from area (parts_in events)) may.apart.0)

-- what is made is the merge of the parts
made_is : (new : Option Record) (events : List Event) → MayFollow new events → Each HasPages events → Pairs Parted events
    → made new events ≡ merged new (parts_in events)
made_is None [] may some parted = refl
made_is (Some new) [] may some parted = refl
made_is new (Event.Begins area ∷ events) may some parted = made_is new events (later new (Event.Begins area) events may) some.1 parted.1
made_is None (Event.Comes part ∷ events) may some parted = made_is (Some part) events (record { some = some.0; apart = parted.0 }) some.1 parted.1
made_is (Some new) (Event.Comes part ∷ events) may some parted = by (joins new part) refl
    (λ m. made_is (Some (joined_area new part)) events m some.1 parted.1) (made_is (Some part) events (record { some = some.0; apart = parted.0 }) some.1 parted.1)
  where
    by : (join : Bool) → joins new part ≡ join
        → (EndsApart (joined_area new part) events → made (Some (joined_area new part)) events ≡ merge_from (joined_area new part) (parts_in events))
        → made (Some part) events ≡ merge_from part (parts_in events)
        → (if join then made (Some (joined_area new part)) events else new ∷ made (Some part) events)
        ≡ (if join then merge_from (joined_area new part) (parts_in events) else new ∷ merge_from part (parts_in events))
    by true is goes_on begins = goes_on (joined_apart new part events may some.0 parted.0 is)
    by false is goes_on begins = ap (λ rest. new ∷ rest) begins
made_is new (Event.Passed area ∷ events) may some parted = passed_over new area events (made None events) may parted.0 (made_is None events tt some.1 parted.1)

pub made_merge : (events : List Event) → Each HasPages events → Pairs Parted events → made None events ≡ merge (parts_in events)
made_merge events some parted = made_is None events tt some parted
