-- For `plan_cut`, `plan_move`, `plan_protect` and others: plans that turn one list of areas into another.
use Rattle.std.proofs.Common.{◌≡◌, ◌≢◌, false, List, [], ◌∷◌, ◌++◌, refl, ap, sym, subst, ◌∙◌, AllPairs, arith}
use Rattle.std.specs.List.{Contains, AllByRecursion as Each}
use Rattle.std.proofs.lemmas.List.Elements.{All-from_recursion, All-contains}
use Rattle.std.proofs.lemmas.List.Kept.{AllPairs-cons}
use Rattle.mm_types.specs.declared.area.Record.{Record}
use Rattle.area_list.proofs.Elements.{Pairs, Each-weaker, Each-append, Each-left, Each-right}
use Rattle.split_merge.specs.declared.plan.Change.{Change}
use Rattle.split_merge.specs.declared.plan.Change.TheVariants.{Detach, Alter, Add}
use Rattle.split_merge.specs.Plans.{olds_of, news_of, starts_alike, without, with_all, applied, Makes}
use Rattle.split_merge.proofs.Ascending.{Below, with_all_behind, with_all_in_front}
use Rattle.split_merge.proofs.Replacing.{each_contained, without_middle, without_behind, apart}

-- a plan that turns the one list into the other, area by area: the first old area stays or becomes the first new one, a new one comes first, or an old one among the first goes
pub data Turns : List Change → List Record → List Record → Type 0 where
  done : Turns [] [] []
  stays : {plan : List Change} {areas list : List Record} (area : Record) → Turns plan areas list → Turns plan (area ∷ areas) (area ∷ list)
  goes : {plan : List Change} (front : List Record) (old : Record) (areas : List Record) {list : List Record} → Turns plan (front ++ areas) list → Turns (Detach old ∷ plan) (front ++ old ∷ areas) list
  becomes : {plan : List Change} {areas list : List Record} (old new : Record) → Turns plan areas list → Turns (Alter old new ∷ plan) (old ∷ areas) (new ∷ list)
  comes : {plan : List Change} {areas list : List Record} (new : Record) → Turns plan areas list → Turns (Add new ∷ plan) areas (new ∷ list)

-- what holds of each area holds of one among them, and of the others
middle : (P : Record → Type 0) (front : List Record) (old : Record) (areas : List Record) → Each P (front ++ old ∷ areas) → P old
middle P front old areas each = (Each-right P front (old ∷ areas) each).0

others : (P : Record → Type 0) (front : List Record) (old : Record) (areas : List Record) → Each P (front ++ old ∷ areas) → Each P (front ++ areas)
others P front old areas each = Each-append P front areas (Each-left P front (old ∷ areas) each) (Each-right P front (old ∷ areas) each).1

-- in an ascending list, those before an area and those after it
before : (front : List Record) (old : Record) (areas : List Record) → Pairs Below (front ++ old ∷ areas) → Each (λ first. Below first old) front
before [] old areas pairs = tt
before (first ∷ front) old areas pairs = (middle (Below first) front old areas pairs.0, before front old areas pairs.1)

after : (front : List Record) (old : Record) (areas : List Record) → Pairs Below (front ++ old ∷ areas) → Each (Below old) areas
after [] old areas pairs = pairs.0
after (first ∷ front) old areas pairs = after front old areas pairs.1

ascend_others : (front : List Record) (old : Record) (areas : List Record) → Pairs Below (front ++ old ∷ areas) → Pairs Below (front ++ areas)
ascend_others [] old areas pairs = pairs.1
ascend_others (first ∷ front) old areas pairs = (others (Below first) front old areas pairs.0, ascend_others front old areas pairs.1)

-- the area is none of the others
differs : (front : List Record) (old : Record) (areas : List Record) → Pairs Below (front ++ old ∷ areas) → Each (λ other. old ≢ other) (front ++ areas)
differs front old areas pairs = Each-append (λ other. old ≢ other) front areas
    (Each-weaker (λ first. Below first old) (λ other. old ≢ other) (λ other below same. omega (arith, ap (λ (r : Record). r.span.lo) same)) front
    (before front old areas pairs))
    (Each-weaker (Below old) (λ other. old ≢ other) (λ other below same. omega (arith, ap (λ (r : Record). r.span.lo) same)) areas
    (after front old areas pairs))

-- what holds of each area of the list holds of those that the plan takes away
pub turns_olds : {plan : List Change} {areas list : List Record} → Turns plan areas list → (P : Record → Type 0) → Each P areas → Each P (olds_of plan)
turns_olds Turns.done P each = tt
turns_olds (Turns.stays area t) P each = turns_olds t P each.1
turns_olds (Turns.goes front old areas t) P each = (middle P front old areas each, turns_olds t P (others P front old areas each))
turns_olds (Turns.becomes old new t) P each = (each.0, turns_olds t P each.1)
turns_olds (Turns.comes new t) P each = turns_olds t P each

-- these are distinct
olds_distinct : {plan : List Change} {areas list : List Record} → Turns plan areas list → Pairs Below areas → Pairs (λ a b. a ≢ b) (olds_of plan)
olds_distinct Turns.done pairs = tt
olds_distinct (Turns.stays area t) pairs = olds_distinct t pairs.1
olds_distinct (Turns.goes front old areas t) pairs =
    (turns_olds t (λ other. old ≢ other) (differs front old areas pairs), olds_distinct t (ascend_others front old areas pairs))
olds_distinct (Turns.becomes {areas = areas} old new t) pairs =
    (turns_olds t (λ other. old ≢ other) (differs [] old areas pairs), olds_distinct t pairs.1)
olds_distinct (Turns.comes new t) pairs = olds_distinct t pairs

AllPairs-from_Pairs : (areas : List Record) → Pairs (λ a b. a ≢ b) areas → AllPairs (λ a b. a ≢ b) areas
AllPairs-from_Pairs [] pairs = λ i j d before within. absurd (omega arith)
AllPairs-from_Pairs (area ∷ areas) pairs = AllPairs-cons (λ a b. a ≢ b) area areas
    (All-from_recursion (λ b. area ≢ b) areas pairs.0) (AllPairs-from_Pairs areas pairs.1)

-- and what holds of each area of the new list of those that it brings
turns_news : {plan : List Change} {areas list : List Record} → Turns plan areas list → (P : Record → Type 0) → Each P list → Each P (news_of plan)
turns_news Turns.done P each = tt
turns_news (Turns.stays area t) P each = turns_news t P each.1
turns_news (Turns.goes front old areas t) P each = turns_news t P each
turns_news (Turns.becomes old new t) P each = (each.0, turns_news t P each.1)
turns_news (Turns.comes new t) P each = (each.0, turns_news t P each.1)

without_stays : (area : Record) (areas list : List Record) (plan : List Change) → Turns plan areas list → Pairs Below (area ∷ areas)
    → without (olds_of plan) (area ∷ areas) ≡ area ∷ without (olds_of plan) areas
without_stays area areas list plan t pairs = without_behind area (olds_of plan) areas
    (Each-weaker (Below area) (λ old. starts_alike area old ≡ false) (λ old below. apart area.span.lo old.span.lo below) (olds_of plan)
    (turns_olds t (Below area) pairs.0))

without_goes : (front : List Record) (old : Record) (areas olds : List Record) → Pairs Below (front ++ old ∷ areas)
    → without (old ∷ olds) (front ++ old ∷ areas) ≡ without olds (front ++ areas)
without_goes front old areas olds pairs = ap (without olds) (without_middle front old areas (before front old areas pairs) (after front old areas pairs))

-- what holds of each area of the new list holds of those that stay
turns_kept : {plan : List Change} {areas list : List Record} → Turns plan areas list → (P : Record → Type 0) → Pairs Below areas → Each P list
    → Each P (without (olds_of plan) areas)
turns_kept Turns.done P pairs each = tt
turns_kept (Turns.stays {plan = plan} {areas = areas} {list = list} area t) P pairs each =
    subst (Each P) (sym (without_stays area areas list plan t pairs)) (each.0, turns_kept t P pairs.1 each.1)
turns_kept (Turns.goes {plan = plan} front old areas t) P pairs each =
    subst (Each P) (sym (without_goes front old areas (olds_of plan) pairs)) (turns_kept t P (ascend_others front old areas pairs) each)
turns_kept (Turns.becomes {plan = plan} {areas = areas} old new t) P pairs each =
    subst (Each P) (sym (without_goes [] old areas (olds_of plan) pairs)) (turns_kept t P pairs.1 each.1)
turns_kept (Turns.comes new t) P pairs each = turns_kept t P pairs each.1

-- a new area comes before those after it
turns_new : (new : Record) {plan : List Change} {areas list : List Record} → Turns plan areas list → Pairs Below areas → Pairs Below (new ∷ list)
    → with_all (news_of plan) (without (olds_of plan) areas) ≡ list
    → with_all (new ∷ news_of plan) (without (olds_of plan) areas) ≡ new ∷ list
turns_new new {plan = plan} {areas = areas} {list = list} t pairs ascend is = with_all_in_front (new ∷ []) (news_of plan) (without (olds_of plan) areas) list ascend
    (λ P each. (turns_news t P each, turns_kept t P pairs each)) is

turns_result : {plan : List Change} {areas list : List Record} → Turns plan areas list → Pairs Below areas → Pairs Below list
    → with_all (news_of plan) (without (olds_of plan) areas) ≡ list
turns_result Turns.done pairs ascend = refl
turns_result (Turns.stays {plan = plan} {areas = areas} {list = list} area t) pairs ascend =
    ap (with_all (news_of plan)) (without_stays area areas list plan t pairs)
    ∙ with_all_behind area (news_of plan) (without (olds_of plan) areas) (turns_news t (Below area) ascend.0)
    ∙ ap (λ rest. area ∷ rest) (turns_result t pairs.1 ascend.1)
turns_result (Turns.goes {plan = plan} front old areas t) pairs ascend =
    ap (with_all (news_of plan)) (without_goes front old areas (olds_of plan) pairs) ∙ turns_result t (ascend_others front old areas pairs) ascend
turns_result (Turns.becomes {plan = plan} {areas = areas} old new t) pairs ascend =
    ap (with_all (new ∷ news_of plan)) (without_goes [] old areas (olds_of plan) pairs) ∙ turns_new new t pairs.1 ascend (turns_result t pairs.1 ascend.1)
turns_result (Turns.comes new t) pairs ascend = turns_new new t pairs ascend (turns_result t pairs ascend.1)

turns_applied : {plan : List Change} {areas list : List Record} → Turns plan areas list → Pairs Below areas → Pairs Below list → applied plan areas ≡ list
unfolding applied
turns_applied t pairs ascend = turns_result t pairs ascend

-- the two areas begin at different pages
abbrev pub Unlike : Record → Record → Type 0
Unlike a b = a.span.lo ≡ b.span.lo → ⊥

-- a change of a list is real where an area becomes another, at whose first page no third begins, or is added where none begins
abbrev pub IsRealChange : List Record → Change → Type 0
IsRealChange areas (Detach old) = Unit {0}
IsRealChange areas (Alter old new) = Each (λ area. new.span.lo ≡ area.span.lo → old ≡ area) areas × (old ≢ new)
IsRealChange areas (Add new) = Each (Unlike new) areas

each_real : (areas olds : List Record) → Each (Contains areas) olds → (plan : List Change) → Each (Contains areas) (olds_of plan)
    → Each (IsRealChange areas) plan → Each (λ new. ¬ (Contains olds new)) (news_of plan)
each_real areas olds members [] here real = tt
each_real areas olds members (Detach old ∷ plan) here real = each_real areas olds members plan here.1 real.1
each_real areas olds members (Alter old new ∷ plan) here real = (
  (λ taken. real.0.1 (All-contains (λ area. new.span.lo ≡ area.span.lo → old ≡ area) areas new
      (All-from_recursion (λ area. new.span.lo ≡ area.span.lo → old ≡ area) areas real.0.0)
      (All-contains (Contains areas) olds new (All-from_recursion (Contains areas) olds members) taken) refl)),
  each_real areas olds members plan here.1 real.1,
)
each_real areas olds members (Add new ∷ plan) here real = (
  (λ taken. All-contains (Unlike new) areas new (All-from_recursion (Unlike new) areas real.0)
      (All-contains (Contains areas) olds new (All-from_recursion (Contains areas) olds members) taken) refl),
  each_real areas olds members plan here real.1,
)

-- such a plan makes the new list, where both are in ascending order and each change is real
pub turns_makes : {plan : List Change} {areas list : List Record} → Turns plan areas list → Pairs Below areas → Pairs Below list
    → Each (IsRealChange areas) plan → Makes plan areas list
turns_makes {plan = plan} {areas = areas} t pairs ascend real =
    let members : Each (Contains areas) (olds_of plan) = turns_olds t (Contains areas) (each_contained areas) in
    record {
      plan_of = record {
        members = All-from_recursion (Contains areas) (olds_of plan) members;
        distinct = AllPairs-from_Pairs (olds_of plan) (olds_distinct t pairs);
      };
      result = turns_applied t pairs ascend;
      real = All-from_recursion (λ new. ¬ (Contains (olds_of plan) new)) (news_of plan)
          (each_real areas (olds_of plan) members plan members real);
    }
