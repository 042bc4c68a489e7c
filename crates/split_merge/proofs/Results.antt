-- For `plan_cut` and `plan_put`: what the plan of the planner makes of a list, and that it is local.
use Rattle.std.proofs.Common.{◌≡◌, ◌≤◌, ◌<◌, ◌⊎◌, inl, inr, ℕ, Bool, true, false, ◌&&◌, ◌||◌, nat_le, List, [], ◌∷◌, Option, Some, None, IfSome, refl, ap, ◌∙◌, sym, subst, arith}
use Rattle.std.specs.List.{flat_map, Contains, AllByRecursion as Each}
use Rattle.std.proofs.lemmas.Bool.{cases_lt, cond-false}
use Rattle.std.proofs.lemmas.Bool.Decides.{nat_tests}
use Rattle.std.proofs.lemmas.List.Elements.{All-from_recursion}
use Rattle.mm_types.specs.declared.area.Span.{Span}
use Rattle.mm_types.specs.declared.area.Record.{Record}
use Rattle.mm_types.specs.Records.{IsValid}
use Rattle.area_list.specs.Areas.{IsCanonical, joins}
use Rattle.area_list.specs.Changes.{joined_area, merge_from, merge, insert_area}
use Rattle.area_list.proofs.Elements.{Pairs, Each-weaker, Each-always}
use Rattle.area_list.proofs.Order.{pairs_from_canonical}
use Rattle.split_merge.specs.declared.becoming.Becoming.{Becoming}
use Rattle.split_merge.specs.declared.becoming.Becoming.TheVariants.{Outside}
use Rattle.split_merge.specs.Plans.{olds_of, is_near, Makes, IsLocal, IsLocalToEither}
use Rattle.split_merge.specs.Internal.Becoming.{lower_span, upper_span, parts_left, AreSpansInOrder}
use Rattle.split_merge.specs.Internal.Planner.{Event, along, come, events_at, events_along, all_planned}
use Rattle.split_merge.proofs.Lists.{length-filter_wider}
use Rattle.split_merge.proofs.Walking.{in_order}
use Rattle.split_merge.proofs.Ascending.{ascending}
use Rattle.split_merge.proofs.Replacing.{each_contained}
use Rattle.split_merge.proofs.Turning.{Turns, turns_makes}
use Rattle.split_merge.proofs.Joining.{joins_far}
use Rattle.split_merge.proofs.Passing.{is_close, events_close, events_far}
use Rattle.split_merge.proofs.Parting.{IsPartOf, Unjoined, parts_within, parts_away, parts_below, parts_above, Each-outside_both, counted_short}
use Rattle.split_merge.proofs.Walks.{weight_along}
use Rattle.split_merge.proofs.Events.{Precedes, Beside, Parted, IsAlone, IsClear, parts_in, olds_in, along_ascends, come_ascends, parts_come, parts_along, olds_come, olds_along, along_parted, come_parted, Each-come, Each-along}
use Rattle.split_merge.proofs.Making.{HasPages, made, made_merge, turns_along}
use Rattle.split_merge.proofs.Changing.{changes_real, changes_olds, changes_short, begun_in, begun_come, begun_append, begun_comes}

-- an area that is not near a span ends below it or begins above it
away_from : (span : Span) (area : Record) → is_near span area ≡ false → (area.span.hi < span.lo) ⊎ (span.hi < area.span.lo)
away_from span area far = by (cases_lt area.span.hi span.lo) (cases_lt span.hi area.span.lo)
  where
    near_tests : (lo hi from to : ℕ) → (nat_le lo to && nat_le from hi) ≡ false → from ≤ hi → lo ≤ to → ⊥
    near_tests lo hi from to far begins ends = grind (arith, nat_tests)

    by : (area.span.hi < span.lo) ⊎ (span.lo ≤ area.span.hi) → (span.hi < area.span.lo) ⊎ (area.span.lo ≤ span.hi)
        → (area.span.hi < span.lo) ⊎ (span.hi < area.span.lo)
    by (inl below) other = inl below
    by (inr begins) (inl above) = inr above
    by (inr begins) (inr ends) = absurd (near_tests area.span.lo area.span.hi span.lo span.hi far begins ends)

neither : (a b : Bool) → (a || b) ≡ false → (a ≡ false) × (b ≡ false)
neither false false h = (refl, refl)
neither false true h = cc
neither true b h = cc

-- an area that is passed over lies away from both spans
record IsAway (becoming : Becoming) (area : Record) : Type 0 where
  low : (area.span.hi < (lower_span becoming).lo) ⊎ ((lower_span becoming).hi < area.span.lo)
  high : (area.span.hi < (upper_span becoming).lo) ⊎ ((upper_span becoming).hi < area.span.lo)

is_away : (becoming : Becoming) (area : Record) → is_close becoming area ≡ false → IsAway becoming area
is_away becoming area far = let both = neither (is_near (lower_span becoming) area) (is_near (upper_span becoming) area) far in
    record { low = away_from (lower_span becoming) area both.0; high = away_from (upper_span becoming) area both.1 }

less_or : {a b c d : ℕ} → (a < b) ⊎ (c < d) → (a ≤ b) ⊎ (c ≤ d)
less_or (inl below) = inl (omega (arith, below))
less_or (inr above) = inr (omega (arith, above))

alone : (becoming : Becoming) (areas : List Record) → AreSpansInOrder (lower_span becoming) (upper_span becoming) → IsAlone becoming areas
alone becoming areas order = record {
  below = λ area other valid v apart far. parts_below becoming area other order v apart (is_away becoming other far).low;
  above = λ area other valid v apart far. parts_above becoming area other order v apart (is_away becoming other far).low;
}

-- the list with a new area in its place, if there is one
abbrev pub with_new : Option Record → List Record → List Record
with_new None areas = areas
with_new (Some new) areas = insert_area new areas

-- a new area fits into what a list brings
pub record FitsIn (events : List Event) (new : Record) : Type 0 where
  pub some : new.span.lo < new.span.hi
  pub beside : Each (Beside new) events
  pub clear : Each (IsClear new) events

-- the new area takes the pages of a span that go
pub fits_in : (low high : Span) (areas : List Record) (new : Record) → AreSpansInOrder low high → Each IsValid areas → new.span.lo < new.span.hi
    → (new.span ≡ low) ⊎ (new.span ≡ high) → FitsIn (events_along (Outside low high) areas) new
fits_in low high areas new order valid some is = record {
  some = some;
  beside = Each-along (Beside new) IsValid (Outside low high) areas (λ area v. tt)
      (λ area v. Each-outside_both (λ part. Beside new (Event.Comes part)) low high area order (λ lo hi begin has end below above. apart lo hi has below above is))
      (λ area v far. away area v (is_away (Outside low high) area far) is) valid;
  clear = Each-along (IsClear new) IsValid (Outside low high) areas (λ area v. tt)
      (λ area v. Each-always (λ part. IsClear new (Event.Comes part)) (λ part. tt) (parts_left (Outside low high) area))
      (λ area v far. clear area v (is_away (Outside low high) area far) is) valid;
}
  where
    apart : (lo hi : ℕ) → lo < hi → (hi ≤ low.lo) ⊎ (low.hi ≤ lo) → (hi ≤ high.lo) ⊎ (high.hi ≤ lo) → (new.span ≡ low) ⊎ (new.span ≡ high) → lo ≡ new.span.lo → ⊥
    apart lo hi has (inl below) other (inl same) equal = omega (arith, ap (λ (s : Span). s.lo) same)
    apart lo hi has (inr above) other (inl same) equal = omega (arith, ap (λ (s : Span). s.hi) same, some)
    apart lo hi has first (inl below) (inr same) equal = omega (arith, ap (λ (s : Span). s.lo) same)
    apart lo hi has first (inr above) (inr same) equal = omega (arith, ap (λ (s : Span). s.hi) same, some)

    away_one : (area : Record) → IsValid area → IsAway (Outside low high) area → (new.span ≡ low) ⊎ (new.span ≡ high)
        → (area.span.hi < new.span.lo) ⊎ (new.span.hi < area.span.lo)
    away_one area v a (inl same) = subst (λ (s : Span). (area.span.hi < s.lo) ⊎ (s.hi < area.span.lo)) (sym same) a.low
    away_one area v a (inr same) = subst (λ (s : Span). (area.span.hi < s.lo) ⊎ (s.hi < area.span.lo)) (sym same) a.high

    away : (area : Record) → IsValid area → IsAway (Outside low high) area → (new.span ≡ low) ⊎ (new.span ≡ high) → area.span.lo ≡ new.span.lo → ⊥
    away area v a either equal = by (away_one area v a either)
      where
        by : (area.span.hi < new.span.lo) ⊎ (new.span.hi < area.span.lo) → ⊥
        by (inl below) = omega (arith, v.some_pages)
        by (inr above) = omega (arith, some)

    clear : (area : Record) → IsValid area → IsAway (Outside low high) area → (new.span ≡ low) ⊎ (new.span ≡ high) → Unjoined new area × Unjoined area new
    clear area v a either = by (away_one area v a either)
      where
        by : (area.span.hi < new.span.lo) ⊎ (new.span.hi < area.span.lo) → Unjoined new area × Unjoined area new
        by (inl below) = (joins_far new area (λ touch. omega (arith, v.some_pages, some)), joins_far area new (λ touch. omega arith))
        by (inr above) = (joins_far new area (λ touch. omega arith), joins_far area new (λ touch. omega (arith, v.some_pages, some)))

-- what is known of all that a list brings, with a new area in its place
record AreSound (areas : List Record) (events : List Event) (parts : List Record) : Type 0 where
  ordered : Pairs Precedes events
  parted : Pairs Parted events
  pages : Each HasPages events
  olds : olds_in events ≡ areas
  list : parts_in events ≡ parts

sound : (end : ℕ) (becoming : Becoming) (areas : List Record) → IsCanonical end areas → AreSpansInOrder (lower_span becoming) (upper_span becoming)
    → AreSound areas (events_along becoming areas) (flat_map (parts_left becoming) areas)
sound end becoming areas c order = let o = in_order end areas c in record {
  ordered = along_ascends becoming areas order o;
  parted = along_parted becoming areas (alone becoming areas order) o.valid (pairs_from_canonical end areas c);
  pages = Each-along HasPages IsValid becoming areas (λ area v. tt)
      (λ area v. Each-weaker (IsPartOf area) (λ part. HasPages (Event.Comes part)) (λ part p. p.some) (parts_left becoming area) (parts_within becoming area order))
      (λ area v far. tt) o.valid;
  olds = olds_along becoming areas;
  list = parts_along becoming areas (Each-weaker IsValid (λ area. is_close becoming area ≡ false → parts_left becoming area ≡ area ∷ [])
      (λ area v far. parts_away becoming area order v (less_or (is_away becoming area far).low) (less_or (is_away becoming area far).high)) areas o.valid);
}

sound_with : (areas : List Record) (events : List Event) (parts : List Record) (new : Option Record) → AreSound areas events parts → IfSome new (FitsIn events)
    → AreSound areas (come new events) (with_new new parts)
sound_with areas events parts None s fits = s
sound_with areas events parts (Some new) s fits = record {
  ordered = come_ascends new events fits.beside s.ordered;
  parted = come_parted new events fits.clear s.ordered s.parted;
  pages = Each-come HasPages new events fits.some s.pages;
  olds = olds_come (Some new) events ∙ s.olds;
  list = parts_come new events fits.beside s.ordered ∙ ap (insert_area new) s.list;
}

-- the plan makes the merge of what becomes of the areas, with the new area in its place
pub plan_makes : (end : ℕ) (becoming : Becoming) (new : Option Record) (areas list : List Record) → IsCanonical end areas → AreSpansInOrder (lower_span becoming) (upper_span becoming)
    → IfSome new (FitsIn (events_along becoming areas)) → list ≡ merge (with_new new (flat_map (parts_left becoming) areas)) → IsCanonical end list
    → Makes (all_planned becoming new areas) areas list
plan_makes end becoming new areas list c order fits is after =
    let events = come new (events_along becoming areas) in
    let s = sound_with areas (events_along becoming areas) (flat_map (parts_left becoming) areas) new (sound end becoming areas c order) fits in
    let makes : made None events ≡ list = made_merge events s.pages s.parted ∙ ap merge s.list ∙ sym is in
    turns_makes (subst (λ made_list. Turns (along None None events) areas made_list) makes
    (subst (λ olds. Turns (along None None events) olds (made None events)) s.olds (turns_along None None events)))
    (ascending end areas c) (ascending end list after)
    (changes_real areas events (Each-weaker IsValid (λ area. area.span.lo < area.span.hi) (λ area v. v.some_pages) areas (in_order end areas c).valid) (subst (λ olds. Each (Contains olds) areas) (sym s.olds) (each_contained areas)) s.ordered)

-- only areas near the spans go
begun_close : (becoming : Becoming) (areas : List Record) → Each (λ area. is_close becoming area ≡ true) (begun_in (events_along becoming areas))
begun_close becoming [] = tt
begun_close becoming (area ∷ areas) =
    begun_append (λ a. is_close becoming a ≡ true) (events_at becoming area) (events_along becoming areas) (by (is_close becoming area) refl) (begun_close becoming areas)
  where
    by : (test : Bool) → is_close becoming area ≡ test → Each (λ a. is_close becoming a ≡ true) (begun_in (events_at becoming area))
    by true close = subst (λ events. Each (λ a. is_close becoming a ≡ true) (begun_in events)) (sym (events_close becoming area close))
        (close, begun_comes (λ a. is_close becoming a ≡ true) (parts_left becoming area))
    by false far = subst (λ events. Each (λ a. is_close becoming a ≡ true) (begun_in events)) (sym (events_far becoming area far)) tt

-- the plan is local to the two spans
pub plan_local_either : (end : ℕ) (becoming : Becoming) (new : Option Record) (areas : List Record) → IsCanonical end areas → AreSpansInOrder (lower_span becoming) (upper_span becoming)
    → IsLocalToEither (lower_span becoming) (upper_span becoming) areas (all_planned becoming new areas)
plan_local_either end becoming new areas c order = record {
  near = All-from_recursion (λ old. is_close becoming old ≡ true) (olds_of (all_planned becoming new areas))
      (changes_olds (λ old. is_close becoming old ≡ true) (come new (events_along becoming areas))
      (subst (Each (λ old. is_close becoming old ≡ true)) (sym (begun_come new (events_along becoming areas))) (begun_close becoming areas)));
  short = omega (
    arith,
    changes_short new (events_along becoming areas),
    weight_along becoming areas,
    counted_short becoming areas order (in_order end areas c),
  );
}

same_either : (a : Bool) → (a || a) ≡ true → a ≡ true
same_either true h = refl
same_either false h = h

-- and to one, where they are one
pub plan_local : (end : ℕ) (becoming : Becoming) (span : Span) (new : Option Record) (areas : List Record) → IsCanonical end areas
    → AreSpansInOrder (lower_span becoming) (upper_span becoming) → lower_span becoming ≡ span → upper_span becoming ≡ span → IsLocal span areas (all_planned becoming new areas)
plan_local end becoming span new areas c order low high = record {
  near = All-from_recursion (λ old. is_near span old ≡ true) (olds_of (all_planned becoming new areas))
      (changes_olds (λ old. is_near span old ≡ true) (come new (events_along becoming areas))
      (subst (Each (λ old. is_near span old ≡ true)) (sym (begun_come new (events_along becoming areas)))
      (Each-weaker (λ old. is_close becoming old ≡ true) (λ old. is_near span old ≡ true) one (begun_in (events_along becoming areas)) (begun_close becoming areas))));
  short = omega (
    arith,
    changes_short new (events_along becoming areas),
    weight_along becoming areas,
    counted_short becoming areas order (in_order end areas c),
    length-filter_wider (is_close becoming) (is_near span) areas (Each-always (λ area. is_close becoming area ≡ true → is_near span area ≡ true) one areas),
  );
}
  where
    one : (area : Record) → is_close becoming area ≡ true → is_near span area ≡ true
    one area close = same_either (is_near span area)
        (ap (λ s. is_near span area || is_near s area) (sym high) ∙ ap (λ s. is_near s area || is_near (upper_span becoming) area) (sym low) ∙ close)

-- areas that do not join stay as they are in a merge
merge_from_nothing : (first : Record) (areas : List Record) → Pairs Unjoined (first ∷ areas) → merge_from first areas ≡ first ∷ areas
merge_from_nothing first [] pairs = refl
merge_from_nothing first (next ∷ areas) pairs =
    cond-false (joins first next) (merge_from (joined_area first next) areas) (first ∷ merge_from next areas) pairs.0.0
    ∙ ap (λ rest. first ∷ rest) (merge_from_nothing next areas pairs.1)

pub merge_nothing : (areas : List Record) → Pairs Unjoined areas → merge areas ≡ areas
merge_nothing [] pairs = refl
merge_nothing (first ∷ areas) pairs = merge_from_nothing first areas pairs
