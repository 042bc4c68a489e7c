-- For `Store::insert`, `Store::remove` and others: a change of one part of a list leaves what stands before and after it.
use Rattle.std.proofs.Common.{◌≡◌, ◌≤◌, ◌<◌, inl, inr, ℕ, Bool, true, false, not, if◌then◌else◌, nat_eq, nat_lt, List, [], ◌∷◌, ◌++◌, get_or, refl, ap, ◌∙◌, subst, arith}
use Rattle.std.specs.List.{filter, AllByRecursion as Each}
use Rattle.std.proofs.lemmas.Bool.{cases_eq, cond-true, cond-false, lt-ltb, le-ltb}
use Rattle.std.proofs.lemmas.Bool.Decides.{nat_tests}
use Rattle.std.proofs.lemmas.List.Elements.{filter-append}
use Rattle.mm_types.specs.declared.area.Record.{Record}
use Rattle.area_list.specs.Changes.{insert_area}
use Rattle.area_list.proofs.Elements.{Each-weaker}
use Rattle.split_merge.specs.Plans.{starts_alike, without}
use Rattle.split_merge.proofs.Lists.{filter_all}
use Rattle.split_merge.specs.Sorted.{BeginsRise, BeginsAscend}

pub rise_from_ascend : (areas : List Record) → BeginsAscend areas → BeginsRise areas
rise_from_ascend areas ascend i j d order within = elim (cases_eq i j) [
  | inl same ↦ subst (λ k. (get_or areas i d).span.lo ≤ (get_or areas k d).span.lo) same (omega arith)
  | inr apart ↦ omega (arith, ascend i j d (omega arith) within)
]

-- an area that goes out lies above the first part and below the last
pub record IsAmong (front back : List Record) (old : Record) : Type 0 where
  pub above : Each (λ area. area.span.lo < old.span.lo) front
  pub below : Each (λ area. old.span.lo < area.span.lo) back

unlike_below : (a b : ℕ) → a < b → not (nat_eq a b) ≡ true
unlike_below a b below = grind (arith, nat_tests)

unlike_above : (a b : ℕ) → b < a → not (nat_eq a b) ≡ true
unlike_above a b above = grind (arith, nat_tests)

pub without_among : (olds front middle back : List Record) → Each (IsAmong front back) olds
    → without olds (front ++ (middle ++ back)) ≡ front ++ (without olds middle ++ back)
without_among [] front middle back among = refl
without_among (old ∷ olds) front middle back among =
    ap (without olds) (filter-append keeps front (middle ++ back)
    ∙ ap (λ list. list ++ filter keeps (middle ++ back)) (filter_all keeps front
    (Each-weaker (λ area. area.span.lo < old.span.lo) (λ area. keeps area ≡ true) (λ area less. unlike_below area.span.lo old.span.lo less) front among.0.above))
    ∙ ap (λ list. front ++ list) (filter-append keeps middle back
    ∙ ap (λ list. filter keeps middle ++ list) (filter_all keeps back
    (Each-weaker (λ area. old.span.lo < area.span.lo) (λ area. keeps area ≡ true) (λ area more. unlike_above area.span.lo old.span.lo more) back among.0.below))))
    ∙ without_among olds front (filter keeps middle) back among.1
  where
    keeps : Record → Bool
    keeps area = not (starts_alike area old)

pub insert_behind : (new : Record) (front list : List Record) → Each (λ area. area.span.lo < new.span.lo) front
    → insert_area new (front ++ list) ≡ front ++ insert_area new list
insert_behind new [] list below = refl
insert_behind new (first ∷ front) list below =
    cond-true (nat_lt first.span.lo new.span.lo) (first ∷ insert_area new (front ++ list)) (new ∷ (first ∷ (front ++ list))) (lt-ltb first.span.lo new.span.lo below.0)
    ∙ ap (λ rest. first ∷ rest) (insert_behind new front list below.1)

pub insert_before : (new : Record) (middle back : List Record) → Each (λ area. new.span.lo ≤ area.span.lo) back
    → insert_area new (middle ++ back) ≡ insert_area new middle ++ back
insert_before new [] [] above = refl
insert_before new [] (next ∷ back) above =
    cond-false (nat_lt next.span.lo new.span.lo) (next ∷ insert_area new back) (new ∷ (next ∷ back)) (le-ltb next.span.lo new.span.lo above.0)
insert_before new (first ∷ middle) back above = by (nat_lt first.span.lo new.span.lo) (insert_before new middle back above)
  where
    by : (test : Bool) → insert_area new (middle ++ back) ≡ insert_area new middle ++ back
        → (if test then first ∷ insert_area new (middle ++ back) else new ∷ (first ∷ (middle ++ back)))
        ≡ (if test then first ∷ insert_area new middle else new ∷ (first ∷ middle)) ++ back
    by true before = ap (λ rest. first ∷ rest) before
    by false before = refl
