-- For `Chunk::insert`, `Chunk::remove`, `remove_olds` and others: areas that go out of a list, and that come in.
use Rattle.std.proofs.Common.{◌≡◌, ◌<◌, ◌+◌, ◌⊎◌, inl, inr, ℕ, suc, Bool, true, false, not, if◌then◌else◌, nat_eq, nat_lt, List, [], ◌∷◌, ◌++◌, refl, ap, ◌∙◌, sym, subst, arith}
use Rattle.std.specs.List.{filter, remove, insert, Contains, AllByRecursion as Each}
use Rattle.std.proofs.lemmas.Bool.{cond-true, cond-false, ltb-true, ltb-false, not_from_false}
use Rattle.std.proofs.lemmas.Bool.Decides.{nat_tests}
use Rattle.std.proofs.lemmas.List.Kept.{AllPairs-filter}
use Rattle.std.proofs.lemmas.List.Elements.{All-contains, All-from_recursion, recursion_from_All}
use Rattle.std.proofs.Math.Numerals.{one-add}
use Rattle.mm_types.specs.declared.area.Record.{Record}
use Rattle.area_list.specs.Changes.{insert_area}
use Rattle.area_list.proofs.Elements.{Pairs, Each-weaker}
use Rattle.split_merge.proofs.Ascending.{Below}
use Rattle.split_merge.specs.Plans.{starts_alike, without, with_all}
use Rattle.split_merge.proofs.Counting.{contains_cases, contains_filter}
use Rattle.split_merge.proofs.Lists.{filter_all}
use Rattle.split_merge.specs.Sorted.{begins_below, BeginsAscend}

filter_swap : {A : Type 0} (p q : A → Bool) (xs : List A) → filter p (filter q xs) ≡ filter q (filter p xs)
filter_swap p q [] = refl
filter_swap p q (x ∷ xs) = by (p x) (q x) refl refl (filter_swap p q xs)
  where
    by : (a b : Bool) → p x ≡ a → q x ≡ b → filter p (filter q xs) ≡ filter q (filter p xs)
        → filter p (if b then x ∷ filter q xs else filter q xs) ≡ filter q (if a then x ∷ filter p xs else filter p xs)
    by true true first second before = cond-true (p x) (x ∷ filter p (filter q xs)) (filter p (filter q xs)) first
        ∙ ap (λ rest. x ∷ rest) before ∙ sym (cond-true (q x) (x ∷ filter q (filter p xs)) (filter q (filter p xs)) second)
    by true false first second before = before ∙ sym (cond-false (q x) (x ∷ filter q (filter p xs)) (filter q (filter p xs)) second)
    by false true first second before = cond-false (p x) (x ∷ filter p (filter q xs)) (filter p (filter q xs)) first ∙ before
    by false false first second before = before

without-filter : (olds areas : List Record) (p : Record → Bool) → without olds (filter p areas) ≡ filter p (without olds areas)
without-filter [] areas p = refl
without-filter (old ∷ olds) areas p =
    ap (without olds) (filter_swap (λ area. not (starts_alike area old)) p areas)
    ∙ without-filter olds (filter (λ area. not (starts_alike area old)) areas) p

pub without-append : (olds more areas : List Record) → without (olds ++ more) areas ≡ without more (without olds areas)
without-append [] more areas = refl
without-append (old ∷ olds) more areas = without-append olds more (filter (λ area. not (starts_alike area old)) areas)

pub without_swap : (olds more areas : List Record) → without olds (without more areas) ≡ without more (without olds areas)
without_swap [] more areas = refl
without_swap (old ∷ olds) more areas =
    ap (without olds) (sym (without-filter more areas (λ area. not (starts_alike area old))))
    ∙ without_swap olds more (filter (λ area. not (starts_alike area old)) areas)

pub ascend_without : (olds areas : List Record) → BeginsAscend areas → BeginsAscend (without olds areas)
ascend_without [] areas ascend = ascend
ascend_without (old ∷ olds) areas ascend =
    ascend_without olds (filter (λ area. not (starts_alike area old)) areas)
    (AllPairs-filter (λ (a b : Record). a.span.lo < b.span.lo) (λ (area : Record). not (starts_alike area old)) areas ascend)

-- an area that begins as none of those that go out stays
pub contains_without : (olds areas : List Record) (area : Record) → Contains areas area → Each (λ old. starts_alike area old ≡ false) olds
    → Contains (without olds areas) area
contains_without [] areas area member apart = member
contains_without (old ∷ olds) areas area member apart =
    contains_without olds (filter (λ other. not (starts_alike other old)) areas) area
    (contains_filter (λ other. not (starts_alike other old)) areas area member (not_from_false (starts_alike area old) apart.0)) apart.1

-- the areas after the first begin above it
pub ascending_pairs : (areas : List Record) → BeginsAscend areas → Pairs Below areas
ascending_pairs [] ascend = tt
ascending_pairs (area ∷ areas) ascend = (
  recursion_from_All (Below area) areas (λ k d within. ascend 0 (suc k) d (omega arith) (omega arith)),
  ascending_pairs areas (λ i j d before within. ascend (suc i) (suc j) d (omega arith) (omega arith)),
)

alike_self : (a : ℕ) → not (nat_eq a a) ≡ false
alike_self a = grind (arith, nat_tests)

unlike_above : (a b : ℕ) → a < b → not (nat_eq b a) ≡ true
unlike_above a b below = grind (arith, nat_tests)

unlike_below : (a b : ℕ) → a < b → not (nat_eq a b) ≡ true
unlike_below a b below = grind (arith, nat_tests)

removed : (areas : List Record) (old : Record) → Pairs Below areas → Contains areas old
    → remove areas (begins_below old.span.lo areas) ≡ filter (λ area. not (starts_alike area old)) areas
removed [] old pairs member = absurd (omega (arith, member.1))
removed (first ∷ areas) old pairs member = by (nat_lt first.span.lo old.span.lo) refl (contains_cases first areas old member) (removed areas old pairs.1)
  where
    place : ℕ
    place = begins_below old.span.lo areas

    kept : List Record
    kept = filter (λ area. not (starts_alike area old)) areas

    above : Contains areas old → first.span.lo < old.span.lo
    above later = All-contains (Below first) areas old (All-from_recursion (Below first) areas pairs.0) later

    by : (test : Bool) → nat_lt first.span.lo old.span.lo ≡ test → (first ≡ old) ⊎ Contains areas old
        → (Contains areas old → remove areas place ≡ kept)
        → remove (first ∷ areas) (if test then 1 + place else 0) ≡ (if not (starts_alike first old) then first ∷ kept else kept)
    by true is (inl same) before = absurd (omega (arith, ltb-true first.span.lo old.span.lo is, ap (λ (area : Record). area.span.lo) same))
    by true is (inr later) before =
        ap (remove (first ∷ areas)) (one-add place) ∙ ap (λ rest. first ∷ rest) (before later)
        ∙ sym (cond-true (not (starts_alike first old)) (first ∷ kept) kept (unlike_below first.span.lo old.span.lo (above later)))
    by false is (inl same) before =
        sym (filter_all (λ area. not (starts_alike area old)) areas
        (Each-weaker (Below first) (λ area. not (starts_alike area old) ≡ true)
        (λ area below. unlike_above old.span.lo area.span.lo (omega (arith, ap (λ (a : Record). a.span.lo) same))) areas pairs.0))
        ∙ sym (cond-false (not (starts_alike first old)) (first ∷ kept) kept
        (subst (λ (a : Record). not (starts_alike first a) ≡ false) same (alike_self first.span.lo)))
    by false is (inr later) before = absurd (omega (arith, ltb-false first.span.lo old.span.lo is, above later))

-- the area at its place goes out
pub remove_is : (areas : List Record) (old : Record) → BeginsAscend areas → Contains areas old
    → remove areas (begins_below old.span.lo areas) ≡ filter (λ area. not (starts_alike area old)) areas
remove_is areas old ascend member = removed areas old (ascending_pairs areas ascend) member

-- the area comes in at its place
pub insert_is : (areas : List Record) (new : Record) → insert areas (begins_below new.span.lo areas) new ≡ insert_area new areas
insert_is [] new = refl
insert_is (first ∷ areas) new = by (nat_lt first.span.lo new.span.lo) (insert_is areas new)
  where
    by : (test : Bool) → insert areas (begins_below new.span.lo areas) new ≡ insert_area new areas
        → insert (first ∷ areas) (if test then 1 + begins_below new.span.lo areas else 0) new
        ≡ (if test then first ∷ insert_area new areas else new ∷ (first ∷ areas))
    by true before = ap (λ place. insert (first ∷ areas) place new) (one-add (begins_below new.span.lo areas)) ∙ ap (λ rest. first ∷ rest) before
    by false before = refl

pub with_all-append : (news more areas : List Record) → with_all (news ++ more) areas ≡ with_all more (with_all news areas)
with_all-append [] more areas = refl
with_all-append (new ∷ news) more areas = with_all-append news more (insert_area new areas)
