-- For `is_too_long`, `plan_cut`, `plan_move` and others: what plans take away and bring, change by change, and lists without what they take away.
use Rattle.std.proofs.Common.{ℕ, ◌≡◌, ◌<◌, suc, true, false, not, nat_eq, List, [], ◌∷◌, ◌++◌, refl, ap, ◌∙◌, arith}
use Rattle.std.specs.List.{filter, Contains, AllByRecursion as Each}
use Rattle.std.proofs.lemmas.Bool.Decides.{nat_tests}
use Rattle.std.proofs.lemmas.Bool.{cond-true, cond-false, not_from_true, not_from_false}
use Rattle.mm_types.specs.declared.area.Record.{Record}
use Rattle.area_list.proofs.Elements.{Each-weaker}
use Rattle.split_merge.specs.declared.plan.Change.{Change}
use Rattle.split_merge.specs.declared.plan.Change.TheVariants.{Detach, Alter, Add}
use Rattle.split_merge.specs.Plans.{olds_of, news_of, starts_alike, without}
use Rattle.split_merge.proofs.Lists.{filter_all}
use Rattle.split_merge.proofs.Ascending.{Below}

pub olds_of-append : (xs ys : List Change) → olds_of (xs ++ ys) ≡ olds_of xs ++ olds_of ys
olds_of-append [] ys = refl
olds_of-append (Detach old ∷ xs) ys = ap (λ rest. old ∷ rest) (olds_of-append xs ys)
olds_of-append (Alter old new ∷ xs) ys = ap (λ rest. old ∷ rest) (olds_of-append xs ys)
olds_of-append (Add new ∷ xs) ys = olds_of-append xs ys

pub news_of-append : (xs ys : List Change) → news_of (xs ++ ys) ≡ news_of xs ++ news_of ys
news_of-append [] ys = refl
news_of-append (Detach old ∷ xs) ys = news_of-append xs ys
news_of-append (Alter old new ∷ xs) ys = ap (λ rest. new ∷ rest) (news_of-append xs ys)
news_of-append (Add new ∷ xs) ys = ap (λ rest. new ∷ rest) (news_of-append xs ys)

pub each_contained : (areas : List Record) → Each (Contains areas) areas
each_contained [] = tt
each_contained (area ∷ areas) = ((0, omega arith, refl), Each-weaker (Contains areas) (Contains (area ∷ areas)) further areas (each_contained areas))
  where
    further : (other : Record) → Contains areas other → Contains (area ∷ areas) other
    further other c = (suc c.0, omega (arith, c.1), c.2)

alike : (a : ℕ) → nat_eq a a ≡ true
alike a = grind (arith, nat_tests)

pub apart : (a b : ℕ) → a < b → nat_eq a b ≡ false
apart a b below = grind (arith, nat_tests)

apart_above : (a b : ℕ) → a < b → not (nat_eq b a) ≡ true
apart_above a b below = grind (arith, nat_tests)

-- the first area goes out, and none above it
pub without_first : (area : Record) (areas : List Record) → Each (Below area) areas
    → filter (λ other. not (starts_alike other area)) (area ∷ areas) ≡ areas
without_first area areas below =
    cond-false (not (starts_alike area area)) (area ∷ filter (λ other. not (starts_alike other area)) areas)
    (filter (λ other. not (starts_alike other area)) areas) (not_from_true (starts_alike area area) (alike area.span.lo))
    ∙ filter_all (λ other. not (starts_alike other area)) areas
    (Each-weaker (Below area) (λ other. not (starts_alike other area) ≡ true) (λ other below. apart_above area.span.lo other.span.lo below) areas below)

-- the area goes out where it stands among others, and none of these
pub without_middle : (front : List Record) (area : Record) (areas : List Record) → Each (λ before. Below before area) front → Each (Below area) areas
    → filter (λ other. not (starts_alike other area)) (front ++ area ∷ areas) ≡ front ++ areas
without_middle [] area areas before after = without_first area areas after
without_middle (first ∷ front) area areas before after =
    cond-true (not (starts_alike first area)) (first ∷ filter (λ other. not (starts_alike other area)) (front ++ area ∷ areas))
    (filter (λ other. not (starts_alike other area)) (front ++ area ∷ areas)) (not_from_false (starts_alike first area) (apart first.span.lo area.span.lo before.0))
    ∙ ap (λ rest. first ∷ rest) (without_middle front area areas before.1 after)

-- an area below those that go out stays
pub without_behind : (area : Record) (olds areas : List Record) → Each (λ old. starts_alike area old ≡ false) olds
    → without olds (area ∷ areas) ≡ area ∷ without olds areas
without_behind area [] areas apart = refl
without_behind area (old ∷ olds) areas apart =
    ap (without olds) (cond-true (not (starts_alike area old)) (area ∷ filter (λ other. not (starts_alike other old)) areas)
    (filter (λ other. not (starts_alike other old)) areas) (not_from_false (starts_alike area old) apart.0))
    ∙ without_behind area olds (filter (λ other. not (starts_alike other old)) areas) apart.1
