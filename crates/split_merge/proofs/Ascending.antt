-- For `is_too_long`: areas by ascending lowest page, and areas that are put among them.
use Rattle.std.proofs.Common.{ℕ, ◌≡◌, ◌<◌, Bool, nat_lt, List, [], ◌∷◌, ◌++◌, refl, ap, ◌∙◌, arith}
use Rattle.std.specs.List.{filter, AllByRecursion as Each}
use Rattle.std.proofs.lemmas.Bool.{cond_both, cond-true, cond-false, lt-ltb, le-ltb}
use Rattle.mm_types.specs.declared.area.Record.{Record}
use Rattle.mm_types.specs.Records.{IsValid}
use Rattle.area_list.specs.Areas.{IsCanonical}
use Rattle.area_list.specs.Changes.{insert_area}
use Rattle.area_list.proofs.Elements.{Pairs, Each-append, Each-weaker, Each-left, Each-right}
use Rattle.area_list.proofs.Order.{Before}
use Rattle.split_merge.specs.Plans.{with_all}
use Rattle.split_merge.proofs.Lists.{Each-filter}
use Rattle.split_merge.proofs.Walking.{in_order}

-- the one area begins below the other
abbrev pub Below : Record → Record → Type 0
Below a b = a.span.lo < b.span.lo

pub ascending_from_order : (areas : List Record) → Each IsValid areas → Pairs Before areas → Pairs Below areas
ascending_from_order [] valid order = tt
ascending_from_order (area ∷ areas) valid order = (
  Each-weaker (Before area) (Below area) (λ next before. omega (arith, valid.0.some_pages)) areas order.0,
  ascending_from_order areas valid.1 order.1,
)

pub ascending : (end : ℕ) (areas : List Record) → IsCanonical end areas → Pairs Below areas
ascending end areas c = let order = in_order end areas c in ascending_from_order areas order.valid order.ordered

pub Pairs-filter : {A : Type 0} (R : A → A → Type 0) (passes : A → Bool) (xs : List A) → Pairs R xs → Pairs R (filter passes xs)
Pairs-filter R passes [] pairs = tt
Pairs-filter R passes (x ∷ xs) pairs =
    cond_both (passes x) (x ∷ filter passes xs) (filter passes xs) (Pairs R)
    (λ h. (Each-filter (R x) passes xs pairs.0, Pairs-filter R passes xs pairs.1)) (λ h. Pairs-filter R passes xs pairs.1)

-- an area below each of a list stands before it
pub insert_front : (area : Record) (areas : List Record) → Each (Below area) areas → insert_area area areas ≡ area ∷ areas
insert_front area [] below = refl
insert_front area (first ∷ areas) below = cond-false (nat_lt first.span.lo area.span.lo) (first ∷ insert_area area areas) (area ∷ (first ∷ areas))
    (le-ltb first.span.lo area.span.lo (omega (arith, below.0)))

-- and stays there when areas above it come in
pub with_all_behind : (area : Record) (news areas : List Record) → Each (Below area) news
    → with_all news (area ∷ areas) ≡ area ∷ with_all news areas
with_all_behind area [] areas below = refl
with_all_behind area (new ∷ news) areas below =
    ap (with_all news) (cond-true (nat_lt area.span.lo new.span.lo) (area ∷ insert_area new areas) (new ∷ (area ∷ areas))
    (lt-ltb area.span.lo new.span.lo below.0))
    ∙ with_all_behind area news (insert_area new areas) below.1

-- areas in ascending order below the others stand first
pub with_all_in_front : (front news areas whole : List Record) → Pairs Below (front ++ whole)
    → ((P : Record → Type 0) → Each P whole → Each P news × Each P areas)
    → with_all news areas ≡ whole → with_all (front ++ news) areas ≡ front ++ whole
with_all_in_front [] news areas whole pairs parts is = is
with_all_in_front (area ∷ front) news areas whole pairs parts is =
    let later : Each (Below area) whole = Each-right (Below area) front whole pairs.0 in
    let above = parts (Below area) later in
    ap (with_all (front ++ news)) (insert_front area areas above.1)
    ∙ with_all_behind area (front ++ news) areas (Each-append (Below area) front news (Each-left (Below area) front whole pairs.0) above.0)
    ∙ ap (λ rest. area ∷ rest) (with_all_in_front front news areas whole pairs.1 parts is)
