-- For `AreaStore::enter`: what a list weighs after a plan.
use Rattle.std.proofs.Common.{ℕ, ◌≡◌, ◌≢◌, ◌+◌, ◌⊎◌, inl, inr, Bool, true, false, not, if◌then◌else◌, nat_lt, List, [], ◌∷◌, sum_by, sym, ap, subst, arith}
use Rattle.std.specs.List.{filter, Contains, AllByRecursion as Each}
use Rattle.std.proofs.lemmas.Bool.{cond-true, not_from_false}
use Rattle.std.proofs.lemmas.List.Elements.{All-contains, All-from_recursion, recursion_from_All}
use Rattle.std.proofs.lemmas.List.Sums.{sum_by-cons}
use Rattle.mm_types.specs.declared.area.Record.{Record}
use Rattle.area_list.specs.Changes.{insert_area}
use Rattle.area_list.proofs.Elements.{Pairs, Each-also}
use Rattle.split_merge.specs.declared.plan.Change.{Change}
use Rattle.split_merge.specs.Plans.{olds_of, news_of, starts_alike, without, with_all, applied, IsPlanOf}
use Rattle.split_merge.proofs.Ascending.{Below, Pairs-filter}
use Rattle.split_merge.proofs.Counting.{contains_cases, contains_filter, unlike, Pairs-from_AllPairs}
use Rattle.split_merge.proofs.Replacing.{without_first, apart}
use Rattle.split_merge.specs.Sorted.{BeginsAscend}
use Rattle.split_merge.proofs.Going.{ascending_pairs}

-- the areas that stay where one goes out
abbrev others : Record → List Record → List Record
others old areas = filter (λ area. not (starts_alike area old)) areas

others_weigh : (weight : Record → ℕ) (areas : List Record) (old : Record) → Pairs Below areas → Contains areas old
    → sum_by weight (others old areas) + weight old ≡ sum_by weight areas
others_weigh weight [] old pairs member = absurd (omega (arith, member.1))
others_weigh weight (first ∷ areas) old pairs member = by (contains_cases first areas old member) (λ later. others_weigh weight areas old pairs.1 later)
  where
    by : (first ≡ old) ⊎ Contains areas old → (Contains areas old → sum_by weight (others old areas) + weight old ≡ sum_by weight areas)
        → sum_by weight (others old (first ∷ areas)) + weight old ≡ sum_by weight (first ∷ areas)
    by (inl same) before =
        let left = subst (λ (area : Record). others area (first ∷ areas) ≡ areas) same (without_first first areas pairs.0) in
        omega (arith, ap (sum_by weight) left, ap weight same, sum_by-cons weight first areas)
    by (inr later) before =
        let stays = cond-true (not (starts_alike first old)) (first ∷ others old areas) (others old areas)
        (not_from_false (starts_alike first old) (apart first.span.lo old.span.lo
        (All-contains (Below first) areas old (All-from_recursion (Below first) areas pairs.0) later))) in
        omega (arith, ap (sum_by weight) stays, before later, sum_by-cons weight first areas, sum_by-cons weight first (others old areas))

-- a list weighs as what is left of it and what went
without_weighs : (weight : Record → ℕ) (olds areas : List Record) → Pairs Below areas → Each (Contains areas) olds → Pairs (λ a b. a ≢ b) olds
    → sum_by weight (without olds areas) + sum_by weight olds ≡ sum_by weight areas
without_weighs weight [] areas pairs members distinct = omega arith
without_weighs weight (old ∷ olds) areas pairs members distinct =
    let later = without_weighs weight olds (others old areas) (Pairs-filter Below (λ area. not (starts_alike area old)) areas pairs)
    (Each-also (Contains areas) (λ other. old ≢ other) (Contains (others old areas))
    (λ other member differs. contains_filter (λ area. not (starts_alike area old)) areas other member
    (not_from_false (starts_alike other old) (unlike areas other old pairs member members.0 (λ same. differs (sym same)))))
    olds members.1 distinct.0)
    distinct.1 in
    omega (arith, later, others_weigh weight areas old pairs members.0, sum_by-cons weight old olds)

insert_weighs : (weight : Record → ℕ) (new : Record) (areas : List Record) → sum_by weight (insert_area new areas) ≡ weight new + sum_by weight areas
insert_weighs weight new [] = sum_by-cons weight new []
insert_weighs weight new (first ∷ areas) = by (nat_lt first.span.lo new.span.lo) (insert_weighs weight new areas)
  where
    by : (test : Bool) → sum_by weight (insert_area new areas) ≡ weight new + sum_by weight areas
        → sum_by weight (if test then first ∷ insert_area new areas else new ∷ (first ∷ areas)) ≡ weight new + sum_by weight (first ∷ areas)
    by true before = omega (arith, before, sum_by-cons weight first (insert_area new areas), sum_by-cons weight first areas)
    by false before = sum_by-cons weight new (first ∷ areas)

with_all_weighs : (weight : Record → ℕ) (news areas : List Record) → sum_by weight (with_all news areas) ≡ sum_by weight areas + sum_by weight news
with_all_weighs weight [] areas = omega arith
with_all_weighs weight (new ∷ news) areas =
    omega (arith, with_all_weighs weight news (insert_area new areas), insert_weighs weight new areas, sum_by-cons weight new news)

-- what a list weighs after a plan, and what went
pub applied_weighs : (weight : Record → ℕ) (plan : List Change) (areas : List Record) → BeginsAscend areas → IsPlanOf areas plan
    → sum_by weight (applied plan areas) + sum_by weight (olds_of plan) ≡ sum_by weight areas + sum_by weight (news_of plan)
unfolding applied
applied_weighs weight plan areas ascend p = omega (
  arith,
  with_all_weighs weight (news_of plan) (without (olds_of plan) areas),
  without_weighs weight (olds_of plan) areas (ascending_pairs areas ascend) (recursion_from_All (Contains areas) (olds_of plan) p.members)
      (Pairs-from_AllPairs (λ a b. a ≢ b) (olds_of plan) p.distinct),
)
