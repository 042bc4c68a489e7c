-- For `is_too_long`: how long a list is after a plan.
use Rattle.std.proofs.Common.{◌≡◌, ◌≢◌, ◌≤◌, ◌+◌, ◌⊎◌, inl, inr, zero, suc, Bool, true, false, not, if◌then◌else◌, nat_lt, List, [], ◌∷◌, length, refl, ap, ◌∙◌, sym, subst, AllPairs, arith}
use Rattle.std.specs.List.{filter, Contains, AllByRecursion as Each}
use Rattle.std.proofs.lemmas.Bool.{both_ways, cond-true, eqb-true, false_from_ne_true, not_from_false}
use Rattle.std.proofs.lemmas.List.Elements.{All-contains, All-from_recursion, recursion_from_All}
use Rattle.mm_types.specs.declared.area.Record.{Record}
use Rattle.area_list.specs.Changes.{insert_area}
use Rattle.area_list.proofs.Elements.{Pairs, Each-also}
use Rattle.split_merge.specs.declared.plan.Change.{Change}
use Rattle.split_merge.specs.Plans.{olds_of, news_of, starts_alike, without, with_all, applied, IsPlanOf}
use Rattle.split_merge.proofs.Ascending.{Below, Pairs-filter}
use Rattle.split_merge.proofs.Replacing.{without_first, apart}

pub contains_cases : {A : Type 0} (first : A) (xs : List A) (x : A) → Contains (first ∷ xs) x → (first ≡ x) ⊎ Contains xs x
contains_cases first xs x (zero, within, is) = inl is
contains_cases first xs x (suc k, within, is) = inr (k, omega arith, is)

pub contains_later : {A : Type 0} (first : A) (xs : List A) (x : A) → Contains xs x → Contains (first ∷ xs) x
contains_later first xs x member = (suc member.0, omega (arith, member.1), member.2)

-- an element that passes stays
pub contains_filter : {A : Type 0} (p : A → Bool) (xs : List A) (x : A) → Contains xs x → p x ≡ true → Contains (filter p xs) x
contains_filter p [] x member passes = member
contains_filter p (first ∷ xs) x member passes = by (p first) refl (contains_cases first xs x member) (λ later. contains_filter p xs x later passes)
  where
    by : (test : Bool) → p first ≡ test → (first ≡ x) ⊎ Contains xs x → (Contains xs x → Contains (filter p xs) x)
        → Contains (if test then first ∷ filter p xs else filter p xs) x
    by true is (inl same) before = (0, omega arith, same)
    by true is (inr later) before = contains_later first (filter p xs) x (before later)
    by false is (inl same) before = absurd (both_ways (p first) is (ap p same ∙ passes))
    by false is (inr later) before = before later

pub Pairs-from_AllPairs : {A : Type 0} (R : A → A → Type 0) (xs : List A) → AllPairs R xs → Pairs R xs
Pairs-from_AllPairs R [] pairs = tt
Pairs-from_AllPairs R (x ∷ xs) pairs = (
  recursion_from_All (R x) xs (λ k d within. pairs 0 (suc k) d (omega arith) (omega arith)),
  Pairs-from_AllPairs R xs (λ i j d before within. pairs (suc i) (suc j) d (omega arith) (omega arith)),
)

-- the first of an ascending list begins below another area of it
below_member : (first : Record) (areas : List Record) (area : Record) → Each (Below first) areas → Contains areas area → Below first area
below_member first areas area above member = All-contains (Below first) areas area (All-from_recursion (Below first) areas above) member

-- areas of an ascending list that begin at one page are one area
pub same_begin : (areas : List Record) (a b : Record) → Pairs Below areas → Contains areas a → Contains areas b → a.span.lo ≡ b.span.lo → a ≡ b
same_begin [] a b pairs first second same = absurd (omega (arith, first.1))
same_begin (area ∷ areas) a b pairs first second same =
    by (contains_cases area areas a first) (contains_cases area areas b second) (λ later beyond. same_begin areas a b pairs.1 later beyond same)
  where
    by : (area ≡ a) ⊎ Contains areas a → (area ≡ b) ⊎ Contains areas b → (Contains areas a → Contains areas b → a ≡ b) → a ≡ b
    by (inl is) (inl other) further = sym is ∙ other
    by (inl is) (inr later) further = absurd (omega (arith, below_member area areas b pairs.0 later, ap (λ (r : Record). r.span.lo) is))
    by (inr later) (inl other) further = absurd (omega (arith, below_member area areas a pairs.0 later, ap (λ (r : Record). r.span.lo) other))
    by (inr later) (inr beyond) further = further later beyond

-- distinct areas of such a list begin at different pages
pub unlike : (areas : List Record) (a b : Record) → Pairs Below areas → Contains areas a → Contains areas b → a ≢ b → starts_alike a b ≡ false
unlike areas a b pairs first second distinct = false_from_ne_true (starts_alike a b)
    (λ alike. distinct (same_begin areas a b pairs first second (eqb-true a.span.lo b.span.lo alike)))

-- the areas that stay where one goes out
abbrev others : Record → List Record → List Record
others old areas = filter (λ area. not (starts_alike area old)) areas

length-others : (areas : List Record) (old : Record) → Pairs Below areas → Contains areas old → length (others old areas) + 1 ≡ length areas
length-others [] old pairs member = absurd (omega (arith, member.1))
length-others (first ∷ areas) old pairs member = by (contains_cases first areas old member) (λ later. length-others areas old pairs.1 later)
  where
    by : (first ≡ old) ⊎ Contains areas old → (Contains areas old → length (others old areas) + 1 ≡ length areas)
        → length (others old (first ∷ areas)) + 1 ≡ length (first ∷ areas)
    by (inl same) before =
        let left = subst (λ (area : Record). others area (first ∷ areas) ≡ areas) same (without_first first areas pairs.0) in
        omega (arith, ap length left)
    by (inr later) before =
        let stays = cond-true (not (starts_alike first old)) (first ∷ others old areas) (others old areas)
        (not_from_false (starts_alike first old) (apart first.span.lo old.span.lo (below_member first areas old pairs.0 later))) in
        omega (arith, ap length stays, before later)

-- distinct areas of a list make it shorter by one each
length-without : (olds areas : List Record) → Pairs Below areas → Each (Contains areas) olds → Pairs (λ a b. a ≢ b) olds
    → length (without olds areas) + length olds ≡ length areas
length-without [] areas pairs members distinct = omega arith
length-without (old ∷ olds) areas pairs members distinct =
    let later = length-without olds (others old areas) (Pairs-filter Below (λ area. not (starts_alike area old)) areas pairs)
    (Each-also (Contains areas) (λ other. old ≢ other) (Contains (others old areas))
    (λ other member differs. contains_filter (λ area. not (starts_alike area old)) areas other member
    (not_from_false (starts_alike other old) (unlike areas other old pairs member members.0 (λ same. differs (sym same)))))
    olds members.1 distinct.0)
    distinct.1 in
    omega (arith, later, length-others areas old pairs members.0)

length-insert_area : (new : Record) (areas : List Record) → length (insert_area new areas) ≡ length areas + 1
length-insert_area new [] = omega arith
length-insert_area new (first ∷ areas) = by (nat_lt first.span.lo new.span.lo) (length-insert_area new areas)
  where
    by : (test : Bool) → length (insert_area new areas) ≡ length areas + 1
        → length (if test then first ∷ insert_area new areas else new ∷ (first ∷ areas)) ≡ length (first ∷ areas) + 1
    by true before = omega (arith, before)
    by false before = omega arith

-- each area that comes in makes it longer by one
pub length-with_all : (news areas : List Record) → length (with_all news areas) ≡ length areas + length news
length-with_all [] areas = omega arith
length-with_all (new ∷ news) areas = omega (arith, length-with_all news (insert_area new areas), length-insert_area new areas)

pub length-applied : (plan : List Change) (areas : List Record)
    → length (applied plan areas) ≡ length (without (olds_of plan) areas) + length (news_of plan)
unfolding applied
length-applied plan areas = length-with_all (news_of plan) (without (olds_of plan) areas)

-- the length of a list after a plan, without that list
pub record Counts (areas list olds news : List Record) : Type 0 where
  pub olds_few : length olds ≤ length areas
  pub count : length list + length olds ≡ length areas + length news

pub plan_counts : (plan : List Change) (areas : List Record) → Pairs Below areas → IsPlanOf areas plan
    → Counts areas (applied plan areas) (olds_of plan) (news_of plan)
plan_counts plan areas pairs p =
    let kept = length-without (olds_of plan) areas pairs (recursion_from_All (Contains areas) (olds_of plan) p.members)
    (Pairs-from_AllPairs (λ a b. a ≢ b) (olds_of plan) p.distinct) in
    record { olds_few = omega (arith, kept); count = omega (arith, kept, length-applied plan areas) }
