-- Plans: a few changes that turn one list of areas into another.
use Rattle.std.specs.Prelude.{ℕ, ◌≡◌, ◌≢◌, ◌≤◌, ◌+◌, ◌*◌, Bool, true, not, ◌&&◌, ◌||◌, nat_eq, nat_le, List, [], ◌∷◌, length, filter, All, AllPairs, Contains, Option, Some, None}
use Rattle.mm_types.specs.declared.area.Span.{Span}
use Rattle.mm_types.specs.declared.area.Record.{Record}
use Rattle.area_rules.specs.declared.placement.Bounds.{Bounds}
use Rattle.area_list.specs.Areas.{IsCanonical}
use Rattle.area_list.specs.Changes.{insert_area}
use Rattle.split_merge.specs.declared.plan.Change.{Change}
use Rattle.split_merge.specs.declared.plan.Change.TheVariants.{Detach, Alter, Add}

-- a plan as contracts see it: its changes, and for how many it has room
pub record PlanView : Type 0 where
  pub changes : List Change
  pub room : ℕ

-- the area that a change takes away
abbrev pub old_of : Change → Option Record
old_of (Detach old) = Some old
old_of (Alter old new) = Some old
old_of (Add new) = None

-- the area that it brings
abbrev pub new_of : Change → Option Record
new_of (Detach old) = None
new_of (Alter old new) = Some new
new_of (Add new) = Some new

-- the areas that a plan takes away
abbrev pub olds_of : List Change → List Record
olds_of [] = []
olds_of (Detach old ∷ plan) = old ∷ olds_of plan
olds_of (Alter old new ∷ plan) = old ∷ olds_of plan
olds_of (Add new ∷ plan) = olds_of plan

-- the areas that it brings
abbrev pub news_of : List Change → List Record
news_of [] = []
news_of (Detach old ∷ plan) = news_of plan
news_of (Alter old new ∷ plan) = new ∷ news_of plan
news_of (Add new ∷ plan) = new ∷ news_of plan

-- whether two areas begin at one page
abbrev pub starts_alike : Record → Record → Bool
starts_alike a b = nat_eq a.span.lo b.span.lo

-- the list without the areas that begin where one of these does
abbrev pub without : List Record → List Record → List Record
without [] areas = areas
without (old ∷ olds) areas = without olds (filter (λ area. not (starts_alike area old)) areas)

-- the list with these areas in their places by lo
abbrev pub with_all : List Record → List Record → List Record
with_all [] areas = areas
with_all (new ∷ news) areas = with_all news (insert_area new areas)

-- the list after a plan: without the areas that it takes away, and with those that it brings
unfoldable pub applied : List Change → List Record → List Record
applied plan areas = with_all (news_of plan) (without (olds_of plan) areas)

-- a plan is one of a list where what it takes away are distinct areas of the list
pub record IsPlanOf (areas : List Record) (plan : List Change) : Type 0 where
  pub members : All (Contains areas) (olds_of plan)
  pub distinct : AllPairs (λ a b. a ≢ b) (olds_of plan)

-- a plan is one change: an area becomes this one
abbrev pub IsOneAlter : List Change → Record → Type 0
IsOneAlter plan new = (old : Record) × (plan ≡ Alter old new ∷ [])

-- a plan has only real changes where no area that it brings is one that it takes away
abbrev pub IsReal : List Change → Type 0
IsReal plan = All (λ new. ¬ (Contains (olds_of plan) new)) (news_of plan)

-- a plan of the one list makes the other where it turns the one into the other, by real changes alone
pub record Makes (plan : List Change) (old new : List Record) : Type 0 where
  pub plan_of : IsPlanOf old plan
  pub result : applied plan old ≡ new
  pub real : IsReal plan

-- an area that a span touches, or that ends where it begins or begins where it ends
abbrev pub is_near : Span → Record → Bool
is_near span area = nat_le area.span.lo span.hi && nat_le span.lo area.span.hi

-- a plan is local to a span where it takes away only areas near it, and has at most twice as many changes as there are such areas, and four
pub record IsLocal (span : Span) (areas : List Record) (plan : List Change) : Type 0 where
  pub near : All (λ old. is_near span old ≡ true) (olds_of plan)
  pub short : length plan ≤ 2 * length (filter (is_near span) areas) + 4

-- an area near one of two spans
abbrev pub is_near_either : Span → Span → Record → Bool
is_near_either a b area = is_near a area || is_near b area

-- a plan is local to two spans where it takes away only areas near one of them, and has at most twice as many changes as there are such areas, and four
pub record IsLocalToEither (a b : Span) (areas : List Record) (plan : List Change) : Type 0 where
  pub near : All (λ old. is_near_either a b old ≡ true) (olds_of plan)
  pub short : length plan ≤ 2 * length (filter (is_near_either a b) areas) + 4

-- a list that plans are made for: canonical up to the limit, and not longer than allowed
pub record IsPlannedFor (bounds : Bounds) (most : ℕ) (areas : List Record) : Type 0 where
  pub canonical : IsCanonical bounds.limit areas
  pub few : length areas ≤ most

-- a plan to begin with: no change, and room for two of each area and four more
pub record IsFreshPlan (most : ℕ) (plan : PlanView) : Type 0 where
  pub empty : plan.changes ≡ []
  pub room : 2 * most + 4 ≤ plan.room
