-- For `plan_change`, `plan_elsewhere`, `plan_longer` and others: plans that are local to a part of the old range or the new one are local to these two.
use Rattle.std.proofs.Common.{◌≡◌, ◌≤◌, ℕ, Bool, true, ◌&&◌, ◌||◌, nat_le, List, [], get_or, subst, sym, arith}
use Rattle.std.proofs.lemmas.Bool.Decides.{nat_tests}
use Rattle.mm_types.specs.declared.area.Span.{Span}
use Rattle.mm_types.specs.declared.area.Record.{Record}
use Rattle.area_list.proofs.Elements.{Each-always}
use Rattle.split_merge.specs.declared.plan.Change.{Change}
use Rattle.split_merge.specs.Plans.{olds_of, is_near, is_near_either, IsLocal, IsLocalToEither}
use Rattle.split_merge.proofs.Lists.{length-filter_wider}

wider_local : (span a b : Span) (areas : List Record) (plan : List Change)
    → ((area : Record) → is_near span area ≡ true → is_near_either a b area ≡ true) → IsLocal span areas plan → IsLocalToEither a b areas plan
wider_local span a b areas plan wider local = record {
  near = λ k d within. wider (get_or (olds_of plan) k d) (local.near k d within);
  short = omega (
    arith,
    local.short,
    length-filter_wider (is_near span) (is_near_either a b) areas
        (Each-always (λ area. is_near span area ≡ true → is_near_either a b area ≡ true) wider areas),
  );
}

-- a plan for a part of the one span is local to the two
pub local_in_first : (span a b : Span) (areas : List Record) (plan : List Change) → a.lo ≤ span.lo → span.hi ≤ a.hi
    → IsLocal span areas plan → IsLocalToEither a b areas plan
local_in_first span a b areas plan above below = wider_local span a b areas plan
    (λ area near. tests area.span.lo area.span.hi span.lo span.hi a.lo a.hi (is_near b area) above below near)
  where
    tests : (lo hi from to low high : ℕ) (other : Bool) → low ≤ from → to ≤ high → (nat_le lo to && nat_le from hi) ≡ true
        → ((nat_le lo high && nat_le low hi) || other) ≡ true
    tests lo hi from to low high other above below near = grind (arith, nat_tests)

-- and so is one for a part of the other
pub local_in_second : (span a b : Span) (areas : List Record) (plan : List Change) → b.lo ≤ span.lo → span.hi ≤ b.hi
    → IsLocal span areas plan → IsLocalToEither a b areas plan
local_in_second span a b areas plan above below = wider_local span a b areas plan
    (λ area near. tests area.span.lo area.span.hi span.lo span.hi b.lo b.hi (is_near a area) above below near)
  where
    tests : (lo hi from to low high : ℕ) (other : Bool) → low ≤ from → to ≤ high → (nat_le lo to && nat_le from hi) ≡ true
        → (other || (nat_le lo high && nat_le low hi)) ≡ true
    tests lo hi from to low high other above below near = grind (arith, nat_tests)

-- an empty plan is local to any two spans
pub nothing_local : (a b : Span) (areas : List Record) (plan : List Change) → plan ≡ [] → IsLocalToEither a b areas plan
nothing_local a b areas plan none = subst (λ changes. IsLocalToEither a b areas changes) (sym none) (record {
  near = λ k d within. absurd (omega arith);
  short = omega arith;
})
