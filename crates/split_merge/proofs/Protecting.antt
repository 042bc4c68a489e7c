-- For `plan_protect`: the plan of a new protection.
use Rattle.std.proofs.Common.{◌≡◌, ◌≤◌, ℕ, true, ◌&&◌, nat_le, List, None, refl, ap, ◌∙◌, sym, subst, arith}
use Rattle.std.proofs.lemmas.Bool.Decides.{nat_tests}
use Rattle.std.proofs.lemmas.List.Elements.{All-from_recursion, recursion_from_All}
use Rattle.mm_types.specs.declared.area.Span.{Span}
use Rattle.mm_types.specs.declared.area.Prot.{Prot}
use Rattle.mm_types.specs.declared.area.Record.{Record}
use Rattle.area_list.specs.declared.attributes.AttrChange.TheVariants.{Protection}
use Rattle.area_list.specs.Areas.{IsCanonical}
use Rattle.area_rules.specs.Mprotect.{stop_of, protected_prefix, prefix_of}
use Rattle.area_list.proofs.Elements.{Each-weaker, Each-always}
use Rattle.area_rules.proofs.ProtectLaws.{stop_is, prefix_canonical}
use Rattle.split_merge.specs.declared.plan.Change.{Change}
use Rattle.split_merge.specs.declared.becoming.Becoming.TheVariants.{Changed}
use Rattle.split_merge.specs.Plans.{olds_of, Makes, IsLocal, is_near}
use Rattle.split_merge.specs.Internal.Planner.{all_planned}
use Rattle.split_merge.proofs.Lists.{length-filter_wider}
use Rattle.split_merge.proofs.Results.{plan_makes, plan_local}
use Rattle.split_merge.proofs.Spans.{one_in_order}

-- what is planned up to the stop
abbrev up_to : Prot → Span → List Record → ℕ → List Change
up_to prot span areas stop = all_planned (Changed (record { lo = span.lo; hi = stop }) (Protection prot)) None areas

-- it makes the list with the protection up to there
pub makes_prefix : (end : ℕ) (prot : Prot) (span : Span) (areas : List Record) (stop : ℕ) (plan : List Change) → IsCanonical end areas → span.lo ≤ span.hi
    → stop ≡ stop_of prot span areas → plan ≡ all_planned (Changed (record { lo = span.lo; hi = stop }) (Protection prot)) None areas
    → Makes plan areas (protected_prefix prot span areas)
unfolding protected_prefix
makes_prefix end prot span areas stop plan c ascends is planned =
    let prefix : Span = prefix_of prot span areas in
    subst (λ changes. Makes changes areas (protected_prefix prot span areas)) (sym (planned ∙ ap (up_to prot span areas) is))
    (plan_makes end (Changed prefix (Protection prot)) None areas (protected_prefix prot span areas) c (one_in_order prefix (stop_is prot span areas ascends).begins) tt refl
    (prefix_canonical end prot span areas ascends c))

near_wider : (lo hi from to stop : ℕ) → stop ≤ to → (nat_le lo stop && nat_le from hi) ≡ true → (nat_le lo to && nat_le from hi) ≡ true
near_wider lo hi from to stop within near = grind (arith, nat_tests)

-- a plan that is local to a span is local to one that begins with it and ends no lower
local_wider : (lo from to : ℕ) (areas : List Record) (plan : List Change) → from ≤ to → IsLocal (record { lo = lo; hi = from }) areas plan
    → IsLocal (record { lo = lo; hi = to }) areas plan
local_wider lo from to areas plan within l = record {
  near = All-from_recursion (λ old. is_near (record { lo = lo; hi = to }) old ≡ true) (olds_of plan)
      (Each-weaker (λ old. is_near (record { lo = lo; hi = from }) old ≡ true) (λ old. is_near (record { lo = lo; hi = to }) old ≡ true) wider (olds_of plan)
      (recursion_from_All (λ old. is_near (record { lo = lo; hi = from }) old ≡ true) (olds_of plan) l.near));
  short = omega (
    arith,
    l.short,
    length-filter_wider (is_near (record { lo = lo; hi = from })) (is_near (record { lo = lo; hi = to })) areas
        (Each-always (λ area. is_near (record { lo = lo; hi = from }) area ≡ true → is_near (record { lo = lo; hi = to }) area ≡ true) wider areas),
  );
}
  where
    wider : (area : Record) → is_near (record { lo = lo; hi = from }) area ≡ true → is_near (record { lo = lo; hi = to }) area ≡ true
    wider area close = near_wider area.span.lo area.span.hi lo to from within close

-- and is local to the span
pub prefix_local : (end : ℕ) (prot : Prot) (span : Span) (areas : List Record) (stop : ℕ) (plan : List Change) → IsCanonical end areas → span.lo ≤ span.hi
    → stop ≡ stop_of prot span areas → plan ≡ all_planned (Changed (record { lo = span.lo; hi = stop }) (Protection prot)) None areas
    → IsLocal span areas plan
prefix_local end prot span areas stop plan c ascends is planned =
    let prefix : Span = prefix_of prot span areas in
    let found = stop_is prot span areas ascends in
    subst (IsLocal span areas) (sym (planned ∙ ap (up_to prot span areas) is))
    (local_wider span.lo (stop_of prot span areas) span.hi areas (all_planned (Changed prefix (Protection prot)) None areas) found.ends
    (plan_local end (Changed prefix (Protection prot)) prefix None areas c (one_in_order prefix found.begins) refl refl))
