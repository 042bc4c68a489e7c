-- For the plan calls of the crates above: what the calls have in common: plans of calls that are refused, ranges, and sound lists.
use Rattle.std.proofs.Common.{◌≡◌, ◌≤◌, ◌<◌, ◌+◌, ◌*◌, ◌/◌, ◌%◌, ◌∙◌, ℕ, true, nat_eq, List, [], refl, ap, sym, subst, arith}
use Rattle.std.proofs.lemmas.Bool.Decides.{nat_tests}
use Rattle.mm_types.specs.declared.area.Span.{Span}
use Rattle.mm_types.specs.declared.area.Record.{Record}
use Rattle.mm_types.specs.declared.config.Config.{Config}
use Rattle.mm_types.specs.declared.config.TheConstants.{PAGE_SIZE}
use Rattle.area_rules.specs.declared.placement.Bounds.{Bounds}
use Rattle.area_list.specs.Areas.{IsCanonical, IsSound}
use Rattle.area_rules.specs.Munmap.{range_of}
use Rattle.area_rules.specs.Placement.{bounds_of}
use Rattle.area_rules.specs.Tables.{pages_of, is_aligned}
use Rattle.split_merge.specs.declared.plan.Change.{Change}
use Rattle.split_merge.specs.Plans.{IsLocal, applied, Makes, IsPlannedFor}

applied_none : (areas : List Record) → applied [] areas ≡ areas
unfolding applied
applied_none areas = refl

-- an empty plan makes the list that there is
pub nothing_made : (plan : List Change) (areas list : List Record) → plan ≡ [] → list ≡ areas → Makes plan areas list
nothing_made plan areas list none same =
    subst (λ changes. Makes changes areas list) (sym none) (record {
      plan_of = record { members = λ k d within. absurd (omega arith); distinct = λ i j d before within. absurd (omega arith) };
      result = applied_none areas ∙ sym same;
      real = λ k d within. absurd (omega arith);
    })

-- an empty plan is local to any span
pub nothing_local : (plan : List Change) (span : Span) (areas : List Record) → plan ≡ [] → IsLocal span areas plan
nothing_local plan span areas none =
    subst (λ changes. IsLocal span areas changes) (sym none) (record {
      near = λ k d within. absurd (omega arith);
      short = omega arith;
    })

-- a length has a page
pub some_pages : (len : ℕ) → (len ≡ 0 → ⊥) → 0 < pages_of len
unfolding pages_of
some_pages len some = tests len some
  where
    tests : (n : ℕ) → (n ≡ 0 → ⊥) → 0 < (n + 4095) / 4096
    tests n h = grind (arith, nat_tests)

-- and so has its range
pub range_some : (addr len : ℕ) (range : Span) → (len ≡ 0 → ⊥) → range ≡ range_of addr len → range.lo < range.hi
unfolding range_of
range_some addr len range some is = omega (arith, some_pages len some, ap (λ (r : Span). r.lo) is, ap (λ (r : Span). r.hi) is)

-- a range that begins a page and ends at or below the limit ends at or below the limit's page
pub range_within : (config : Config) (bounds : Bounds) (addr len : ℕ) (range : Span) → bounds ≡ bounds_of config → is_aligned addr ≡ true
    → addr + PAGE_SIZE * pages_of len ≤ config.limit → range ≡ range_of addr len → range.hi ≤ bounds.limit
unfolding range_of
range_within config bounds addr len range numbers aligned within is =
    omega (arith, tests addr (pages_of len) config.limit aligned within, ap (λ (r : Span). r.hi) is, ap (λ (b : Bounds). b.limit) numbers)
  where
    tests : (addr pages limit : ℕ) → nat_eq (addr % 4096) 0 ≡ true → addr + 4096 * pages ≤ limit → addr / 4096 + pages ≤ limit / 4096
    tests addr pages limit aligned within = grind (arith, nat_tests)

-- a sound list is kept by the numbers of its configuration
pub kept_if_sound : (config : Config) (bounds : Bounds) (most : ℕ) (plan : List Change) (areas list : List Record) → bounds ≡ bounds_of config
    → most ≡ config.areas → applied plan areas ≡ list → IsSound config list → IsPlannedFor bounds most (applied plan areas)
kept_if_sound config bounds most plan areas list numbers allowed is sound =
    subst (λ (after : List Record). IsPlannedFor bounds most after) (sym is) (record {
      canonical = subst (λ (b : Bounds). IsCanonical b.limit list) (sym numbers) sound.canonical;
      few = omega (arith, sound.few, allowed);
    })

-- an empty plan keeps the list
pub nothing_kept : (config : Config) (bounds : Bounds) (most : ℕ) (plan : List Change) (areas : List Record) → bounds ≡ bounds_of config
    → most ≡ config.areas → plan ≡ [] → IsSound config areas → IsPlannedFor bounds most (applied plan areas)
nothing_kept config bounds most plan areas numbers allowed none sound = kept_if_sound config bounds most plan areas areas numbers allowed
    (ap (λ changes. applied changes areas) none ∙ applied_none areas) sound
