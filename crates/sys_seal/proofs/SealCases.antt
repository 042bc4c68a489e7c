-- For `plan_seal`: mseal(2) by how far its tests come, and ranges without a hole.
use Rattle.std.proofs.Common.{◌≡◌, ◌≢◌, ◌≤◌, ◌<◌, ◌-◌, ℕ, Bool, true, false, ◌&&◌, nat_le, nat_lt, if◌then◌else◌, List, [], ◌∷◌, ◌++◌, length, Option, Some, None, refl, ap, sym, ◌∙◌, arith}
use Rattle.std.specs.Prelude.{is_some, is_none, IfSome}
use Rattle.std.proofs.lemmas.Bool.{ltb-true, le-leb, ltb-false, eqb-false, and_parts}
use Rattle.mm_types.specs.declared.area.Record.{Record}
use Rattle.mm_types.specs.declared.area.Span.{Span}
use Rattle.mm_types.specs.declared.call.Counters.{Counters}
use Rattle.mm_types.specs.declared.call.Errno.TheVariants.{Enomem}
use Rattle.mm_types.specs.declared.call.Reply.{Reply}
use Rattle.mm_types.specs.declared.call.Reply.TheVariants.{Refused, Zero}
use Rattle.mm_types.specs.declared.config.Config.{Config}
use Rattle.mm_types.specs.Rows.{first_row}
use Rattle.area_list.specs.Areas.{IsCanonical, IsSound, area_at, has_page, page_of}
use Rattle.area_list.specs.Changes.{sealed_list}
use Rattle.area_list.specs.Laws.{AllMayBecome}
use Rattle.area_list.specs.declared.attributes.AttrChange.TheVariants.{Seal}
use Rattle.area_list.proofs.Changed.{changed_canonical}
use Rattle.area_list.proofs.Finding.{find_keeps, find_passes}
use Rattle.area_rules.specs.declared.placement.Bounds.{Bounds}
use Rattle.area_rules.specs.Mseal.{has_hole, seal_request_rows, mseal_rows, mseal}
use Rattle.area_rules.specs.Munmap.{range_of}
use Rattle.area_rules.specs.Placement.{least_below}
use Rattle.area_rules.specs.Tables.{space_of, has_too_many_areas}
use Rattle.area_rules.proofs.Rows.{rows_false}
use Rattle.area_rules.proofs.Searching.{none_from_least}
use Rattle.split_merge.specs.Calls.{IsPrepared, IsPlannedCall}
use Rattle.split_merge.specs.declared.plan.Change.{Change}
use Rattle.split_merge.specs.Plans.{PlanView, applied, Makes}
use Rattle.split_merge.proofs.Calling.{unchanged, done}

-- a row that holds is the first of a longer table too
row_first : {A : Type 0} (test : Bool) (x y : A) (rest more : Option A) → (rest ≡ Some x → more ≡ Some x)
    → (if test then Some y else rest) ≡ Some x → (if test then Some y else more) ≡ Some x
row_first true x y rest more step is = is
row_first false x y rest more step is = step is

first_row-some : {A : Type 0} (rows more : List (Bool × A)) (x : A) → first_row rows ≡ Some x → first_row (rows ++ more) ≡ Some x
first_row-some [] more x is = absurd (cc)
first_row-some (row ∷ rows) more x is = row_first row.0 x row.1 (first_row rows) (first_row (rows ++ more)) (first_row-some rows more x) is

-- and where none holds the rest decides
row_none : {A : Type 0} (test : Bool) (y : A) (rest more other : Option A) → (rest ≡ None → more ≡ other)
    → (if test then Some y else rest) ≡ None → (if test then Some y else more) ≡ other
row_none true y rest more other step is = absurd (cc)
row_none false y rest more other step is = step is

first_row-none : {A : Type 0} (rows more : List (Bool × A)) → first_row rows ≡ None → first_row (rows ++ more) ≡ first_row more
first_row-none [] more is = refl
first_row-none (row ∷ rows) more is = row_none row.0 row.1 (first_row rows) (first_row (rows ++ more)) (first_row more) (first_row-none rows more) is

-- what is not there is none
nothing : {A : Type 0} (o : Option A) → is_some o ≡ false → o ≡ None
nothing None is = refl
nothing (Some x) is = absurd (cc)

something : {A : Type 0} (low page : ℕ) (o : Option A) → low ≤ page → (nat_le low page && is_none o) ≡ false → (x : A) × (o ≡ Some x)
something low page (Some x) above is = (x, refl)
something low page None above is = let at : nat_le low page ≡ true = le-leb low page above in absurd (cc)

-- in a span without a hole each page is mapped
mapped_there : (span : Span) (areas : List Record) (page : ℕ) → has_hole span areas ≡ false → span.lo ≤ page → page < span.hi
    → (area : Record) × (area_at areas page ≡ Some area)
unfolding has_hole
mapped_there span areas page whole above below =
    something span.lo page (area_at areas page) above
    (none_from_least (λ page. nat_le span.lo page && is_none (area_at areas page)) span.hi (nothing (least_below (λ page. nat_le span.lo page && is_none (area_at areas page)) span.hi) whole) page below)

-- so it ends at or below the end of the list
pub hole_within : (end : ℕ) (span : Span) (areas : List Record) → IsCanonical end areas → span.lo < span.hi → has_hole span areas ≡ false → span.hi ≤ end
hole_within end span areas canonical some whole =
    let last : ℕ = span.hi - 1 in
    let found = mapped_there span areas last whole (omega arith) (omega arith) in
    let ends = find_keeps (λ (a : Record). a.span.hi ≤ end) (λ (a : Record). has_page a.span last) areas found.0 canonical.below_end found.1 in
    let has = find_passes (λ (a : Record). has_page a.span last) areas found.0 found.1 in
    let below = ltb-true last found.0.span.hi (and_parts (nat_le found.0.span.lo last) (nat_lt last found.0.span.hi) has).1 in
    omega (arith, ends, below)

-- any page may be sealed
pub all_may : (span : Span) (areas : List Record) → AllMayBecome Seal span areas
all_may span areas page here = may (area_at areas page)
  where
    may : (o : Option Record) → IfSome o (λ area. true ≡ true)
    may None = tt
    may (Some area) = refl

module _ {config : Config} {bounds : Bounds} {most : ℕ} {old : PlanView} (prepared : IsPrepared config bounds most old)
    (new : PlanView) (room : new.room ≡ old.room) (areas : List Record) (sound : IsSound config areas) (addr len flags : ℕ) where
  -- a test of the request answers
  pub answered_call : (reply : Reply) → first_row (seal_request_rows addr len flags) ≡ Some reply → new.changes ≡ []
      → (counters : Counters) → IsPlannedCall bounds most areas (mseal config (space_of areas counters) addr len flags) reply old new
  unfolding mseal mseal_rows
  answered_call reply is none counters =
      unchanged prepared new room (space_of areas counters) (mseal config (space_of areas counters) addr len flags) reply
      (rw (first_row-some (seal_request_rows addr len flags) _ reply is) refl) none sound

  module _ (passes : first_row (seal_request_rows addr len flags) ≡ None) where
    -- a page of the range is not mapped
    pub holed_call : has_hole (range_of addr len) areas ≡ true → new.changes ≡ []
        → (counters : Counters) → IsPlannedCall bounds most areas (mseal config (space_of areas counters) addr len flags) (Refused Enomem) old new
    unfolding mseal mseal_rows
    holed_call hole none counters =
        unchanged prepared new room (space_of areas counters) (mseal config (space_of areas counters) addr len flags) (Refused Enomem)
        (rw (first_row-none (seal_request_rows addr len flags) _ passes, hole) refl) none sound

    -- too many areas would be left
    pub long_call : has_hole (range_of addr len) areas ≡ false → has_too_many_areas config (sealed_list (range_of addr len) areas) ≡ true → new.changes ≡ []
        → (counters : Counters) → IsPlannedCall bounds most areas (mseal config (space_of areas counters) addr len flags) (Refused Enomem) old new
    unfolding mseal mseal_rows
    long_call whole long none counters =
        unchanged prepared new room (space_of areas counters) (mseal config (space_of areas counters) addr len flags) (Refused Enomem)
        (rw (first_row-none (seal_request_rows addr len flags) _ passes, whole, long) refl) none sound

    -- the range is sealed
    pub sealed_call : has_hole (range_of addr len) areas ≡ false → has_too_many_areas config (sealed_list (range_of addr len) areas) ≡ false
        → (range_of addr len).lo ≤ (range_of addr len).hi → Makes new.changes areas (sealed_list (range_of addr len) areas)
        → (counters : Counters) → IsPlannedCall bounds most areas (mseal config (space_of areas counters) addr len flags) Zero old new
    unfolding mseal mseal_rows
    sealed_call whole short order made counters =
        done prepared new room areas (sealed_list (range_of addr len) areas) counters (mseal config (space_of areas counters) addr len flags) Zero
        (rw (first_row-none (seal_request_rows addr len flags) _ passes, whole, short) refl) made (record {
          canonical = changed_canonical (page_of config.limit) Seal (range_of addr len) areas order sound.canonical (all_may (range_of addr len) areas);
          few = ltb-false config.areas (length (sealed_list (range_of addr len) areas)) short;
        })

-- where no test of the request answers, the length is not empty
pub some_bytes : (addr len flags : ℕ) → first_row (seal_request_rows addr len flags) ≡ None → len ≢ 0
unfolding seal_request_rows
some_bytes addr len flags passes empty = eqb-false len 0 (rows_false (seal_request_rows addr len flags) passes).1.1.1.0 empty

-- the test on the length of the list, by the plan that makes it
pub length_test : (config : Config) (range : Span) (addr len : ℕ) (plan : List Change) (areas : List Record) (result test : Bool) → range ≡ range_of addr len
    → Makes plan areas (sealed_list range areas) → result ≡ nat_lt config.areas (length (applied plan areas)) → result ≡ test
    → has_too_many_areas config (sealed_list (range_of addr len) areas) ≡ test
length_test config range addr len plan areas result test is made tested outcome =
    ap (λ span. has_too_many_areas config (sealed_list span areas)) (sym is)
    ∙ ap (λ (list : List Record). nat_lt config.areas (length list)) (sym made.result) ∙ sym tested ∙ outcome
