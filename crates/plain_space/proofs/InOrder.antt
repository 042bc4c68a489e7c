-- For `AreaChunks::apply`, `Chunk::from`, `Chunk::before` and others: canonical lists lie in ascending order, by index.
use Rattle.std.proofs.Common.{◌≡◌, ◌≤◌, ◌<◌, ◌+◌, ℕ, Bool, true, false, if◌then◌else◌, nat_le, nat_lt, List, [], ◌∷◌, take, slice_get, Some, None, refl, ap, ◌∙◌, sym, All, AllPairs, arith}
use Rattle.std.specs.List.{filter, last_or, AllByRecursion as Each}
use Rattle.std.proofs.lemmas.Bool.{cond-true, cond-false, ltb-false, leb-true, leb-false, lt-ltb, le-ltb}
use Rattle.std.proofs.lemmas.List.Elements.{All-from_recursion}
use Rattle.std.proofs.lemmas.List.Kept.{AllPairs-cons}
use Rattle.std.proofs.Math.Numerals.{one-add}
use Rattle.mm_types.specs.declared.area.Record.{Record}
use Rattle.mm_types.specs.Records.{IsValid}
use Rattle.area_list.specs.Areas.{IsCanonical}
use Rattle.area_list.proofs.Elements.{Pairs, Each-weaker, Each-also}
use Rattle.area_list.proofs.Order.{Before}
use Rattle.split_merge.specs.Finding.{first_from, last_before}
use Rattle.split_merge.proofs.Ascending.{Below, ascending}
use Rattle.split_merge.proofs.Walking.{in_order, filter_none}
use Rattle.split_merge.specs.Sorted.{begins_below, ends_by, BeginsAscend, EndsAscend}
use Rattle.plain_space.specs.Internal.Chunks.{areas_in_chunks, IsFilled, AscendApart}

pub AllPairs-from_Pairs : {A : Type 0} (R : A → A → Type 0) (xs : List A) → Pairs R xs → AllPairs R xs
AllPairs-from_Pairs R [] pairs = λ i j d before within. absurd (omega arith)
AllPairs-from_Pairs R (x ∷ xs) pairs = AllPairs-cons R x xs (All-from_recursion (R x) xs pairs.0) (AllPairs-from_Pairs R xs pairs.1)

pub begins_ascend : (end : ℕ) (areas : List Record) → IsCanonical end areas → BeginsAscend areas
begins_ascend end areas c = AllPairs-from_Pairs Below areas (ascending end areas c)

-- the one area ends below the end of the other
abbrev EndsBelow : Record → Record → Type 0
EndsBelow a b = a.span.hi < b.span.hi

ends_pairs : (areas : List Record) → Each IsValid areas → Pairs Before areas → Pairs EndsBelow areas
ends_pairs [] valid order = tt
ends_pairs (area ∷ areas) valid order = (
  Each-also IsValid (Before area) (EndsBelow area) (λ next v before. omega (arith, v.some_pages)) areas valid.1 order.0,
  ends_pairs areas valid.1 order.1,
)

pub ends_ascend : (end : ℕ) (areas : List Record) → IsCanonical end areas → EndsAscend areas
ends_ascend end areas c = let o = in_order end areas c in AllPairs-from_Pairs EndsBelow areas (ends_pairs areas o.valid o.ordered)

-- the first area that ends above a page stands after those that do not
pub from_is : (areas : List Record) (page : ℕ) → slice_get areas (ends_by page areas) ≡ first_from areas page
from_is [] page = refl
from_is (area ∷ areas) page = by (nat_le area.span.hi page) refl (from_is areas page)
  where
    by : (test : Bool) → nat_le area.span.hi page ≡ test → slice_get areas (ends_by page areas) ≡ first_from areas page
        → slice_get (area ∷ areas) (if test then 1 + ends_by page areas else 0)
        ≡ (if nat_lt page area.span.hi then Some area else first_from areas page)
    by true is before = ap (slice_get (area ∷ areas)) (one-add (ends_by page areas)) ∙ before
        ∙ sym (cond-false (nat_lt page area.span.hi) (Some area) (first_from areas page) (le-ltb page area.span.hi (leb-true area.span.hi page is)))
    by false is before = sym (cond-true (nat_lt page area.span.hi) (Some area) (first_from areas page) (lt-ltb page area.span.hi (leb-false area.span.hi page is)))

-- the areas before a place are those that begin below it
pub front_is : (areas : List Record) (page : ℕ) → Pairs Below areas
    → take (begins_below page areas) areas ≡ filter (λ area. nat_lt area.span.lo page) areas
front_is [] page pairs = refl
front_is (area ∷ areas) page pairs = by (nat_lt area.span.lo page) refl (front_is areas page pairs.1)
  where
    by : (test : Bool) → nat_lt area.span.lo page ≡ test
        → take (begins_below page areas) areas ≡ filter (λ other. nat_lt other.span.lo page) areas
        → take (if test then 1 + begins_below page areas else 0) (area ∷ areas)
        ≡ (if test then area ∷ filter (λ other. nat_lt other.span.lo page) areas else filter (λ other. nat_lt other.span.lo page) areas)
    by true is before = ap (λ n. take n (area ∷ areas)) (one-add (begins_below page areas)) ∙ ap (λ rest. area ∷ rest) before
    by false is before = sym (filter_none page areas (Each-weaker (Below area) (λ other. page ≤ other.span.lo)
        (λ other below. omega (arith, ltb-false area.span.lo page is)) areas pairs.0))

pub before_is : (end : ℕ) (areas : List Record) (page : ℕ) → IsCanonical end areas
    → last_or None (take (begins_below page areas) areas) ≡ last_before areas page
before_is end areas page c = ap (last_or None) (front_is areas page (ascending end areas c))

-- chunks that are filled, of a canonical list
pub apart : (end : ℕ) (chunks : List (List Record)) → All IsFilled chunks → IsCanonical end (areas_in_chunks chunks) → AscendApart chunks
apart end chunks filled c = record {
  some = λ k d within. (filled k d within).0;
  begins = begins_ascend end (areas_in_chunks chunks) c;
  ends = ends_ascend end (areas_in_chunks chunks) c;
}
