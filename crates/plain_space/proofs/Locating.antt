-- For `Store::insert` and `Store::remove`: the chunk that an area comes into or goes out of.
use Rattle.std.proofs.Common.{◌≡◌, ◌≤◌, ◌<◌, ◌+◌, ◌-◌, inl, inr, ℕ, zero, suc, Bool, true, false, nat_le, nat_lt, List, [], ◌∷◌, ◌++◌, length, take, drop, get_or, set, ap, ◌∙◌, sym, subst, All, arith}
use Rattle.std.specs.List.{prefix_len, Contains, AllByRecursion as Each}
use Rattle.std.proofs.lemmas.Bool.{cases_lt, ltb-true, ltb-false, leb-true, leb-false}
use Rattle.std.proofs.lemmas.List.{take-append-drop}
use Rattle.std.proofs.lemmas.List.Elements.{All-contains, All-from_recursion, recursion_from_All, Contains-append_cases}
use Rattle.std.proofs.lemmas.List.Sums.{prefix_len_passes, prefix_len-le-length}
use Rattle.mm_types.specs.declared.area.Record.{Record}
use Rattle.area_list.specs.Areas.{OfFirst}
use Rattle.area_list.specs.Changes.{insert_area}
use Rattle.area_list.proofs.Elements.{Pairs, Each-right, Each-weaker, Pairs-weaker}
use Rattle.split_merge.specs.Plans.{without}
use Rattle.split_merge.proofs.Ascending.{Below}
use Rattle.split_merge.proofs.Lists.{Pairs-right}
use Rattle.split_merge.specs.Sorted.{BeginsRise, BeginsAscend}
use Rattle.plain_space.specs.Internal.Chunks.{areas_in_chunks, chunk_low, IsSome}
use Rattle.split_merge.proofs.Going.{ascending_pairs}
use Rattle.plain_space.proofs.InOrder.{AllPairs-from_Pairs}
use Rattle.plain_space.proofs.Parting.{areas_of-append, areas_at, areas_set, rise_pairs, Pairs-left, NotAbove, back_stops, front_below, back_from}
use Rattle.plain_space.proofs.Ranging.{without_among, insert_behind, insert_before}

each_drop : (P : Record → Type 0) (count : ℕ) (chunks : List (List Record)) → Each P (areas_in_chunks chunks) → Each P (areas_in_chunks (drop count chunks))
each_drop P zero chunks each = each
each_drop P (suc n) [] each = tt
each_drop P (suc n) (chunk ∷ chunks) each = each_drop P n chunks (Each-right P chunk (areas_in_chunks chunks) each)

-- what holds of the areas from a place on holds of those from a later one on
each_behind : (P : Record → Type 0) (count later : ℕ) (chunks : List (List Record)) → count ≤ later → Each P (areas_in_chunks (drop count chunks))
    → Each P (areas_in_chunks (drop later chunks))
each_behind P zero later chunks order each = each_drop P later chunks each
each_behind P (suc n) zero chunks order each = absurd (omega (arith, order))
each_behind P (suc n) (suc m) [] order each = tt
each_behind P (suc n) (suc m) (chunk ∷ chunks) order each = each_behind P n m chunks (omega (arith, order)) each

OfFirst-weaker : {A : Type 0} (P Q : A → Type 0) → ((x : A) → P x → Q x) → (xs : List A) → OfFirst P xs → OfFirst Q xs
OfFirst-weaker P Q step [] first = tt
OfFirst-weaker P Q step (x ∷ xs) first = step x first

-- the one area begins so far below the other
abbrev pub IsBelowBy : ℕ → Record → Record → Type 0
IsBelowBy gap a b = a.span.lo + gap ≤ b.span.lo

-- a place among chunks: the areas before its chunk begin below a page, and those after it do not begin below it, or below the next one
pub record IsLocated (gap page : ℕ) (chunks : List (List Record)) (place : ℕ) : Type 0 where
  pub within : place < length chunks
  pub front : Each (λ a. a.span.lo < page) (areas_in_chunks (take place chunks))
  pub back : Each (λ a. page + gap ≤ a.span.lo) (areas_in_chunks (drop (place + 1) chunks))

-- the areas of chunks around one, which lie as all do
pub pairs_at : (R : Record → Record → Type 0) (chunks : List (List Record)) (place : ℕ) → place < length chunks → Pairs R (areas_in_chunks chunks)
    → Pairs R (areas_in_chunks (take place chunks) ++ (get_or chunks place [] ++ areas_in_chunks (drop (place + 1) chunks)))
pairs_at R chunks place within pairs = subst (λ (list : List Record). Pairs R list) (areas_at chunks place within) pairs

pub pairs_within : (R : Record → Record → Type 0) (chunks : List (List Record)) (place : ℕ) → place < length chunks → Pairs R (areas_in_chunks chunks)
    → Pairs R (get_or chunks place [])
pairs_within R chunks place within pairs =
    Pairs-left R (get_or chunks place []) (areas_in_chunks (drop (place + 1) chunks))
    (Pairs-right R (areas_in_chunks (take place chunks)) (get_or chunks place [] ++ areas_in_chunks (drop (place + 1) chunks)) (pairs_at R chunks place within pairs))

pub some_at : (P : List Record → Type 0) (chunks : List (List Record)) (place : ℕ) → place < length chunks → All P chunks → P (get_or chunks place [])
some_at P chunks place within each = each place [] within

pub pairs_from : (R : Record → Record → Type 0) (chunks : List (List Record)) (count : ℕ) → Pairs R (areas_in_chunks chunks) → Pairs R (areas_in_chunks (drop count chunks))
pairs_from R chunks count pairs = Pairs-right R (areas_in_chunks (take count chunks)) (areas_in_chunks (drop count chunks))
    (subst (λ (list : List Record). Pairs R list) (ap areas_in_chunks (sym (take-append-drop count chunks)) ∙ areas_of-append (take count chunks) (drop count chunks)) pairs)

each_from : (chunks : List (List Record)) (count : ℕ) → Each IsSome chunks → Each IsSome (drop count chunks)
each_from chunks count each = Each-right IsSome (take count chunks) (drop count chunks)
    (subst (λ list. Each IsSome list) (sym (take-append-drop count chunks)) each)

module _ (gap page : ℕ) (test : List Record → Bool) (passes : (chunk : List Record) → test chunk ≡ true → chunk_low chunk < page + gap)
    (stops : (chunk : List Record) → test chunk ≡ false → page + gap ≤ chunk_low chunk) (chunks : List (List Record)) (some : All IsSome chunks)
    (pairs : Pairs (IsBelowBy gap) (areas_in_chunks chunks)) where
  -- the areas of the chunks that do not begin below
  pub all_behind : Each (λ a. page + gap ≤ a.span.lo) (areas_in_chunks (drop (prefix_len test chunks) chunks))
  all_behind = back_from (page + gap) (drop (prefix_len test chunks) chunks) (each_from chunks (prefix_len test chunks) (recursion_from_All IsSome chunks some))
      (pairs_from NotAbove chunks (prefix_len test chunks) (Pairs-weaker (IsBelowBy gap) NotAbove (λ a b below. omega (arith, below)) (areas_in_chunks chunks) pairs))
      (OfFirst-weaker (λ chunk. test chunk ≡ false) (λ chunk. page + gap ≤ chunk_low chunk) stops (drop (prefix_len test chunks) chunks) (back_stops test chunks))

  -- the last chunk that begins below, or else the first
  pub located : (place : ℕ) → place ≡ prefix_len test chunks - 1 → 0 < length chunks → IsLocated gap page chunks place
  located place is any = record {
    within = inside;
    front = elim (cases_lt 0 (prefix_len test chunks)) [
      | inl later ↦ front_below gap page (areas_in_chunks (take place chunks)) (get_or chunks place []) (areas_in_chunks (drop (place + 1) chunks))
          (some_at IsSome chunks place inside some) (pairs_at (IsBelowBy gap) chunks place inside pairs)
          (passes (get_or chunks place []) (prefix_len_passes test chunks place [] (omega (arith, is, later))))
      | inr first ↦ subst (λ n. Each (λ a. a.span.lo < page) (areas_in_chunks (take n chunks))) (none first) tt
    ];
    back = each_behind (λ a. page + gap ≤ a.span.lo) (prefix_len test chunks) (place + 1) chunks (omega (arith, is)) all_behind;
  }
    where
      inside : place < length chunks
      inside = omega (arith, is, prefix_len-le-length test chunks, any)

      none : prefix_len test chunks ≤ 0 → 0 ≡ place
      none first = omega (arith, is, first)

pub rise_by_none : (areas : List Record) → BeginsRise areas → Pairs (IsBelowBy 0) areas
rise_by_none areas rise = Pairs-weaker (λ a b. a.span.lo ≤ b.span.lo) (IsBelowBy 0) (λ a b order. omega (arith, order)) areas (rise_pairs (λ (a : Record). a.span.lo) areas rise)

ascend_by_one : (areas : List Record) → BeginsAscend areas → Pairs (IsBelowBy 1) areas
ascend_by_one areas ascend = Pairs-weaker Below (IsBelowBy 1) (λ a b below. omega (arith, below)) areas (ascending_pairs areas ascend)

-- where an area comes in
pub comes_into : (chunks : List (List Record)) (page place : ℕ) → All IsSome chunks → BeginsRise (areas_in_chunks chunks) → 0 < length chunks
    → place ≡ prefix_len (λ chunk. nat_lt (chunk_low chunk) page) chunks - 1 → IsLocated 0 page chunks place
comes_into chunks page place some rise any is = located 0 page (λ chunk. nat_lt (chunk_low chunk) page)
    (λ chunk passes. omega (arith, ltb-true (chunk_low chunk) page passes)) (λ chunk stops. omega (arith, ltb-false (chunk_low chunk) page stops))
    chunks some (rise_by_none (areas_in_chunks chunks) rise) place is any

pub come_into : (chunks : List (List Record)) (new : Record) (place : ℕ) → IsLocated 0 new.span.lo chunks place
    → areas_in_chunks (set chunks place (insert_area new (get_or chunks place []))) ≡ insert_area new (areas_in_chunks chunks)
come_into chunks new place at =
    let front = areas_in_chunks (take place chunks) in
    let chunk = get_or chunks place [] in
    let back = areas_in_chunks (drop (place + 1) chunks) in
    areas_set chunks place (insert_area new chunk) at.within
    ∙ sym (ap (insert_area new) (areas_at chunks place at.within)
    ∙ insert_behind new front (chunk ++ back) at.front
    ∙ ap (λ rest. front ++ rest) (insert_before new chunk back
    (Each-weaker (λ a. new.span.lo + 0 ≤ a.span.lo) (λ a. new.span.lo ≤ a.span.lo) (λ a above. omega (arith, above)) back at.back)))

not_below : {n : ℕ} → n < n → ⊥
not_below h = omega arith

module _ (chunks : List (List Record)) (old : Record) (some : All IsSome chunks) (ascend : BeginsAscend (areas_in_chunks chunks)) (member : Contains (areas_in_chunks chunks) old) where
  -- some chunk begins at or below an area that is there
  pub some_begins : 0 < prefix_len (λ chunk. nat_le (chunk_low chunk) old.span.lo) chunks
  some_begins = elim (cases_lt 0 (prefix_len (λ chunk. nat_le (chunk_low chunk) old.span.lo) chunks)) [
    | inl later ↦ later
    | inr first ↦
        let none : prefix_len (λ chunk. nat_le (chunk_low chunk) old.span.lo) chunks ≡ 0 = omega (arith, first) in
        let above : old.span.lo + 1 ≤ old.span.lo = All-contains (λ a. old.span.lo + 1 ≤ a.span.lo) (areas_in_chunks chunks) old
        (All-from_recursion (λ a. old.span.lo + 1 ≤ a.span.lo) (areas_in_chunks chunks)
        (subst (λ n. Each (λ a. old.span.lo + 1 ≤ a.span.lo) (areas_in_chunks (drop n chunks))) none
        (all_behind 1 old.span.lo (λ chunk. nat_le (chunk_low chunk) old.span.lo)
        (λ chunk passes. omega (arith, leb-true (chunk_low chunk) old.span.lo passes)) (λ chunk stops. omega (arith, leb-false (chunk_low chunk) old.span.lo stops))
        chunks some (ascend_by_one (areas_in_chunks chunks) ascend)))) member in
        absurd (omega (arith, above))
  ]

  -- where it goes out
  pub goes_from : (place : ℕ) → place ≡ prefix_len (λ chunk. nat_le (chunk_low chunk) old.span.lo) chunks - 1 → IsLocated 1 old.span.lo chunks place
  goes_from place is = located 1 old.span.lo (λ chunk. nat_le (chunk_low chunk) old.span.lo)
      (λ chunk passes. omega (arith, leb-true (chunk_low chunk) old.span.lo passes)) (λ chunk stops. omega (arith, leb-false (chunk_low chunk) old.span.lo stops))
      chunks some (ascend_by_one (areas_in_chunks chunks) ascend) place is
      (omega (arith, some_begins, prefix_len-le-length (λ (chunk : List Record). nat_le (chunk_low chunk) old.span.lo) chunks))

  -- its chunk ascends
  pub ascends_within : (place : ℕ) → place < length chunks → BeginsAscend (get_or chunks place [])
  ascends_within place within = AllPairs-from_Pairs Below (get_or chunks place []) (pairs_within Below chunks place within (ascending_pairs (areas_in_chunks chunks) ascend))

  -- and has it
  pub member_within : (place : ℕ) → IsLocated 1 old.span.lo chunks place → Contains (get_or chunks place []) old
  member_within place at =
      elim (Contains-append_cases (areas_in_chunks (take place chunks)) (get_or chunks place [] ++ areas_in_chunks (drop (place + 1) chunks)) old
      (subst (λ (list : List Record). Contains list old) (areas_at chunks place at.within) member)) [
        | inl front ↦ absurd (not_below (All-contains (λ a. a.span.lo < old.span.lo) (areas_in_chunks (take place chunks)) old
            (All-from_recursion (λ a. a.span.lo < old.span.lo) (areas_in_chunks (take place chunks)) at.front) front))
        | inr rest ↦ elim (Contains-append_cases (get_or chunks place []) (areas_in_chunks (drop (place + 1) chunks)) old rest) [
          | inl here ↦ here
          | inr back ↦ absurd (above_itself (All-contains (λ a. old.span.lo + 1 ≤ a.span.lo) (areas_in_chunks (drop (place + 1) chunks)) old
              (All-from_recursion (λ a. old.span.lo + 1 ≤ a.span.lo) (areas_in_chunks (drop (place + 1) chunks)) at.back) back))
        ]
      ]
    where
      above_itself : {n : ℕ} → n + 1 ≤ n → ⊥
      above_itself h = omega arith

  pub go_from : (place : ℕ) → IsLocated 1 old.span.lo chunks place
      → areas_in_chunks (set chunks place (without (old ∷ []) (get_or chunks place []))) ≡ without (old ∷ []) (areas_in_chunks chunks)
  go_from place at =
      let front = areas_in_chunks (take place chunks) in
      let chunk = get_or chunks place [] in
      let back = areas_in_chunks (drop (place + 1) chunks) in
      areas_set chunks place (without (old ∷ []) chunk) at.within
      ∙ sym (ap (without (old ∷ [])) (areas_at chunks place at.within)
      ∙ without_among (old ∷ []) front chunk back (
        record {
          above = at.front;
          below = Each-weaker (λ a. old.span.lo + 1 ≤ a.span.lo) (λ a. old.span.lo < a.span.lo) (λ a above. omega (arith, above)) back at.back;
        },
        tt,
      ))
