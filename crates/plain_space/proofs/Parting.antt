-- For `Store::insert`, `Store::remove` and others: a list in chunks, parted at one of them.
use Rattle.std.proofs.Common.{◌≡◌, ◌≤◌, ◌<◌, ◌+◌, inl, inr, ℕ, suc, Bool, true, false, if◌then◌else◌, List, [], ◌∷◌, ◌++◌, length, take, drop, get_or, set, refl, ap, ◌∙◌, sym, subst, arith, append_assoc}
use Rattle.std.specs.List.{prefix_len, AllByRecursion as Each}
use Rattle.std.specs.List.Sorted.{IsNonDecreasingBy}
use Rattle.std.proofs.lemmas.Bool.{cases_eq}
use Rattle.std.proofs.lemmas.List.{drop_more, take_more, append-nil, length-append, take-append-drop, take-set, drop-set}
use Rattle.std.proofs.lemmas.List.Elements.{recursion_from_All}
use Rattle.std.proofs.Math.Numerals.{one-add}
use Rattle.mm_types.specs.declared.area.Record.{Record}
use Rattle.area_list.specs.Areas.{OfFirst}
use Rattle.area_list.proofs.Elements.{Pairs, Each-append, Each-left, Each-right, Each-weaker}
use Rattle.split_merge.proofs.Lists.{Pairs-right, Pairs-across}
use Rattle.plain_space.specs.Internal.Chunks.{areas_in_chunks, chunk_low, chunk_high, IsSome}
use Rattle.plain_space.proofs.InOrder.{AllPairs-from_Pairs}

pub areas_of-append : (xs ys : List (List Record)) → areas_in_chunks (xs ++ ys) ≡ areas_in_chunks xs ++ areas_in_chunks ys
areas_of-append [] ys = refl
areas_of-append (x ∷ xs) ys = ap (λ rest. x ++ rest) (areas_of-append xs ys) ∙ sym (append_assoc x (areas_in_chunks xs) (areas_in_chunks ys))

-- the chunk at a place, between those before and after it
pub parts_at : (chunks : List (List Record)) (place : ℕ) → place < length chunks
    → chunks ≡ take place chunks ++ (get_or chunks place [] ∷ drop (place + 1) chunks)
parts_at chunks place within = sym (take-append-drop place chunks) ∙ ap (λ rest. take place chunks ++ rest) (drop_more chunks place [] within)

pub areas_at : (chunks : List (List Record)) (place : ℕ) → place < length chunks
    → areas_in_chunks chunks ≡ areas_in_chunks (take place chunks) ++ (get_or chunks place [] ++ areas_in_chunks (drop (place + 1) chunks))
areas_at chunks place within = ap areas_in_chunks (parts_at chunks place within)
    ∙ areas_of-append (take place chunks) (get_or chunks place [] ∷ drop (place + 1) chunks)

-- and another in its place
pub parts_set : (chunks : List (List Record)) (place : ℕ) (chunk : List Record) → place < length chunks
    → set chunks place chunk ≡ take place chunks ++ (chunk ∷ drop (place + 1) chunks)
parts_set chunks place chunk within = sym (take-append-drop place (set chunks place chunk))
    ∙ ap (λ front. front ++ drop place (set chunks place chunk)) (take-set chunks place chunk)
    ∙ ap (λ rest. take place chunks ++ rest) (drop-set chunks place chunk within)

pub areas_set : (chunks : List (List Record)) (place : ℕ) (chunk : List Record) → place < length chunks
    → areas_in_chunks (set chunks place chunk) ≡ areas_in_chunks (take place chunks) ++ (chunk ++ areas_in_chunks (drop (place + 1) chunks))
areas_set chunks place chunk within = ap areas_in_chunks (parts_set chunks place chunk within)
    ∙ areas_of-append (take place chunks) (chunk ∷ drop (place + 1) chunks)

-- a list that does not fall, by recursion, and back
pub rise_pairs : {A : Type 0} (number : A → ℕ) (xs : List A) → IsNonDecreasingBy number xs → Pairs (λ a b. number a ≤ number b) xs
rise_pairs number [] rise = tt
rise_pairs number (x ∷ xs) rise = (
  recursion_from_All (λ y. number x ≤ number y) xs (λ k d within. rise 0 (suc k) d (omega arith) (omega arith)),
  rise_pairs number xs (λ i j d order within. rise (suc i) (suc j) d (omega arith) (omega arith)),
)

pub pairs_rise : {A : Type 0} (number : A → ℕ) (xs : List A) → Pairs (λ a b. number a ≤ number b) xs → IsNonDecreasingBy number xs
pairs_rise number xs pairs i j d order within = elim (cases_eq i j) [
  | inl same ↦ subst (λ k. number (get_or xs i d) ≤ number (get_or xs k d)) same (omega arith)
  | inr apart ↦ AllPairs-from_Pairs (λ a b. number a ≤ number b) xs pairs i j d (omega arith) within
]

pub Pairs-left : {A : Type 0} (R : A → A → Type 0) (xs ys : List A) → Pairs R (xs ++ ys) → Pairs R xs
Pairs-left R [] ys pairs = tt
Pairs-left R (x ∷ xs) ys pairs = (Each-left (R x) xs ys pairs.0, Pairs-left R xs ys pairs.1)

-- the one area begins at or below the other
abbrev pub NotAbove : Record → Record → Type 0
NotAbove a b = a.span.lo ≤ b.span.lo

-- the one area ends at or below the end of the other
abbrev pub EndsNotAbove : Record → Record → Type 0
EndsNotAbove a b = a.span.hi ≤ b.span.hi

each_low : (n : ℕ) (chunks : List (List Record)) → Each IsSome chunks → Each (λ a. n ≤ a.span.lo) (areas_in_chunks chunks) → Each (λ chunk. n ≤ chunk_low chunk) chunks
each_low n [] some each = tt
each_low n ([] ∷ chunks) some each = absurd (omega (arith, some.0))
each_low n ((area ∷ areas) ∷ chunks) some each = (each.0, each_low n chunks some.1 (Each-right (λ a. n ≤ a.span.lo) (area ∷ areas) (areas_in_chunks chunks) each))

-- chunks lie by ascending lowest page where their areas do
pub lows_rise : (chunks : List (List Record)) → Each IsSome chunks → Pairs NotAbove (areas_in_chunks chunks) → Pairs (λ a b. chunk_low a ≤ chunk_low b) chunks
lows_rise [] some pairs = tt
lows_rise ([] ∷ chunks) some pairs = absurd (omega (arith, some.0))
lows_rise ((area ∷ areas) ∷ chunks) some pairs = (
  each_low area.span.lo chunks some.1 (Each-right (NotAbove area) areas (areas_in_chunks chunks) pairs.0),
  lows_rise chunks some.1 (Pairs-right NotAbove (area ∷ areas) (areas_in_chunks chunks) pairs),
)

-- what holds of the end of each area of a chunk holds of its end
pub each_high_of : (Q : ℕ → Type 0) (chunk : List Record) → 0 < length chunk → Each (λ a. Q a.span.hi) chunk → Q (chunk_high chunk)
each_high_of Q [] some each = absurd (omega (arith, some))
each_high_of Q (a ∷ []) some each = each.0
each_high_of Q (a ∷ (b ∷ rest)) some each = each_high_of Q (b ∷ rest) (omega arith) each.1

each_high : (n : ℕ) (chunks : List (List Record)) → Each IsSome chunks → Each (λ a. n ≤ a.span.hi) (areas_in_chunks chunks) → Each (λ chunk. n ≤ chunk_high chunk) chunks
each_high n [] some each = tt
each_high n (chunk ∷ chunks) some each = (
  each_high_of (λ h. n ≤ h) chunk some.0 (Each-left (λ a. n ≤ a.span.hi) chunk (areas_in_chunks chunks) each),
  each_high n chunks some.1 (Each-right (λ a. n ≤ a.span.hi) chunk (areas_in_chunks chunks) each),
)

-- and by ascending end
pub highs_rise : (chunks : List (List Record)) → Each IsSome chunks → Pairs EndsNotAbove (areas_in_chunks chunks) → Pairs (λ a b. chunk_high a ≤ chunk_high b) chunks
highs_rise [] some pairs = tt
highs_rise (chunk ∷ chunks) some pairs = (
  each_high (chunk_high chunk) chunks some.1
      (each_high_of (λ h. Each (λ b. h ≤ b.span.hi) (areas_in_chunks chunks)) chunk some.0 (Pairs-across EndsNotAbove chunk (areas_in_chunks chunks) pairs)),
  highs_rise chunks some.1 (Pairs-right EndsNotAbove chunk (areas_in_chunks chunks) pairs),
)

-- no area of a chunk ends above its end, and none begins below its beginning
pub below_high : (chunk : List Record) → Pairs EndsNotAbove chunk → Each (λ a. a.span.hi ≤ chunk_high chunk) chunk
below_high [] pairs = tt
below_high (a ∷ []) pairs = (omega arith, tt)
below_high (a ∷ (b ∷ rest)) pairs = (each_high_of (λ h. a.span.hi ≤ h) (b ∷ rest) (omega arith) pairs.0, below_high (b ∷ rest) pairs.1)

pub above_low : (chunk : List Record) → Pairs NotAbove chunk → Each (λ a. chunk_low chunk ≤ a.span.lo) chunk
above_low [] pairs = tt
above_low (a ∷ rest) pairs = (omega arith, pairs.0)

-- the elements that pass a test come first, and the next does not pass it
pub front_passes : {A : Type 0} (test : A → Bool) (xs : List A) → Each (λ x. test x ≡ true) (take (prefix_len test xs) xs)
front_passes test [] = tt
front_passes test (x ∷ xs) = by (test x) refl (front_passes test xs)
  where
    by : (passes : Bool) → test x ≡ passes → Each (λ y. test y ≡ true) (take (prefix_len test xs) xs)
        → Each (λ y. test y ≡ true) (take (if passes then 1 + prefix_len test xs else 0) (x ∷ xs))
    by true is before = subst (λ n. Each (λ y. test y ≡ true) (take n (x ∷ xs))) (sym (one-add (prefix_len test xs))) (is, before)
    by false is before = tt

pub back_stops : {A : Type 0} (test : A → Bool) (xs : List A) → OfFirst (λ x. test x ≡ false) (drop (prefix_len test xs) xs)
back_stops test [] = tt
back_stops test (x ∷ xs) = by (test x) refl (back_stops test xs)
  where
    by : (passes : Bool) → test x ≡ passes → OfFirst (λ y. test y ≡ false) (drop (prefix_len test xs) xs)
        → OfFirst (λ y. test y ≡ false) (drop (if passes then 1 + prefix_len test xs else 0) (x ∷ xs))
    by true is before = subst (λ n. OfFirst (λ y. test y ≡ false) (drop n (x ∷ xs))) (sym (one-add (prefix_len test xs))) before
    by false is before = is

-- where a chunk begins below a page, so does each area before it
pub front_below : (gap page : ℕ) (front chunk back : List Record) → 0 < length chunk → Pairs (λ a b. a.span.lo + gap ≤ b.span.lo) (front ++ (chunk ++ back))
    → chunk_low chunk < page + gap → Each (λ a. a.span.lo < page) front
front_below gap page front [] back some pairs low = absurd (omega (arith, some))
front_below gap page front (area ∷ areas) back some pairs low =
    Each-weaker (λ a. Each (λ b. a.span.lo + gap ≤ b.span.lo) (area ∷ (areas ++ back))) (λ a. a.span.lo < page) (λ a each. omega (arith, each.0, low)) front
    (Pairs-across (λ a b. a.span.lo + gap ≤ b.span.lo) front (area ∷ (areas ++ back)) pairs)

-- where the first of some chunks does not begin below a page, no area of them does
pub back_from : (page : ℕ) (chunks : List (List Record)) → Each IsSome chunks → Pairs NotAbove (areas_in_chunks chunks) → OfFirst (λ chunk. page ≤ chunk_low chunk) chunks
    → Each (λ a. page ≤ a.span.lo) (areas_in_chunks chunks)
back_from page [] some pairs low = tt
back_from page ([] ∷ chunks) some pairs low = absurd (omega (arith, some.0))
back_from page ((area ∷ areas) ∷ chunks) some pairs low =
    (low, Each-weaker (NotAbove area) (λ a. page ≤ a.span.lo) (λ a above. omega (arith, above, low)) (areas ++ areas_in_chunks chunks) pairs.0)

-- where each of some chunks ends by a page, so does each area of them
pub front_ends : (page : ℕ) (chunks : List (List Record)) → Pairs EndsNotAbove (areas_in_chunks chunks) → Each (λ chunk. chunk_high chunk ≤ page) chunks
    → Each (λ a. a.span.hi ≤ page) (areas_in_chunks chunks)
front_ends page [] pairs each = tt
front_ends page (chunk ∷ chunks) pairs each = Each-append (λ a. a.span.hi ≤ page) chunk (areas_in_chunks chunks)
    (Each-weaker (λ a. a.span.hi ≤ chunk_high chunk) (λ a. a.span.hi ≤ page) (λ a below. omega (arith, below, each.0)) chunk
    (below_high chunk (Pairs-left EndsNotAbove chunk (areas_in_chunks chunks) pairs)))
    (front_ends page chunks (Pairs-right EndsNotAbove chunk (areas_in_chunks chunks) pairs) each.1)

-- the areas of the chunks so far, and of one more
pub areas_more : (chunks : List (List Record)) (place : ℕ) → place < length chunks
    → areas_in_chunks (take (place + 1) chunks) ≡ areas_in_chunks (take place chunks) ++ get_or chunks place []
areas_more chunks place within = ap areas_in_chunks (take_more chunks place [] within)
    ∙ areas_of-append (take place chunks) (get_or chunks place [] ∷ [])
    ∙ ap (λ rest. areas_in_chunks (take place chunks) ++ rest) (append-nil (get_or chunks place []))

-- they are no more than all
pub areas_within : (chunks : List (List Record)) (place : ℕ) → place < length chunks
    → length (areas_in_chunks (take place chunks)) + length (get_or chunks place []) ≤ length (areas_in_chunks chunks)
areas_within chunks place within =
    let front = areas_in_chunks (take place chunks) in
    let chunk = get_or chunks place [] in
    let back = areas_in_chunks (drop (place + 1) chunks) in
    omega (arith, ap length (areas_at chunks place within), length-append front (chunk ++ back), length-append chunk back)
