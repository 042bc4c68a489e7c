-- For `AreaTree::facts` and others: pairs in order, and what their slots show.
use Rattle.std.proofs.Common.{ℕ, zero, suc, ◌≡◌, ◌<◌, ◌≤◌, List, [], ◌∷◌, length, get_or, map, All, refl, sym, ap, subst, ◌∙◌, arith}
use Rattle.std.specs.Prelude.{Contains}
use Rattle.std.proofs.lemmas.List.{length-map}
use Rattle.std.proofs.lemmas.List.Elements.{All-nil, All-cons, All-head, All-tail, All-weaker}
use Rattle.mm_types.specs.declared.area.Span.{Span}
use Rattle.mm_types.specs.declared.area.Record.{Record}
use Rattle.maple_node.specs.Trees.{Pair}
use Rattle.area_tree.specs.SpanTrees.{ArePairs}
use Rattle.maple_gap.specs.Gaps.{span_of}
use Rattle.area_tree.specs.AreaTrees.{area_in, shown_at, areas_shown, AreasRise, AreRecords}

-- a list of pairs ends at the limit or below it
pub pairs_end : (slots limit start : ℕ) (pairs : List Pair) → ArePairs slots limit start pairs → start ≤ limit
pairs_end slots limit start [] are = are
pairs_end slots limit start (pair ∷ pairs) are = omega (arith, are.0, are.1, pairs_end slots limit pair.hi pairs are.3)

-- a pair has a page, from a start on up to a limit, and one of so many slots
pub record IsPair (slots limit start : ℕ) (pair : Pair) : Type 0 where
  pub begins : start ≤ pair.lo
  pub some : pair.lo < pair.hi
  pub upto : pair.hi ≤ limit
  pub slot : pair.slot < slots

pub each_pair : (slots limit start : ℕ) (pairs : List Pair) → ArePairs slots limit start pairs → All (IsPair slots limit start) pairs
each_pair slots limit start [] are = All-nil (IsPair slots limit start)
each_pair slots limit start (pair ∷ pairs) are =
    All-cons (IsPair slots limit start) pair pairs
    (record { begins = are.0; some = are.1; upto = pairs_end slots limit pair.hi pairs are.3; slot = are.2 })
    (All-weaker (IsPair slots limit pair.hi) (IsPair slots limit start)
    (λ other is. record { begins = omega (arith, is.begins, are.0, are.1); some = is.some; upto = is.upto; slot = is.slot })
    pairs (each_pair slots limit pair.hi pairs are.3))

pub count_areas : (records : List Record) (pairs : List Pair) → length (areas_shown (map (shown_at records) pairs)) ≡ length pairs
count_areas records pairs = length-map (map (shown_at records) pairs) (λ s. s.area) ∙ length-map pairs (shown_at records)

-- they stand in order
pub areas_rise : (records : List Record) (slots limit start : ℕ) (pairs : List Pair) → ArePairs slots limit start pairs → AreRecords records pairs
    → AreasRise limit start (areas_shown (map (shown_at records) pairs))
areas_rise records slots limit start [] are spans = tt
areas_rise records slots limit start (pair ∷ pairs) are spans =
    let span : (area_in records pair.slot).span ≡ span_of pair = All-head (λ (p : Pair). (area_in records p.slot).span ≡ span_of p) pair pairs spans in
    let lo : (area_in records pair.slot).span.lo ≡ pair.lo = ap (λ (s : Span). s.lo) span in
    let hi : (area_in records pair.slot).span.hi ≡ pair.hi = ap (λ (s : Span). s.hi) span in
    let ends = pairs_end slots limit pair.hi pairs are.3 in
    let rest = areas_rise records slots limit pair.hi pairs are.3 (All-tail (λ (p : Pair). (area_in records p.slot).span ≡ span_of p) pair pairs spans) in (
      omega (arith, lo, are.0),
      omega (arith, lo, hi, are.1),
      omega (arith, hi, ends),
      subst (λ (n : ℕ). AreasRise limit n (areas_shown (map (shown_at records) pairs))) (sym hi) rest,
    )

-- they have the pages of the pairs
pub areas_spans : (records : List Record) (pairs : List Pair) → AreRecords records pairs
    → map span_of pairs ≡ map (λ (area : Record). area.span) (areas_shown (map (shown_at records) pairs))
areas_spans records [] spans = refl
areas_spans records (pair ∷ pairs) spans =
    let span : (area_in records pair.slot).span ≡ span_of pair = All-head (λ (p : Pair). (area_in records p.slot).span ≡ span_of p) pair pairs spans in
    let rest = areas_spans records pairs (All-tail (λ (p : Pair). (area_in records p.slot).span ≡ span_of p) pair pairs spans) in
    ap (λ (s : Span). s ∷ map span_of pairs) (sym span) ∙ ap (λ (ss : List Span). (area_in records pair.slot).span ∷ ss) rest

-- what a list shows, some pair shows
pub contained : {A B : Type 0} (f : A → B) (xs : List A) (y : B) → Contains (map f xs) y → (k : ℕ) × (k < length xs) × ((d : A) → f (get_or xs k d) ≡ y)
contained f [] y (k, below, is) = absurd (omega (arith, below))
contained f (x ∷ xs) y (zero, below, is) = (zero, omega arith, λ d. is)
contained f (x ∷ xs) y (suc k, below, is) =
    let later = contained f xs y (k, omega (arith, below), is) in
    (suc later.0, omega (arith, later.1), λ d. later.2 d)

pub contained_twice : {A B C : Type 0} (g : B → C) (f : A → B) (xs : List A) (y : C) → Contains (map g (map f xs)) y
    → (k : ℕ) × (k < length xs) × ((d : A) → g (f (get_or xs k d)) ≡ y)
contained_twice g f [] y (k, below, is) = absurd (omega (arith, below))
contained_twice g f (x ∷ xs) y (zero, below, is) = (zero, omega arith, λ d. is)
contained_twice g f (x ∷ xs) y (suc k, below, is) =
    let later = contained_twice g f xs y (k, omega (arith, below), is) in
    (suc later.0, omega (arith, later.1), λ d. later.2 d)
