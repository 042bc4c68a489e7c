-- For `AreaTree::remove_all`: areas that adjoin each other are taken out.
use Rattle.std.proofs.Common.{ℕ, zero, suc, ◌≡◌, ◌<◌, ◌≤◌, ◌+◌, ◌*◌, ◌∙◌, List, [], ◌∷◌, ◌++◌, length, get_or, All, sym, ap, subst, arith}
use Rattle.std.specs.Prelude.{Contains, IsPermutation}
use Rattle.std.proofs.lemmas.List.Elements.{All-head, All-tail}
use Rattle.std.proofs.lemmas.List.Sorted.{IsPermutation-sym, IsPermutation-trans, IsPermutation-middle, IsPermutation-append_right}
use Rattle.mm_types.specs.declared.area.Span.{Span}
use Rattle.mm_types.specs.declared.area.Record.{Record}
use Rattle.maple_node.specs.Trees.{Pair}
use Rattle.maple_gap.specs.Gaps.{span_of}
use Rattle.maple_node.specs.Pairs.{overwritten}
use Rattle.area_tree.specs.SpanTrees.{SpanView, ArePairs}
use Rattle.area_tree.specs.declared.shown.ShownArea.{ShownArea}
use Rattle.area_tree.specs.declared.tree.AreaTree.TheInside.{Inside}
use Rattle.area_tree.specs.AreaTrees.{AreaTreeView, area_in, shown_at, shown_of, areas_shown, AreRecords, Adjoin}
use Rattle.area_tree.specs.Kept.{area_tree_view, IsAreaTree}
use Rattle.area_tree.proofs.Order.{IsPair, each_pair, contained}
use Rattle.area_tree.proofs.Storing.{stays}
use Rattle.area_tree.proofs.Repeated.{two_gaps, around_gap}
use Rattle.area_tree.proofs.Showing.{slots_of, taken as one_taken}
use Rattle.area_tree.proofs.Changing.{InOrder}

-- an area that is shown has the pages of a pair
shown_pair : (records : List Record) (slots limit start : ℕ) (shown : ShownArea) (pairs : List Pair) → ArePairs slots limit start pairs → AreRecords records pairs
    → Contains (slots_of records pairs) shown → IsPair slots limit start (record { lo = shown.area.span.lo; hi = shown.area.span.hi; slot = shown.slot })
shown_pair records slots limit start shown pairs are spans member =
    let none : Pair = record { lo = 0; hi = 0; slot = 0 } in
    let found = contained (shown_at records) pairs shown member in
    let pair : Pair = get_or pairs found.0 none in
    let is : shown_at records pair ≡ shown = found.2 none in
    let span : span_of pair ≡ shown.area.span = sym (spans found.0 none found.1) ∙ ap (λ (s : ShownArea). s.area.span) is in
    let lo : pair.lo ≡ shown.area.span.lo = ap (λ (s : Span). s.lo) span in
    let hi : pair.hi ≡ shown.area.span.hi = ap (λ (s : Span). s.hi) span in
    let there = each_pair slots limit start pairs are found.0 none found.1 in
    record {
      begins = omega (arith, lo, there.begins);
      some = omega (arith, lo, hi, there.some);
      upto = omega (arith, hi, there.upto);
      slot = omega (arith, ap (λ (s : ShownArea). s.slot) is, there.slot);
    }

-- an area below a gap stays
still : (records : List Record) (slots limit start lo hi : ℕ) (shown : ShownArea) (pairs : List Pair) → ArePairs slots limit start pairs → AreRecords records pairs
    → Contains (slots_of records pairs) shown → shown.area.span.hi ≤ lo → lo < hi → Contains (slots_of records (overwritten lo hi 0 pairs)) shown
still records slots limit start lo hi shown [] are spans (k, below, is) upto pages = absurd (omega (arith, below))
still records slots limit start lo hi shown (pair ∷ pairs) are spans (zero, below, is) upto pages =
    let span : (area_in records pair.slot).span ≡ span_of pair = All-head (λ (p : Pair). (area_in records p.slot).span ≡ span_of p) pair pairs spans in
    let same : pair.hi ≡ shown.area.span.hi = sym (ap (λ (s : Span). s.hi) span) ∙ ap (λ (s : ShownArea). s.area.span.hi) is in
    subst (λ (ps : List Pair). Contains (slots_of records ps) shown) (sym (stays lo hi 0 pair pairs are.1 (omega (arith, same, upto)) pages))
    (zero, omega arith, is)
still records slots limit start lo hi shown (pair ∷ pairs) are spans (suc k, below, is) upto pages =
    let others = All-tail (λ (p : Pair). (area_in records p.slot).span ≡ span_of p) pair pairs spans in
    let later : Contains (slots_of records pairs) shown = (k, omega (arith, below), is) in
    let there = shown_pair records slots limit pair.hi shown pairs are.3 others later in
    let rest = still records slots limit pair.hi lo hi shown pairs are.3 others later upto pages in
    subst (λ (ps : List Pair). Contains (slots_of records ps) shown)
    (sym (stays lo hi 0 pair pairs are.1 (omega (arith, there.begins, there.some, upto)) pages))
    (suc rest.0, omega (arith, rest.1), rest.2)

-- a gap over the pages of areas takes them out
pub record AreLess (records : List Record) (limit lo hi : ℕ) (taken : List ShownArea) (pairs fewer : List Pair) : Type 0 where
  pub shown_is : IsPermutation (taken ++ slots_of records fewer) (slots_of records pairs)
  pub count_is : length fewer + length taken ≡ length pairs
  pub spans : AreRecords records fewer
  pub some : lo < hi
  pub upto : hi ≤ limit

-- some are taken out, and then one more
one_more : {X : Type 0} (x : X) (xs rest fewer all : List X) → IsPermutation (xs ++ fewer) all → IsPermutation (x ∷ rest) fewer → IsPermutation (x ∷ (xs ++ rest)) all
one_more x xs rest fewer all some one =
    IsPermutation-trans (x ∷ (xs ++ rest)) (xs ++ (x ∷ rest)) all (IsPermutation-sym (xs ++ (x ∷ rest)) (x ∷ (xs ++ rest)) (IsPermutation-middle xs x rest))
    (IsPermutation-trans (xs ++ (x ∷ rest)) (xs ++ fewer) all (IsPermutation-append_right xs (x ∷ rest) fewer one) some)

all_taken : (records : List Record) (slots limit lo hi : ℕ) (first : ShownArea) (others : List ShownArea) (pairs : List Pair)
    → ArePairs slots limit 0 pairs → AreRecords records pairs → All (Contains (slots_of records pairs)) (first ∷ others) → Adjoin lo hi (areas_shown (first ∷ others))
    → AreLess records limit lo hi (first ∷ others) pairs (overwritten lo hi 0 pairs)
all_taken records slots limit lo hi first [] pairs are spans members (begins, some, ends) =
    let told = one_taken records slots limit first.slot first.area pairs are spans (All-head (Contains (slots_of records pairs)) first [] members) in
    subst (λ n. AreLess records limit n hi (first ∷ []) pairs (overwritten n hi 0 pairs)) begins
    (subst (λ n. AreLess records limit first.area.span.lo n (first ∷ []) pairs (overwritten first.area.span.lo n 0 pairs)) ends (record {
      shown_is = told.shown_is;
      count_is = omega (arith, told.count_is);
      spans = told.spans;
      some = told.some;
      upto = told.upto;
    }))
all_taken records slots limit lo hi first (next ∷ others) pairs are spans members (begins, some, adjoin) =
    let mid : ℕ = first.area.span.hi in
    let later = all_taken records slots limit mid hi next others pairs are spans (All-tail (Contains (slots_of records pairs)) first (next ∷ others) members) adjoin in
    let fewer : List Pair = overwritten mid hi 0 pairs in
    let order = around_gap slots limit 0 mid hi pairs are later.some later.upto in
    let here = still records slots limit 0 mid hi first pairs are spans (All-head (Contains (slots_of records pairs)) first (next ∷ others) members) (omega arith) later.some in
    let told = one_taken records slots limit first.slot first.area fewer order later.spans here in
    let same = two_gaps first.area.span.lo mid hi pairs (omega (arith, some)) (omega (arith, later.some)) in
    let all : List ShownArea = first ∷ (next ∷ others) in
    subst (λ n. AreLess records limit n hi all pairs (overwritten n hi 0 pairs)) begins
    (subst (λ (ps : List Pair). AreLess records limit first.area.span.lo hi all pairs ps) same (record {
      shown_is = one_more first (next ∷ others) (slots_of records (overwritten first.area.span.lo mid 0 fewer)) (slots_of records fewer) (slots_of records pairs)
          later.shown_is told.shown_is;
      count_is = omega (arith, told.count_is, later.count_is);
      spans = told.spans;
      some = omega (arith, some, later.some);
      upto = later.upto;
    }))

-- areas with a page are some
pub adjoin_some : (lo hi : ℕ) (taken : List ShownArea) → lo < hi → Adjoin lo hi (areas_shown taken) → 0 < length taken
adjoin_some lo hi [] pages adjoin = absurd (omega (arith, pages, adjoin))
adjoin_some lo hi (first ∷ others) pages adjoin = omega arith

-- the same of a tree
module _ (fields : Inside) (view : AreaTreeView) (kept : IsAreaTree fields) (is : area_tree_view fields ≡ view) (order : InOrder fields) (lo hi : ℕ) where
  some_taken : (taken : List ShownArea) → All (Contains (slots_of fields.records fields.tree.pairs)) taken → Adjoin lo hi (areas_shown taken) → 0 < length taken
      → AreLess fields.records fields.tree.limit lo hi taken fields.tree.pairs (overwritten lo hi 0 fields.tree.pairs)
  some_taken [] members adjoin some = absurd (omega (arith, some))
  some_taken (first ∷ others) members adjoin some =
      all_taken fields.records (2 * fields.tree.areas + 2) fields.tree.limit lo hi first others fields.tree.pairs order kept.spans members adjoin

  pub taken_told : (taken : List ShownArea) → All (Contains (shown_of view)) taken → Adjoin lo hi (areas_shown taken) → 0 < length taken
      → AreLess fields.records fields.tree.limit lo hi taken fields.tree.pairs (overwritten lo hi 0 fields.tree.pairs)
  taken_told taken members adjoin some = some_taken taken (subst (λ (v : AreaTreeView). All (Contains (shown_of v)) taken) (sym is) members) adjoin some

  pub taken_shown : (tree : SpanView) (taken : List ShownArea) → tree.pairs ≡ overwritten lo hi 0 fields.tree.pairs
      → AreLess fields.records fields.tree.limit lo hi taken fields.tree.pairs (overwritten lo hi 0 fields.tree.pairs)
      → IsPermutation (taken ++ shown_of (record { tree = tree; records = fields.records; bounds = fields.bounds; sealed = fields.sealed })) (shown_of view)
  taken_shown tree taken stored told =
      subst (λ (v : AreaTreeView). IsPermutation (taken ++ shown_of (record { tree = tree; records = fields.records; bounds = fields.bounds; sealed = fields.sealed })) (shown_of v)) is
      (subst (λ (ps : List Pair). IsPermutation (taken ++ slots_of fields.records ps) (slots_of fields.records fields.tree.pairs)) (sym stored) told.shown_is)
