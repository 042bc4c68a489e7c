-- For `AreaTree::from`, `AreaTree::before` and `AreaTree::slot_of`: searches of pairs, and of the areas that their slots show.
use Rattle.std.proofs.Common.{ℕ, zero, suc, ◌≡◌, ◌<◌, ◌∙◌, true, false, cond, List, [], ◌∷◌, length, get_or, map, Option, Some, None, refl, sym, ap, arith, ◌⊎◌, inl, inr}
use Rattle.std.specs.Prelude.{Contains, nat_lt, filter}
use Rattle.std.specs.List.{last_or}
use Rattle.std.specs.Option.{option_map}
use Rattle.std.proofs.lemmas.Bool.{cases_Bool, lt-ltb, le-ltb}
use Rattle.std.proofs.lemmas.List.{length-map, get_or-map}
use Rattle.std.proofs.lemmas.List.Elements.{All-head, All-tail}
use Rattle.mm_types.specs.declared.area.Span.{Span}
use Rattle.mm_types.specs.declared.area.Record.{Record}
use Rattle.mm_types.specs.declared.slot.Slot.{Slot}
use Rattle.maple_node.specs.Trees.{Pair}
use Rattle.maple_gap.specs.Gaps.{span_of, first_pair_from, last_pair_before, slot_in}
use Rattle.split_merge.specs.Finding.{first_from as first_area, last_before as last_area}
use Rattle.area_tree.specs.SpanTrees.{ArePairs}
use Rattle.area_tree.specs.declared.shown.ShownArea.{ShownArea}
use Rattle.area_tree.specs.AreaTrees.{area_in, shown_at, areas_shown, AreRecords}
use Rattle.area_tree.proofs.Order.{each_pair, contained_twice}

-- what a slot shows, if there is one
abbrev pub shown_in : List Record → Option Slot → Option Record
shown_in records slot = option_map (λ (s : Slot). area_in records s.0) slot

-- one step of a search
first_step : (records : List Record) (pair : Pair) (pairs : List Pair) (page hi : ℕ) → hi ≡ pair.hi
    → shown_in records (slot_in (first_pair_from pairs page)) ≡ first_area (areas_shown (map (shown_at records) pairs)) page
    → shown_in records (slot_in (cond (nat_lt page pair.hi) (Some pair) (first_pair_from pairs page)))
    ≡ cond (nat_lt page hi) (Some (area_in records pair.slot)) (first_area (areas_shown (map (shown_at records) pairs)) page)
first_step records pair pairs page hi same later = elim (cases_Bool (nat_lt page pair.hi)) [
  | inl test ↦ let other : nat_lt page hi ≡ true = ap (λ (n : ℕ). nat_lt page n) same ∙ test in rw (test, other) refl
  | inr test ↦ let other : nat_lt page hi ≡ false = ap (λ (n : ℕ). nat_lt page n) same ∙ test in rw (test, other) later
]

-- the first area that ends above a page
pub first_shown : (records : List Record) (pairs : List Pair) (page : ℕ) → AreRecords records pairs
    → shown_in records (slot_in (first_pair_from pairs page)) ≡ first_area (areas_shown (map (shown_at records) pairs)) page
first_shown records [] page spans = refl
first_shown records (pair ∷ pairs) page spans =
    let span = All-head (λ (p : Pair). (area_in records p.slot).span ≡ span_of p) pair pairs spans in
    first_step records pair pairs page (area_in records pair.slot).span.hi (ap (λ (s : Span). s.hi) span)
    (first_shown records pairs page (All-tail (λ (p : Pair). (area_in records p.slot).span ≡ span_of p) pair pairs spans))

-- the last area that begins below it
last_shown : (records : List Record) (pairs : List Pair) (page : ℕ) (pair : Option Pair) (area : Option Record) → AreRecords records pairs
    → shown_in records (slot_in pair) ≡ area
    → shown_in records (slot_in (last_or pair (filter (λ (p : Pair). nat_lt p.lo page) pairs)))
    ≡ last_or area (filter (λ (a : Record). nat_lt a.span.lo page) (areas_shown (map (shown_at records) pairs)))
last_shown records [] page pair area spans same = same
last_shown records (first ∷ pairs) page pair area spans same =
    by (last_shown records pairs page (Some first) (Some (area_in records first.slot)) rest refl) (last_shown records pairs page pair area rest same)
    (cases_Bool (nat_lt first.lo page))
  where
    rest : AreRecords records pairs
    rest = All-tail (λ (p : Pair). (area_in records p.slot).span ≡ span_of p) first pairs spans

    lo : (area_in records first.slot).span.lo ≡ first.lo
    lo = ap (λ (s : Span). s.lo) (All-head (λ (p : Pair). (area_in records p.slot).span ≡ span_of p) first pairs spans)

    by : shown_in records (slot_in (last_or (Some first) (filter (λ (p : Pair). nat_lt p.lo page) pairs)))
        ≡ last_or (Some (area_in records first.slot)) (filter (λ (a : Record). nat_lt a.span.lo page) (areas_shown (map (shown_at records) pairs)))
        → shown_in records (slot_in (last_or pair (filter (λ (p : Pair). nat_lt p.lo page) pairs)))
        ≡ last_or area (filter (λ (a : Record). nat_lt a.span.lo page) (areas_shown (map (shown_at records) pairs)))
        → ((nat_lt first.lo page ≡ true) ⊎ (nat_lt first.lo page ≡ false))
        → shown_in records (slot_in (last_or pair (filter (λ (p : Pair). nat_lt p.lo page) (first ∷ pairs))))
        ≡ last_or area (filter (λ (a : Record). nat_lt a.span.lo page) (areas_shown (map (shown_at records) (first ∷ pairs))))
    by taken passed (inl test) =
        let other : nat_lt (area_in records first.slot).span.lo page ≡ true = ap (λ (n : ℕ). nat_lt n page) lo ∙ test in
        rw (test, other) taken
    by taken passed (inr test) =
        let other : nat_lt (area_in records first.slot).span.lo page ≡ false = ap (λ (n : ℕ). nat_lt n page) lo ∙ test in
        rw (test, other) passed

pub before_shown : (records : List Record) (pairs : List Pair) (page : ℕ) → AreRecords records pairs
    → shown_in records (slot_in (last_pair_before pairs page)) ≡ last_area (areas_shown (map (shown_at records) pairs)) page
before_shown records pairs page spans = last_shown records pairs page None None spans refl

-- the first pair that ends above where a pair begins is that pair
itself : (slots limit start : ℕ) (pairs : List Pair) (k : ℕ) (d : Pair) → ArePairs slots limit start pairs → k < length pairs
    → first_pair_from pairs (get_or pairs k d).lo ≡ Some (get_or pairs k d)
itself slots limit start [] k d are below = absurd (omega (arith, below))
itself slots limit start (pair ∷ pairs) zero d are below =
    let test : nat_lt pair.lo pair.hi ≡ true = lt-ltb pair.lo pair.hi are.1 in rw test refl
itself slots limit start (pair ∷ pairs) (suc k) d are below =
    let there = each_pair slots limit pair.hi pairs are.3 k d (omega (arith, below)) in
    let test : nat_lt (get_or pairs k d).lo pair.hi ≡ false = le-ltb (get_or pairs k d).lo pair.hi there.begins in
    rw test (itself slots limit pair.hi pairs k d are.3 (omega (arith, below)))

-- the slot that shows an area
pub slot_found : (records : List Record) (slots limit : ℕ) (area : Record) (pairs : List Pair) → ArePairs slots limit 0 pairs → AreRecords records pairs
    → Contains (areas_shown (map (shown_at records) pairs)) area
    → (slot : ℕ) × (slot_in (first_pair_from pairs area.span.lo) ≡ Some (record { 0 = slot }))
    × Contains (map (shown_at records) pairs) (record { slot = slot; area = area })
slot_found records slots limit area pairs are spans member = (
  pair.slot,
  ap (λ (n : ℕ). slot_in (first_pair_from pairs n)) (sym lo) ∙ ap slot_in (itself slots limit 0 pairs k none are below),
  (
    k,
    omega (arith, length-map pairs (shown_at records), below),
    get_or-map (shown_at records) pairs k none (record { slot = pair.slot; area = area }) below ∙ ap (λ (a : Record). record { slot = pair.slot; area = a }) is,
  ),
)
  where
    none : Pair
    none = record { lo = 0; hi = 0; slot = 0 }

    found : (k : ℕ) × (k < length pairs) × ((d : Pair) → area_in records (get_or pairs k d).slot ≡ area)
    found = contained_twice (λ (s : ShownArea). s.area) (shown_at records) pairs area member

    k : ℕ
    k = found.0

    below : k < length pairs
    below = found.1

    pair : Pair
    pair = get_or pairs k none

    is : area_in records pair.slot ≡ area
    is = found.2 none

    lo : pair.lo ≡ area.span.lo
    lo = sym (ap (λ (s : Span). s.lo) (spans k none below)) ∙ ap (λ (a : Record). a.span.lo) is
