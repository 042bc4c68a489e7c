-- For `AreaTree::remove`, `AreaTree::update` and `AreaTree::insert`: what slots show where one more shows something else.
use Rattle.std.proofs.Common.{ℕ, zero, suc, ◌≡◌, ◌≢◌, ◌<◌, ◌≤◌, ◌+◌, ◌-◌, ◌∙◌, true, nat_eq, List, [], ◌∷◌, length, get_or, set, map, All, refl, sym, ap, subst, arith, ◌⊎◌, inl, inr, get_or-set_same, get_or-set_other}
use Rattle.std.specs.Prelude.{Contains, ◌||◌, nat_le}
use Rattle.std.specs.List.{insert, remove}
use Rattle.std.specs.List.Sorted.{IsPermutation}
use Rattle.std.proofs.lemmas.Bool.{cases_eq, cond-true, eq-eqb, and_parts, or_cases, leb-true}
use Rattle.std.proofs.lemmas.List.{get_or_default}
use Rattle.std.proofs.lemmas.List.Edits.{length-insert, length-remove}
use Rattle.std.proofs.lemmas.List.Elements.{All-nil, All-cons, All-head, All-tail}
use Rattle.std.proofs.lemmas.List.Sorted.{IsPermutation-refl, IsPermutation-sym, IsPermutation-trans, IsPermutation-cons, IsPermutation-map, IsPermutation-middle, IsPermutation-insert, IsPermutation-remove, All-permutation}
use Rattle.std.proofs.lemmas.List.Sums.{sum_by-cons}
use Rattle.mm_types.specs.declared.area.Span.{Span}
use Rattle.mm_types.specs.declared.area.Record.{Record}
use Rattle.area_rules.specs.Placement.{is_free}
use Rattle.maple_node.specs.Trees.{Pair}
use Rattle.maple_node.specs.Pairs.{overwritten}
use Rattle.area_slots.specs.Slots.{one_at}
use Rattle.area_tree.specs.SpanTrees.{ArePairs}
use Rattle.area_tree.specs.declared.shown.ShownArea.{ShownArea}
use Rattle.maple_gap.specs.Gaps.{span_of}
use Rattle.area_tree.specs.AreaTrees.{no_area, area_in, shown_at, areas_shown, times_shown, AreRecords}
use Rattle.area_tree.proofs.Order.{each_pair, contained}
use Rattle.area_tree.proofs.Storing.{OneSide, taken_out, put_in}

-- the slots of pairs, with what they show
abbrev pub slots_of : List Record → List Pair → List ShownArea
slots_of records pairs = map (shown_at records) pairs

pub one_here : (slot other : ℕ) → slot ≡ other → one_at slot other ≡ 1
one_here slot other same = cond-true {A = ℕ} (nat_eq slot other) 1 0 (eq-eqb slot other same)

-- what another slot shows stays
other_stays : (records : List Record) (slot : ℕ) (area : Record) (pair : Pair) → slot ≢ pair.slot → area_in (set records slot area) pair.slot ≡ area_in records pair.slot
other_stays records slot area pair apart = get_or-set_other records slot pair.slot area no_area (λ same. apart (sym same))

-- the first of some pairs has another slot than one that shows nothing
first_apart : (records : List Record) (slot : ℕ) (pair : Pair) (pairs : List Pair) → times_shown slot (slots_of records (pair ∷ pairs)) ≡ 0 → slot ≢ pair.slot
first_apart records slot pair pairs none same = omega (
  arith,
  sum_by-cons (λ (s : ShownArea). one_at slot s.slot) (shown_at records pair) (slots_of records pairs),
  none,
  one_here slot pair.slot same,
)

rest_none : (records : List Record) (slot : ℕ) (pair : Pair) (pairs : List Pair) → times_shown slot (slots_of records (pair ∷ pairs)) ≡ 0 → times_shown slot (slots_of records pairs) ≡ 0
rest_none records slot pair pairs none = omega (arith, sum_by-cons (λ (s : ShownArea). one_at slot s.slot) (shown_at records pair) (slots_of records pairs), none)

-- a slot that shows no area changes what none of the others shows
pub unshown : (records : List Record) (slot : ℕ) (area : Record) (pairs : List Pair) → times_shown slot (slots_of records pairs) ≡ 0
    → slots_of (set records slot area) pairs ≡ slots_of records pairs
unshown records slot area [] none = refl
unshown records slot area (pair ∷ pairs) none =
    ap (λ (a : Record). record { slot = pair.slot; area = a } ∷ slots_of (set records slot area) pairs)
    (other_stays records slot area pair (first_apart records slot pair pairs none))
    ∙ ap (λ (ss : List ShownArea). shown_at records pair ∷ ss) (unshown records slot area pairs (rest_none records slot pair pairs none))

-- and their pages
pub unshown_spans : (records : List Record) (slot : ℕ) (area : Record) (pairs : List Pair) → times_shown slot (slots_of records pairs) ≡ 0
    → AreRecords records pairs → AreRecords (set records slot area) pairs
unshown_spans records slot area [] none spans = All-nil (λ (p : Pair). (area_in (set records slot area) p.slot).span ≡ span_of p)
unshown_spans records slot area (pair ∷ pairs) none spans =
    All-cons (λ (p : Pair). (area_in (set records slot area) p.slot).span ≡ span_of p) pair pairs
    (ap (λ (a : Record). a.span) (other_stays records slot area pair (first_apart records slot pair pairs none))
    ∙ All-head (λ (p : Pair). (area_in records p.slot).span ≡ span_of p) pair pairs spans)
    (unshown_spans records slot area pairs (rest_none records slot pair pairs none) (All-tail (λ (p : Pair). (area_in records p.slot).span ≡ span_of p) pair pairs spans))

-- a slot that shows other things of the same pages
pub same_spans : (records : List Record) (slot : ℕ) (area : Record) (pairs : List Pair) → slot < length records → area.span ≡ (area_in records slot).span
    → AreRecords records pairs → AreRecords (set records slot area) pairs
same_spans records slot area pairs within same spans k d below = by (cases_eq slot pair.slot)
  where
    pair : Pair
    pair = get_or pairs k d

    by : ((slot ≡ pair.slot) ⊎ (slot ≢ pair.slot)) → (area_in (set records slot area) pair.slot).span ≡ span_of pair
    by (inl here) =
        ap (λ (n : ℕ). (area_in (set records slot area) n).span) (sym here)
        ∙ ap (λ (a : Record). a.span) (get_or-set_same records slot area no_area within)
        ∙ same
        ∙ ap (λ (n : ℕ). (area_in records n).span) here
        ∙ spans k d below
    by (inr apart) = ap (λ (a : Record). a.span) (other_stays records slot area pair apart) ∙ spans k d below

-- one slot shows an area, and then another, and the rest stay
abbrev Changes : ShownArea → ShownArea → List ShownArea → List ShownArea → Type 0
Changes old new before after = (rest : List ShownArea) × IsPermutation (old ∷ rest) before × IsPermutation (new ∷ rest) after

changes_here : (records : List Record) (slot : ℕ) (area : Record) (pair : Pair) (pairs : List Pair) → slot < length records
    → times_shown slot (slots_of records (pair ∷ pairs)) ≤ 1 → slot ≡ pair.slot
    → Changes (record { slot = slot; area = area_in records slot }) (record { slot = slot; area = area }) (slots_of records (pair ∷ pairs)) (slots_of (set records slot area) (pair ∷ pairs))
changes_here records slot area pair pairs within once here =
    let rest : List ShownArea = slots_of records pairs in
    let none : times_shown slot rest ≡ 0 = omega (
      arith,
      sum_by-cons (λ (s : ShownArea). one_at slot s.slot) (shown_at records pair) rest,
      once,
      one_here slot pair.slot here,
    ) in
    let was : shown_at records pair ≡ record { slot = slot; area = area_in records slot } = ap (λ (n : ℕ). record { slot = n; area = area_in records n }) (sym here) in
    let is : shown_at (set records slot area) pair ≡ record { slot = slot; area = area } =
    ap (λ (n : ℕ). record { slot = n; area = area_in (set records slot area) n }) (sym here)
    ∙ ap (λ (a : Record). record { slot = slot; area = a }) (get_or-set_same records slot area no_area within) in
    let others = unshown records slot area pairs none in (
      rest,
      subst (λ (s : ShownArea). IsPermutation (s ∷ rest) (slots_of records (pair ∷ pairs))) was (IsPermutation-refl (slots_of records (pair ∷ pairs))),
      subst (λ (s : ShownArea). IsPermutation (s ∷ rest) (slots_of (set records slot area) (pair ∷ pairs))) is
          (subst (λ (ss : List ShownArea). IsPermutation (shown_at (set records slot area) pair ∷ ss) (slots_of (set records slot area) (pair ∷ pairs))) others
          (IsPermutation-refl (slots_of (set records slot area) (pair ∷ pairs)))),
    )

-- the front of a list is passed over
pub later_perm : {X : Type 0} (a b : X) (xs ys : List X) → IsPermutation (a ∷ xs) ys → IsPermutation (a ∷ (b ∷ xs)) (b ∷ ys)
later_perm a b xs ys same =
    IsPermutation-trans (a ∷ (b ∷ xs)) (b ∷ (a ∷ xs)) (b ∷ ys) (IsPermutation-middle (a ∷ []) b xs) (IsPermutation-cons b (a ∷ xs) ys same)

changes_later : (records : List Record) (slot : ℕ) (area : Record) (pair : Pair) (pairs : List Pair) → slot ≢ pair.slot
    → Changes (record { slot = slot; area = area_in records slot }) (record { slot = slot; area = area }) (slots_of records pairs) (slots_of (set records slot area) pairs)
    → Changes (record { slot = slot; area = area_in records slot }) (record { slot = slot; area = area }) (slots_of records (pair ∷ pairs)) (slots_of (set records slot area) (pair ∷ pairs))
changes_later records slot area pair pairs apart (rest, was, is) =
    let same : shown_at (set records slot area) pair ≡ shown_at records pair =
    ap (λ (a : Record). record { slot = pair.slot; area = a }) (other_stays records slot area pair apart) in (
      shown_at records pair ∷ rest,
      later_perm (record { slot = slot; area = area_in records slot }) (shown_at records pair) rest (slots_of records pairs) was,
      subst (λ (s : ShownArea). IsPermutation (record { slot = slot; area = area } ∷ (shown_at records pair ∷ rest)) (s ∷ slots_of (set records slot area) pairs)) (sym same)
          (later_perm (record { slot = slot; area = area }) (shown_at records pair) rest (slots_of (set records slot area) pairs) is),
    )

one_changes : (records : List Record) (slot : ℕ) (area : Record) (pairs : List Pair) (k : ℕ) → slot < length records
    → times_shown slot (slots_of records pairs) ≤ 1 → k < length pairs → ((d : Pair) → (get_or pairs k d).slot ≡ slot)
    → Changes (record { slot = slot; area = area_in records slot }) (record { slot = slot; area = area }) (slots_of records pairs) (slots_of (set records slot area) pairs)
one_changes records slot area [] k within once below here = absurd (omega (arith, below))
one_changes records slot area (pair ∷ pairs) zero within once below here = changes_here records slot area pair pairs within once (sym (here pair))
one_changes records slot area (pair ∷ pairs) (suc k) within once below here =
    by (one_changes records slot area pairs k within
    (omega (arith, sum_by-cons (λ (s : ShownArea). one_at slot s.slot) (shown_at records pair) (slots_of records pairs), once)) (omega (arith, below)) here)
    (cases_eq slot pair.slot)
  where
    by : Changes (record { slot = slot; area = area_in records slot }) (record { slot = slot; area = area }) (slots_of records pairs) (slots_of (set records slot area) pairs)
        → ((slot ≡ pair.slot) ⊎ (slot ≢ pair.slot))
        → Changes (record { slot = slot; area = area_in records slot }) (record { slot = slot; area = area }) (slots_of records (pair ∷ pairs)) (slots_of (set records slot area) (pair ∷ pairs))
    by later (inl first) = changes_here records slot area pair pairs within once first
    by later (inr apart) = changes_later records slot area pair pairs apart later

-- what a slot shows, its record tells
pub shows : (records : List Record) (slot : ℕ) (area : Record) (pairs : List Pair) → Contains (slots_of records pairs) (record { slot = slot; area = area })
    → area_in records slot ≡ area
shows records slot area pairs member =
    let found = contained (shown_at records) pairs (record { slot = slot; area = area }) member in
    let is = found.2 (record { lo = 0; hi = 0; slot = 0 }) in
    ap (λ (s : ShownArea). area_in records s.slot) (sym is) ∙ ap (λ (s : ShownArea). s.area) is

-- its slot is one of so many
pub slot_within : (records : List Record) (slots limit start slot : ℕ) (area : Record) (pairs : List Pair) → ArePairs slots limit start pairs
    → Contains (slots_of records pairs) (record { slot = slot; area = area }) → slot < slots
slot_within records slots limit start slot area pairs are member =
    let none : Pair = record { lo = 0; hi = 0; slot = 0 } in
    let found = contained (shown_at records) pairs (record { slot = slot; area = area }) member in
    omega (arith, ap (λ (s : ShownArea). s.slot) (found.2 none), (each_pair slots limit start pairs are found.0 none found.1).slot)

pub updated : (records : List Record) (slot : ℕ) (old area : Record) (pairs : List Pair) → slot < length records
    → times_shown slot (slots_of records pairs) ≤ 1 → Contains (slots_of records pairs) (record { slot = slot; area = old })
    → (rest : List ShownArea) × IsPermutation (record { slot = slot; area = old } ∷ rest) (slots_of records pairs)
    × IsPermutation (record { slot = slot; area = area } ∷ rest) (slots_of (set records slot area) pairs)
updated records slot old area pairs within once member =
    let found = contained (shown_at records) pairs (record { slot = slot; area = old }) member in
    let here : (d : Pair) → (get_or pairs found.0 d).slot ≡ slot = λ d. ap (λ (s : ShownArea). s.slot) (found.2 d) in
    subst (λ (a : Record). Changes (record { slot = slot; area = a }) (record { slot = slot; area = area }) (slots_of records pairs) (slots_of (set records slot area) pairs))
    (shows records slot old pairs member)
    (one_changes records slot area pairs found.0 within once found.1 here)

-- a gap over exactly the pages of an area takes it out
pub record IsOneLess (records : List Record) (limit : ℕ) (shown : ShownArea) (pairs fewer : List Pair) : Type 0 where
  pub shown_is : IsPermutation (shown ∷ slots_of records fewer) (slots_of records pairs)
  pub count_is : length fewer + 1 ≡ length pairs
  pub spans : AreRecords records fewer
  pub some : shown.area.span.lo < shown.area.span.hi
  pub upto : shown.area.span.hi ≤ limit

pub taken : (records : List Record) (slots limit slot : ℕ) (area : Record) (pairs : List Pair) → ArePairs slots limit 0 pairs → AreRecords records pairs
    → Contains (slots_of records pairs) (record { slot = slot; area = area })
    → IsOneLess records limit (record { slot = slot; area = area }) pairs (overwritten area.span.lo area.span.hi 0 pairs)
taken records slots limit slot area pairs are spans member = subst (IsOneLess records limit shown pairs) (sym out) (record {
  shown_is = IsPermutation-sym (slots_of records pairs) (shown ∷ slots_of records (remove pairs k))
      (subst (λ (s : ShownArea). IsPermutation (slots_of records pairs) (s ∷ slots_of records (remove pairs k))) is
      (IsPermutation-map (shown_at records) pairs (pair ∷ remove pairs k) moved));
  count_is = length-remove pairs k below;
  spans = All-tail (λ (p : Pair). (area_in records p.slot).span ≡ span_of p) pair (remove pairs k)
      (All-permutation (λ (p : Pair). (area_in records p.slot).span ≡ span_of p) pairs (pair ∷ remove pairs k) moved spans);
  some = omega (arith, lo, hi, (each_pair slots limit 0 pairs are k none below).some);
  upto = omega (arith, hi, (each_pair slots limit 0 pairs are k none below).upto);
})
  where
    shown : ShownArea
    shown = record { slot = slot; area = area }

    none : Pair
    none = record { lo = 0; hi = 0; slot = 0 }

    found : (k : ℕ) × (k < length pairs) × ((d : Pair) → shown_at records (get_or pairs k d) ≡ record { slot = slot; area = area })
    found = contained (shown_at records) pairs (record { slot = slot; area = area }) member

    k : ℕ
    k = found.0

    below : k < length pairs
    below = found.1

    pair : Pair
    pair = get_or pairs k none

    is : shown_at records pair ≡ shown
    is = found.2 none

    span : span_of pair ≡ area.span
    span = sym (spans k none below) ∙ ap (λ (s : ShownArea). s.area.span) is

    lo : pair.lo ≡ area.span.lo
    lo = ap (λ (s : Span). s.lo) span

    hi : pair.hi ≡ area.span.hi
    hi = ap (λ (s : Span). s.hi) span

    out : overwritten area.span.lo area.span.hi 0 pairs ≡ remove pairs k
    out = ap (λ (s : Span). overwritten s.lo s.hi 0 pairs) (sym span) ∙ taken_out slots limit 0 pairs k none are below

    moved : IsPermutation pairs (pair ∷ remove pairs k)
    moved = IsPermutation-remove pairs k pair below (get_or_default pairs k none pair below)

-- pages that no area has are beside each pair
pub free_sides : (records : List Record) (lo hi : ℕ) (pairs : List Pair) → lo < hi → AreRecords records pairs
    → is_free (areas_shown (slots_of records pairs)) (hi - lo) lo ≡ true → All (OneSide lo hi) pairs
unfolding is_free
free_sides records lo hi [] pages spans free = All-nil (OneSide lo hi)
free_sides records lo hi (pair ∷ pairs) pages spans free =
    let area : Record = area_in records pair.slot in
    let span : area.span ≡ span_of pair = All-head (λ (p : Pair). (area_in records p.slot).span ≡ span_of p) pair pairs spans in
    let parts = and_parts (nat_le (lo + (hi - lo)) area.span.lo || nat_le area.span.hi lo) _ free in
    let side : OneSide lo hi pair = elim (or_cases (nat_le (lo + (hi - lo)) area.span.lo) (nat_le area.span.hi lo) parts.0) [
      | inl above ↦ inl (omega (arith, leb-true (lo + (hi - lo)) area.span.lo above, ap (λ (s : Span). s.lo) span, pages))
      | inr below ↦ inr (omega (arith, leb-true area.span.hi lo below, ap (λ (s : Span). s.hi) span))
    ] in
    All-cons (OneSide lo hi) pair pairs side
    (free_sides records lo hi pairs pages (All-tail (λ (p : Pair). (area_in records p.slot).span ≡ span_of p) pair pairs spans) parts.1)

-- a slot for free pages adds an area
pub record IsOneMore (records : List Record) (shown : ShownArea) (pairs more : List Pair) : Type 0 where
  pub shown_is : IsPermutation (shown ∷ slots_of records pairs) (slots_of (set records shown.slot shown.area) more)
  pub count_is : length more ≡ length pairs + 1
  pub spans : AreRecords (set records shown.slot shown.area) more

-- for pages beside each pair
pub put_aside : (records : List Record) (slots limit : ℕ) (shown : ShownArea) (pairs : List Pair) → ArePairs slots limit 0 pairs → AreRecords records pairs
    → shown.slot < length records → shown.area.span.lo < shown.area.span.hi
    → All (OneSide shown.area.span.lo shown.area.span.hi) pairs
    → times_shown shown.slot (slots_of records pairs) ≡ 0
    → IsOneMore records shown pairs (overwritten shown.area.span.lo shown.area.span.hi (shown.slot + 1) pairs)
put_aside records slots limit shown pairs are spans within pages sides none = subst (IsOneMore records shown pairs) (sym place.2) (record {
  shown_is = subst (λ (ss : List ShownArea). IsPermutation ss (slots_of after (insert pairs place.0 pair))) listed
      (IsPermutation-map (shown_at after) (pair ∷ pairs) (insert pairs place.0 pair) moved);
  count_is = length-insert pairs place.0 pair place.1;
  spans = All-permutation (λ (p : Pair). (area_in after p.slot).span ≡ span_of p) (pair ∷ pairs) (insert pairs place.0 pair) moved
      (All-cons (λ (p : Pair). (area_in after p.slot).span ≡ span_of p) pair pairs (ap (λ (a : Record). a.span) new)
      (unshown_spans records shown.slot shown.area pairs none spans));
})
  where
    after : List Record
    after = set records shown.slot shown.area

    pair : Pair
    pair = record { lo = shown.area.span.lo; hi = shown.area.span.hi; slot = shown.slot }

    place : (k : ℕ) × (k ≤ length pairs) × (overwritten shown.area.span.lo shown.area.span.hi (shown.slot + 1) pairs ≡ insert pairs k pair)
    place = put_in slots limit 0 shown.area.span.lo shown.area.span.hi shown.slot pairs are sides pages

    new : area_in after shown.slot ≡ shown.area
    new = get_or-set_same records shown.slot shown.area no_area within

    moved : IsPermutation (pair ∷ pairs) (insert pairs place.0 pair)
    moved = IsPermutation-insert pairs place.0 pair

    listed : slots_of after (pair ∷ pairs) ≡ shown ∷ slots_of records pairs
    listed = ap (λ (a : Record). record { slot = shown.slot; area = a } ∷ slots_of after pairs) new
        ∙ ap (λ (ss : List ShownArea). shown ∷ ss) (unshown records shown.slot shown.area pairs none)

-- and for pages that no area has
pub put : (records : List Record) (slots limit : ℕ) (shown : ShownArea) (pairs : List Pair) → ArePairs slots limit 0 pairs → AreRecords records pairs
    → shown.slot < length records → shown.area.span.lo < shown.area.span.hi
    → is_free (areas_shown (slots_of records pairs)) (shown.area.span.hi - shown.area.span.lo) shown.area.span.lo ≡ true
    → times_shown shown.slot (slots_of records pairs) ≡ 0
    → IsOneMore records shown pairs (overwritten shown.area.span.lo shown.area.span.hi (shown.slot + 1) pairs)
put records slots limit shown pairs are spans within pages free none =
    put_aside records slots limit shown pairs are spans within pages (free_sides records shown.area.span.lo shown.area.span.hi pairs pages spans free) none
