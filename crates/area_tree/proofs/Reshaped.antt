-- For `AreaTree::shrink` and `AreaTree::grow`: what contracts see of a tree of which an area gets other pages.
use Rattle.std.proofs.Common.{ℕ, suc, ◌≡◌, ◌<◌, ◌≤◌, ◌+◌, ◌*◌, ◌∙◌, true, List, ◌∷◌, length, get_or, set, take, drop, All, refl, sym, ap, subst, arith, inl, inr, get_or-set_same}
use Rattle.std.specs.Prelude.{Contains, IsPermutation, nat_eq}
use Rattle.std.specs.List.{remove}
use Rattle.std.proofs.lemmas.Bool.{cases_lt, eq-eqb, ne_eqb}
use Rattle.std.proofs.lemmas.List.{get_or_default, set_split, length-set}
use Rattle.std.proofs.lemmas.List.Elements.{All-cons, All-tail}
use Rattle.std.proofs.lemmas.List.Sorted.{IsPermutation-sym, IsPermutation-map, IsPermutation-middle, IsPermutation-remove, All-permutation, sum_by_pushed}
use Rattle.mm_types.specs.declared.area.Span.{Span}
use Rattle.mm_types.specs.declared.area.Record.{Record}
use Rattle.maple_node.specs.Trees.{Pair}
use Rattle.maple_node.specs.Pairs.{overwritten}
use Rattle.area_slots.specs.Slots.{one_at}
use Rattle.area_tree.specs.SpanTrees.{SpanView, ArePairs}
use Rattle.area_tree.specs.declared.shown.ShownArea.{ShownArea}
use Rattle.area_tree.specs.declared.tree.AreaTree.TheInside.{Inside}
use Rattle.maple_gap.specs.Gaps.{span_of}
use Rattle.area_tree.specs.AreaTrees.{AreaTreeView, area_in, no_area, shown_at, shown_of, areas_of, areas_shown, times_shown, AreRecords, IsEndOf, IsRoomFor, beside}
use Rattle.area_tree.specs.Kept.{area_tree_view, IsAreaTree}
use Rattle.area_tree.proofs.Order.{each_pair, contained}
use Rattle.area_tree.proofs.Storing.{OneSide}
use Rattle.area_tree.proofs.Showing.{slots_of, unshown, unshown_spans, free_sides, one_here, slot_within}
use Rattle.area_tree.proofs.Paging.{paged, shrunk_above, shrunk_below, grown, begin_sides, end_sides}
use Rattle.area_tree.proofs.Changing.{InOrder}

-- a slot shows an area with other pages, in pairs of which one got them
pub record IsReshaped (records : List Record) (limit : ℕ) (old : Record) (shown : ShownArea) (pairs others : List Pair) : Type 0 where
  pub rest : List ShownArea
  pub before : IsPermutation (record { slot = shown.slot; area = old } ∷ rest) (slots_of records pairs)
  pub after : IsPermutation (shown ∷ rest) (slots_of (set records shown.slot shown.area) others)
  pub count_is : length others ≡ length pairs
  pub spans : AreRecords (set records shown.slot shown.area) others
  pub some : old.span.lo < old.span.hi
  pub upto : old.span.hi ≤ limit

module _ (records : List Record) (slots limit : ℕ) (old : Record) (shown : ShownArea) (pairs : List Pair) (are : ArePairs slots limit 0 pairs) (spans : AreRecords records pairs)
    (member : Contains (slots_of records pairs) (record { slot = shown.slot; area = old })) (inside : shown.slot < length records)
    (once : times_shown shown.slot (slots_of records pairs) ≤ 1) where
  abbrev none : Pair
  none = record { lo = 0; hi = 0; slot = 0 }

  found : (k : ℕ) × (k < length pairs) × ((d : Pair) → shown_at records (get_or pairs k d) ≡ record { slot = shown.slot; area = old })
  found = contained (shown_at records) pairs (record { slot = shown.slot; area = old }) member

  abbrev k : ℕ
  k = found.0

  below : k < length pairs
  below = found.1

  abbrev pair : Pair
  pair = get_or pairs k none

  is : shown_at records pair ≡ record { slot = shown.slot; area = old }
  is = found.2 none

  slot_is : pair.slot ≡ shown.slot
  slot_is = ap (λ (s : ShownArea). s.slot) is

  span : span_of pair ≡ old.span
  span = sym (spans k none below) ∙ ap (λ (s : ShownArea). s.area.span) is

  lo_is : pair.lo ≡ old.span.lo
  lo_is = ap (λ (s : Span). s.lo) span

  hi_is : pair.hi ≡ old.span.hi
  hi_is = ap (λ (s : Span). s.hi) span

  abbrev new : Pair
  new = record { lo = shown.area.span.lo; hi = shown.area.span.hi; slot = shown.slot }

  abbrev after_records : List Record
  after_records = set records shown.slot shown.area

  abbrev rest_pairs : List Pair
  rest_pairs = remove pairs k

  moved : IsPermutation pairs (pair ∷ rest_pairs)
  moved = IsPermutation-remove pairs k pair below (get_or_default pairs k none pair below)

  came : IsPermutation (set pairs k new) (new ∷ rest_pairs)
  came = subst (λ (ps : List Pair). IsPermutation ps (new ∷ rest_pairs)) (sym (set_split pairs k new below)) (IsPermutation-middle (take k pairs) new (drop (suc k) pairs))

  was : IsPermutation (record { slot = shown.slot; area = old } ∷ slots_of records rest_pairs) (slots_of records pairs)
  was = IsPermutation-sym (slots_of records pairs) (record { slot = shown.slot; area = old } ∷ slots_of records rest_pairs)
      (subst (λ (s : ShownArea). IsPermutation (slots_of records pairs) (s ∷ slots_of records rest_pairs)) is
      (IsPermutation-map (shown_at records) pairs (pair ∷ rest_pairs) moved))

  alone : times_shown shown.slot (slots_of records rest_pairs) ≡ 0
  alone = omega (
    arith,
    once,
    sum_by_pushed (λ (s : ShownArea). one_at shown.slot s.slot) (record { slot = shown.slot; area = old }) (slots_of records rest_pairs) (slots_of records pairs) was,
    one_here shown.slot shown.slot refl,
  )

  now : area_in after_records shown.slot ≡ shown.area
  now = get_or-set_same records shown.slot shown.area no_area inside

  listed : slots_of after_records (new ∷ rest_pairs) ≡ shown ∷ slots_of records rest_pairs
  listed = ap (λ (a : Record). record { slot = shown.slot; area = a } ∷ slots_of after_records rest_pairs) now
      ∙ ap (λ (ss : List ShownArea). shown ∷ ss) (unshown records shown.slot shown.area rest_pairs alone)

  reshaped : (others : List Pair) → others ≡ set pairs k new → IsReshaped records limit old shown pairs others
  reshaped others same = subst (IsReshaped records limit old shown pairs) (sym same) (record {
    rest = slots_of records rest_pairs;
    before = was;
    after = subst (λ (ss : List ShownArea). IsPermutation ss (slots_of after_records (set pairs k new))) listed
        (IsPermutation-map (shown_at after_records) (new ∷ rest_pairs) (set pairs k new) (IsPermutation-sym (set pairs k new) (new ∷ rest_pairs) came));
    count_is = length-set pairs k new;
    spans = All-permutation (λ (p : Pair). (area_in after_records p.slot).span ≡ span_of p) (new ∷ rest_pairs) (set pairs k new)
        (IsPermutation-sym (set pairs k new) (new ∷ rest_pairs) came)
        (All-cons (λ (p : Pair). (area_in after_records p.slot).span ≡ span_of p) new rest_pairs (ap (λ (a : Record). a.span) now)
        (unshown_spans records shown.slot shown.area rest_pairs alone
        (All-tail (λ (p : Pair). (area_in records p.slot).span ≡ span_of p) pair rest_pairs
        (All-permutation (λ (p : Pair). (area_in records p.slot).span ≡ span_of p) pairs (pair ∷ rest_pairs) moved spans))));
    some = omega (arith, lo_is, hi_is, (each_pair slots limit 0 pairs are k none below).some);
    upto = omega (arith, hi_is, (each_pair slots limit 0 pairs are k none below).upto);
  })

  -- the pair with new pages
  at_pages : (lo hi : ℕ) → lo ≡ shown.area.span.lo → hi ≡ shown.area.span.hi → set pairs k (paged lo hi pair) ≡ set pairs k new
  at_pages lo hi begins ends =
      ap (λ n. set pairs k (record { lo = n; hi = hi; slot = pair.slot })) begins
      ∙ ap (λ n. set pairs k (record { lo = shown.area.span.lo; hi = n; slot = pair.slot })) ends
      ∙ ap (λ n. set pairs k (record { lo = shown.area.span.lo; hi = shown.area.span.hi; slot = n })) slot_is

  -- it loses some at one of its ends
  pub shrunk : IsEndOf shown.area.span old.span
      → IsReshaped records limit old shown pairs (overwritten (beside shown.area.span old.span).lo (beside shown.area.span old.span).hi 0 pairs)
  shrunk (some, inl (begins, less)) =
      let test : nat_eq shown.area.span.lo old.span.lo ≡ true = eq-eqb shown.area.span.lo old.span.lo begins in
      rw test (reshaped (overwritten shown.area.span.hi old.span.hi 0 pairs)
      (ap (λ n. overwritten shown.area.span.hi n 0 pairs) (sym hi_is)
      ∙ shrunk_above slots limit 0 pairs k none shown.area.span.hi are below (omega (arith, lo_is, begins, some)) (omega (arith, hi_is, less))
      ∙ at_pages pair.lo shown.area.span.hi (lo_is ∙ sym begins) refl))
  shrunk (some, inr (more, ends)) =
      let test = ne_eqb shown.area.span.lo old.span.lo (λ same. omega (arith, same, more)) in
      rw test (reshaped (overwritten old.span.lo shown.area.span.lo 0 pairs)
      (ap (λ n. overwritten n shown.area.span.lo 0 pairs) (sym lo_is)
      ∙ shrunk_below slots limit 0 pairs k none shown.area.span.lo are below (omega (arith, lo_is, more)) (omega (arith, hi_is, ends, some))
      ∙ at_pages shown.area.span.lo pair.hi refl (hi_is ∙ sym ends)))

  -- it takes free ones
  low_sides : IsRoomFor limit (areas_shown (slots_of records pairs)) old.span shown.area.span → All (OneSide shown.area.span.lo pair.lo) pairs
  low_sides room = elim (cases_lt shown.area.span.lo old.span.lo) [
    | inl less ↦ subst (λ n. All (OneSide shown.area.span.lo n) pairs) (sym lo_is) (free_sides records shown.area.span.lo old.span.lo pairs less spans (room.below less))
    | inr more ↦ subst (λ n. All (OneSide n pair.lo) pairs) (omega (arith, lo_is, more, room.under)) (begin_sides slots limit 0 pairs k none are below)
  ]

  high_sides : IsRoomFor limit (areas_shown (slots_of records pairs)) old.span shown.area.span → All (OneSide pair.hi shown.area.span.hi) pairs
  high_sides room = elim (cases_lt old.span.hi shown.area.span.hi) [
    | inl more ↦ subst (λ n. All (OneSide n shown.area.span.hi) pairs) (sym hi_is) (free_sides records old.span.hi shown.area.span.hi pairs more spans (room.above more).1)
    | inr less ↦ subst (λ n. All (OneSide pair.hi n) pairs) (omega (arith, hi_is, less, room.over)) (end_sides slots limit 0 pairs k none are below)
  ]

  pub grown_upto : IsRoomFor limit (areas_shown (slots_of records pairs)) old.span shown.area.span → shown.area.span.hi ≤ limit
  grown_upto room = elim (cases_lt old.span.hi shown.area.span.hi) [
    | inl more ↦ (room.above more).0
    | inr less ↦ omega (arith, hi_is, less, (each_pair slots limit 0 pairs are k none below).upto)
  ]

  pub extended : IsRoomFor limit (areas_shown (slots_of records pairs)) old.span shown.area.span
      → IsReshaped records limit old shown pairs (overwritten shown.area.span.lo shown.area.span.hi (shown.slot + 1) pairs)
  extended room = reshaped (overwritten shown.area.span.lo shown.area.span.hi (shown.slot + 1) pairs)
      (ap (λ n. overwritten shown.area.span.lo shown.area.span.hi (n + 1) pairs) (sym slot_is)
      ∙ grown slots limit 0 pairs k none shown.area.span.lo shown.area.span.hi are below
      (omega (arith, lo_is, room.under)) (omega (arith, hi_is, room.over)) (grown_upto room) (low_sides room) (high_sides room)
      ∙ at_pages shown.area.span.lo shown.area.span.hi refl refl)

-- what a span has beside a part of it is in it
pub beside_within : (part whole : Span) (limit : ℕ) → IsEndOf part whole → whole.hi ≤ limit
    → ((beside part whole).lo < (beside part whole).hi) × ((beside part whole).hi ≤ limit)
beside_within part whole limit (some, inl (begins, less)) upto =
    let test : nat_eq part.lo whole.lo ≡ true = eq-eqb part.lo whole.lo begins in
    rw test (less, upto)
beside_within part whole limit (some, inr (more, ends)) upto =
    let test = ne_eqb part.lo whole.lo (λ same. omega (arith, same, more)) in
    rw test (more, omega (arith, some, ends, upto))

-- the same of a tree
module _ (fields : Inside) (view : AreaTreeView) (old : Record) (shown : ShownArea) (kept : IsAreaTree fields) (is : area_tree_view fields ≡ view) (order : InOrder fields)
    (member : Contains (shown_of view) (record { slot = shown.slot; area = old })) (once : times_shown shown.slot (shown_of view) ≤ 1) where
  there : Contains (slots_of fields.records fields.tree.pairs) (record { slot = shown.slot; area = old })
  there = subst (λ (v : AreaTreeView). Contains (shown_of v) (record { slot = shown.slot; area = old })) (sym is) member

  one : times_shown shown.slot (slots_of fields.records fields.tree.pairs) ≤ 1
  one = subst (λ (v : AreaTreeView). times_shown shown.slot (shown_of v) ≤ 1) (sym is) once

  pub slot_below : shown.slot < 2 * fields.tree.areas + 2
  slot_below = slot_within fields.records (2 * fields.tree.areas + 2) fields.tree.limit 0 shown.slot old fields.tree.pairs order there

  pub record_below : shown.slot < length fields.records
  record_below = omega (arith, slot_below, kept.slots)

  pub shrunk_told : IsEndOf shown.area.span old.span → IsReshaped fields.records fields.tree.limit old shown fields.tree.pairs
      (overwritten (beside shown.area.span old.span).lo (beside shown.area.span old.span).hi 0 fields.tree.pairs)
  shrunk_told part = shrunk fields.records (2 * fields.tree.areas + 2) fields.tree.limit old shown fields.tree.pairs order kept.spans there record_below one part

  room_in : IsRoomFor view.tree.limit (areas_of view) old.span shown.area.span
      → IsRoomFor fields.tree.limit (areas_shown (slots_of fields.records fields.tree.pairs)) old.span shown.area.span
  room_in room = subst (λ (v : AreaTreeView). IsRoomFor v.tree.limit (areas_of v) old.span shown.area.span) (sym is) room

  pub grown_told : IsRoomFor view.tree.limit (areas_of view) old.span shown.area.span
      → IsReshaped fields.records fields.tree.limit old shown fields.tree.pairs (overwritten shown.area.span.lo shown.area.span.hi (shown.slot + 1) fields.tree.pairs)
  grown_told room = extended fields.records (2 * fields.tree.areas + 2) fields.tree.limit old shown fields.tree.pairs order kept.spans there record_below one (room_in room)

  pub upto_told : IsRoomFor view.tree.limit (areas_of view) old.span shown.area.span → shown.area.span.hi ≤ fields.tree.limit
  upto_told room = grown_upto fields.records (2 * fields.tree.areas + 2) fields.tree.limit old shown fields.tree.pairs order kept.spans there record_below one (room_in room)

  -- what a store makes of the areas
  pub told_shown : (tree : SpanView) (others : List Pair) → tree.pairs ≡ others → IsReshaped fields.records fields.tree.limit old shown fields.tree.pairs others
      → (rest : List ShownArea) × IsPermutation (record { slot = shown.slot; area = old } ∷ rest) (shown_of view)
      × IsPermutation (shown ∷ rest) (shown_of (record { tree = tree; records = set fields.records shown.slot shown.area; bounds = fields.bounds; sealed = fields.sealed }))
  told_shown tree others stored told = (
    told.rest,
    subst (λ (v : AreaTreeView). IsPermutation (record { slot = shown.slot; area = old } ∷ told.rest) (shown_of v)) is told.before,
    subst (λ (ps : List Pair). IsPermutation (shown ∷ told.rest) (slots_of (set fields.records shown.slot shown.area) ps)) (sym stored) told.after,
  )
