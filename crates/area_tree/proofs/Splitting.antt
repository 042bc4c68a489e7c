-- For `AreaTree::split`: what contracts see of a tree of which an area loses pages that another gets.
use Rattle.std.proofs.Common.{ℕ, ◌≡◌, ◌<◌, ◌≤◌, ◌+◌, ◌*◌, List, ◌∷◌, length, set, sym, ap, subst, arith}
use Rattle.std.specs.Prelude.{Contains, IsPermutation}
use Rattle.std.proofs.lemmas.List.{length-set}
use Rattle.std.proofs.lemmas.List.Sorted.{IsPermutation-trans, sum_by_pushed}
use Rattle.mm_types.specs.declared.area.Span.{Span}
use Rattle.mm_types.specs.declared.area.Record.{Record}
use Rattle.maple_node.specs.Trees.{Pair}
use Rattle.maple_node.specs.Pairs.{overwritten}
use Rattle.area_slots.specs.Slots.{one_at}
use Rattle.area_tree.specs.SpanTrees.{SpanView, ArePairs}
use Rattle.area_tree.specs.declared.shown.ShownArea.{ShownArea}
use Rattle.area_tree.specs.declared.tree.AreaTree.TheInside.{Inside}
use Rattle.area_tree.specs.AreaTrees.{AreaTreeView, shown_of, times_shown, AreRecords, IsEndOf, beside}
use Rattle.area_tree.specs.Kept.{area_tree_view, IsAreaTree}
use Rattle.area_tree.proofs.Repeated.{over_gap, aside, around_gap}
use Rattle.area_tree.proofs.Showing.{slots_of, later_perm, IsOneMore, put_aside}
use Rattle.area_tree.proofs.Reshaped.{IsReshaped, record_below, shrunk_told, beside_within}
use Rattle.area_tree.proofs.Changing.{InOrder}

-- a slot shows an area with fewer pages, and another one that shows the pages that it lost
pub record IsSplitOff (records : List Record) (limit : ℕ) (old : Record) (shown other : ShownArea) (pairs others : List Pair) : Type 0 where
  pub rest : List ShownArea
  pub before : IsPermutation (record { slot = shown.slot; area = old } ∷ rest) (slots_of records pairs)
  pub after : IsPermutation (shown ∷ (other ∷ rest)) (slots_of (set (set records shown.slot shown.area) other.slot other.area) others)
  pub count_is : length others ≡ length pairs + 1
  pub spans : AreRecords (set (set records shown.slot shown.area) other.slot other.area) others
  pub some : other.area.span.lo < other.area.span.hi
  pub upto : other.area.span.hi ≤ limit

-- a slot that shows no area shows none after an area lost pages
still_none : (records : List Record) (limit : ℕ) (old : Record) (shown other : ShownArea) (pairs fewer : List Pair) → IsReshaped records limit old shown pairs fewer
    → times_shown other.slot (slots_of records pairs) ≡ 0 → times_shown other.slot (slots_of (set records shown.slot shown.area) fewer) ≡ 0
still_none records limit old shown other pairs fewer told none = omega (
  arith,
  none,
  sum_by_pushed (λ (s : ShownArea). one_at other.slot s.slot) (record { slot = shown.slot; area = old }) told.rest (slots_of records pairs) told.before,
  sum_by_pushed (λ (s : ShownArea). one_at other.slot s.slot) shown told.rest (slots_of (set records shown.slot shown.area) fewer) told.after,
)

-- the other slot is put into the gap
module _ (records : List Record) (slots limit : ℕ) (old : Record) (shown other : ShownArea) (pairs : List Pair) (are : ArePairs slots limit 0 pairs)
    (within : other.slot < length records) (none : times_shown other.slot (slots_of records pairs) ≡ 0)
    (some : other.area.span.lo < other.area.span.hi) (upto : other.area.span.hi ≤ limit) where
  abbrev lo : ℕ
  lo = other.area.span.lo

  abbrev hi : ℕ
  hi = other.area.span.hi

  abbrev after_records : List Record
  after_records = set records shown.slot shown.area

  abbrev fewer : List Pair
  fewer = overwritten lo hi 0 pairs

  abbrev others : List Pair
  others = overwritten lo hi (other.slot + 1) pairs

  put_back : IsReshaped records limit old shown pairs fewer → IsOneMore after_records other fewer others
  put_back told = subst (IsOneMore after_records other fewer) (over_gap lo hi (other.slot + 1) pairs (omega (arith, some)))
      (put_aside after_records slots limit other fewer (around_gap slots limit 0 lo hi pairs are some upto) told.spans
      (omega (arith, within, length-set records shown.slot shown.area)) some (aside lo hi pairs) (still_none records limit old shown other pairs fewer told none))

  split_off : IsReshaped records limit old shown pairs fewer → IsSplitOff records limit old shown other pairs others
  split_off told =
      let more = put_back told in
      record {
        rest = told.rest;
        before = told.before;
        after = IsPermutation-trans (shown ∷ (other ∷ told.rest)) (other ∷ slots_of after_records fewer) (slots_of (set after_records other.slot other.area) others)
            (later_perm shown other told.rest (slots_of after_records fewer) told.after) more.shown_is;
        count_is = omega (arith, more.count_is, told.count_is);
        spans = more.spans;
        some = some;
        upto = upto;
      }

-- what a slot asks that takes pages of an area
pub record CanSplit (view : AreaTreeView) (old : Record) (shown other : ShownArea) : Type 0 where
  pub member : Contains (shown_of view) (record { slot = shown.slot; area = old })
  pub part : IsEndOf shown.area.span old.span
  pub lost : other.area.span ≡ beside shown.area.span old.span
  pub once : times_shown shown.slot (shown_of view) ≤ 1
  pub slot : other.slot < 2 * view.tree.areas + 2
  pub free : times_shown other.slot (shown_of view) ≡ 0

-- the same of a tree
module _ (fields : Inside) (view : AreaTreeView) (old : Record) (shown other : ShownArea) (kept : IsAreaTree fields) (is : area_tree_view fields ≡ view) (order : InOrder fields)
    (can : CanSplit view old shown other) where
  pub shown_below : shown.slot < length fields.records
  shown_below = record_below fields view old shown kept is order can.member can.once

  pub other_below : other.slot < length fields.records
  other_below = omega (arith, can.slot, kept.slots, ap (λ (v : AreaTreeView). v.tree.areas) is)

  shrunk : IsReshaped fields.records fields.tree.limit old shown fields.tree.pairs
      (overwritten (beside shown.area.span old.span).lo (beside shown.area.span old.span).hi 0 fields.tree.pairs)
  shrunk = shrunk_told fields view old shown kept is order can.member can.once can.part

  inside : (other.area.span.lo < other.area.span.hi) × (other.area.span.hi ≤ fields.tree.limit)
  inside = subst (λ (s : Span). (s.lo < s.hi) × (s.hi ≤ fields.tree.limit)) (sym can.lost)
      (beside_within shown.area.span old.span fields.tree.limit can.part shrunk.upto)

  pub split_off_told : IsSplitOff fields.records fields.tree.limit old shown other fields.tree.pairs
      (overwritten other.area.span.lo other.area.span.hi (other.slot + 1) fields.tree.pairs)
  split_off_told = split_off fields.records (2 * fields.tree.areas + 2) fields.tree.limit old shown other fields.tree.pairs order other_below
      (subst (λ (v : AreaTreeView). times_shown other.slot (shown_of v) ≡ 0) (sym is) can.free) inside.0 inside.1
      (subst (λ (s : Span). IsReshaped fields.records fields.tree.limit old shown fields.tree.pairs (overwritten s.lo s.hi 0 fields.tree.pairs)) (sym can.lost) shrunk)

  pub split_off_shown : (tree : SpanView) → tree.pairs ≡ overwritten other.area.span.lo other.area.span.hi (other.slot + 1) fields.tree.pairs
      → (rest : List ShownArea) × IsPermutation (record { slot = shown.slot; area = old } ∷ rest) (shown_of view)
      × IsPermutation (shown ∷ (other ∷ rest))
      (shown_of (record { tree = tree; records = set (set fields.records shown.slot shown.area) other.slot other.area; bounds = fields.bounds; sealed = fields.sealed }))
  split_off_shown tree stored = (
    split_off_told.rest,
    subst (λ (v : AreaTreeView). IsPermutation (record { slot = shown.slot; area = old } ∷ split_off_told.rest) (shown_of v)) is split_off_told.before,
    subst (λ (ps : List Pair). IsPermutation (shown ∷ (other ∷ split_off_told.rest)) (slots_of (set (set fields.records shown.slot shown.area) other.slot other.area) ps))
        (sym stored) split_off_told.after,
  )
