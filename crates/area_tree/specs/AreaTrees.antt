-- What contracts see of a tree of areas.
use Rattle.std.specs.Prelude.{ℕ, Bool, ◌≡◌, ◌≤◌, ◌<◌, ◌-◌, ◌⊎◌, nat_eq, if◌then◌else◌, true, false, List, [], ◌∷◌, All, map, sum_by, slice_index_or}
use Rattle.mm_types.specs.declared.area.Span.{Span}
use Rattle.mm_types.specs.declared.area.Prot.{Prot}
use Rattle.mm_types.specs.declared.area.Record.{Record}
use Rattle.area_rules.specs.declared.placement.Bounds.{Bounds}
use Rattle.area_rules.specs.Placement.{is_free}
use Rattle.maple_node.specs.Trees.{Pair}
use Rattle.maple_gap.specs.Gaps.{span_of}
use Rattle.area_slots.specs.Slots.{one_at}
use Rattle.area_tree.specs.SpanTrees.{SpanView}
use Rattle.area_tree.specs.declared.shown.ShownArea.{ShownArea}

-- the tree of spans and slots, what each slot shows or showed last, the pages between which areas are placed, and whether a slot ever
-- showed a sealed area
pub record AreaTreeView : Type 0 where
  pub tree : SpanView
  pub records : List Record
  pub bounds : Bounds
  pub sealed : Bool

-- no access
abbrev pub no_access : Prot
no_access = record { read = false; write = false; exec = false }

-- what a slot shows before it showed an area
abbrev pub no_area : Record
no_area = record {
  span = record { lo = 0; hi = 0 };
  attr = record { prot = no_access; most = no_access; shared = false; grows = false; sealed = false; heap = false };
  object = 0;
  offset = 0;
}

-- what a slot shows
abbrev pub area_in : List Record → ℕ → Record
area_in records slot = slice_index_or records slot no_area

-- the slot of a pair, with what it shows
abbrev pub shown_at : List Record → Pair → ShownArea
shown_at records pair = record { slot = pair.slot; area = area_in records pair.slot }

-- the slots of the tree in order, each with the area that it shows
abbrev pub shown_of : AreaTreeView → List ShownArea
shown_of areas = map (shown_at areas.records) areas.tree.pairs

-- the areas that are shown
abbrev pub areas_shown : List ShownArea → List Record
areas_shown shown = map (λ s. s.area) shown

-- the areas, in order
abbrev pub areas_of : AreaTreeView → List Record
areas_of areas = areas_shown (shown_of areas)

-- how often a slot shows an area
abbrev pub times_shown : ℕ → List ShownArea → ℕ
times_shown slot shown = sum_by (λ s. one_at slot s.slot) shown

-- areas from a page on stand in order, up to a limit, each has a page, and no two have a page in common
abbrev pub AreasRise : ℕ → ℕ → List Record → Type 0
AreasRise limit start [] = Unit {0}
AreasRise limit start (area ∷ areas) = (start ≤ area.span.lo) × (area.span.lo < area.span.hi) × (area.span.hi ≤ limit) × AreasRise limit area.span.hi areas

-- what the slot of each pair shows has the pages of the pair
abbrev pub AreRecords : List Record → List Pair → Type 0
AreRecords records pairs = All (λ pair. (area_in records pair.slot).span ≡ span_of pair) pairs

-- a part of a span, with a page, that has one of its ends and fewer pages
abbrev pub IsEndOf : Span → Span → Type 0
IsEndOf part whole = (part.lo < part.hi) × (((part.lo ≡ whole.lo) × (part.hi < whole.hi)) ⊎ ((whole.lo < part.lo) × (part.hi ≡ whole.hi)))

-- what a span has beside a part of it that has one of its ends
abbrev pub beside : Span → Span → Span
beside part whole = if nat_eq part.lo whole.lo then (record { lo = part.hi; hi = whole.hi }) else (record { lo = whole.lo; hi = part.lo })

-- areas have the pages from one on up to another, each from the end of the one before
abbrev pub Adjoin : ℕ → ℕ → List Record → Type 0
Adjoin lo hi [] = lo ≡ hi
Adjoin lo hi (area ∷ areas) = (area.span.lo ≡ lo) × (area.span.lo < area.span.hi) × Adjoin area.span.hi hi areas

-- a span has the pages of another, and those that it adds are below the limit, and no area has them
pub record IsRoomFor (limit : ℕ) (areas : List Record) (old new : Span) : Type 0 where
  pub under : new.lo ≤ old.lo
  pub over : old.hi ≤ new.hi
  pub below : new.lo < old.lo → is_free areas (old.lo - new.lo) new.lo ≡ true
  pub above : old.hi < new.hi → (new.hi ≤ limit) × (is_free areas (new.hi - old.hi) old.hi ≡ true)
