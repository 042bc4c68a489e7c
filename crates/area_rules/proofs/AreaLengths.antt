-- For the law `calls_make_few_areas`: how many areas the changes of a list make.
use Rattle.std.proofs.Common.{◌≡◌, ◌≤◌, ◌<◌, ◌+◌, ℕ, inl, inr, Bool, true, false, cond, nat_lt, min, max, List, [], ◌∷◌, ◌++◌, length, map, flat_map, All, arith, length-append}
use Rattle.std.proofs.lemmas.Bool.{cases_lt}
use Rattle.std.proofs.lemmas.Bool.Decides.{nat_tests}
use Rattle.std.proofs.lemmas.List.{length-map}
use Rattle.std.proofs.lemmas.List.Elements.{All-head, All-tail}
use Rattle.mm_types.specs.declared.area.Record.{Record}
use Rattle.mm_types.specs.declared.area.Span.{Span}
use Rattle.mm_types.specs.Records.{IsValid}
use Rattle.area_list.specs.declared.attributes.AttrChange.{AttrChange}
use Rattle.area_list.specs.Areas.{joins, OfFirst, Neighbours, IsCanonical}
use Rattle.area_list.specs.Attributes.{with_attr}
use Rattle.area_list.proofs.Parts.{part}
use Rattle.area_list.specs.Changes.{piece, parts_outside, cut, joined_area, merge_from, merge, insert_area, put, parts_changed, changed_list}

-- areas with a page, of which the first begins at or above this page and each other where the one before ends, or above
abbrev pub AreAbove : ℕ → List Record → Type 0
AreAbove low [] = Unit {0}
AreAbove low (area ∷ areas) = (low ≤ area.span.lo) × (area.span.lo < area.span.hi) × AreAbove area.span.hi areas

above_by_first : (areas : List Record) (low : ℕ) → All IsValid areas → Neighbours (λ a b. a.span.hi ≤ b.span.lo) areas
    → OfFirst (λ area. low ≤ area.span.lo) areas → AreAbove low areas
above_by_first [] low valid ordered first = tt
above_by_first (area ∷ areas) low valid ordered first = (
  first,
  (All-head IsValid area areas valid).some_pages,
  above_by_first areas area.span.hi (All-tail IsValid area areas valid) ordered.1 ordered.0,
)

-- a canonical list is so from the lowest page on
pub canonical_above : (end : ℕ) (areas : List Record) → IsCanonical end areas → AreAbove 0 areas
canonical_above end areas c = above_by_first areas 0 c.valid c.ordered (first areas)
  where
    first : (areas : List Record) → OfFirst (λ (area : Record). 0 ≤ area.span.lo) areas
    first [] = tt
    first (area ∷ areas) = omega arith

-- how many areas a piece is
abbrev pieces : ℕ → ℕ → ℕ
pieces lo hi = cond (nat_lt lo hi) 1 0

length-piece : (area : Record) (lo hi : ℕ) → length (piece area lo hi) ≡ pieces lo hi
unfolding piece
length-piece area lo hi = one_if (nat_lt lo hi) (part area lo hi)
  where
    one_if : (some : Bool) (one : Record) → length (cond some (one ∷ []) []) ≡ cond some 1 0
    one_if true one = omega arith
    one_if false one = omega arith

-- ---- a cut

length-outside : (span : Span) (area : Record) → length (parts_outside span area)
    ≡ pieces area.span.lo (min area.span.hi span.lo) + pieces (max area.span.lo span.hi) area.span.hi
unfolding parts_outside
length-outside span area =
    let below = length-piece area area.span.lo (min area.span.hi span.lo) in
    let above = length-piece area (max area.span.lo span.hi) area.span.hi in
    omega (arith, below, above, length-append (piece area area.span.lo (min area.span.hi span.lo)) (piece area (max area.span.lo span.hi) area.span.hi))

outside_two : (lo hi from to : ℕ) → pieces lo (min hi from) + pieces (max lo to) hi ≤ 2
outside_two lo hi from to = grind (arith, nat_tests)

outside_below : (lo hi from to : ℕ) → from ≤ to → hi ≤ to → pieces lo (min hi from) + pieces (max lo to) hi ≤ 1
outside_below lo hi from to order ends = grind (arith, nat_tests)

outside_above : (lo hi from to : ℕ) → from ≤ to → to ≤ lo → pieces lo (min hi from) + pieces (max lo to) hi ≤ 1
outside_above lo hi from to order begins = grind (arith, nat_tests)

-- areas above the span stay as they are
cut_above : (span : Span) (low : ℕ) (areas : List Record) → span.lo ≤ span.hi → span.hi ≤ low → AreAbove low areas
    → length (cut span areas) ≤ length areas
cut_above span low [] order past above = omega arith
cut_above span low (area ∷ areas) order past above = omega (
  arith,
  length-append (parts_outside span area) (cut span areas),
  length-outside span area,
  outside_above area.span.lo area.span.hi span.lo span.hi order (omega (arith, above.0)),
  cut_above span area.span.hi areas order (omega (arith, above.0, above.1)) above.2,
)

-- a cut makes at most one area more: only the area that goes past the end of the span has a part on both sides
pub length-cut : (span : Span) (low : ℕ) (areas : List Record) → span.lo ≤ span.hi → AreAbove low areas
    → length (cut span areas) ≤ length areas + 1
length-cut span low [] order above = omega arith
length-cut span low (area ∷ areas) order above = elim (cases_lt span.hi area.span.hi) [
  | inl past ↦ omega (
    arith,
    length-append (parts_outside span area) (cut span areas),
    length-outside span area,
    outside_two area.span.lo area.span.hi span.lo span.hi,
    cut_above span area.span.hi areas order (omega (arith, past)) above.2,
  )
  | inr within ↦ omega (
    arith,
    length-append (parts_outside span area) (cut span areas),
    length-outside span area,
    outside_below area.span.lo area.span.hi span.lo span.hi order within,
    length-cut span area.span.hi areas order above.2,
  )
]

-- ---- a put

length-merge_from : (first : Record) (areas : List Record) → length (merge_from first areas) ≤ length areas + 1
length-merge_from first [] = omega arith
length-merge_from first (next ∷ areas) = shorter (joins first next) (merge_from (joined_area first next) areas) (merge_from next areas)
    (length-merge_from (joined_area first next) areas) (length-merge_from next areas)
  where
    shorter : (join : Bool) (joined apart : List Record) → length joined ≤ length areas + 1 → length apart ≤ length areas + 1
        → length (cond join joined (first ∷ apart)) ≤ length (next ∷ areas) + 1
    shorter true joined apart one other = omega arith
    shorter false joined apart one other = omega arith

-- merging makes none
pub length-merge : (areas : List Record) → length (merge areas) ≤ length areas
length-merge [] = omega arith
length-merge (first ∷ areas) = omega (arith, length-merge_from first areas)

length-insert_area : (area : Record) (areas : List Record) → length (insert_area area areas) ≡ length areas + 1
length-insert_area area [] = omega arith
length-insert_area area (first ∷ areas) =
    longer (nat_lt first.span.lo area.span.lo) (insert_area area areas) (length-insert_area area areas)
  where
    longer : (below : Bool) (rest : List Record) → length rest ≡ length areas + 1
        → length (cond below (first ∷ rest) (area ∷ first ∷ areas)) ≡ length (first ∷ areas) + 1
    longer true rest one = omega arith
    longer false rest one = omega arith

-- a put makes at most two areas more: its own, and one by the cut
pub length-put : (area : Record) (low : ℕ) (areas : List Record) → area.span.lo ≤ area.span.hi → AreAbove low areas
    → length (put area areas) ≤ length areas + 2
length-put area low areas order above = omega (
  arith,
  length-merge (insert_area area (cut area.span areas)),
  length-insert_area area (cut area.span areas),
  length-cut area.span low areas order above,
)

-- ---- new attributes split at most two areas: one at each end of the span

length-parts : (change : AttrChange) (span : Span) (area : Record) → length (parts_changed change span area)
    ≡ pieces area.span.lo (min area.span.hi span.lo)
    + (pieces (max area.span.lo span.lo) (min area.span.hi span.hi) + pieces (max area.span.lo span.hi) area.span.hi)
unfolding parts_changed
length-parts change span area =
    let below : List Record = piece area area.span.lo (min area.span.hi span.lo) in
    let within : List Record = piece area (max area.span.lo span.lo) (min area.span.hi span.hi) in
    let above : List Record = piece area (max area.span.lo span.hi) area.span.hi in
    omega (
      arith,
      length-piece area area.span.lo (min area.span.hi span.lo),
      length-piece area (max area.span.lo span.lo) (min area.span.hi span.hi),
      length-piece area (max area.span.lo span.hi) area.span.hi,
      length-append below (map (with_attr change) within ++ above),
      length-append (map (with_attr change) within) above,
      length-map within (with_attr change),
    )

parts_three : (lo hi from to : ℕ) → pieces lo (min hi from) + (pieces (max lo from) (min hi to) + pieces (max lo to) hi) ≤ 3
parts_three lo hi from to = grind (arith, nat_tests)

parts_two : (lo hi from to : ℕ) → hi ≤ to → pieces lo (min hi from) + (pieces (max lo from) (min hi to) + pieces (max lo to) hi) ≤ 2
parts_two lo hi from to ends = grind (arith, nat_tests)

parts_below : (lo hi from to : ℕ) → from ≤ to → hi ≤ from
    → pieces lo (min hi from) + (pieces (max lo from) (min hi to) + pieces (max lo to) hi) ≤ 1
parts_below lo hi from to order ends = grind (arith, nat_tests)

parts_from : (lo hi from to : ℕ) → from ≤ lo → pieces lo (min hi from) + (pieces (max lo from) (min hi to) + pieces (max lo to) hi) ≤ 2
parts_from lo hi from to begins = grind (arith, nat_tests)

parts_within : (lo hi from to : ℕ) → from ≤ lo → hi ≤ to → pieces lo (min hi from) + (pieces (max lo from) (min hi to) + pieces (max lo to) hi) ≤ 1
parts_within lo hi from to begins ends = grind (arith, nat_tests)

parts_above : (lo hi from to : ℕ) → from ≤ to → to ≤ lo
    → pieces lo (min hi from) + (pieces (max lo from) (min hi to) + pieces (max lo to) hi) ≤ 1
parts_above lo hi from to order begins = grind (arith, nat_tests)

-- areas above the span stay as they are
changed_above : (change : AttrChange) (span : Span) (low : ℕ) (areas : List Record) → span.lo ≤ span.hi → span.hi ≤ low → AreAbove low areas
    → length (flat_map (parts_changed change span) areas) ≤ length areas
changed_above change span low [] order past above = omega arith
changed_above change span low (area ∷ areas) order past above = omega (
  arith,
  length-append (parts_changed change span area) (flat_map (parts_changed change span) areas),
  length-parts change span area,
  parts_above area.span.lo area.span.hi span.lo span.hi order (omega (arith, above.0)),
  changed_above change span area.span.hi areas order (omega (arith, above.0, above.1)) above.2,
)

-- of areas that begin in it or above only the one that goes past its end is split
changed_from : (change : AttrChange) (span : Span) (low : ℕ) (areas : List Record) → span.lo ≤ span.hi → span.lo ≤ low → AreAbove low areas
    → length (flat_map (parts_changed change span) areas) ≤ length areas + 1
changed_from change span low [] order from above = omega arith
changed_from change span low (area ∷ areas) order from above = elim (cases_lt span.hi area.span.hi) [
  | inl past ↦ omega (
    arith,
    length-append (parts_changed change span area) (flat_map (parts_changed change span) areas),
    length-parts change span area,
    parts_from area.span.lo area.span.hi span.lo span.hi (omega (arith, above.0)),
    changed_above change span area.span.hi areas order (omega (arith, past)) above.2,
  )
  | inr within ↦ omega (
    arith,
    length-append (parts_changed change span area) (flat_map (parts_changed change span) areas),
    length-parts change span area,
    parts_within area.span.lo area.span.hi span.lo span.hi (omega (arith, above.0)) within,
    changed_from change span area.span.hi areas order (omega (arith, above.0, above.1)) above.2,
  )
]

parts_length : (change : AttrChange) (span : Span) (low : ℕ) (areas : List Record) → span.lo ≤ span.hi → AreAbove low areas
    → length (flat_map (parts_changed change span) areas) ≤ length areas + 2
parts_length change span low [] order above = omega arith
parts_length change span low (area ∷ areas) order above = elim (cases_lt span.lo area.span.hi) [
  | inl begins ↦ elim (cases_lt span.hi area.span.hi) [
    | inl past ↦ omega (
      arith,
      length-append (parts_changed change span area) (flat_map (parts_changed change span) areas),
      length-parts change span area,
      parts_three area.span.lo area.span.hi span.lo span.hi,
      changed_above change span area.span.hi areas order (omega (arith, past)) above.2,
    )
    | inr within ↦ omega (
      arith,
      length-append (parts_changed change span area) (flat_map (parts_changed change span) areas),
      length-parts change span area,
      parts_two area.span.lo area.span.hi span.lo span.hi within,
      changed_from change span area.span.hi areas order (omega (arith, begins)) above.2,
    )
  ]
  | inr before ↦ omega (
    arith,
    length-append (parts_changed change span area) (flat_map (parts_changed change span) areas),
    length-parts change span area,
    parts_below area.span.lo area.span.hi span.lo span.hi order before,
    parts_length change span area.span.hi areas order above.2,
  )
]

-- so new attributes make at most two areas more
pub length-changed_list : (change : AttrChange) (span : Span) (low : ℕ) (areas : List Record) → span.lo ≤ span.hi → AreAbove low areas
    → length (changed_list change span areas) ≤ length areas + 2
length-changed_list change span low areas order above = omega (
  arith,
  length-merge (flat_map (parts_changed change span) areas),
  parts_length change span low areas order above,
)
