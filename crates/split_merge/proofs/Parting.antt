-- For `plan_changes`, `plan_cut`, `plan_move` and others: the parts that take the place of an area: where they lie, how many there are, and what they join.
use Rattle.std.proofs.Common.{◌≡◌, ◌≤◌, ◌<◌, ◌+◌, ◌⊎◌, inl, inr, ℕ, Bool, true, false, ◌&&◌, if◌then◌else◌, min, max, nat_lt, List, [], ◌∷◌, ◌++◌, length, map, refl, ap, ◌∙◌, subst, arith}
use Rattle.std.specs.List.{filter, AllByRecursion as Each}
use Rattle.std.proofs.lemmas.Bool.{cond_both, ltb-true}
use Rattle.std.proofs.lemmas.Bool.Decides.{nat_tests}
use Rattle.std.proofs.lemmas.List.{length-append}
use Rattle.mm_types.specs.declared.area.Span.{Span}
use Rattle.mm_types.specs.declared.area.Record.{Record}
use Rattle.mm_types.specs.Records.{IsValid}
use Rattle.area_list.specs.Areas.{joins}
use Rattle.area_list.specs.declared.attributes.AttrChange.{AttrChange}
use Rattle.area_list.specs.Attributes.{with_attr}
use Rattle.area_list.specs.Changes.{piece, parts_changed}
use Rattle.area_list.proofs.Elements.{Pairs, Each-append, Each-weaker, Pairs-append}
use Rattle.area_list.proofs.Parts.{Apart, part, parts_apart, joins_touching, Each-piece, Pairs-piece}
use Rattle.area_list.proofs.Order.{Before}
use Rattle.split_merge.specs.declared.becoming.Becoming.{Becoming}
use Rattle.split_merge.specs.declared.becoming.Becoming.TheVariants.{Outside, Changed}
use Rattle.split_merge.specs.Internal.Becoming.{lower_span, upper_span, parts_left, parts_outside_both, AreSpansInOrder}
use Rattle.split_merge.proofs.Lists.{filter_nothing}
use Rattle.split_merge.proofs.Walking.{InOrder, rest_in_order}
use Rattle.split_merge.proofs.Pieces.{piece_some, piece_none, part_whole}
use Rattle.split_merge.proofs.Passing.{is_close, ascend}

-- what holds of a part from one page up to another that lies outside both spans
abbrev pub OutsideHas : (Record → Type 0) → Becoming → Record → Type 0
OutsideHas P becoming area = (lo hi : ℕ) → area.span.lo ≤ lo → lo < hi → hi ≤ area.span.hi
    → (hi ≤ (lower_span becoming).lo) ⊎ ((lower_span becoming).hi ≤ lo) → (hi ≤ (upper_span becoming).lo) ⊎ ((upper_span becoming).hi ≤ lo) → P (part area lo hi)

-- and of one within the lower span, with new attributes
abbrev pub WithinHas : (Record → Type 0) → Becoming → Record → Type 0
WithinHas P becoming area = (change : AttrChange) (lo hi : ℕ) → area.span.lo ≤ lo → lo < hi → hi ≤ area.span.hi
    → (lower_span becoming).lo ≤ lo → hi ≤ (lower_span becoming).hi → P (with_attr change (part area lo hi))

Each-within : (P : Record → Type 0) (change : AttrChange) (area : Record) (lo hi : ℕ) → (lo < hi → P (with_attr change (part area lo hi)))
    → Each P (map (with_attr change) (piece area lo hi))
unfolding piece
Each-within P change area lo hi holds =
    cond_both (nat_lt lo hi) (part area lo hi ∷ []) [] (λ list. Each P (map (with_attr change) list))
    (λ some. (holds (ltb-true lo hi some), tt)) (λ none. tt)

-- what holds of each part outside both spans
pub Each-outside_both : (P : Record → Type 0) (low high : Span) (area : Record) → AreSpansInOrder low high
    → OutsideHas P (Outside low high) area → Each P (parts_outside_both low high area)
unfolding parts_outside_both
Each-outside_both P low high area order outside =
    let spans = ascend low high order in
    Each-append P (piece area area.span.lo (min area.span.hi low.lo))
    (piece area (max area.span.lo low.hi) (min area.span.hi high.lo) ++ piece area (max area.span.lo high.hi) area.span.hi)
    (Each-piece P area area.span.lo (min area.span.hi low.lo)
    (λ some. outside area.span.lo (min area.span.hi low.lo) (omega arith) some (omega arith) (inl (omega arith)) (inl (omega (arith, spans.begins)))))
    (Each-append P (piece area (max area.span.lo low.hi) (min area.span.hi high.lo)) (piece area (max area.span.lo high.hi) area.span.hi)
    (Each-piece P area (max area.span.lo low.hi) (min area.span.hi high.lo)
    (λ some. outside (max area.span.lo low.hi) (min area.span.hi high.lo) (omega arith) some (omega arith) (inr (omega arith)) (inl (omega arith))))
    (Each-piece P area (max area.span.lo high.hi) area.span.hi
    (λ some. outside (max area.span.lo high.hi) area.span.hi (omega arith) some (omega arith) (inr (omega (arith, spans.ends))) (inr (omega arith)))))

-- what holds of each of the parts
pub Each-parts : (P : Record → Type 0) (becoming : Becoming) (area : Record) → AreSpansInOrder (lower_span becoming) (upper_span becoming)
    → OutsideHas P becoming area → WithinHas P becoming area → Each P (parts_left becoming area)
unfolding parts_changed
Each-parts P (Outside low high) area order outside within = Each-outside_both P low high area order outside
Each-parts P (Changed span change) area order outside within =
    Each-append P (piece area area.span.lo (min area.span.hi span.lo))
    (map (with_attr change) (piece area (max area.span.lo span.lo) (min area.span.hi span.hi)) ++ piece area (max area.span.lo span.hi) area.span.hi)
    (Each-piece P area area.span.lo (min area.span.hi span.lo)
    (λ some. outside area.span.lo (min area.span.hi span.lo) (omega arith) some (omega arith) (inl (omega arith)) (inl (omega arith))))
    (Each-append P (map (with_attr change) (piece area (max area.span.lo span.lo) (min area.span.hi span.hi))) (piece area (max area.span.lo span.hi) area.span.hi)
    (Each-within P change area (max area.span.lo span.lo) (min area.span.hi span.hi)
    (λ some. within change (max area.span.lo span.lo) (min area.span.hi span.hi) (omega arith) some (omega arith) (omega arith) (omega arith)))
    (Each-piece P area (max area.span.lo span.hi) area.span.hi
    (λ some. outside (max area.span.lo span.hi) area.span.hi (omega arith) some (omega arith) (inr (omega arith)) (inr (omega arith)))))

-- a part has a page, and lies within its area
pub record IsPartOf (area part : Record) : Type 0 where
  pub low : area.span.lo ≤ part.span.lo
  pub some : part.span.lo < part.span.hi
  pub high : part.span.hi ≤ area.span.hi

pub parts_within : (becoming : Becoming) (area : Record) → AreSpansInOrder (lower_span becoming) (upper_span becoming) → Each (IsPartOf area) (parts_left becoming area)
parts_within becoming area order = Each-parts (IsPartOf area) becoming area order
    (λ lo hi low some high below above. record { low = low; some = some; high = high })
    (λ change lo hi low some high from to. record { low = low; some = some; high = high })

Pairs-within : (change : AttrChange) (area : Record) (lo hi : ℕ) → Pairs Before (map (with_attr change) (piece area lo hi))
unfolding piece
Pairs-within change area lo hi =
    cond_both (nat_lt lo hi) (part area lo hi ∷ []) [] (λ list. Pairs Before (map (with_attr change) list)) (λ some. (tt, tt)) (λ none. tt)

-- the parts ascend
pub parts_ascend : (becoming : Becoming) (area : Record) → AreSpansInOrder (lower_span becoming) (upper_span becoming) → Pairs Before (parts_left becoming area)
unfolding parts_outside_both parts_changed
parts_ascend (Outside low high) area order =
    let spans = ascend low high order in
    let second = piece area (max area.span.lo low.hi) (min area.span.hi high.lo) in
    let third = piece area (max area.span.lo high.hi) area.span.hi in
    Pairs-append Before (piece area area.span.lo (min area.span.hi low.lo)) (second ++ third) (Pairs-piece Before area area.span.lo (min area.span.hi low.lo))
    (Pairs-append Before second third (Pairs-piece Before area (max area.span.lo low.hi) (min area.span.hi high.lo))
    (Pairs-piece Before area (max area.span.lo high.hi) area.span.hi)
    (Each-piece (λ u. Each (Before u) third) area (max area.span.lo low.hi) (min area.span.hi high.lo)
    (λ some. Each-piece (Before (part area (max area.span.lo low.hi) (min area.span.hi high.lo))) area (max area.span.lo high.hi) area.span.hi
    (λ more. omega (arith, order.upper)))))
    (Each-piece (λ u. Each (Before u) (second ++ third)) area area.span.lo (min area.span.hi low.lo)
    (λ some. Each-append (Before (part area area.span.lo (min area.span.hi low.lo))) second third
    (Each-piece (Before (part area area.span.lo (min area.span.hi low.lo))) area (max area.span.lo low.hi) (min area.span.hi high.lo) (λ more. omega (arith, spans.upwards)))
    (Each-piece (Before (part area area.span.lo (min area.span.hi low.lo))) area (max area.span.lo high.hi) area.span.hi (λ more. omega (arith, spans.upwards, spans.ends)))))
parts_ascend (Changed span change) area order =
    let second = map (with_attr change) (piece area (max area.span.lo span.lo) (min area.span.hi span.hi)) in
    let third = piece area (max area.span.lo span.hi) area.span.hi in
    Pairs-append Before (piece area area.span.lo (min area.span.hi span.lo)) (second ++ third) (Pairs-piece Before area area.span.lo (min area.span.hi span.lo))
    (Pairs-append Before second third (Pairs-within change area (max area.span.lo span.lo) (min area.span.hi span.hi))
    (Pairs-piece Before area (max area.span.lo span.hi) area.span.hi)
    (Each-within (λ u. Each (Before u) third) change area (max area.span.lo span.lo) (min area.span.hi span.hi)
    (λ some. Each-piece (Before (with_attr change (part area (max area.span.lo span.lo) (min area.span.hi span.hi)))) area (max area.span.lo span.hi) area.span.hi
    (λ more. omega arith))))
    (Each-piece (λ u. Each (Before u) (second ++ third)) area area.span.lo (min area.span.hi span.lo)
    (λ some. Each-append (Before (part area area.span.lo (min area.span.hi span.lo))) second third
    (Each-within (Before (part area area.span.lo (min area.span.hi span.lo))) change area (max area.span.lo span.lo) (min area.span.hi span.hi) (λ more. omega arith))
    (Each-piece (Before (part area area.span.lo (min area.span.hi span.lo))) area (max area.span.lo span.hi) area.span.hi (λ more. omega (arith, order.lower)))))

-- an area that lies below all pages that change, or above all, is its only part
whole_below : (area : Record) (to : ℕ) → IsValid area → area.span.hi ≤ to → piece area area.span.lo (min area.span.hi to) ≡ area ∷ []
whole_below area to valid below = piece_some area area.span.lo (min area.span.hi to) (omega (arith, valid.some_pages))
    ∙ ap (λ first. first ∷ []) (part_whole area (min area.span.hi to) valid (omega arith))

whole_between : (area : Record) (from to : ℕ) → IsValid area → from ≤ area.span.lo → area.span.hi ≤ to
    → piece area (max area.span.lo from) (min area.span.hi to) ≡ area ∷ []
whole_between area from to valid above below = ap (λ lo. piece area lo (min area.span.hi to)) lowest ∙ whole_below area to valid below
  where
    lowest : max area.span.lo from ≡ area.span.lo
    lowest = omega arith

whole_above : (area : Record) (from : ℕ) → IsValid area → from ≤ area.span.lo → piece area (max area.span.lo from) area.span.hi ≡ area ∷ []
whole_above area from valid above = ap (λ lo. piece area lo area.span.hi) lowest
    ∙ piece_some area area.span.lo area.span.hi (omega (arith, valid.some_pages))
    ∙ ap (λ first. first ∷ []) (part_whole area area.span.hi valid refl)
  where
    lowest : max area.span.lo from ≡ area.span.lo
    lowest = omega arith

-- an area away from the spans stays as it is
pub parts_away : (becoming : Becoming) (area : Record) → AreSpansInOrder (lower_span becoming) (upper_span becoming) → IsValid area
    → (area.span.hi ≤ (lower_span becoming).lo) ⊎ ((lower_span becoming).hi ≤ area.span.lo) → (area.span.hi ≤ (upper_span becoming).lo) ⊎ ((upper_span becoming).hi ≤ area.span.lo)
    → parts_left becoming area ≡ area ∷ []
unfolding parts_outside_both parts_changed
parts_away (Outside low high) area order valid (inl below) second =
    let spans = ascend low high order in
    ap (λ parts. parts ++ (piece area (max area.span.lo low.hi) (min area.span.hi high.lo) ++ piece area (max area.span.lo high.hi) area.span.hi)) (whole_below area low.lo valid below)
    ∙ ap (λ parts. area ∷ (parts ++ piece area (max area.span.lo high.hi) area.span.hi))
    (piece_none area (max area.span.lo low.hi) (min area.span.hi high.lo) (omega (arith, spans.upwards)))
    ∙ ap (λ parts. area ∷ parts) (piece_none area (max area.span.lo high.hi) area.span.hi (omega (arith, spans.upwards, spans.ends)))
parts_away (Outside low high) area order valid (inr above) (inl below) =
    ap (λ parts. parts ++ (piece area (max area.span.lo low.hi) (min area.span.hi high.lo) ++ piece area (max area.span.lo high.hi) area.span.hi))
    (piece_none area area.span.lo (min area.span.hi low.lo) (omega (arith, order.lower)))
    ∙ ap (λ parts. parts ++ piece area (max area.span.lo high.hi) area.span.hi) (whole_between area low.hi high.lo valid above below)
    ∙ ap (λ parts. area ∷ parts) (piece_none area (max area.span.lo high.hi) area.span.hi (omega (arith, order.upper)))
parts_away (Outside low high) area order valid (inr above) (inr higher) =
    ap (λ parts. parts ++ (piece area (max area.span.lo low.hi) (min area.span.hi high.lo) ++ piece area (max area.span.lo high.hi) area.span.hi))
    (piece_none area area.span.lo (min area.span.hi low.lo) (omega (arith, order.lower)))
    ∙ ap (λ parts. parts ++ piece area (max area.span.lo high.hi) area.span.hi)
    (piece_none area (max area.span.lo low.hi) (min area.span.hi high.lo) (omega (arith, order.upper)))
    ∙ whole_above area high.hi valid higher
parts_away (Changed span change) area order valid (inl below) second =
    ap (λ parts. parts ++ (map (with_attr change) (piece area (max area.span.lo span.lo) (min area.span.hi span.hi)) ++ piece area (max area.span.lo span.hi) area.span.hi))
    (whole_below area span.lo valid below)
    ∙ ap (λ parts. area ∷ (map (with_attr change) parts ++ piece area (max area.span.lo span.hi) area.span.hi))
    (piece_none area (max area.span.lo span.lo) (min area.span.hi span.hi) (omega arith))
    ∙ ap (λ parts. area ∷ parts) (piece_none area (max area.span.lo span.hi) area.span.hi (omega (arith, order.lower)))
parts_away (Changed span change) area order valid (inr above) second =
    ap (λ parts. parts ++ (map (with_attr change) (piece area (max area.span.lo span.lo) (min area.span.hi span.hi)) ++ piece area (max area.span.lo span.hi) area.span.hi))
    (piece_none area area.span.lo (min area.span.hi span.lo) (omega (arith, order.lower)))
    ∙ ap (λ parts. map (with_attr change) parts ++ piece area (max area.span.lo span.hi) area.span.hi)
    (piece_none area (max area.span.lo span.lo) (min area.span.hi span.hi) (omega arith))
    ∙ whole_above area span.hi valid above

-- whether a page lies within an area, and not at its begin
abbrev pub straddles : ℕ → Record → Bool
straddles page area = nat_lt area.span.lo page && nat_lt page area.span.hi

abbrev pub one_if : Bool → ℕ
one_if test = if test then 1 else 0

length-piece : (area : Record) (lo hi : ℕ) → length (piece area lo hi) ≡ one_if (nat_lt lo hi)
unfolding piece
length-piece area lo hi = by (nat_lt lo hi)
  where
    by : (test : Bool) → length (if test then part area lo hi ∷ [] else []) ≡ (if test then 1 else 0)
    by true = refl
    by false = refl

length-within : (change : AttrChange) (area : Record) (lo hi : ℕ) → length (map (with_attr change) (piece area lo hi)) ≡ one_if (nat_lt lo hi)
unfolding piece
length-within change area lo hi = by (nat_lt lo hi)
  where
    by : (test : Bool) → length (map (with_attr change) (if test then part area lo hi ∷ [] else [])) ≡ (if test then 1 else 0)
    by true = refl
    by false = refl

outside_tests : (lo hi from to begin end : ℕ) → lo < hi → begin ≤ end → (from ≡ begin) × (to ≡ end) ⊎ (to ≤ begin) → from ≤ to
    → one_if (nat_lt lo (min hi from)) + (one_if (nat_lt (max lo to) (min hi begin)) + one_if (nat_lt (max lo end) hi))
    ≤ 1 + one_if (nat_lt lo from && nat_lt from hi) + one_if (nat_lt lo begin && nat_lt begin hi)
outside_tests lo hi from to begin end some ascends (inl same) upwards = grind (arith, nat_tests)
outside_tests lo hi from to begin end some ascends (inr below) upwards = grind (arith, nat_tests)

protected_tests : (lo hi from to : ℕ) → lo < hi → from ≤ to
    → one_if (nat_lt lo (min hi from)) + (one_if (nat_lt (max lo from) (min hi to)) + one_if (nat_lt (max lo to) hi))
    ≤ 1 + one_if (nat_lt lo from && nat_lt from hi) + one_if (nat_lt lo to && nat_lt to hi)
protected_tests lo hi from to some ascends = grind (arith, nat_tests)

-- the pages at which areas are split
abbrev pub first_seam : Becoming → ℕ
first_seam becoming = (lower_span becoming).lo

abbrev pub second_seam : Becoming → ℕ
second_seam (Outside low high) = high.lo
second_seam (Changed span change) = span.hi

-- an area has one part more for each of these that it straddles
length-parts : (becoming : Becoming) (area : Record) → AreSpansInOrder (lower_span becoming) (upper_span becoming) → IsValid area
    → length (parts_left becoming area) ≤ 1 + one_if (straddles (first_seam becoming) area) + one_if (straddles (second_seam becoming) area)
unfolding parts_outside_both parts_changed
length-parts (Outside low high) area order valid = simp (length-append, length-piece)
    (outside_tests area.span.lo area.span.hi low.lo low.hi high.lo high.hi valid.some_pages order.upper (by order.one_or_below) order.lower)
  where
    by : (low ≡ high) ⊎ (low.hi ≤ high.lo) → ((low.lo ≡ high.lo) × (low.hi ≡ high.hi)) ⊎ (low.hi ≤ high.lo)
    by (inl same) = inl (ap (λ (s : Span). s.lo) same, ap (λ (s : Span). s.hi) same)
    by (inr below) = inr below
length-parts (Changed span change) area order valid = simp (length-append, length-piece, length-within)
    (protected_tests area.span.lo area.span.hi span.lo span.hi valid.some_pages order.lower)

length-straddled : (page : ℕ) (area : Record) (areas : List Record)
    → length (filter (straddles page) (area ∷ areas)) ≡ one_if (straddles page area) + length (filter (straddles page) areas)
length-straddled page area areas = by (straddles page area)
  where
    by : (test : Bool) → length (if test then area ∷ filter (straddles page) areas else filter (straddles page) areas)
        ≡ (if test then 1 else 0) + length (filter (straddles page) areas)
    by true = omega arith
    by false = omega arith

beyond_page : (lo hi next end page : ℕ) → (nat_lt lo page && nat_lt page hi) ≡ true → hi ≤ next → (nat_lt next page && nat_lt page end) ≡ false
beyond_page lo hi next end page inside order = grind (arith, nat_tests)

one_straddled : (page : ℕ) (areas : List Record) → InOrder areas → length (filter (straddles page) areas) ≤ 1
one_straddled page [] o = omega arith
one_straddled page (area ∷ areas) o =
    cond_both (straddles page area) (area ∷ filter (straddles page) areas) (filter (straddles page) areas) (λ list. length list ≤ 1)
    (λ inside. omega (
      arith,
      ap length (filter_nothing (straddles page) areas (Each-weaker (Before area) (λ next. straddles page next ≡ false)
          (λ next order. beyond_page area.span.lo area.span.hi next.span.lo next.span.hi page inside order) areas o.ordered.0)),
    ))
    (λ outside. one_straddled page areas (rest_in_order area areas o))

-- the events of a list with these parts, each area near a span and each part of it counted
abbrev pub counted : Becoming → List Record → ℕ
counted becoming [] = 0
counted becoming (area ∷ areas) = (if is_close becoming area then 1 + length (parts_left becoming area) else 0) + counted becoming areas

counted_along : (becoming : Becoming) (areas : List Record) → AreSpansInOrder (lower_span becoming) (upper_span becoming) → Each IsValid areas
    → counted becoming areas ≤ length (filter (is_close becoming) areas) + length (filter (is_close becoming) areas)
    + (length (filter (straddles (first_seam becoming)) areas) + length (filter (straddles (second_seam becoming)) areas))
counted_along becoming [] order valid = omega arith
counted_along becoming (area ∷ areas) order valid = by (is_close becoming area) (counted_along becoming areas order valid.1)
  where
    close : List Record
    close = filter (is_close becoming) areas

    by : (test : Bool)
        → counted becoming areas ≤ length close + length close
        + (length (filter (straddles (first_seam becoming)) areas) + length (filter (straddles (second_seam becoming)) areas))
        → (if test then 1 + length (parts_left becoming area) else 0) + counted becoming areas
        ≤ length (if test then area ∷ close else close) + length (if test then area ∷ close else close)
        + (length (filter (straddles (first_seam becoming)) (area ∷ areas)) + length (filter (straddles (second_seam becoming)) (area ∷ areas)))
    by true rest = omega (
      arith,
      rest,
      length-parts becoming area order valid.0,
      length-straddled (first_seam becoming) area areas,
      length-straddled (second_seam becoming) area areas,
    )
    by false rest = omega (arith, rest, length-straddled (first_seam becoming) area areas, length-straddled (second_seam becoming) area areas)

-- two for each area near a span, and two more
pub counted_short : (becoming : Becoming) (areas : List Record) → AreSpansInOrder (lower_span becoming) (upper_span becoming) → InOrder areas
    → counted becoming areas ≤ length (filter (is_close becoming) areas) + length (filter (is_close becoming) areas) + 2
counted_short becoming areas order o = omega (
  arith,
  counted_along becoming areas order o.valid,
  one_straddled (first_seam becoming) areas o,
  one_straddled (second_seam becoming) areas o,
)

abbrev pub Unjoined : Record → Record → Type 0
Unjoined a b = joins a b ≡ false

-- a part joins no area that its own area lies apart from, and that no span whose pages change touches
pub parts_below : (becoming : Becoming) (area other : Record) → AreSpansInOrder (lower_span becoming) (upper_span becoming) → IsValid other → Apart area other
    → (other.span.hi < (lower_span becoming).lo) ⊎ ((lower_span becoming).hi < other.span.lo) → Each (λ part. Unjoined part other) (parts_left becoming area)
parts_below becoming area other order valid apart away = Each-parts (λ part. Unjoined part other) becoming area order
    (λ lo hi low some high below above. subst (Unjoined (part area lo hi)) (part_whole other other.span.hi valid refl)
    ((parts_apart area other lo hi other.span.lo other.span.hi apart low some high (omega arith)).apart))
    (λ change lo hi low some high from to. joins_touching (with_attr change (part area lo hi)) other (touch lo hi some high from to away))
  where
    touch : (lo hi : ℕ) → lo < hi → hi ≤ area.span.hi → (lower_span becoming).lo ≤ lo → hi ≤ (lower_span becoming).hi
        → (other.span.hi < (lower_span becoming).lo) ⊎ ((lower_span becoming).hi < other.span.lo) → hi < other.span.lo
    touch lo hi some high from to (inl below) = absurd (omega (arith, apart.order, valid.some_pages))
    touch lo hi some high from to (inr above) = omega arith

pub parts_above : (becoming : Becoming) (area other : Record) → AreSpansInOrder (lower_span becoming) (upper_span becoming) → IsValid other → Apart other area
    → (other.span.hi < (lower_span becoming).lo) ⊎ ((lower_span becoming).hi < other.span.lo) → Each (Unjoined other) (parts_left becoming area)
parts_above becoming area other order valid apart away = Each-parts (Unjoined other) becoming area order
    (λ lo hi low some high below above. subst (λ first. Unjoined first (part area lo hi)) (part_whole other other.span.hi valid refl)
    ((parts_apart other area other.span.lo other.span.hi lo hi apart (omega arith) valid.some_pages (omega arith) low).apart))
    (λ change lo hi low some high from to. joins_touching other (with_attr change (part area lo hi)) (touch lo hi some low from to away))
  where
    touch : (lo hi : ℕ) → lo < hi → area.span.lo ≤ lo → (lower_span becoming).lo ≤ lo → hi ≤ (lower_span becoming).hi
        → (other.span.hi < (lower_span becoming).lo) ⊎ ((lower_span becoming).hi < other.span.lo) → other.span.hi < lo
    touch lo hi some low from to (inl below) = omega arith
    touch lo hi some low from to (inr above) = absurd (omega (arith, apart.order, valid.some_pages))
