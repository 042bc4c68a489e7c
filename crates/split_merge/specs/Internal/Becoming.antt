-- What becomes of the areas of a list.
use Rattle.std.specs.Prelude.{◌≡◌, ◌≤◌, ◌⊎◌, min, max, List, ◌++◌, Option, IfSome}
use Rattle.mm_types.specs.declared.area.Span.{Span}
use Rattle.mm_types.specs.declared.area.Record.{Record}
use Rattle.area_list.specs.Changes.{piece, parts_changed}
use Rattle.split_merge.specs.declared.becoming.Becoming.{Becoming}
use Rattle.split_merge.specs.declared.becoming.Becoming.TheVariants.{Outside, Changed}

-- what lies outside two spans: the parts of the area below the lower, between the two, and above the upper
unfoldable pub parts_outside_both : Span → Span → Record → List Record
parts_outside_both low high area = piece area area.span.lo (min area.span.hi low.lo)
    ++ (piece area (max area.span.lo low.hi) (min area.span.hi high.lo) ++ piece area (max area.span.lo high.hi) area.span.hi)

-- the lower of the two spans whose pages change, which are one where there is only one
abbrev pub lower_span : Becoming → Span
lower_span (Outside low high) = low
lower_span (Changed span change) = span

-- the upper of the two
abbrev pub upper_span : Becoming → Span
upper_span (Outside low high) = high
upper_span (Changed span change) = span

-- the parts that take the place of an area
abbrev pub parts_left : Becoming → Record → List Record
parts_left (Outside low high) area = parts_outside_both low high area
parts_left (Changed span change) area = parts_changed change span area

-- the two spans are one, or the one lies below the other
pub record AreSpansInOrder (low high : Span) : Type 0 where
  pub lower : low.lo ≤ low.hi
  pub upper : high.lo ≤ high.hi
  pub one_or_below : (low ≡ high) ⊎ (low.hi ≤ high.lo)

-- the new area begins where one of the spans does
abbrev pub BeginsOne : Becoming → Option Record → Type 0
BeginsOne becoming new = IfSome new (λ area. (area.span.lo ≡ (lower_span becoming).lo) ⊎ (area.span.lo ≡ (upper_span becoming).lo))
