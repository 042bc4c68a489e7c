-- Changes of a list of areas: cut, put, merge, and new attributes.
use Rattle.std.specs.Prelude.{ℕ, ◌≤◌, ◌^◌, min, max, if◌then◌else◌, nat_lt, List, [], ◌∷◌, ◌++◌, flat_map, map}
use Rattle.mm_types.specs.declared.area.Span.{Span}
use Rattle.mm_types.specs.declared.area.Prot.{Prot}
use Rattle.mm_types.specs.declared.area.Record.{Record}
use Rattle.area_list.specs.declared.attributes.AttrChange.{AttrChange}
use Rattle.area_list.specs.declared.attributes.AttrChange.TheVariants.{Protection, Seal}
use Rattle.area_list.specs.Areas.{index_of, joins}
use Rattle.area_list.specs.Attributes.{with_attr}

-- an area whose end and offset are at most 2^60, so that no index of its pages passes 2^64
pub record IsSmall (area : Record) : Type 0 where
  pub end : area.span.hi ≤ 2 ^ 60
  pub offset : area.offset ≤ 2 ^ 60

-- the part of an area from lo up to hi, or nothing where it has no page
unfoldable pub piece : Record → ℕ → ℕ → List Record
piece area lo hi = if nat_lt lo hi then record area { span = record { lo = lo; hi = hi }; offset = index_of area lo } ∷ [] else []

-- what lies outside the span: the part of the area below it, and the part above it
unfoldable pub parts_outside : Span → Record → List Record
parts_outside span area = piece area area.span.lo (min area.span.hi span.lo) ++ piece area (max area.span.lo span.hi) area.span.hi

-- the list without the pages of the span
abbrev pub cut : Span → List Record → List Record
cut span areas = flat_map (parts_outside span) areas

-- the two areas as one
abbrev pub joined_area : Record → Record → Record
joined_area a b = record a { span = record { lo = a.span.lo; hi = b.span.hi } }

-- joins from the left on, where first is the area so far
abbrev pub merge_from : Record → List Record → List Record
merge_from first [] = first ∷ []
merge_from first (next ∷ areas) = if joins first next then merge_from (joined_area first next) areas else first ∷ merge_from next areas

-- the list with neighbours joined from the left until no two join
abbrev pub merge : List Record → List Record
merge [] = []
merge (first ∷ areas) = merge_from first areas

-- the list with this area in its place by lo
abbrev pub insert_area : Record → List Record → List Record
insert_area area [] = area ∷ []
insert_area area (first ∷ areas) = if nat_lt first.span.lo area.span.lo then first ∷ insert_area area areas else area ∷ first ∷ areas

-- the list with this area over what was there
abbrev pub put : Record → List Record → List Record
put area areas = merge (insert_area area (cut area.span areas))

-- an area with its attributes changed on its pages in the span: the parts below, within and above
unfoldable pub parts_changed : AttrChange → Span → Record → List Record
parts_changed change span area = piece area area.span.lo (min area.span.hi span.lo)
    ++ (map (with_attr change) (piece area (max area.span.lo span.lo) (min area.span.hi span.hi))
    ++ piece area (max area.span.lo span.hi) area.span.hi)

-- the list with the attributes changed on each mapped page of the span
abbrev pub changed_list : AttrChange → Span → List Record → List Record
changed_list change span areas = merge (flat_map (parts_changed change span) areas)

-- the list with this protection on each mapped page of the span
abbrev pub protected_list : Prot → Span → List Record → List Record
protected_list prot span areas = changed_list (Protection prot) span areas

-- the list with each mapped page of the span sealed
abbrev pub sealed_list : Span → List Record → List Record
sealed_list span areas = changed_list Seal span areas
