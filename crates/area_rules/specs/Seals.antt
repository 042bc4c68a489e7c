-- Sealed pages, which no call changes.
use Rattle.std.specs.Prelude.{Bool, ◌&&◌, List}
use Rattle.std.specs.List.{list_any}
use Rattle.mm_types.specs.declared.area.Record.{Record}
use Rattle.mm_types.specs.declared.area.Span.{Span}
use Rattle.area_list.specs.Areas.{overlap}

-- whether a page of the span, which has one, is sealed
unfoldable pub has_sealed : Span → List Record → Bool
has_sealed span areas = list_any (λ area. area.attr.sealed && overlap area.span span) areas
