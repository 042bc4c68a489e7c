-- Which records stand for areas.
use Rattle.std.specs.Prelude.{◌≡◌, ◌≢◌, ◌<◌, ◌≤◌, ◌+◌, ◌-◌, Bool, true, false, not, ◌&&◌, ◌||◌}
use Rattle.mm_types.specs.declared.config.TheConstants.{MOST_AREA_END, MOST_OBJECT_PAGES}
use Rattle.mm_types.specs.declared.area.Prot.{Prot}
use Rattle.mm_types.specs.declared.area.Record.{Record}

-- whether the one protection holds each access of the other
unfoldable pub holds_all : Prot → Prot → Bool
holds_all most prot = (not prot.read || most.read) && ((not prot.write || most.write) && (not prot.exec || most.exec))

-- A record is valid where it has a page and ends at or below page 2^45, allows no more than it may, and maps private
-- anonymous memory from offset 0 on, or pages of an object below index 2^51 - 1.
pub record IsValid (area : Record) : Type 0 where
  pub some_pages : area.span.lo < area.span.hi
  pub below_end : area.span.hi ≤ MOST_AREA_END
  pub allowed : holds_all area.attr.most area.attr.prot ≡ true
  pub anonymous : area.object ≡ 0 → (area.offset ≡ 0) × (area.attr.shared ≡ false)
  pub backed : area.object ≢ 0 → area.offset + (area.span.hi - area.span.lo) ≤ MOST_OBJECT_PAGES
