-- For the function that moves an area: what mremap(2) carries elsewhere has small numbers, and so has the list that it is put into.
use Rattle.std.proofs.Common.{◌≡◌, ℕ, ◌^◌, ◌≤◌, List, All}
use Rattle.mm_types.specs.declared.area.Span.{Span}
use Rattle.mm_types.specs.declared.area.Record.{Record}
use Rattle.mm_types.specs.Records.{IsValid}
use Rattle.area_list.specs.Areas.{index_of}
use Rattle.area_list.specs.Changes.{IsSmall, put}
use Rattle.area_list.proofs.SmallNumbers.{index_below, offset_below, small_put}
use Rattle.area_rules.specs.Mremap.{carried_area}

-- an area that is carried elsewhere
small_carried : (area : Record) (from : ℕ) (span : Span) → IsValid area → from ≤ 2 ^ 54 → span.hi ≤ 2 ^ 60 → IsSmall (carried_area area from span)
unfolding carried_area index_of
small_carried area from span valid low end = record {
  end = end;
  offset = index_below area.object area.offset area.span.lo from (offset_below area valid) low;
}

-- and put there
pub small_moved : (area : Record) (from : ℕ) (span : Span) (areas : List Record) (new : Record) (list items : List Record) → IsValid area → All IsValid areas
    → from ≤ 2 ^ 54 → span.hi ≤ 2 ^ 60 → new ≡ carried_area area from span → items ≡ put new areas → list ≡ items → All IsSmall list
small_moved area from span areas new list items valid each low end is put_is same = rw (same, put_is, is) (small_put (carried_area area from span) areas (small_carried area from span valid low end) each)
