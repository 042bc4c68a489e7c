-- What the laws of lists speak of.
use Rattle.std.specs.Prelude.{ℕ, ◌≡◌, true, List, IfSome}
use Rattle.mm_types.specs.declared.area.Span.{Span}
use Rattle.mm_types.specs.declared.area.Record.{Record}
use Rattle.area_list.specs.declared.attributes.AttrChange.{AttrChange}
use Rattle.area_list.specs.Areas.{has_page, area_at}
use Rattle.area_list.specs.Attributes.{may_become}

-- the attributes of each mapped page of the span may change so
abbrev pub AllMayBecome : AttrChange → Span → List Record → Type 0
AllMayBecome change span areas = (page : ℕ) → has_page span page ≡ true
    → IfSome (area_at areas page) (λ area. may_become change area.attr ≡ true)
