-- For `verdict` of faults.rt: the area that was found has the page, and is valid.
use Rattle.std.proofs.Common.{sym, ◌∙◌}
use Rattle.mm_types.specs.declared.area.Record.{Record}
use Rattle.area_list.specs.Areas.{has_page}
use Rattle.area_list.proofs.Finding.{find_passes}
use Rattle.area_list.proofs.SmallNumbers.{valid_found}
use Rattle.sys_map.proofs.faults.verdict.Goals as goal

pub area_verdict-requires-clause-valid : goal.area_verdict-requires-clause-valid
area_verdict-requires-clause-valid g c = valid_found (λ (area : Record). has_page area.span c.args.page.0) (g.A.Areas.list c.args.areas.now) c.in-Some.area
    c.requires.canonical.valid (sym c.area_at.ensures ∙ c.in-Some.is)

pub area_verdict-requires-clause-has : goal.area_verdict-requires-clause-has
area_verdict-requires-clause-has g c = find_passes (λ (area : Record). has_page area.span c.args.page.0) (g.A.Areas.list c.args.areas.now) c.in-Some.area
    (sym c.area_at.ensures ∙ c.in-Some.is)
