-- For `change`: its goals.
use Rattle.std.proofs.Common.{sym}
use Rattle.mm_types.specs.declared.area.Record.{Record}
use Rattle.area_list.specs.Areas.{has_page}
use Rattle.area_list.proofs.SmallNumbers.{valid_found}
use Rattle.area_model.proofs.mremap_table.change.Goals as goal

pub mremap_change-requires-clause-of_list : goal.mremap_change-requires-clause-of_list
mremap_change-requires-clause-of_list c = valid_found (λ (area : Record). has_page area.span c.page_of.result) c.args.areas.now c.in-Some.area.now
    c.requires.valid (sym c.in-Some.ensures)
