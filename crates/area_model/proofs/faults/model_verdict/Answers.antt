-- For `model_verdict`: its goals.
use Rattle.std.proofs.Common.{sym}
use Rattle.mm_types.specs.declared.area.Record.{Record}
use Rattle.mm_types.specs.Records.{IsValid}
use Rattle.area_list.specs.Areas.{has_page}
use Rattle.area_list.proofs.Finding.{find_keeps, find_passes}
use Rattle.area_model.proofs.faults.model_verdict.Goals as goal

pub area_verdict-requires-clause-valid : goal.area_verdict-requires-clause-valid
area_verdict-requires-clause-valid c = find_keeps IsValid (λ (area : Record). has_page area.span c.args.page.0) c.items-areas.result.now c.in-Some.area.now
    (rw c.items-areas.ensures c.requires.valid) (sym c.in-Some.ensures)

pub area_verdict-requires-clause-has : goal.area_verdict-requires-clause-has
area_verdict-requires-clause-has c = find_passes (λ (area : Record). has_page area.span c.args.page.0) c.items-areas.result.now c.in-Some.area.now (sym c.in-Some.ensures)
