-- For `push_area`: its goals.
use Rattle.std.proofs.Common.{◌≡◌, ◌∙◌, false, List, sym, ap}
use Rattle.mm_types.specs.declared.area.Record.{Record}
use Rattle.maps_read.specs.Retracing.{may_map}
use Rattle.maps_read.proofs.TakenMemory.{not_mapped}
use Rattle.maps_read.proofs.taking.push_area.Goals as goal

pub returns-then-not-may_map-clause-area : goal.returns-then-not-may_map-clause-area
returns-then-not-may_map-clause-area c =
    let never : may_map c.args.areas.now.items c.args.object c.args.line.now ≡ false =
    ap (λ (areas : List Record). may_map areas c.args.object c.args.line.now) (sym c.deref.ensures.value) ∙ sym c.if-not-may_map.ensures in
    not_mapped c.args.areas.now.items c.args.files.now c.args.object c.args.line.now c.args.text.now never
