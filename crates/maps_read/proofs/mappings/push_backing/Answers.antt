-- For `push_backing`: what it writes of each kind of area.
use Rattle.std.proofs.Common.{Some, ap, sym}
use Rattle.maps_read.proofs.MappingTexts.{anonymous_end, file_end}
use Rattle.maps_read.proofs.Texts.{wrote}
use Rattle.maps_read.proofs.mappings.push_backing.Goals as goal

pub returns-then-area-eq0 : goal.returns-then-area-eq0
returns-then-area-eq0 c = wrote c.writeln.result _ _ _ _ c.writeln.ensures.bytes (ap Some (sym (anonymous_end c.args.area.now c.if-area-eq0.true)))

pub returns-else-area-eq0 : goal.returns-else-area-eq0
returns-else-area-eq0 c = wrote c.writeln-else-area-eq0.result _ _ _ _ c.writeln-else-area-eq0.ensures.bytes
    (rw (c.in_radix.ensures) (ap Some (sym (file_end c.args.area.now c.if-area-eq0.false))))
