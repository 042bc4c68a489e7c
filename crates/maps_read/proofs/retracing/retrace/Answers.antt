-- For `retrace`: its goals.
use Rattle.std.proofs.Common.{◌∙◌, Ok, sym, ap}
use Rattle.maps_read.proofs.Answered.{text_made, error_made}
use Rattle.maps_read.proofs.retracing.retrace.Goals as goal

pub returns-clause-text : goal.returns-clause-text
returns-clause-text c = text_made c.args.bytes.now c.items.result.now c.take_lines.result c.text_taken.result
    (c.requires ∙ ap Ok (sym c.items.ensures.lines)) c.take_lines.ensures.taken c.text_taken.ensures.text

pub returns-clause-bad : goal.returns-clause-bad
returns-clause-bad c = error_made c.args.bytes.now c.items.result.now c.take_lines.result c.text_taken.result
    (c.requires ∙ ap Ok (sym c.items.ensures.lines)) c.take_lines.ensures.bad c.text_taken.ensures.untaken c.text_taken.ensures.memory
