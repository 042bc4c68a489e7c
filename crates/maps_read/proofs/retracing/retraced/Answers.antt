-- For `retraced`: its goals.
use Rattle.text_lexer.proofs.FirstLine.{error_handed_on}
use Rattle.maps_read.proofs.retracing.retraced.Goals as goal

pub returns-clause-first : goal.returns-clause-first
returns-clause-first c = λ first is one. error_handed_on c.read_maps.result c.retrace_read.result _ c.retrace_read.ensures.unread (c.read_maps.ensures.first first is one)
