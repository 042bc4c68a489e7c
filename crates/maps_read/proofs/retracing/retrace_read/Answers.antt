-- For `retrace_read`: its goals.
use Rattle.std.proofs.Common.{◌≡◌, List, IfOk, Result, Ok, subst}
use Rattle.text_lexer.specs.declared.error.ReadError.{ReadError}
use Rattle.maps_read.specs.declared.maps.MapsLine.{MapsLine}
use Rattle.maps_read.specs.Maps.{maps_of}
use Rattle.maps_read.proofs.retracing.retrace_read.Goals as goal

pub retrace-requires : goal.retrace-requires
retrace-requires c =
    subst (λ (r : Result (List MapsLine) ReadError). IfOk r (λ maps. maps_of c.args.bytes.now ≡ Ok maps)) c.in_ok-maps.was c.requires.maps
