-- For `answered`: its goals.
use Rattle.std.proofs.Common.{◌≡◌, List, IfOk, Result, Ok, subst}
use Rattle.text_lexer.specs.declared.error.ReadError.{ReadError}
use Rattle.maps_read.specs.declared.maps.MapsLine.{MapsLine}
use Rattle.maps_read.specs.Maps.{maps_of}
use Rattle.maps_read.proofs.Answers.{found_within}
use Rattle.maps_read.proofs.answering.answered.Goals as goal

pub query_text-requires : goal.query_text-requires
query_text-requires c =
    let read : maps_of c.args.bytes.now ≡ Ok c.in_ok-maps.maps =
    subst (λ (r : Result (List MapsLine) ReadError). IfOk r (λ maps. maps_of c.args.bytes.now ≡ Ok maps)) c.in_ok-maps.was c.requires.maps in
    rw c.query-place.ensures.first (found_within c.args.address c.args.bytes.now c.in_ok-maps.maps read)
