-- What `span_part` puts together are the addresses of the span.
use Rattle.std.proofs.Common.{◌^◌, ◌<◌, ◌∙◌, arith, append_assoc}
use Rattle.mm_types.specs.MapsText.{span_text}
use Rattle.maps_print.proofs.Hex.{start_parts}
use Rattle.maps_print.proofs.line.span_part.Goals as goal

pub returns : goal.returns
unfolding span_text
returns c =
    let low : c.args.lo < 2 ^ 64 = omega arith in
    let high : c.args.hi < 2 ^ 64 = omega arith in
    let first = start_parts c.args.lo (omega arith) in
    let second = start_parts c.args.hi (omega arith) in
    rw (first, second) (c.add-2.ensures.items ∙ rw (c.add_padded-2.ensures.items, c.add.ensures.items, c.add_padded.ensures.items, c.new-part.ensures) (simp append_assoc))
