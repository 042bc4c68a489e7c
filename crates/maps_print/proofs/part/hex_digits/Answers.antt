-- `hex_digits` writes the digits from the last to the first.
use Rattle.std.proofs.Common.{refl}
use Rattle.maps_print.proofs.Digits.{first_written, next_written, all_written}
use Rattle.maps_print.proofs.part.hex_digits.Goals as goal

pub loop-rest-init : goal.loop-rest-init
loop-rest-init c = first_written c.args.number c.glyph.result _ c.ranges.number.fits refl c.glyph.ensures

pub loop-rest-preserved : goal.loop-rest-preserved
loop-rest-preserved c =
    next_written c.args.number c.loop-rest.first c.loop-rest.rest c.glyph-in-loop-rest.result c.loop-rest.text c.loop-rest.invariant c.loop-rest-test.true c.glyph-in-loop-rest.ensures

pub returns-clause-digits : goal.returns-clause-digits
returns-clause-digits c = all_written c.args.number c.loop-rest.first c.loop-rest.rest c.loop-rest.text c.loop-rest.invariant c.loop-rest-test.false
