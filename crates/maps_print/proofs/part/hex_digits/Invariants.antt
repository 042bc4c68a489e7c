-- The loop of `hex_digits`: the digits behind a place are written.
use Rattle.maps_print.proofs.Digits.{IsWriting}
use Rattle.maps_print.proofs.part.hex_digits.Given as goal

abbrev pub invariant-loop-rest : goal.invariant-loop-rest
invariant-loop-rest l = IsWriting l.number l.first l.rest l.text

abbrev pub decreases-loop-rest : goal.decreases-loop-rest
decreases-loop-rest l = l.rest
