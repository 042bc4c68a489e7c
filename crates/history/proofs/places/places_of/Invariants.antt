-- The proof of `places_of`: what its loop keeps.
use Rattle.history.specs.CallerPlaces.{callers_of}
use Rattle.history.proofs.Placing.{Placed}
use Rattle.history.proofs.places.places_of.Given as goal

abbrev pub invariant-loop-place : goal.invariant-loop-place
invariant-loop-place l = Placed l.lines l.place (callers_of l.lines) l.places.items
