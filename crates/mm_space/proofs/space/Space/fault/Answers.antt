-- For `fault`: what was answered goes into the log, and the way is the one that it was found on.
use Rattle.std.proofs.Common.{ap, arith, inr}
use Rattle.fault_path.specs.Passes.{PassView}
use Rattle.mm_space.proofs.Ways.{answered_done, answered_right, way_noted}
use Rattle.mm_space.proofs.space.Space.fault.Goals as goal

pub note-requires-clause-left : goal.note-requires-clause-left
note-requires-clause-left g c = let left = ap (λ (p : PassView). p.left) c.in-Answered.ensures.found.same in omega (arith, left, c.requires.left)

pub note-requires-clause-right : goal.note-requires-clause-right
note-requires-clause-right g c = answered_right _ _ _ _ _ c.in-Answered.ensures.found

pub note-requires-clause-version : goal.note-requires-clause-version
note-requires-clause-version g c = c.in-Answered.ensures.found.version

pub returns-in-Answered-clause-done : goal.returns-in-Answered-clause-done
returns-in-Answered-clause-done g c = answered_done _ _ _ _ _ _ c.in-Answered.ensures.found c.requires.left c.note.ensures

pub returns-in-Answered-clause-way : goal.returns-in-Answered-clause-way
returns-in-Answered-clause-way g c = way_noted _ _ _ _ _ _ _ _ _ _ c.note.ensures c.in-Answered.ensures.way

pub returns-in-Entered-clause-done : goal.returns-in-Entered-clause-done
returns-in-Entered-clause-done g c = inr c.in-Entered.ensures.found
