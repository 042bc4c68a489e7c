-- For `find`: what was found without the lock or under it was found for the fault.
use Rattle.mm_space.proofs.Ways.{fast_answers, found_after, missed_first}
use Rattle.mm_space.proofs.space.Space.find.Goals as goal

pub returns-in-Answer-clause-found : goal.returns-in-Answer-clause-found
returns-in-Answer-clause-found g c = fast_answers _ _ _ _ _ _ c.in-Answer.ensures.same c.in-Answer.ensures.own c.in-Answer.ensures.fast

pub returns-in-Miss-clause-found : goal.returns-in-Miss-clause-found
returns-in-Miss-clause-found g c = found_after _ _ _ _ _ _ c.in-Miss.ensures.same c.in-Miss.ensures.own c.in-Miss.ensures.later c.find_locked.ensures.found

pub returns-in-Miss-clause-way : goal.returns-in-Miss-clause-way
returns-in-Miss-clause-way g c = missed_first _ _ _ _ _ _ _ _ _ c.in-Miss.ensures.fast c.find_locked.ensures.later c.find_locked.ensures.look
    c.find_locked.ensures.nodes c.find_locked.ensures.path
