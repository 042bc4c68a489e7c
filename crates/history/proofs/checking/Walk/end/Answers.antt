-- The proof of `Walk::end`: what follows where no line is left, and where one is.
use Rattle.std.proofs.Common.{refl}
use Rattle.history.specs.Internal.Walks.{answer_expected}
use Rattle.history.proofs.Walking.{walked_room, ends_legal, ends_early}
use Rattle.history.proofs.checking.Walk.end.Goals as goal

pub returns-in_default-clause-legal : goal.returns-in_default-clause-legal
returns-in_default-clause-legal c = ends_legal _ _ c.requires (c.in_default.ensures c.args.case.now.lines.now _ c.requires.progress)

pub run_line-expected-requires : goal.run_line-expected-requires
run_line-expected-requires c = record { room = (walked_room _ _ _ c.requires).0 }

pub returns-clause-refused : goal.returns-clause-refused
returns-clause-refused c =
    ends_early _ _ c.in-Some.caller c.next_line-line.result (answer_expected c.run_line-expected.new.space.space.areas c.run_line-expected.result) _ c.requires
    (c.in-Some.ensures c.args.case.now.lines.now _ c.requires.progress)
    (c.next_line-line.ensures _ _ c.requires.progress)
    c.run_line-expected.ensures.answer refl
    c.in_ok-answer.ensures.answer refl
