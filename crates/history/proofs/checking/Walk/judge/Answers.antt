-- The proof of `Walk::judge`: what it calls may be called, and what follows of a good item and of a wrong one.
use Rattle.std.proofs.Common.{◌∙◌, refl, sym, slice_index_or, arith}
use Rattle.std.proofs.lemmas.Bool.{false≢true}
use Rattle.std.proofs.lemmas.Option.{slice_get-get_or}
use Rattle.history.specs.Internal.Walks.{answer_expected}
use Rattle.history.proofs.Walking.{walked_room, counts_room, walked_more, refused_wrong}
use Rattle.history.proofs.checking.Walk.judge.Goals as goal

pub run_line-expected-requires : goal.run_line-expected-requires
run_line-expected-requires c = record { room = (walked_room _ _ _ c.requires.walked).0 }

pub pass-requires-clause-caller : goal.pass-requires-clause-caller
pass-requires-clause-caller c =
    (counts_room _ _ _ (slice_index_or c.args.case.now.items.now c.args.place c.index-case-place.result) c.next_line-line.result c.requires.walked
    (c.next_line-line.ensures _ _ c.requires.walked.progress) (c.if-not-can_stand.ensures.0 refl)).0

pub pass-requires-clause-room : goal.pass-requires-clause-room
pass-requires-clause-room c =
    (counts_room _ _ _ (slice_index_or c.args.case.now.items.now c.args.place c.index-case-place.result) c.next_line-line.result c.requires.walked
    (c.next_line-line.ensures _ _ c.requires.walked.progress) (c.if-not-can_stand.ensures.0 refl)).1

pub pass-requires-clause-version : goal.pass-requires-clause-version
pass-requires-clause-version c = let room = (walked_room _ _ _ c.requires.walked).1 in omega arith

pub returns-clause-ok : goal.returns-clause-ok
returns-clause-ok c =
    walked_more _ _ _ _ (slice_index_or c.args.case.now.items.now c.args.place c.index-case-place.result) c.next_line-line.result _ c.requires.walked
    (slice_get-get_or c.args.case.now.items.now c.args.place _ c.requires.within)
    (c.next_line-line.ensures _ _ c.requires.walked.progress) (c.if-not-can_stand.ensures.0 refl)
    c.run_line-expected.ensures.answer
    (c.in_ok-is_answered.ensures.is.0 c.if-not-is_answered.false)
    c.run_line-expected.ensures.space c.run_line-expected.ensures.config c.run_line-expected.ensures.objects
    c.pass.ensures.answered c.pass.ensures.lines _ c.is_call.ensures c.pass.ensures.version c.pass.ensures.lowest

pub returns-then-not-is_answered-clause-refused : goal.returns-then-not-is_answered-clause-refused
returns-then-not-is_answered-clause-refused c =
    refused_wrong _ _ _ (slice_index_or c.args.case.now.items.now c.args.place c.index-case-place.result) c.next_line-line.result
    (answer_expected c.run_line-expected.new.space.space.areas c.run_line-expected.result) _ c.requires.walked
    (slice_get-get_or c.args.case.now.items.now c.args.place _ c.requires.within)
    (c.next_line-line.ensures _ _ c.requires.walked.progress) (c.if-not-can_stand.ensures.0 refl)
    c.run_line-expected.ensures.answer
    (λ same. false≢true (sym c.if-not-is_answered.true ∙ c.in_ok-is_answered.ensures.is.1 same))
    refl
    c.in_ok-answer.ensures.answer
    c.in_ok-of-2.ensures.answer
