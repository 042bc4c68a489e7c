-- The proof of `Walk::can_stand`: the three tests are all that it takes.
use Rattle.std.proofs.Common.{◌∙◌, sym, take, arith}
use Rattle.std.proofs.lemmas.Bool.{both_ways}
use Rattle.history.proofs.Walking.{walked_room, stands_from_next, next_from_stands}
use Rattle.history.proofs.checking.Walk.can_stand.Goals as goal
use Rattle.history.proofs.checking.Walk.can_stand.Goals.{then-can_stand, else-can_stand}

pub can_stand-requires : goal.can_stand-requires
can_stand-requires c = let room = (walked_room _ _ _ c.requires.walked).1 in omega arith

pub returns-then-is_made : goal.returns-then-is_made
returns-then-is_made c =
    let told = c.is_told.ensures _ (take c.args.place c.args.case.now.items.now) c.requires.walked.progress in (
      λ yes. elim c.if-can_stand.branch [
        | then-can_stand w ↦
            stands_from_next _ _ _ _ c.args.line c.requires.walked c.requires.next (c.can_stand.ensures.0 w.if-can_stand.true)
            (w.is_made.ensures.0 (sym w.value-is ∙ c.if-is_made.true)) (told.0 yes)
        | else-can_stand w ↦ absurd (both_ways _ w.if-can_stand.false (sym w.value-is ∙ c.if-is_made.true))
      ],
      λ stands. told.1 (next_from_stands _ _ _ _ c.args.line c.requires.walked c.requires.next stands).told,
    )

pub returns-else-is_made : goal.returns-else-is_made
returns-else-is_made c = (
  λ yes. absurd (both_ways _ c.if-is_made.false yes),
  λ stands.
      let all = next_from_stands _ _ _ _ c.args.line c.requires.walked c.requires.next stands in
      elim c.if-can_stand.branch [
        | then-can_stand w ↦ w.value-is ∙ w.is_made.ensures.1 all.made
        | else-can_stand w ↦ absurd (both_ways _ w.if-can_stand.false (c.can_stand.ensures.1 all.next))
      ],
)
