-- For `move_carries_the_pages`: its goals.
use Rattle.area_rules.proofs.Moving.{mremap_moves, move_canonical, move_beside, move_left, move_reached, move_carried, move_others}
use Rattle.area_rules.proofs.laws.move_carries_the_pages.Goals as goal

pub returns-clause-canonical : goal.returns-clause-canonical
returns-clause-canonical c = move_canonical

pub returns-clause-made : goal.returns-clause-made
returns-clause-made c = mremap_moves

pub returns-clause-beside : goal.returns-clause-beside
returns-clause-beside c = move_beside

pub returns-clause-left : goal.returns-clause-left
returns-clause-left c = λ config areas area args start page move. move_left config areas area args start move page

pub returns-clause-reached : goal.returns-clause-reached
returns-clause-reached c =
    λ config areas area args start page move. move_reached config areas area args start move page

pub returns-clause-carried : goal.returns-clause-carried
returns-clause-carried c =
    λ config areas area args start count move. move_carried config areas area args start move count

pub returns-clause-others : goal.returns-clause-others
returns-clause-others c =
    λ config areas area args start page move. move_others config areas area args start move page
