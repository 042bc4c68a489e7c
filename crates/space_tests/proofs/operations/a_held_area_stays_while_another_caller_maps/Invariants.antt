-- For `a_held_area_stays_while_another_caller_maps`: the space has the name of what it is opened with.
use Rattle.space_tests.proofs.operations.a_held_area_stays_while_another_caller_maps.Given as goal

abbrev pub ghosts-hold_one : goal.ghosts-hold_one
ghosts-hold_one g a = record { name = a.ready }
