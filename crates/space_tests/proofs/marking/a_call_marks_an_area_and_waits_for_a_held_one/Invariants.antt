-- For `a_call_marks_an_area_and_waits_for_a_held_one`: the space has the name of what it is opened with.
use Rattle.space_tests.proofs.marking.a_call_marks_an_area_and_waits_for_a_held_one.Given as goal

abbrev pub ghosts-hold_the_first : goal.ghosts-hold_the_first
ghosts-hold_the_first g a = record { name = a.ready }
