-- For `each_operation_is_taken`: the space has the name of what it is opened with.
use Rattle.space_tests.proofs.operations.each_operation_is_taken.Given as goal

abbrev pub ghosts-use_all : goal.ghosts-use_all
ghosts-use_all g a = record { name = a.ready }
