-- For the law `new_trees_are_blank`.
use Rattle.maple_write.proofs.Blanks.{blank_new}
use Rattle.maple_write.proofs.laws.new_trees_are_blank.Goals as goal

pub returns : goal.returns
returns c = blank_new
