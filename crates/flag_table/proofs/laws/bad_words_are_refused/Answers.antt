-- The law `bad_words_are_refused`.
use Rattle.flag_table.proofs.Refusals.{reading-Err}
use Rattle.flag_table.proofs.laws.bad_words_are_refused.Goals as goal

pub returns : goal.returns
returns c = reading-Err
