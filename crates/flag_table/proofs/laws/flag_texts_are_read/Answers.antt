-- The law `flag_texts_are_read`.
use Rattle.flag_table.proofs.Texts.{reading-Ok}
use Rattle.flag_table.proofs.laws.flag_texts_are_read.Goals as goal

pub returns : goal.returns
returns c = reading-Ok
