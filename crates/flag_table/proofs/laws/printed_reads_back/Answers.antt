-- The law `printed_reads_back`.
use Rattle.flag_table.proofs.Texts.{reading-printed}
use Rattle.flag_table.proofs.laws.printed_reads_back.Goals as goal

pub returns : goal.returns
returns c = reading-printed
