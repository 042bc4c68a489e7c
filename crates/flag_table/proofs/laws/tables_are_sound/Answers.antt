-- The law `tables_are_sound`.
use Rattle.flag_table.proofs.Sound.{prot_is_sound, map_is_sound, mremap_is_sound}
use Rattle.flag_table.proofs.laws.tables_are_sound.Goals as goal

pub returns-clause-prot : goal.returns-clause-prot
returns-clause-prot c = prot_is_sound

pub returns-clause-map : goal.returns-clause-map
returns-clause-map c = map_is_sound

pub returns-clause-mremap : goal.returns-clause-mremap
returns-clause-mremap c = mremap_is_sound
