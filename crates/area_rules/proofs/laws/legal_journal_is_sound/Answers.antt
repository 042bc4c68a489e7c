-- For `legal_journal_is_sound`: its goals.
use Rattle.area_rules.proofs.Journals.{after_ready, after_take_ready, after_files}
use Rattle.area_rules.proofs.laws.legal_journal_is_sound.Goals as goal

pub returns-clause-ready : goal.returns-clause-ready
returns-clause-ready c = after_ready

pub returns-clause-prefixes : goal.returns-clause-prefixes
returns-clause-prefixes c = after_take_ready

pub returns-clause-files : goal.returns-clause-files
returns-clause-files c = after_files
