-- For `calls_change_only_their_pages`: its goals.
use Rattle.area_rules.proofs.PagesAbout.{keeps_others, keeps_all}
use Rattle.area_rules.proofs.page_laws.calls_change_only_their_pages.Goals as goal

pub returns-clause-others : goal.returns-clause-others
returns-clause-others c = keeps_others

pub returns-clause-refused : goal.returns-clause-refused
returns-clause-refused c = keeps_all
