-- For `mprotect_changes_its_pages`: its goals.
use Rattle.area_rules.proofs.PageLaws.{protected_pages, protected_mapped, protected_stopped, protected_kept}
use Rattle.area_rules.proofs.page_laws.mprotect_changes_its_pages.Goals as goal

pub returns-clause-pages : goal.returns-clause-pages
returns-clause-pages c = protected_pages

pub returns-clause-mapped : goal.returns-clause-mapped
returns-clause-mapped c = protected_mapped

pub returns-clause-stopped : goal.returns-clause-stopped
returns-clause-stopped c = protected_stopped

pub returns-clause-kept : goal.returns-clause-kept
returns-clause-kept c = protected_kept
