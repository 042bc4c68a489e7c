-- For `munmap_changes_its_pages`: its goals.
use Rattle.area_rules.proofs.PageLaws.{unmapped_pages, unmapped_kept}
use Rattle.area_rules.proofs.page_laws.munmap_changes_its_pages.Goals as goal

pub returns-clause-pages : goal.returns-clause-pages
returns-clause-pages c = unmapped_pages

pub returns-clause-kept : goal.returns-clause-kept
returns-clause-kept c = unmapped_kept
