-- For `mmap_changes_its_pages`: its goals.
use Rattle.area_rules.proofs.PageLaws.{mapped_pages, mapped_kept}
use Rattle.area_rules.proofs.page_laws.mmap_changes_its_pages.Goals as goal

pub returns-clause-pages : goal.returns-clause-pages
returns-clause-pages c = mapped_pages

pub returns-clause-kept : goal.returns-clause-kept
returns-clause-kept c = mapped_kept
