-- For `mremap_changes_its_pages`: its goals.
use Rattle.area_rules.specs.Mremap.{mremap_args}
use Rattle.area_rules.proofs.PageLaws.{remapped_carried, remapped_added, remapped_left, remapped_others, remapped_beside, remapped_first, remapped_kept}
use Rattle.area_rules.proofs.page_laws.mremap_changes_its_pages.Goals as goal

pub returns-clause-carried : goal.returns-clause-carried
returns-clause-carried c = λ config space old old_len new_len flags new. remapped_carried config space (mremap_args old old_len new_len flags new)

pub returns-clause-added : goal.returns-clause-added
returns-clause-added c = λ config space old old_len new_len flags new. remapped_added config space (mremap_args old old_len new_len flags new)

pub returns-clause-left : goal.returns-clause-left
returns-clause-left c = λ config space old old_len new_len flags new. remapped_left config space (mremap_args old old_len new_len flags new)

pub returns-clause-others : goal.returns-clause-others
returns-clause-others c = λ config space old old_len new_len flags new. remapped_others config space (mremap_args old old_len new_len flags new)

pub returns-clause-beside : goal.returns-clause-beside
returns-clause-beside c = λ config space old old_len new_len flags new. remapped_beside config space (mremap_args old old_len new_len flags new)

pub returns-clause-mapped : goal.returns-clause-mapped
returns-clause-mapped c = λ config space old old_len new_len flags new. remapped_first config space (mremap_args old old_len new_len flags new)

pub returns-clause-kept : goal.returns-clause-kept
returns-clause-kept c = λ config space old old_len new_len flags new. remapped_kept config space (mremap_args old old_len new_len flags new)
