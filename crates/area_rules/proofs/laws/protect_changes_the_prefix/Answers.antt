-- For `protect_changes_the_prefix`: its goals.
use Rattle.area_rules.proofs.ProtectLaws.{the_stop, prefix_canonical, page_map-prefix, prefix_unique}
use Rattle.area_rules.proofs.laws.protect_changes_the_prefix.Goals as goal

pub returns-clause-stop : goal.returns-clause-stop
returns-clause-stop c = the_stop

pub returns-clause-prefix_canonical : goal.returns-clause-prefix_canonical
returns-clause-prefix_canonical c = prefix_canonical

pub returns-clause-prefix_pages : goal.returns-clause-prefix_pages
returns-clause-prefix_pages c = page_map-prefix

pub returns-clause-only : goal.returns-clause-only
returns-clause-only c = prefix_unique
