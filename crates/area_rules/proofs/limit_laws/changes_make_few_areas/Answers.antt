-- For `changes_make_few_areas`: its goals.
use Rattle.area_rules.proofs.AreaLengths.{canonical_above, length-cut, length-put, length-changed_list}
use Rattle.area_rules.proofs.limit_laws.changes_make_few_areas.Goals as goal

pub returns-clause-cut : goal.returns-clause-cut
returns-clause-cut c = λ end span areas order canonical. length-cut span 0 areas order (canonical_above end areas canonical)

pub returns-clause-put : goal.returns-clause-put
returns-clause-put c = λ end area areas order canonical. length-put area 0 areas order (canonical_above end areas canonical)

pub returns-clause-changed : goal.returns-clause-changed
returns-clause-changed c = λ end change span areas order canonical.
    length-changed_list change span 0 areas order (canonical_above end areas canonical)
