-- For `new_object_is_fresh`: its goals.
use Rattle.area_rules.proofs.Sharing.{shared_counter, shared_fresh, shared_pages}
use Rattle.area_rules.proofs.laws.new_object_is_fresh.Goals as goal

pub returns-clause-counter : goal.returns-clause-counter
returns-clause-counter c = shared_counter

pub returns-clause-fresh : goal.returns-clause-fresh
returns-clause-fresh c = shared_fresh

pub returns-clause-pages : goal.returns-clause-pages
returns-clause-pages c = shared_pages
