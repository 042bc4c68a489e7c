-- For `new_attributes_change_the_span`: its goals.
use Rattle.area_list.proofs.Changed.{changed_canonical, page_map-changed}
use Rattle.area_list.proofs.laws.new_attributes_change_the_span.Goals as goal

pub returns-clause-canonical : goal.returns-clause-canonical
returns-clause-canonical c = changed_canonical

pub returns-clause-pages : goal.returns-clause-pages
returns-clause-pages c = page_map-changed
