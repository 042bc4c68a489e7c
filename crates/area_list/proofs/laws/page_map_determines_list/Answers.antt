-- For `page_map_determines_list`: its goals.
use Rattle.area_list.proofs.Uniqueness.{canonical_unique}
use Rattle.area_list.proofs.laws.page_map_determines_list.Goals as goal

pub returns : goal.returns
returns c = canonical_unique
