-- For `cut_unmaps_the_span`: its goals.
use Rattle.area_list.proofs.Cutting.{cut_canonical, page_map-cut}
use Rattle.area_list.proofs.laws.cut_unmaps_the_span.Goals as goal

pub returns-clause-canonical : goal.returns-clause-canonical
returns-clause-canonical c = cut_canonical

pub returns-clause-pages : goal.returns-clause-pages
returns-clause-pages c = λ end span areas page some canonical. page_map-cut span areas page some
