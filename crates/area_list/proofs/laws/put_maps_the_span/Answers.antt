-- For `put_maps_the_span`: its goals.
use Rattle.area_list.proofs.Order.{good_from_canonical}
use Rattle.area_list.proofs.Putting.{put_canonical, page_map-put}
use Rattle.area_list.proofs.laws.put_maps_the_span.Goals as goal

pub returns-clause-canonical : goal.returns-clause-canonical
returns-clause-canonical c =
    λ end area areas valid below canonical. put_canonical end area areas
    (record { valid = valid; below_end = below }) canonical

pub returns-clause-pages : goal.returns-clause-pages
returns-clause-pages c = λ end area areas page valid below canonical.
    page_map-put end area areas page (record { valid = valid; below_end = below })
    (good_from_canonical end areas canonical)
