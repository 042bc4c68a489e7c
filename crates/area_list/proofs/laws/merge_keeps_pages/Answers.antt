-- For `merge_keeps_pages`: its goals.
use Rattle.std.proofs.lemmas.List.Elements.{recursion_from_All}
use Rattle.mm_types.specs.Records.{IsValid}
use Rattle.area_list.proofs.Order.{good_from_All}
use Rattle.area_list.proofs.Merging.{merge_canonical, page_map-merge}
use Rattle.area_list.proofs.laws.merge_keeps_pages.Goals as goal

pub returns-clause-canonical : goal.returns-clause-canonical
returns-clause-canonical c =
    λ end areas valid below order. merge_canonical end areas (good_from_All end areas valid below) order

pub returns-clause-pages : goal.returns-clause-pages
returns-clause-pages c =
    λ areas page valid order. page_map-merge areas page (recursion_from_All IsValid areas valid)
