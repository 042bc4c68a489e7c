-- For `old_area`: the tests of the request, and those of the area that has the old range's first page.
use Rattle.std.proofs.Common.{ap, sym, ◌∙◌}
use Rattle.area_list.specs.Areas.{has_page, area_at}
use Rattle.area_list.proofs.SmallNumbers.{small_found}
use Rattle.sys_mremap.proofs.Finding.{rows_of_area}
use Rattle.sys_mremap.proofs.refusal.old_area.Goals as goal

pub area_refusal-requires : goal.area_refusal-requires
area_refusal-requires g c =
    small_found (λ area. has_page area.span c.page_of.result) (g.A.Areas.list c.args.areas.now) c.in-Some-area_at.area c.requires.valid
    (sym c.area_at.ensures ∙ c.in-Some-area_at.is)

pub returns-in-Some-area_refusal : goal.returns-in-Some-area_refusal
returns-in-Some-area_refusal g c =
    rows_of_area c.args.config.now (g.A.Areas.list c.args.areas.now) c.args.args.now c.mremap_refusal.result c.page_of.result c.in-Some-area_at.area
    c.mremap_refusal.ensures.refusal c.in_default.is (sym c.area_at.ensures ∙ c.in-Some-area_at.is) c.page_of.ensures
    ∙ sym c.in-Some-area_refusal.ensures

pub returns-in-None : goal.returns-in-None
returns-in-None g c = record {
  found = ap (λ page. area_at (g.A.Areas.list c.args.areas.now) page) (sym c.page_of.ensures) ∙ sym c.area_at.ensures ∙ c.in-Some-area_at.is;
  accepted = rows_of_area c.args.config.now (g.A.Areas.list c.args.areas.now) c.args.args.now c.mremap_refusal.result c.page_of.result c.in-Some-area_at.area
      c.mremap_refusal.ensures.refusal c.in_default.is (sym c.area_at.ensures ∙ c.in-Some-area_at.is) c.page_of.ensures
      ∙ sym c.in-None.ensures;
}
