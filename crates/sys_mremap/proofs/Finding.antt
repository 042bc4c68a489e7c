-- For `old_area`: the tests of mremap(2) on the old range, on the one area that has its first page.
use Rattle.std.proofs.Common.{◌≡◌, ℕ, true, List, [], ◌∷◌, Option, Some, None, ap, ◌∙◌, subst}
use Rattle.std.specs.Option.{option_map_or}
use Rattle.mm_types.specs.declared.area.Record.{Record}
use Rattle.mm_types.specs.declared.call.Errno.{Errno}
use Rattle.mm_types.specs.declared.call.Errno.TheVariants.{Efault}
use Rattle.mm_types.specs.declared.config.Config.{Config}
use Rattle.area_list.specs.Areas.{page_of, area_at}
use Rattle.std.specs.Option.{option_or}
use Rattle.mm_types.specs.Rows.{first_row}
use Rattle.area_rules.specs.declared.mremap_request.MremapArgs.{MremapArgs}
use Rattle.area_rules.specs.Mremap.{area_rows, range_rows, mremap_rows}

-- where the request is not refused whatever the list is, the tests are those of the area that has the old range's first page
pub rows_of_area : (config : Config) (areas : List Record) (args : MremapArgs) (refusal : Option Errno) (page : ℕ) (area : Record)
    → ((areas : List Record) → first_row (mremap_rows config areas args) ≡ option_or refusal (first_row (range_rows areas args)))
    → refusal ≡ None → area_at areas page ≡ Some area → page ≡ page_of args.old
    → first_row (mremap_rows config areas args) ≡ first_row (area_rows args area)
rows_of_area config areas args refusal page area asked none there first =
    asked areas ∙ ap (λ refused. option_or refused (first_row (range_rows areas args))) none
    ∙ ap (λ found. first_row (option_map_or (area_rows args) found ((true, Efault) ∷ []))) (subst (λ page. area_at areas page ≡ Some area) first there)
