-- Pages as numbers.
use Rattle.std.specs.Prelude.{ℕ, Option, option_map}
use Rattle.mm_types.specs.declared.area.Page.{Page}

-- the number of a page, if there is one
abbrev pub page_number : Option Page → Option ℕ
page_number page = option_map (λ p. p.0) page
