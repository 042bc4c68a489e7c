-- munmap(2), row by row.
use Rattle.std.specs.Prelude.{ℕ, ◌+◌, ◌*◌, Bool, not, nat_lt, nat_eq, List, [], ◌∷◌, ◌++◌}
use Rattle.mm_types.specs.declared.area.Span.{Span}
use Rattle.mm_types.specs.declared.area.Record.{Record}
use Rattle.mm_types.specs.declared.call.Errno.{Errno}
use Rattle.mm_types.specs.declared.call.Errno.TheVariants.{Eperm, Enomem, Einval}
use Rattle.mm_types.specs.declared.call.Reply.TheVariants.{Zero}
use Rattle.mm_types.specs.declared.config.Config.{Config}
use Rattle.mm_types.specs.declared.config.TheConstants.{PAGE_SIZE}
use Rattle.area_list.specs.Areas.{page_of}
use Rattle.area_list.specs.Changes.{cut}
use Rattle.area_rules.specs.Tables.{AddressSpace, Outcome, unless_refused, is_aligned, pages_of, has_too_many_areas}
use Rattle.area_rules.specs.Seals.{has_sealed}
use Rattle.mm_types.specs.Rows.{first_row}

-- the pages from an address on that a length takes
unfoldable pub range_of : ℕ → ℕ → Span
range_of addr len = record { lo = page_of addr; hi = page_of addr + pages_of len }

-- the tests but the last, in their order: not aligned, empty length, past the limit, too many areas
unfoldable pub munmap_rows : Config → List Record → ℕ → ℕ → List (Bool × Errno)
munmap_rows config areas addr len =
    (not (is_aligned addr), Einval)
    ∷ (nat_eq len 0, Einval)
    ∷ (nat_lt config.limit (addr + PAGE_SIZE * pages_of len), Einval)
    ∷ (has_too_many_areas config (cut (range_of addr len) areas), Enomem)
    ∷ []

-- the last test: a page of the range is sealed
abbrev pub munmap_seal_rows : List Record → ℕ → ℕ → List (Bool × Errno)
munmap_seal_rows areas addr len = (has_sealed (range_of addr len) areas, Eperm) ∷ []

-- the range is cut out
abbrev pub munmap_done : AddressSpace → ℕ → ℕ → Outcome
munmap_done space addr len = record { space = record space { areas = cut (range_of addr len) space.areas }; reply = Zero }

-- munmap(2): the first test that holds refuses, and else the range is cut out
unfoldable pub munmap : Config → AddressSpace → ℕ → ℕ → Outcome
munmap config space addr len = unless_refused space
    (first_row (munmap_rows config space.areas addr len ++ munmap_seal_rows space.areas addr len)) (munmap_done space addr len)

-- munmap(2) without the test of seals, as it is planned
unfoldable pub munmap_unsealed : Config → AddressSpace → ℕ → ℕ → Outcome
munmap_unsealed config space addr len =
    unless_refused space (first_row (munmap_rows config space.areas addr len)) (munmap_done space addr len)
