-- mseal(2), row by row.
use Rattle.std.specs.Prelude.{ℕ, ◌+◌, ◌*◌, Bool, not, ◌&&◌, nat_eq, nat_le, List, [], ◌∷◌, ◌++◌, is_some, is_none}
use Rattle.mm_types.specs.declared.area.Record.{Record}
use Rattle.mm_types.specs.declared.area.Span.{Span}
use Rattle.mm_types.specs.declared.call.Errno.TheVariants.{Enomem, Einval}
use Rattle.mm_types.specs.declared.call.Reply.{Reply}
use Rattle.mm_types.specs.declared.call.Reply.TheVariants.{Zero, Refused}
use Rattle.mm_types.specs.declared.config.Config.{Config}
use Rattle.mm_types.specs.declared.config.TheConstants.{PAGE_SIZE, ADDRESSES_END}
use Rattle.mm_types.specs.Rows.{first_row}
use Rattle.area_list.specs.Areas.{area_at}
use Rattle.area_list.specs.Changes.{sealed_list}
use Rattle.area_rules.specs.Placement.{least_below}
use Rattle.area_rules.specs.Tables.{AddressSpace, Outcome, unless_answered, is_aligned, pages_of, has_too_many_areas}
use Rattle.area_rules.specs.Munmap.{range_of}

-- whether a page of the span is not mapped
unfoldable pub has_hole : Span → List Record → Bool
has_hole span areas = is_some (least_below (λ page. nat_le span.lo page && is_none (area_at areas page)) span.hi)

-- the tests of the request alone, in their order: a flag, not aligned, past 2^64, empty length
unfoldable pub seal_request_rows : ℕ → ℕ → ℕ → List (Bool × Reply)
seal_request_rows addr len flags =
    (not (nat_eq flags 0), Refused Einval)
    ∷ (not (is_aligned addr), Refused Einval)
    ∷ (nat_le ADDRESSES_END (addr + PAGE_SIZE * pages_of len), Refused Einval)
    ∷ (nat_eq len 0, Zero)
    ∷ []

-- all tests that change nothing: those of the request, a page that is not mapped, too many areas
unfoldable pub mseal_rows : Config → List Record → ℕ → ℕ → ℕ → List (Bool × Reply)
mseal_rows config areas addr len flags = seal_request_rows addr len flags
    ++ (has_hole (range_of addr len) areas, Refused Enomem)
    ∷ (has_too_many_areas config (sealed_list (range_of addr len) areas), Refused Enomem)
    ∷ []

-- mseal(2): the first test that holds answers and changes nothing; else all pages of the range are sealed
unfoldable pub mseal : Config → AddressSpace → ℕ → ℕ → ℕ → Outcome
mseal config space addr len flags = unless_answered space (first_row (mseal_rows config space.areas addr len flags))
    (record { space = record space { areas = sealed_list (range_of addr len) space.areas }; reply = Zero })
