-- The rows are sorted as the definition has it: `sorted_rows`.
use Rattle.std.proofs.Common.{rules, arith, ◌≡◌, ◌∙◌, ap, not, map}
use Rattle.std.specs.List.{filter}
use Rattle.std.proofs.lemmas.Grind.{common_steps}
use Rattle.std.proofs.lemmas.List.Sorted.{answers_always}
use Rattle.mm_types.specs.Sorts.{sort_by}
use Rattle.mm_types.proofs.Sorting.{sort_by-from_stable}
use Rattle.lock_core.specs.Rows.{is_detached}
use Rattle.lock_core.specs.Refusals.{first_page}
use Rattle.lock_core.proofs.rows.sorted_rows.Goals as goal

pub returns : goal.returns
returns c =
    let collected : c.loop-slot.rows.items ≡ filter (λ row. not (is_detached row)) (map (λ slot. slot.row) c.args.slots.now) = grind (arith, common_steps) in
    sort_by-from_stable first_page c.loop-slot.rows.items c.sort_by_key.new.self.items
    (c.in_ok-sort_by_key.ensures.sorted first_page (answers_always _ _ _ (λ f a r next called. search rules)))
    (c.sort_by_key.ensures.stable first_page (answers_always _ _ _ (λ f a r next called. search rules)))
    ∙ ap (sort_by first_page) collected
