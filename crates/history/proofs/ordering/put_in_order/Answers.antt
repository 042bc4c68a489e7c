-- For `put_in_order`: its goals.
use Rattle.std.proofs.Common.{◌≡◌, rules}
use Rattle.std.proofs.lemmas.List.Sorted.{answers_always}
use Rattle.mm_types.specs.Sorts.{sort_by}
use Rattle.mm_types.proofs.Sorting.{sort_by-from_stable}
use Rattle.history.specs.Runs.{place_key}
use Rattle.history.proofs.Orders.{sort_gathers, sort_in_order}
use Rattle.history.proofs.ordering.put_in_order.Goals as goal

sorted : (c : goal.In_ok-sort_by_key) → c.sort_by_key.new.self.items ≡ sort_by place_key c.args.items.now.items
sorted c = sort_by-from_stable place_key c.args.items.now.items c.sort_by_key.new.self.items
    (c.in_ok-sort_by_key.ensures.sorted place_key (answers_always _ _ _ (λ f a r next called. search rules)))
    (c.sort_by_key.ensures.stable place_key (answers_always _ _ _ (λ f a r next called. search rules)))

pub returns-clause-order : goal.returns-clause-order
returns-clause-order c = sort_gathers c.args.items.now.items c.sort_by_key.new.self.items c.requires (sorted c)

pub returns-clause-pairs : goal.returns-clause-pairs
returns-clause-pairs c = sort_in_order c.args.items.now.items c.sort_by_key.new.self.items c.requires (sorted c)
