-- The proof of `forks_of`: they are sorted by their child, and those of a child keep their order.
use Rattle.std.proofs.Common.{◌∙◌, ap, rules}
use Rattle.std.proofs.lemmas.List.Sorted.{answers_always}
use Rattle.mm_types.specs.Sorts.{sort_by}
use Rattle.mm_types.proofs.Sorting.{sort_by-from_stable}
use Rattle.vma_replay.specs.declared.forks.Fork.{Fork}
use Rattle.vma_replay.proofs.forks.forks_of.Goals as goal

pub returns : goal.returns
returns c =
    sort_by-from_stable (λ (fork : Fork). fork.child) c.in_ok-forks.forks.items c.sort_by_key.new.self.items
    (c.in_ok-sort_by_key.ensures.sorted (λ (fork : Fork). fork.child) (answers_always _ _ _ (λ f a r next called. search rules)))
    (c.sort_by_key.ensures.stable (λ (fork : Fork). fork.child) (answers_always _ _ _ (λ f a r next called. search rules)))
    ∙ ap (sort_by (λ (fork : Fork). fork.child)) c.in_ok-forks.ensures
