-- For `open`: the words of a new table keep the rule, and the writer knows its marks.
use Rattle.std.proofs.Common.{ℕ, List, length, ◌∙◌, ap}
use Rattle.std.proofs.lemmas.List.{length-set, length-replicate}
use Rattle.vma_lock.proofs.Starting.{opening_shows, opening_kept}
use Rattle.vma_lock.proofs.opening.open.Goals as goal

pub of_words-requires : goal.of_words-requires
of_words-requires c = opening_shows _ _ c.requires.words

pub invariant_of-writer-2 : goal.invariant_of-writer-2
invariant_of-writer-2 c =
    let table = c.in_ok-table.ensures in
    let marks = rw c.slots_for-slots.ensures at (c.in_ok-vec.ensures.items_if_clones_equal (λ y e. e)) in
    let arc = c.in_ok-try_clone.ensures ∙ c.in_ok-new.ensures.ok in
    record {
      kept = rw arc (opening_kept _ _ _ _ _ table.4 table.5 marks
          (ap (λ id. id.words) table.2 ∙ table.0 ∙ ap (λ (l : List ℕ). length l) c.requires.words
          ∙ length-set _ _ _ ∙ length-replicate {A = ℕ} _ 0));
      table_is = rw arc table.2;
    }
