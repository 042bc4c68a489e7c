-- For `open_seat`: the words of a new table keep the rule, and the writer's seat knows them.
use Rattle.std.proofs.Common.{ℕ, ◌∙◌, ap, set, replicate, arith}
use Rattle.node_slots.specs.Places.{word_count}
use Rattle.node_slots.proofs.Starting.{opening_shows, opening_kept}
use Rattle.node_slots.proofs.opening.open_seat.Goals as goal

pub of_words-requires : goal.of_words-requires
of_words-requires c = opening_shows _ _ c.requires.size
    (c.take-first.ensures ∙ ap (λ n. set (replicate {A = ℕ} n 0) 0 c.set_first.new.self.first) c.word_count.ensures
    ∙ ap (set (replicate {A = ℕ} (word_count c.args.size) 0) 0) (ap (λ v. v.first) c.set_first.ensures ∙ c.pack_root.ensures))

pub invariant_of-seat-2 : goal.invariant_of-seat-2
invariant_of-seat-2 c =
    let table = c.in_ok-table.ensures in
    let arc = c.in_ok-try_clone.ensures ∙ c.in_ok-new.ensures.ok in
    let words = c.in_ok-with_capacity.ensures in
    record {
      kept = opening_kept _ _ _ _ c.requires.size table.4 words.items (c.in_ok-clearings.ensures.items_if_clones_equal (λ y e. e));
      filled = omega (arith, words.len);
      room = words.capacity;
      table_is = rw arc table.2;
    }
