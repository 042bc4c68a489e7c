-- For `of_words`: one more reader was made.
use Rattle.std.proofs.Common.{ℕ, zero, suc, ◌≡◌, ◌∙◌, List, [], ◌∷◌, ◌++◌, length, slice_get, Some, sym, ap, subst, rules}
use Rattle.std.proofs.lemmas.Option.{same_Some, none-some}
use Rattle.vma_lock.specs.declared.seats.ReaderSeat.{ReaderSeat as Reader}
use Rattle.vma_lock.specs.Views.{opened_lock_view, new_lock_reader}
use Rattle.vma_lock.specs.Seats.{IsOfVmaTable, lock_view}
use Rattle.vma_lock.proofs.seats.VmaTable.of_words.Goals as goal

-- what is so of each element and of one that is pushed is so of each element then
pushed_each : {A : Type 0} (P : ℕ → A → Type 0) (xs : List A) (y : A) → ((i : ℕ) (x : A) → slice_get xs i ≡ Some x → P i x)
    → P (length xs) y → (i : ℕ) (x : A) → slice_get (xs ++ y ∷ []) i ≡ Some x → P i x
pushed_each P [] y each last zero x is = subst (P 0) (same_Some y x is) last
pushed_each P [] y each last (suc i) x is = absurd (none-some x is)
pushed_each P (first ∷ xs) y each last zero x is = each 0 x is
pushed_each P (first ∷ xs) y each last (suc i) x is =
    pushed_each (λ n. P (suc n)) xs y (λ j other h. each (suc j) other h) last i x is

pub loop-caller-preserved : goal.loop-caller-preserved
loop-caller-preserved c =
    let before = c.loop-caller.invariant in
    record {
      table = search rules;
      writer = search rules;
      count = search rules;
      fresh = λ caller seat found.
          pushed_each (λ place (one : Reader). IsOfVmaTable one c.in_ok-table.table × (lock_view one ≡ new_lock_reader (opened_lock_view c.args.config.now place)))
          c.loop-caller.seats.items c.new_reader.result before.fresh
          (rw before.count (c.new_reader.ensures.table.1, c.new_reader.ensures.view ∙ ap new_lock_reader before.writer))
          caller seat (sym (ap (λ (l : List Reader). slice_get l caller) c.in_ok-push.ensures.items) ∙ found);
    }
