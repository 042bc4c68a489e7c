-- For `AreaStore::change_all` and `write_slot`: a slot is marked and its row is written.
use Rattle.std.proofs.Common.{◌≡◌, ◌<◌, ℕ, suc, zero, List, ◌∷◌, ◌++◌, [], length, set, refl, ap, ◌∙◌}
use Rattle.std.proofs.lemmas.List.{get_or-set_same}
use Rattle.std.specs.List.Sorted.{IsPermutation}
use Rattle.std.proofs.lemmas.List.Sorted.{IsPermutation-append_left, IsPermutation-sym}
use Rattle.lock_core.specs.declared.stage.SlotState.{SlotState}
use Rattle.lock_core.specs.Core.{slot_at, free_slot}
use Rattle.vma_lock.specs.declared.view.View.{View}
use Rattle.vma_lock.specs.Views.{write_at}
use Rattle.area_slots.specs.Slots.{SlotSet}
use Rattle.area_tree.specs.declared.shown.ShownArea.{ShownArea}
use Rattle.mm_state.specs.Shelves.{Hangs}
use Rattle.mm_state.specs.Internal.AreaStores.{IsWritten}
use Rattle.mm_state.proofs.Hanging.{hangs_permuted}

set_again : (states : List SlotState) (slot : ℕ) (a b : SlotState) → set (set states slot a) slot b ≡ set states slot b
set_again [] slot a b = refl
set_again (first ∷ states) zero a b = refl
set_again (first ∷ states) (suc slot) a b = ap (λ rest. first ∷ rest) (set_again states slot a b)

-- a mark and four stores write a slot
pub written : (old marked new : View) (slot : ℕ) (row : List ℕ) → slot < length old.writer_state.slots
    → IsWritten old slot (slot_at old.writer_state.slots slot).row marked → new ≡ write_at marked slot row → IsWritten old slot row new
written old marked new slot row within mark is = record {
  beside = record {
    config = ap (λ (v : View). v.config) is ∙ mark.beside.config;
    seen = ap (λ (v : View). v.seen) is ∙ mark.beside.seen;
    turn = ap (λ (v : View). v.turn) is ∙ mark.beside.turn;
    seq = ap (λ (v : View). v.writer_state.seq) is ∙ mark.beside.seq;
  };
  slots = ap (λ (v : View). v.writer_state.slots) is ∙ ap (λ (states : List SlotState). set states slot (record (slot_at states slot) { row = row })) mark.slots
      ∙ ap (set (set old.writer_state.slots slot first) slot) (ap (λ (s : SlotState). record s { row = row }) (get_or-set_same old.writer_state.slots slot first free_slot within))
      ∙ set_again old.writer_state.slots slot first (record { lock_seq = old.writer_state.seq; row = row });
}
  where
    first : SlotState
    first = record { lock_seq = old.writer_state.seq; row = (slot_at old.writer_state.slots slot).row }

-- an area of the tree stands before the rest
pub hangs_out : (states : List SlotState) (tree rest moved : List ShownArea) (slots : SlotSet) (shown : ShownArea) → Hangs states (tree ++ moved) slots
    → IsPermutation (shown ∷ rest) tree → Hangs states (shown ∷ (rest ++ moved)) slots
hangs_out states tree rest moved slots shown hangs out = hangs_permuted states (tree ++ moved) (shown ∷ (rest ++ moved)) slots
    (IsPermutation-sym (shown ∷ (rest ++ moved)) (tree ++ moved) (IsPermutation-append_left moved (shown ∷ rest) tree out)) hangs
