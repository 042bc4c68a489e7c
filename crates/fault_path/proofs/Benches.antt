-- For the tests: a pass of new tables, and a call on slot 0.
use Rattle.std.proofs.Common.{ℕ, ◌≡◌, ◌<◌, ◌∙◌, List, [], ◌∷◌, ◌++◌, length, slice_get, Some, refl, sym, ap, subst}
use Rattle.mm_types.specs.declared.call.Entry.{Entry}
use Rattle.lock_core.specs.Facts.{list_after}
use Rattle.lock_core.specs.Rows.{Exactly}
use Rattle.vma_lock.specs.declared.view.View.{View}
use Rattle.vma_lock.specs.Views.{begin_at, mark_at, write_at}
use Rattle.fault_path.specs.Internal.Small.{AreOthersDetached, ShowsOneArea}
use Rattle.fault_path.proofs.Small.{enters_exactly}
use Rattle.fault_path.specs.Passes.{PassView, ViewedTable, SitsAtTables, AreTablePasses}

-- the last of some passes
there_last : {A : Type 0} (xs : List A) (last : A) → slice_get (xs ++ last ∷ []) (length xs) ≡ Some last
there_last [] last = refl
there_last (y ∷ xs) last = there_last xs last

-- it sits at the tables of all of them
pub last_sits : (viewed : ViewedTable) (most : List ℕ) (all fewer : List PassView) (pass : PassView) → all ≡ fewer ++ pass ∷ []
    → AreTablePasses viewed most all → SitsAtTables viewed pass
last_sits viewed most all fewer pass same passes =
    let there = ap (λ (xs : List PassView). slice_get xs (length fewer)) same ∙ there_last fewer pass in
    (passes.each (length fewer) pass there).0.sits

-- what a call on slot 0 owes at its end
pub entered_exactly : (first begun marked written : View) (entry : Entry) (row : List ℕ) (found : ℕ) → begun ≡ begin_at first
    → marked ≡ mark_at begun 0 found → written ≡ write_at marked 0 row → AreOthersDetached first.writer_state.slots → 0 < length first.writer_state.slots
    → ShowsOneArea (list_after first.config (first.seen ++ entry ∷ [])) row
    → Exactly written.writer_state.slots (list_after written.config (written.seen ++ entry ∷ []))
entered_exactly first begun marked written entry row found begin mark write free some_slot shows =
    let slots = ap (λ (v : View). v.writer_state.slots) begin in
    let config : written.config ≡ first.config =
    ap (λ (v : View). v.config) write ∙ ap (λ (v : View). v.config) mark ∙ ap (λ (v : View). v.config) begin in
    let seen : written.seen ≡ first.seen = ap (λ (v : View). v.seen) write ∙ ap (λ (v : View). v.seen) mark ∙ ap (λ (v : View). v.seen) begin in
    subst (λ c. Exactly written.writer_state.slots (list_after c (written.seen ++ entry ∷ []))) (sym config)
    (subst (λ (j : List Entry). Exactly written.writer_state.slots (list_after first.config (j ++ entry ∷ []))) (sym seen)
    (enters_exactly first.writer_state.slots (list_after first.config (first.seen ++ entry ∷ [])) begun.writer_state marked.writer_state written.writer_state row
    free some_slot shows slots (ap (λ (v : View). v.writer_state) mark) (ap (λ (v : View). v.writer_state) write)))
