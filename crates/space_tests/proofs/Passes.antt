-- The last of some passes.
use Rattle.std.proofs.Common.{ℕ, ◌≡◌, ◌∙◌, List, [], ◌∷◌, ◌++◌, length, slice_get, Some, refl, ap}
use Rattle.fault_path.specs.Passes.{PassView, ViewedTable, SitsAtTables, AreTablePasses}

there_last : {A : Type 0} (xs : List A) (last : A) → slice_get (xs ++ last ∷ []) (length xs) ≡ Some last
there_last [] last = refl
there_last (y ∷ xs) last = there_last xs last

-- it sits at the tables of all of them
pub last_sits : (viewed : ViewedTable) (most : List ℕ) (all fewer : List PassView) (pass : PassView) → all ≡ fewer ++ pass ∷ []
    → AreTablePasses viewed most all → SitsAtTables viewed pass
last_sits viewed most all fewer pass same passes =
    let there = ap (λ (xs : List PassView). slice_get xs (length fewer)) same ∙ there_last fewer pass in
    (passes.each (length fewer) pass there).0.sits
