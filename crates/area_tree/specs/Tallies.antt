-- What was counted before each scan, as it was noted.
use Rattle.std.specs.Prelude.{ℕ, List, [], ◌∷◌, ◌++◌}
use Rattle.area_tree.specs.declared.tally.Notes.{Notes}
use Rattle.area_tree.specs.declared.tally.Notes.TheOpen.{Notes-F, Nothing, Found}
use Rattle.area_tree.specs.declared.tally.Notes.TheFolds.{fold-Notes}

-- the numbers so far, or none
abbrev pub with_note : Notes-F (List ℕ) → List ℕ
with_note Nothing = []
with_note (Found before count) = before.value ++ count ∷ []

-- the numbers that were noted
abbrev pub noted_counts : Notes → List ℕ
noted_counts = fold-Notes (List ℕ) with_note
