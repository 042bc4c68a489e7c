-- Tables of tests, in their order.
use Rattle.std.specs.Prelude.{Bool, List, [], ◌∷◌, Option, Some, None, if◌then◌else◌}

-- the answer of the first row whose test holds
abbrev pub first_row : {A : Type 0} → List (Bool × A) → Option A
first_row [] = None
first_row (row ∷ rows) = if row.0 then Some row.1 else first_row rows
