-- How flags are printed.
use Rattle.std.specs.Prelude.{ℕ, List, [], ◌∷◌, ◌++◌, filter, nat_eq, if◌then◌else◌}
use Rattle.mm_types.specs.Flags.{has_flag}
use Rattle.flag_table.specs.Tables.{Row, FlagNames, bar, names_of, text_of_names}

-- the rows whose bits are there
abbrev pub rows_with : ℕ → List Row → List Row
rows_with bits rows = filter (λ row. has_flag bits row.bit) rows

-- the names of the rows whose bits are there, in the order of the table; or the name for none
unfoldable pub printed : FlagNames → ℕ → List ℕ
printed table bits = if nat_eq bits 0 then table.zero else text_of_names (names_of (rows_with bits table.rows))

-- a text of names with one more, after a bar unless it is the first
unfoldable pub with_flag_name : List ℕ → List ℕ → List ℕ
with_flag_name [] name = name
with_flag_name (c ∷ text) name = (c ∷ text) ++ (bar ∷ name)
