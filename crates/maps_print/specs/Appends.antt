-- What a text holds after an append that ran out of memory.
use Rattle.std.specs.Prelude.{ℕ, ◌≡◌, List, ◌++◌, take}

-- what stood there, and then a beginning of what was to be added
pub record AppendsFront (old new text : List ℕ) : Type 0 where
  pub count : ℕ
  pub front : new ≡ old ++ take count text
