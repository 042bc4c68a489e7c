-- The words of a node as far as they were added.
use Rattle.std.specs.Prelude.{ℕ, ◌≡◌, ◌≤◌, ◌-◌, List, ◌++◌, length, take, replicate}

-- words, and zeros after them up to 32
abbrev pub padded_node : List ℕ → List ℕ
padded_node words = words ++ replicate (32 - length words) 0

-- 32 words, of which all are 0 after the first so many
pub record IsPadded (used : ℕ) (words : List ℕ) : Type 0 where
  pub fits : used ≤ 32
  pub rest : words ≡ padded_node (take used words)
