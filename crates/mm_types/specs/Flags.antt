-- Flags, as the bits of a number.
use Rattle.std.specs.Prelude.{ℕ, Bool, not, nat_eq, bit_and}

-- whether a flag is set
abbrev pub has_flag : ℕ → ℕ → Bool
has_flag flags flag = not (nat_eq (bit_and flags flag) 0)
