-- The numbers that follow from a seed.
use Rattle.std.specs.Prelude.{ℕ, ◌+◌, ◌*◌, ◌/◌, ◌%◌, ◌^◌}

-- the state after a state: a linear congruence of 64 bits
abbrev pub next_state : ℕ → ℕ
next_state state = (state * 6364136223846793005 + 1442695040888963407) % 2 ^ 64

-- the number below a bound that is drawn where this is the state after it: the upper bits, which repeat later than the lower ones
abbrev pub number_below : ℕ → ℕ → ℕ
number_below bound state = state / 2 ^ 33 % bound
