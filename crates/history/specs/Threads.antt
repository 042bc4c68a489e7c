-- How many lines each thread of a trace has.
use Rattle.std.specs.Prelude.{ℕ, zero, suc, ◌≡◌, ◌<◌, nat_eq, nat_lt, List, [], ◌∷◌, ◌++◌, length, take, slice_index, count_by}
use Rattle.trace_reader.specs.declared.trace.TraceLine.{TraceLine}

-- how many lines a thread has
abbrev pub lines_by : List TraceLine → ℕ → ℕ
lines_by lines thread = count_by (λ line. nat_eq line.thread thread) lines

-- how many lines each of the threads below a number has
unfoldable pub counts_below : ℕ → List TraceLine → List ℕ
counts_below zero lines = []
counts_below (suc thread) lines = counts_below thread lines ++ lines_by lines thread ∷ []

-- how many of the threads below this one have a line, by their counts
abbrev pub busy_below : ℕ → List ℕ → ℕ
busy_below thread counts = count_by (λ count. nat_lt 0 count) (take thread counts)

-- the caller that each thread is: how many lower threads have a line
abbrev pub AreCallers : List ℕ → List ℕ → Type 0
AreCallers counts callers = (thread : ℕ) → thread < length callers → slice_index callers thread ≡ busy_below thread counts
