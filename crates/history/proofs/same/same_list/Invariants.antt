-- The proof of `same_list`: what its loop keeps.
use Rattle.std.proofs.Common.{ℕ, ◌≡◌, ◌<◌, get_or}
use Rattle.mm_types.specs.declared.area.Record.{Record}
use Rattle.history.proofs.same.same_list.Given as goal

-- the first areas are the same
abbrev pub invariant-loop-place : goal.invariant-loop-place
invariant-loop-place l = (k : ℕ) (d : Record) → k < l.place → get_or l.a k d ≡ get_or l.b k d
