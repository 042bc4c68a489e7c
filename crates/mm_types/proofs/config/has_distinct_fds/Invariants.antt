-- For `has_distinct_fds`: what each loop keeps.
use Rattle.std.proofs.Common.{◌≢◌, AllPairs, take}
use Rattle.mm_types.proofs.config.has_distinct_fds.Given as goal

-- no two of the files so far have one descriptor
abbrev pub invariant-loop-place : goal.invariant-loop-place
invariant-loop-place l = AllPairs (λ a b. a.fd ≢ b.fd) (take l.place l.files)
