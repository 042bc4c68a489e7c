-- For `remove_olds` of changing.rt: what its loop keeps.
use Rattle.std.proofs.Common.{◌≡◌, ◌≤◌, length, drop, vec_capacity}
use Rattle.split_merge.specs.Plans.{olds_of, without}
use Rattle.plain_space.specs.Internal.Chunks.{areas_in_chunks}
use Rattle.plain_space.specs.Stored.{IsSaneStore}
use Rattle.plain_space.proofs.changing.remove_olds.Given as goal

-- what the changes from here on take away is gone
abbrev pub invariant-loop-left : goal.invariant-loop-left
invariant-loop-left l = record {
  within : l.left ≤ length l.changes;
  sane : IsSaneStore l.store;
  room : vec_capacity l.store.whole ≡ vec_capacity l.fn.store.whole;
  gone : areas_in_chunks l.store.chunks.items ≡ without (olds_of (drop l.left l.changes)) (areas_in_chunks l.fn.store.chunks.items);
}

abbrev pub decreases-loop-left : goal.decreases-loop-left
decreases-loop-left l = l.left
