-- For `insert_news` of changing.rt: what its loop keeps.
use Rattle.std.proofs.Common.{◌≡◌, ◌≤◌, ◌+◌, length, drop, vec_capacity}
use Rattle.split_merge.specs.Plans.{news_of, with_all}
use Rattle.split_merge.specs.Sorted.{BeginsRise}
use Rattle.plain_space.specs.Internal.Chunks.{areas_in_chunks}
use Rattle.plain_space.specs.Stored.{IsSaneStore}
use Rattle.plain_space.proofs.changing.insert_news.Given as goal

-- with what the rest of the changes bring, the list is the one with all
abbrev pub invariant-loop-change : goal.invariant-loop-change
invariant-loop-change l = record {
  sane : IsSaneStore l.store;
  rise : BeginsRise (areas_in_chunks l.store.chunks.items);
  few : length (areas_in_chunks l.store.chunks.items) + length (news_of (drop l.change-index l.changes)) ≤ vec_capacity l.store.whole;
  room : vec_capacity l.store.whole ≡ vec_capacity l.fn.store.whole;
  coming : with_all (news_of (drop l.change-index l.changes)) (areas_in_chunks l.store.chunks.items) ≡ with_all (news_of l.changes) (areas_in_chunks l.fn.store.chunks.items);
}
