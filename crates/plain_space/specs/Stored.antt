-- A list of areas in a store of chunks.
use Rattle.std.specs.Prelude.{ℕ, ◌≡◌, ◌≤◌, ◌+◌, ◌*◌, Bool, false, List, length, All, vec_len, vec_capacity}
use Rattle.std.specs.List.{list_any}
use Rattle.mm_types.specs.declared.area.Record.{Record}
use Rattle.area_rules.specs.declared.placement.Bounds.{Bounds}
use Rattle.split_merge.specs.declared.plan.Change.{Change}
use Rattle.split_merge.specs.declared.plan.Change.TheVariants.{Detach, Alter, Add}
use Rattle.split_merge.specs.Plans.{IsPlannedFor}
use Rattle.plain_space.specs.declared.chunk.TheConstants.{HALF}
use Rattle.plain_space.specs.declared.store.Store.{Store}
use Rattle.plain_space.specs.Internal.Chunks.{areas_in_chunks, IsFilled}

-- a list of areas with the numbers by which it goes, and whether an area of it was ever sealed
pub record Stored : Type 0 where
  pub list : List Record
  pub bounds : Bounds
  pub most : ℕ
  pub sealed : Bool

-- whether a change brings a sealed area
abbrev pub is_sealing : Change → Bool
is_sealing (Detach old) = false
is_sealing (Alter old new) = new.attr.sealed
is_sealing (Add new) = new.attr.sealed

-- whether one of the changes does
abbrev pub brings_sealed : List Change → Bool
brings_sealed changes = list_any is_sealing changes

-- the vectors of a store have room for all its chunks, and half-full chunks are enough for as many areas as the whole has room for
pub record IsRoomy (store : Store) : Type 0 where
  pub chunks : vec_len store.chunks + vec_len store.spares ≤ vec_capacity store.chunks
  pub spares : vec_len store.chunks + vec_len store.spares ≤ vec_capacity store.spares
  pub enough : vec_capacity store.whole ≤ HALF * (vec_len store.chunks + vec_len store.spares)

-- each chunk of a roomy store has an area, and room for one more
pub record IsSaneStore (store : Store) : Type 0 where
  pub roomy : IsRoomy store
  pub filled : All IsFilled store.chunks.items

-- a sane store after a change has room for as many areas as before
pub record StaysSane (old new : Store) : Type 0 where
  pub sane : IsSaneStore new
  pub room : vec_capacity new.whole ≡ vec_capacity old.whole

-- The list is kept for its numbers and counted, and the store has room for the most areas that it may have; without a note that
-- one was sealed no area is.
pub record IsWellStored (bounds : Bounds) (most count : ℕ) (sealed : Bool) (store : Store) : Type 0 where
  pub kept : IsPlannedFor bounds most (areas_in_chunks store.chunks.items)
  pub counted : count ≡ length (areas_in_chunks store.chunks.items)
  pub sane : IsSaneStore store
  pub room : most ≤ vec_capacity store.whole
  pub unsealed : sealed ≡ false → All (λ area. area.attr.sealed ≡ false) (areas_in_chunks store.chunks.items)
