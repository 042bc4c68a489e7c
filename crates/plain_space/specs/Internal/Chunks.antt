-- A list in chunks.
use Rattle.std.specs.Prelude.{ℕ, ◌<◌, ◌+◌, List, [], ◌∷◌, ◌++◌, length, take, drop, All, None}
use Rattle.std.specs.List.{last_or}
use Rattle.std.specs.Option.{option_map_or}
use Rattle.mm_types.specs.declared.area.Record.{Record}
use Rattle.plain_space.specs.declared.chunk.TheConstants.{MOST_IN_CHUNK}
use Rattle.split_merge.specs.Sorted.{BeginsRise, BeginsAscend, EndsAscend}

-- the areas of chunks, one chunk after the other
abbrev pub areas_in_chunks : List (List Record) → List Record
areas_in_chunks [] = []
areas_in_chunks (chunk ∷ chunks) = chunk ++ areas_in_chunks chunks

-- the lowest page of the first area of a chunk
abbrev pub chunk_low : List Record → ℕ
chunk_low [] = 0
chunk_low (area ∷ areas) = area.span.lo

-- the page at which the last one ends
abbrev pub chunk_high : List Record → ℕ
chunk_high areas = option_map_or (λ area. area.span.hi) (last_or None areas) 0

-- a chunk has an area
abbrev pub IsSome : List Record → Type 0
IsSome chunk = 0 < length chunk

-- a chunk has an area, and room for one more
abbrev pub IsFilled : List Record → Type 0
IsFilled chunk = (0 < length chunk) × (length chunk < MOST_IN_CHUNK)

-- each chunk but that at a place has an area, and room for one more
pub record AreOthersFilled (chunks : List (List Record)) (place : ℕ) : Type 0 where
  pub front : All IsFilled (take place chunks)
  pub back : All IsFilled (drop (place + 1) chunks)

-- each chunk has an area, and the areas lie by ascending lowest page
pub record AreChunksInOrder (chunks : List (List Record)) : Type 0 where
  pub some : All IsSome chunks
  pub rise : BeginsRise (areas_in_chunks chunks)

-- and by strictly ascending lowest page and end
pub record AscendApart (chunks : List (List Record)) : Type 0 where
  pub some : All IsSome chunks
  pub begins : BeginsAscend (areas_in_chunks chunks)
  pub ends : EndsAscend (areas_in_chunks chunks)
