-- The names of the flags of mmap(2), mprotect(2) and mremap(2), each with its bit.
use Prim.Native.String.{String}
use Rattle.std.specs.List.{join_with_byte, slice_split}
use Rattle.std.specs.Option.{option_map_or}
use Rattle.std.specs.Prelude.{ℕ, ◌≡◌, ◌==◌, List, [], ◌∷◌, Option, map, option_map, codes, bytes_eq, find, bit_and, bit_or}
use Rattle.std.specs.Str.{byte}
use Rattle.mm_types.specs.declared.flags.TheConstants.{PROT_READ, PROT_WRITE, PROT_EXEC, MAP_SHARED, MAP_PRIVATE, MAP_FIXED, MAP_ANONYMOUS, MAP_GROWSDOWN, MAP_DENYWRITE, MAP_EXECUTABLE, MAP_NORESERVE, MAP_POPULATE, MAP_STACK, MAP_FIXED_NOREPLACE, MREMAP_MAYMOVE, MREMAP_FIXED, MREMAP_DONTUNMAP}

-- a flag: its name and its bit
pub record Row : Type 0 where
  pub name : List ℕ
  pub bit : ℕ

-- the flags of an argument in their order, and the name for none of them
pub record FlagNames : Type 0 where
  pub rows : List Row
  pub zero : List ℕ

-- a row, written as its name and its bit
abbrev pub flag : String → ℕ → Row
flag name bit = record { name = codes name; bit = bit }

-- the accesses that mmap(2) and mprotect(2) are asked for
unfoldable pub prot_flags : FlagNames
prot_flags = record {
  rows = flag "PROT_READ" PROT_READ ∷ flag "PROT_WRITE" PROT_WRITE ∷ flag "PROT_EXEC" PROT_EXEC ∷ [];
  zero = codes "PROT_NONE";
}

-- the flags of mmap(2)
unfoldable pub map_flags : FlagNames
map_flags = record {
  rows = flag "MAP_SHARED" MAP_SHARED ∷ flag "MAP_PRIVATE" MAP_PRIVATE ∷ flag "MAP_FIXED" MAP_FIXED ∷ flag "MAP_ANONYMOUS" MAP_ANONYMOUS
      ∷ flag "MAP_GROWSDOWN" MAP_GROWSDOWN ∷ flag "MAP_DENYWRITE" MAP_DENYWRITE ∷ flag "MAP_EXECUTABLE" MAP_EXECUTABLE
      ∷ flag "MAP_NORESERVE" MAP_NORESERVE ∷ flag "MAP_POPULATE" MAP_POPULATE ∷ flag "MAP_STACK" MAP_STACK ∷ flag "MAP_FIXED_NOREPLACE" MAP_FIXED_NOREPLACE ∷ [];
  zero = codes "0";
}

-- the flags of mremap(2)
unfoldable pub mremap_flags : FlagNames
mremap_flags = record {
  rows = flag "MREMAP_MAYMOVE" MREMAP_MAYMOVE ∷ flag "MREMAP_FIXED" MREMAP_FIXED ∷ flag "MREMAP_DONTUNMAP" MREMAP_DONTUNMAP ∷ [];
  zero = codes "0";
}

-- the byte between two names
abbrev pub bar : ℕ
bar = byte "|"

-- the words of a text, between its bars
abbrev pub bar_words : List ℕ → List (List ℕ)
bar_words text = slice_split (λ c. c == bar) text

-- the names of these rows
abbrev pub names_of : List Row → List (List ℕ)
names_of rows = map (λ row. row.name) rows

-- the text of these names, with a bar between each two
abbrev pub text_of_names : List (List ℕ) → List ℕ
text_of_names names = join_with_byte bar names

-- the bits of these rows together
abbrev pub bits_of : List Row → ℕ
bits_of [] = 0
bits_of (row ∷ rows) = bit_or row.bit (bits_of rows)

-- every one of these bits has a row
abbrev pub HasRows : FlagNames → ℕ → Type 0
HasRows table bits = bit_and bits (bits_of table.rows) ≡ bits

-- the row with this name
abbrev pub row_named : List Row → List ℕ → Option Row
row_named rows name = find (λ row. bytes_eq row.name name) rows

-- the bit of the row with this name
unfoldable pub bit_with_name : List Row → List ℕ → Option ℕ
bit_with_name rows name = option_map (λ row. row.bit) (row_named rows name)

-- the name of the row with this bit, or the empty text
unfoldable pub name_with_bit : List Row → ℕ → List ℕ
name_with_bit rows bit = option_map_or (λ row. row.name) (find (λ row. row.bit == bit) rows) []
