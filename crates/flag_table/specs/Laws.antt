-- What makes a table sound, and which texts are accepted then.
use Rattle.std.specs.Prelude.{ℕ, ◌≡◌, ◌≢◌, ◌==◌, ◌<◌, ◌^◌, ◌⊎◌, Bool, true, false, List, ◌∷◌, ◌++◌, length, All, AllPairs, Contains}
use Rattle.std.specs.List.{list_any}
use Rattle.flag_table.specs.Tables.{Row, FlagNames, bar, bits_of, names_of, text_of_names, bar_words}
use Rattle.flag_table.specs.Reading.{is_zero}
use Rattle.flag_table.specs.declared.error.NameError.{NameError}
use Rattle.flag_table.specs.declared.error.NameError.TheVariants.{Unknown, Twice}

-- whether a bar stands in a text
abbrev pub has_bar : List ℕ → Bool
has_bar text = list_any (λ c. c == bar) text

-- a power of two
abbrev pub IsOneBit : ℕ → Type 0
IsOneBit bit = (k : ℕ) × (bit ≡ 2 ^ k)

-- No two rows have one name or one bit, and each bit is a power of two. No name is empty, has a bar or stands for no
-- flag, nor has the name for no flag a bar.
pub record IsSoundTable (table : FlagNames) : Type 0 where
  pub names : AllPairs (λ a b. a.name ≢ b.name) table.rows
  pub bits : AllPairs (λ a b. a.bit ≢ b.bit) table.rows
  pub single : All (λ row. IsOneBit row.bit) table.rows
  pub some_byte : All (λ row. 0 < length row.name) table.rows
  pub no_bar : All (λ row. has_bar row.name ≡ false) table.rows
  pub no_zero : All (λ row. is_zero table row.name ≡ false) table.rows
  pub zero : has_bar table.zero ≡ false

-- rows of a table, no two the same
pub record AreRows (table : FlagNames) (rows : List Row) : Type 0 where
  pub of_table : All (Contains table.rows) rows
  pub distinct : AllPairs (λ a b. a ≢ b) rows

-- the text has the names of one or more rows of the table, joined by bars, and these are their bits together
pub record NamesBits (table : FlagNames) (text : List ℕ) (bits : ℕ) : Type 0 where
  pub named : List Row
  pub some : 0 < length named
  pub rows : AreRows table named
  pub text_is : text ≡ text_of_names (names_of named)
  pub bits_are : bits ≡ bits_of named

-- a text of flags: one that stands for none of them, or names
abbrev pub IsFlagText : FlagNames → List ℕ → ℕ → Type 0
IsFlagText table text bits = ((is_zero table text ≡ true) × (bits ≡ 0)) ⊎ NamesBits table text bits

-- the error of a word after the names of these rows
abbrev pub IsBadWord : FlagNames → List Row → List ℕ → NameError → Type 0
IsBadWord table named word error = (All (λ row. row.name ≢ word) table.rows × (error ≡ Unknown word))
    ⊎ (Contains (names_of named) word × (error ≡ Twice word))

-- The text has a bad word, after the names of rows alone: the first bad one. This is its error.
pub record HasBadWord (table : FlagNames) (text : List ℕ) (error : NameError) : Type 0 where
  pub flags : is_zero table text ≡ false
  pub named : List Row
  pub word : List ℕ
  pub rest : List (List ℕ)
  pub words : bar_words text ≡ names_of named ++ word ∷ rest
  pub rows : AreRows table named
  pub bad : IsBadWord table named word error
