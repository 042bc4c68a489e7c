-- Lines without the spaces at their end.
use Rattle.std.specs.Prelude.{ℕ, ◌-◌, List, ◌++◌, length, take, codes, nat_eq}
use Rattle.std.specs.List.{suffix_len}
use Rattle.std.specs.Str.{byte}
use Rattle.mm_types.specs.declared.area.Record.{Record}
use Rattle.mm_types.specs.declared.files.FileRow.{FileRow}
use Rattle.mm_types.specs.MapsText.{area_text}

-- a text without the spaces at its end
unfoldable pub without_spaces_after : List ℕ → List ℕ
without_spaces_after text = take (length text - suffix_len (λ c. nat_eq c (byte " ")) text) text

-- the line of one area without the spaces at its end, and the newline that ends it
unfoldable pub trimmed_line : List FileRow → Record → List ℕ
trimmed_line files area = let line = area_text files area in without_spaces_after (take (length line - 1) line) ++ codes "\n"
