-- For `taken_text`: what its loops keep.
use Rattle.std.proofs.Common.{◌≡◌, ◌+◌, ◌++◌, flat_map, drop, string_bytes}
use Rattle.trace_reader.specs.LineTexts.{header}
use Rattle.maps_read.specs.FileLines.{file_texts}
use Rattle.maps_read.specs.Mappings.{mapping_text}
use Rattle.maps_read.specs.Internal.Taking.{what_taken}
use Rattle.maps_read.proofs.retracing.taken_text.Given as goal

-- the text so far, and the lines of the files that are left
abbrev pub invariant-loop-line : goal.invariant-loop-line
invariant-loop-line l = record {
  text : string_bytes l.text ++ file_texts l.fd (drop l.line-index (what_taken l.taken).named) ≡ header ++ file_texts 3 (what_taken l.taken).named;
  fd : l.fd ≡ 3 + l.line-index;
}

-- the text so far, and the lines of the areas that are left
abbrev pub invariant-loop-area : goal.invariant-loop-area
invariant-loop-area l = string_bytes l.text ++ flat_map mapping_text (drop l.area-index (what_taken l.taken).areas)
    ≡ header ++ (file_texts 3 (what_taken l.taken).named ++ flat_map mapping_text (what_taken l.taken).areas)
