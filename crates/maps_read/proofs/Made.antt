-- For `retraced_text_makes_the_maps`: the whole.
use Rattle.std.proofs.Common.{◌≡◌, ◌≤◌, ◌+◌, ℕ, List, [], ◌∷◌, length, flat_map, Result, Ok, Err, refl, sym, ap, ◌∙◌, subst, arith}
use Rattle.std.specs.List.{AllByRecursion as Each}
use Rattle.mm_types.specs.declared.area.Record.{Record}
use Rattle.mm_types.specs.declared.config.TheConstants.{ADDRESS_LIMIT}
use Rattle.mm_types.specs.declared.files.FileRow.{FileRow}
use Rattle.mm_types.specs.Config.{default_config}
use Rattle.area_list.specs.Areas.{page_of, IsSound}
use Rattle.area_list.proofs.Order.{IsGood, good_from_canonical}
use Rattle.text_lexer.specs.declared.error.BadLine.{BadLine}
use Rattle.text_lexer.specs.Lines.{raw_lines}
use Rattle.maps_read.specs.declared.maps.MapsLine.{MapsLine}
use Rattle.maps_read.specs.Maps.{maps_of}
use Rattle.maps_read.specs.RetraceLaws.{MakesMaps}
use Rattle.maps_read.specs.Mappings.{mapping_lines}
use Rattle.maps_read.specs.Retracing.{Taken, nothing_taken, files_taken, with_lines, taken_text, text_taken, lines_taken, retrace_read, retraced_of}
use Rattle.maps_read.proofs.Following.{sound_with, mapped_behind}
use Rattle.maps_read.proofs.Kept.{same_ok}
use Rattle.maps_read.proofs.Mapped.{IsMapped}
use Rattle.maps_read.proofs.RawMaps.{line_bytes, maps_read_as, all_bytes, raws_single}
use Rattle.maps_read.proofs.Traces.{IsShownArea, trace_read}
use Rattle.maps_read.proofs.Walks.{files_open, files_count, IsWalked, lines_walked, nothing_walked}

good_areas : (areas : List Record) → IsSound (default_config []) areas → Each (IsGood (page_of ADDRESS_LIMIT)) areas
unfolding default_config
good_areas areas sound = good_from_canonical (page_of ADDRESS_LIMIT) areas sound.canonical

few_areas : (areas : List Record) → IsSound (default_config []) areas → length areas ≤ 65530
unfolding default_config
few_areas areas sound = sound.few

shown : (files : List FileRow) (areas : List Record) → length files ≤ 1024 → Each (IsGood (page_of ADDRESS_LIMIT)) areas → Each (IsMapped files) areas
    → Each IsShownArea areas
shown files [] few good mapped = tt
shown files (area ∷ areas) few good mapped =
    let object = mapped.0.object in
    (record { valid = good.0.valid; object = omega arith }, shown files areas few good.1 mapped.1)

-- what was taken of all lines makes the text
taken_makes : (bytes : List ℕ) (taken : Taken) → IsWalked taken (raw_lines bytes) → (list : flat_map line_bytes (raw_lines bytes) ≡ bytes)
    → MakesMaps bytes (taken_text taken)
unfolding taken_text
taken_makes bytes taken is list =
    let files = files_taken taken in
    let count = (files_count 3 taken.named taken.opened is.files).1 in
    let few = is.few in
    let good = good_areas taken.areas is.sound in
    let shows = shown files taken.areas (omega arith) good is.mapped in
    record {
      files = files;
      areas = taken.areas;
      trace = trace_read taken.named taken.opened taken.areas is.files is.few shows (few_areas taken.areas is.sound)
          ∙ ap (λ (n : ℕ). Ok (record { config = default_config files; lines = mapping_lines (2 + n) taken.areas })) (sym count);
      maps = mapped_behind files (files_open 3 taken.named taken.opened is.files) [] taken.areas (sound_with [] files taken.areas is.sound) tt is.mapped;
      list = is.list ∙ list;
    }

pub makes : (bytes text : List ℕ) → retraced_of bytes ≡ Ok text → MakesMaps bytes text
unfolding retraced_of lines_taken
makes bytes text e = by_lines (maps_of bytes) refl e
  where
    by_taken : (lines : List MapsLine) → maps_of bytes ≡ Ok lines → (taken : Result Taken BadLine) → with_lines nothing_taken (raw_lines bytes) lines ≡ taken
        → text_taken taken ≡ Ok text → MakesMaps bytes text
    by_taken lines read (Ok taken) is e =
        let are = maps_read_as bytes lines read in
        subst (MakesMaps bytes) (same_ok (taken_text taken) text e)
        (taken_makes bytes taken (lines_walked nothing_taken taken (raw_lines bytes) [] lines nothing_walked are (raws_single bytes) is) (all_bytes bytes lines are))
    by_taken lines read (Err first) is e = absurd (cc e)

    by_lines : (read : Result (List MapsLine) BadLine) → maps_of bytes ≡ read → retrace_read bytes read ≡ Ok text → MakesMaps bytes text
    by_lines (Ok lines) read e = by_taken lines read (with_lines nothing_taken (raw_lines bytes) lines) refl e
    by_lines (Err first) read e = absurd (cc e)
