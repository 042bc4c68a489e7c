-- For `push_area` and `add`: for which lines memory may be taken.
use Rattle.std.proofs.Common.{◌≡◌, ◌<◌, ◌+◌, ℕ, Bool, true, false, ◌&&◌, nat_eq, nat_lt, List, [], ◌∷◌, ◌++◌, length, Option, Some, None, IsSome, IsErrAnd, Result, Ok, Err, refl, sym, ◌∙◌, subst}
use Rattle.std.proofs.lemmas.Bool.{and_parts, and_right, cond-true, cond-false, lt-ltb}
use Rattle.mm_types.specs.declared.area.Record.{Record}
use Rattle.mm_types.specs.declared.files.FileRow.{FileRow}
use Rattle.text_lexer.specs.declared.error.CallError.{CallError}
use Rattle.text_lexer.specs.declared.error.Cause.TheVariants.{NotOurs}
use Rattle.maps_read.specs.declared.maps.MapsLine.{MapsLine}
use Rattle.maps_read.specs.FileLines.{first_line_of_file, file_text, files_opened, are_one_file}
use Rattle.maps_read.specs.Retracing.{Taken, area_of, is_text_of, may_map, is_ours, areas_with, with_next_file, with_file_at, with_file_taken}
use Rattle.maps_read.specs.Internal.Taking.{may_take_at, may_take}
use Rattle.maps_read.proofs.Kept.{same_ok, passed, bound_ok}

-- a line that may not be mapped is not ours
pub not_mapped : (areas : List Record) (files : List FileRow) (object : ℕ) (line : MapsLine) (text : List ℕ) → may_map areas object line ≡ false
    → areas_with areas files object line text ≡ Err NotOurs
unfolding areas_with is_ours
not_mapped areas files object line text never =
    cond-false (is_text_of files line text && may_map areas object line) _ _ (and_right (is_text_of files line text) (may_map areas object line) never)

-- an error that is handed on is that error
pub same_error : {A : Type 0} (answer : Result A CallError) (error other : CallError) → IsErrAnd answer (λ e. e ≡ error) → answer ≡ Err other → error ≡ other
same_error (Ok a) error other is e = absurd is
same_error (Err given) error other is e = let same : given ≡ other = cc in sym is ∙ same

-- a line without a name
pub may_take_unnamed : (taken : Taken) (line : MapsLine) → nat_eq (length line.name) 0 ≡ true → may_map taken.areas 0 line ≡ true → may_take taken line ≡ true
may_take_unnamed taken line none maps =
    cond-true (nat_eq (length line.name) 0) (may_map taken.areas 0 line) (may_take_at taken (first_line_of_file taken.named line) line) none ∙ maps

named : (taken : Taken) (line : MapsLine) → nat_eq (length line.name) 0 ≡ false → may_take_at taken (first_line_of_file taken.named line) line ≡ true
    → may_take taken line ≡ true
named taken line some may =
    cond-false (nat_eq (length line.name) 0) (may_map taken.areas 0 line) (may_take_at taken (first_line_of_file taken.named line) line) some ∙ may

-- a line whose file is none so far, where there is room for one more
pub may_take_next : (taken : Taken) (line : MapsLine) → nat_eq (length line.name) 0 ≡ false → (IsSome (first_line_of_file taken.named line) → false ≡ true)
    → length taken.named < 1024 → may_take taken line ≡ true
may_take_next taken line some next room = named taken line some (by_place (first_line_of_file taken.named line) next)
  where
    by_place : (place : Option ℕ) → (IsSome place → false ≡ true) → may_take_at taken place line ≡ true
    by_place (Some place) next = absurd (cc (next refl))
    by_place None next = lt-ltb (length taken.named) 1024 room

next_room : (taken after : Taken) (line : MapsLine) → with_next_file taken line ≡ Ok after → nat_lt (length taken.named) 1024 ≡ true
unfolding with_next_file
next_room taken after line e =
    let fd = 3 + length taken.named in
    let files = files_opened (file_text fd line) in
    let more : Taken = record taken { named = taken.named ++ line ∷ []; opened = taken.opened ++ files ∷ [] } in
    let tests = passed (nat_lt (length taken.named) 1024 && are_one_file fd files) more after e in
    (and_parts (nat_lt (length taken.named) 1024) (are_one_file fd files) tests.0).0

-- a line whose file has a place, where it may be mapped
pub may_take_found : (taken : Taken) (found : Taken × ℕ) (line : MapsLine) → nat_eq (length line.name) 0 ≡ false → with_file_taken taken line ≡ Ok found
    → may_map found.0.areas (found.1 + 1) line ≡ true → may_take taken line ≡ true
unfolding with_file_taken
may_take_found taken found line some e maps = named taken line some (by_place (first_line_of_file taken.named line) e)
  where
    by_place : (place : Option ℕ) → with_file_at taken place line ≡ Ok found → may_take_at taken place line ≡ true
    by_place (Some place) e = subst (λ (f : Taken × ℕ). may_map f.0.areas (f.1 + 1) line ≡ true) (sym (same_ok (taken, place) found e)) maps
    by_place None e =
        let next = bound_ok (with_next_file taken line) (λ next. Ok (next, length taken.named)) found e in
        next_room taken next.0 line next.1
