-- For `retraced_text_makes_the_maps`: what was taken line by line.
use Rattle.std.proofs.Common.{◌≡◌, ◌≤◌, ◌<◌, ◌+◌, ◌-◌, ℕ, pos, zero, suc, Bool, true, false, ◌&&◌, nat_eq, nat_lt, List, [], ◌∷◌, ◌++◌, length, flat_map, codes, Option, Some, None, slice_get, unwrap_or, Result, Ok, Err, refl, sym, ap, ◌∙◌, subst, append_assoc, append-nil, arith, length-append}
use Rattle.std.specs.List.{AllByRecursion as Each}
use Rattle.std.specs.Ordering.{int_eq}
use Rattle.std.proofs.lemmas.Bool.{cond_both, and_parts, ltb-true, ne_eqb}
use Rattle.std.proofs.lemmas.Bool.Decides.{nat_tests, Decides-int_eq}
use Rattle.std.proofs.lemmas.List.Quantifiers.{position-Some}
use Rattle.std.proofs.lemmas.Slice.Eq.{bytes_eq-Decides}
use Rattle.mm_types.specs.declared.area.Record.{Record}
use Rattle.mm_types.specs.declared.files.FileRow.{FileRow}
use Rattle.mm_types.specs.Config.{default_config}
use Rattle.mm_types.specs.MapsText.{perms, range_text, backing, front_text, name_text, area_text, list_text}
use Rattle.area_list.specs.Areas.{IsSound}
use Rattle.text_lexer.specs.declared.error.Cause.{Cause}
use Rattle.text_lexer.specs.Causes.{◌>>=◌}
use Rattle.text_lexer.specs.BadLines.{at_line}
use Rattle.text_lexer.specs.Lines.{RawLine}
use Rattle.maps_read.specs.declared.maps.MapsLine.{MapsLine}
use Rattle.maps_read.specs.FileLines.{same_file, first_line_of_file, file_text, files_opened, are_one_file}
use Rattle.maps_read.specs.Retracing.{Taken, nothing_taken, files_taken, area_of, areas_with, with_area, with_next_file, with_file_at, with_file_taken, file_at, with_line_taken, with_lines}
use Rattle.maps_read.proofs.Following.{stays_sound, none_sound}
use Rattle.maps_read.proofs.Kept.{same_ok, passed, bound_ok, ours}
use Rattle.maps_read.proofs.Mapped.{IsMapped}
use Rattle.maps_read.proofs.OpenFiles.{IsOpenAs, AreOpenFrom}
use Rattle.maps_read.proofs.RawMaps.{IsSingle, AreReadAs, line_bytes, name_single}

-- ---- files

-- the one file that a line opens
pub record IsFileOf (number : ℕ) (line : MapsLine) (files : List FileRow) : Type 0 where
  pub opened : files_opened (file_text number line) ≡ files
  pub one : are_one_file number files ≡ true
  pub single : IsSingle line.name

-- so it is for lines, under the descriptors from this one on
abbrev pub AreFilesOf : ℕ → List MapsLine → List (List FileRow) → Type 0
AreFilesOf fd [] [] = Unit {0}
AreFilesOf fd (line ∷ named) (files ∷ opened) = IsFileOf fd line files × AreFilesOf (fd + 1) named opened
AreFilesOf fd [] (files ∷ opened) = ⊥
AreFilesOf fd (line ∷ named) [] = ⊥

-- all of them
abbrev pub all_files : List (List FileRow) → List FileRow
all_files opened = flat_map (λ files. files) opened

-- one file that is open under a descriptor
pub record IsOneFile (number : ℕ) (files : List FileRow) : Type 0 where
  pub file : FileRow
  pub is : files ≡ file ∷ []
  pub open_as : IsOpenAs number file

pub one_file : (fd : ℕ) (files : List FileRow) → are_one_file fd files ≡ true → IsOneFile fd files
one_file fd [] e = absurd (cc e)
one_file fd (file ∷ []) e =
    let first = and_parts (int_eq file.fd (pos fd)) (file.read && file.write) e in
    let second = and_parts file.read file.write first.1 in
    record {
      file = file;
      is = refl;
      open_as = record { fd = (Decides-int_eq file.fd (pos fd)).0 first.0; read = second.0; write = second.1 };
    }
one_file fd (file ∷ other ∷ files) e = absurd (cc e)

pub files_open : (fd : ℕ) (named : List MapsLine) (opened : List (List FileRow)) → AreFilesOf fd named opened → AreOpenFrom fd (all_files opened)
files_open fd [] [] are = tt
files_open fd (line ∷ named) (files ∷ opened) are =
    let one = one_file fd files are.0.one in
    subst (λ (f : List FileRow). AreOpenFrom fd (f ++ all_files opened)) (sym one.is) (one.open_as, files_open (fd + 1) named opened are.1)
files_open fd [] (files ∷ opened) are = absurd are
files_open fd (line ∷ named) [] are = absurd are

pub files_count : (fd : ℕ) (named : List MapsLine) (opened : List (List FileRow)) → AreFilesOf fd named opened
    → (length opened ≡ length named) × (length (all_files opened) ≡ length named)
files_count fd [] [] are = (refl, refl)
files_count fd (line ∷ named) (files ∷ opened) are =
    let one = one_file fd files are.0.one in
    let rest = files_count (fd + 1) named opened are.1 in
    let both = length-append files (all_files opened) in
    let single : length files ≡ 1 = ap length one.is in
    (omega (arith, rest.0), omega (arith, rest.1))
files_count fd [] (files ∷ opened) are = absurd are
files_count fd (line ∷ named) [] are = absurd are

push_files : (fd : ℕ) (named : List MapsLine) (opened : List (List FileRow)) (line : MapsLine) (files : List FileRow)
    → AreFilesOf fd named opened → IsFileOf (fd + length named) line files → AreFilesOf fd (named ++ line ∷ []) (opened ++ files ∷ [])
push_files fd [] [] line files are is = (subst (λ (n : ℕ). IsFileOf n line files) (let e : fd + 0 ≡ fd = omega arith in e) is, tt)
push_files fd (first ∷ named) (some ∷ opened) line files are is = (
  are.0,
  push_files (fd + 1) named opened line files are.1
      (subst (λ (n : ℕ). IsFileOf n line files) (let e : fd + length (first ∷ named) ≡ fd + 1 + length named = omega arith in e) is),
)
push_files fd [] (some ∷ opened) line files are is = absurd are
push_files fd (first ∷ named) [] line files are is = absurd are

flat_push : (opened : List (List FileRow)) (files : List FileRow) → all_files (opened ++ files ∷ []) ≡ all_files opened ++ files
flat_push [] files = append-nil files
flat_push (first ∷ opened) files = ap (λ (rest : List FileRow). first ++ rest) (flat_push opened files)
    ∙ sym (append_assoc first (all_files opened) files)

-- the file at a place
record IsFileAt (opened : List (List FileRow)) (at : ℕ) : Type 0 where
  file : FileRow
  own : unwrap_or (slice_get opened at) [] ≡ file ∷ []
  found : slice_get (all_files opened) at ≡ Some file

file_found : (fd : ℕ) (named : List MapsLine) (opened : List (List FileRow)) (place : ℕ) → AreFilesOf fd named opened
    → place < length opened → IsFileAt opened place
file_found fd [] [] place are within = absurd (omega arith)
file_found fd (line ∷ named) (files ∷ opened) zero are within =
    let one = one_file fd files are.0.one in
    record { file = one.file; own = one.is; found = ap (λ (f : List FileRow). slice_get (f ++ all_files opened) 0) one.is }
file_found fd (line ∷ named) (files ∷ opened) (suc place) are within =
    let one = one_file fd files are.0.one in
    let rest = file_found (fd + 1) named opened place are.1 (omega arith) in
    record { file = rest.file; own = rest.own; found = ap (λ (f : List FileRow). slice_get (f ++ all_files opened) (suc place)) one.is ∙ rest.found }
file_found fd [] (files ∷ opened) place are within = absurd are
file_found fd (line ∷ named) [] place are within = absurd are

-- ---- texts

slice_more : (files more : List FileRow) (place : ℕ) → place < length files → slice_get (files ++ more) place ≡ slice_get files place
slice_more [] more place within = absurd (omega arith)
slice_more (file ∷ files) more zero within = refl
slice_more (file ∷ files) more (suc place) within = slice_more files more place (omega arith)

some_within : (object count : ℕ) → nat_eq object 0 ≡ false → object ≤ count → object - 1 < count
some_within object count some few = grind (arith, nat_tests)

backing_more : (files more : List FileRow) (area : Record) → area.object ≤ length files → backing (files ++ more) area ≡ backing files area
unfolding backing
backing_more files more area few = by_none (nat_eq area.object 0) refl
  where
    by_none : (none : Bool) → nat_eq area.object 0 ≡ none → backing (files ++ more) area ≡ backing files area
    by_none true is = rw is refl
    by_none false is = rw (is, slice_more files more (area.object - 1) (some_within area.object (length files) is few)) refl

text_more : (files more : List FileRow) (area : Record) → area.object ≤ length files → area_text (files ++ more) area ≡ area_text files area
unfolding area_text
text_more files more area few =
    ap (λ mapped. front_text area mapped ++ name_text (length (front_text area mapped)) mapped.name ++ codes "\n") (backing_more files more area few)

list_more : (files more : List FileRow) (areas : List Record) → Each (IsMapped files) areas → list_text (files ++ more) areas ≡ list_text files areas
list_more files more [] are = refl
list_more files more (area ∷ areas) are =
    ap (λ (first : List ℕ). first ++ list_text (files ++ more) areas) (text_more files more area are.0.object)
    ∙ ap (λ (rest : List ℕ). area_text files area ++ rest) (list_more files more areas are.1)

mapped_more : (files more : List FileRow) (areas : List Record) → Each (IsMapped files) areas → Each (IsMapped (files ++ more)) areas
mapped_more files more [] are = tt
mapped_more files more (area ∷ areas) are =
    let few = are.0.object in let both = length-append files more in (
      record {
        most = are.0.most;
        stays = are.0.stays;
        unsealed = are.0.unsealed;
        no_heap = are.0.no_heap;
        object = omega arith;
        above = are.0.above;
      },
      mapped_more files more areas are.1,
    )

-- a line without a name has the text of its area, whatever files there are
none_text : (files : List FileRow) (line : MapsLine) → area_text files (area_of 0 line) ≡ area_text [] (area_of 0 line)
unfolding area_text backing area_of
none_text files line = refl

-- and one with a file has that of its area over this file alone
file_backing : (files : List FileRow) (file : FileRow) (place : ℕ) (line : MapsLine) → slice_get files place ≡ Some file
    → backing files (area_of (place + 1) line) ≡ record { major = file.major; minor = file.minor; inode = file.inode; name = file.path }
unfolding backing area_of
file_backing files file place line found =
    let some : nat_eq (place + 1) 0 ≡ false = ne_eqb (place + 1) 0 (λ none. omega arith) in
    let at : slice_get files (place + 1 - 1) ≡ Some file = ap (slice_get files) (let e : place + 1 - 1 ≡ place = omega arith in e) ∙ found in
    rw (some, at) refl

own_text : (files : List FileRow) (file : FileRow) (place : ℕ) (line : MapsLine) → slice_get files place ≡ Some file
    → area_text files (area_of (place + 1) line) ≡ area_text (file ∷ []) (area_of 1 line)
unfolding area_text backing front_text range_text perms area_of
own_text files file place line found =
    ap (λ mapped. front_text (area_of 1 line) mapped ++ name_text (length (front_text (area_of 1 line) mapped)) mapped.name ++ codes "\n")
    (file_backing files file place line found)

list_push : (files : List FileRow) (areas : List Record) (area : Record) → list_text files (areas ++ area ∷ []) ≡ list_text files areas ++ area_text files area
list_push files [] area = append-nil (area_text files area)
list_push files (first ∷ areas) area = ap (λ (rest : List ℕ). area_text files first ++ rest) (list_push files areas area)
    ∙ sym (append_assoc (area_text files first) (list_text files areas) (area_text files area))

bytes_push : (done : List RawLine) (raw : RawLine) → flat_map line_bytes (done ++ raw ∷ []) ≡ flat_map line_bytes done ++ line_bytes raw
bytes_push [] raw = append-nil (line_bytes raw)
bytes_push (first ∷ done) raw = ap (λ (rest : List ℕ). line_bytes first ++ rest) (bytes_push done raw)
    ∙ sym (append_assoc (line_bytes first) (flat_map line_bytes done) (line_bytes raw))

push_each : (P : Record → Type 0) (xs : List Record) (x : Record) → Each P xs → P x → Each P (xs ++ x ∷ [])
push_each P [] x each p = (p, tt)
push_each P (first ∷ xs) x each p = (each.0, push_each P xs x each.1 p)

-- ---- lines

-- what was taken of these raw lines
pub record IsWalked (taken : Taken) (done : List RawLine) : Type 0 where
  pub files : AreFilesOf 3 taken.named taken.opened
  pub few : length taken.named ≤ 1024
  pub sound : IsSound (default_config []) taken.areas
  pub mapped : Each (IsMapped (files_taken taken)) taken.areas
  pub list : list_text (files_taken taken) taken.areas ≡ flat_map line_bytes done

area_mapped : (files : List FileRow) (object : ℕ) (line : MapsLine) → object ≤ length files → 65536 ≤ line.lo → IsMapped files (area_of object line)
unfolding area_of
area_mapped files object line few above = record {
  most = refl;
  stays = refl;
  unsealed = refl;
  no_heap = refl;
  object = few;
  above = omega arith;
}

-- with the area of a line
area_walked : (taken next : Taken) (own : List FileRow) (object : ℕ) (line : MapsLine) (raw : RawLine) (done : List RawLine) → IsWalked taken done
    → object ≤ length (files_taken taken) → area_text (files_taken taken) (area_of object line) ≡ area_text own (area_of (length own) line)
    → with_area taken own object line raw.text ≡ Ok next → IsWalked next (done ++ raw ∷ [])
area_walked taken next own object line raw done is few shows e =
    let found = bound_ok (areas_with taken.areas own object line raw.text) (λ areas. Ok (record taken { areas = areas })) next e in
    let are = ours taken.areas found.0 own object line raw.text found.1 in
    let files = files_taken taken in
    let same : area_text own (area_of (length own) line) ≡ line_bytes raw =
    (bytes_eq-Decides (area_text own (area_of (length own) line)) (line_bytes raw)).0 are.0.text in
    let after : Taken = record taken { areas = taken.areas ++ area_of object line ∷ [] } in
    let walked : IsWalked after (done ++ raw ∷ []) = record {
      files = is.files;
      few = is.few;
      sound = stays_sound [] taken.areas (area_of object line) is.sound are.0.follows;
      mapped = push_each (IsMapped files) taken.areas (area_of object line) is.mapped (area_mapped files object line few are.0.above);
      list = list_push files taken.areas (area_of object line)
          ∙ ap (λ (front : List ℕ). front ++ area_text files (area_of object line)) is.list
          ∙ ap (λ (last : List ℕ). flat_map line_bytes done ++ last) (shows ∙ same)
          ∙ sym (bytes_push done raw);
    } in
    subst (λ (t : Taken). IsWalked t (done ++ raw ∷ [])) (ap (λ (areas : List Record). record taken { areas = areas }) (sym are.1) ∙ same_ok (record taken { areas = found.0 }) next found.2) walked

-- with the next file
next_walked : (taken next : Taken) (line : MapsLine) (done : List RawLine) → IsWalked taken done → IsSingle line.name
    → with_next_file taken line ≡ Ok next → IsWalked next done × (length next.opened ≡ length taken.named + 1)
unfolding with_next_file
next_walked taken next line done is single e =
    let fd = 3 + length taken.named in
    let files = files_opened (file_text fd line) in
    let after : Taken = record taken { named = taken.named ++ line ∷ []; opened = taken.opened ++ files ∷ [] } in
    let tests = passed (nat_lt (length taken.named) 1024 && are_one_file fd files) after next e in
    let parts = and_parts (nat_lt (length taken.named) 1024) (are_one_file fd files) tests.0 in
    let room = ltb-true (length taken.named) 1024 parts.0 in
    let named = length-append taken.named (line ∷ []) in
    let opened = length-append taken.opened (files ∷ []) in
    let count = (files_count 3 taken.named taken.opened is.files).0 in
    let flat : all_files (taken.opened ++ files ∷ []) ≡ all_files taken.opened ++ files = flat_push taken.opened files in
    let walked : IsWalked after done × (length after.opened ≡ length taken.named + 1) = (
      record {
        files = push_files 3 taken.named taken.opened line files is.files (record { opened = refl; one = parts.1; single = single });
        few = omega arith;
        sound = is.sound;
        mapped = subst (λ (f : List FileRow). Each (IsMapped f) taken.areas) (sym flat) (mapped_more (files_taken taken) files taken.areas is.mapped);
        list = ap (λ (f : List FileRow). list_text f taken.areas) flat ∙ list_more (files_taken taken) files taken.areas is.mapped ∙ is.list;
      },
      omega arith,
    ) in
    subst (λ (t : Taken). IsWalked t done × (length t.opened ≡ length taken.named + 1)) tests.1 walked

-- with the file of a line
file_walked : (taken : Taken) (found : Taken × ℕ) (line : MapsLine) (done : List RawLine) → IsWalked taken done → IsSingle line.name
    → with_file_taken taken line ≡ Ok found → IsWalked found.0 done × (found.1 < length found.0.opened)
unfolding with_file_taken
file_walked taken found line done is single e = by_place (first_line_of_file taken.named line) refl e
  where
    by_place : (place : Option ℕ) → first_line_of_file taken.named line ≡ place → with_file_at taken place line ≡ Ok found
        → IsWalked found.0 done × (found.1 < length found.0.opened)
    by_place (Some place) at e =
        let within = (position-Some (λ other. same_file other line) taken.named place line at).0 in
        let count = (files_count 3 taken.named taken.opened is.files).0 in
        subst (λ (f : Taken × ℕ). IsWalked f.0 done × (f.1 < length f.0.opened)) (same_ok (taken, place) found e) (is, omega arith)
    by_place None at e =
        let next = bound_ok (with_next_file taken line) (λ next. Ok (next, length taken.named)) found e in
        let walked = next_walked taken next.0 line done is single next.1 in
        let more = walked.1 in
        subst (λ (f : Taken × ℕ). IsWalked f.0 done × (f.1 < length f.0.opened)) (same_ok (next.0, length taken.named) found next.2) (walked.0, omega arith)

-- with a line
line_walked : (taken next : Taken) (line : MapsLine) (raw : RawLine) (done : List RawLine) → IsWalked taken done → IsSingle line.name
    → with_line_taken taken line raw.text ≡ Ok next → IsWalked next (done ++ raw ∷ [])
unfolding with_line_taken
line_walked taken next line raw done is single e =
    cond_both (nat_eq (length line.name) 0) (with_area taken [] 0 line raw.text)
    (with_file_taken taken line >>= λ found. with_area found.0 (file_at found.0 found.1) (found.1 + 1) line raw.text)
    (λ read. read ≡ Ok next → IsWalked next (done ++ raw ∷ []))
    (λ _ e. area_walked taken next [] 0 line raw done is (omega arith) (none_text (files_taken taken) line) e)
    (λ _ e. let found = bound_ok (with_file_taken taken line) (λ found. with_area found.0 (file_at found.0 found.1) (found.1 + 1) line raw.text) next e in
    let walked = file_walked taken found.0 line done is single found.1 in
    let mid = found.0.0 in let place = found.0.1 in
    let within = walked.1 in
    let at = file_found 3 mid.named mid.opened place walked.0.files within in
    let counts = files_count 3 mid.named mid.opened walked.0.files in
    let few : place + 1 ≤ length (files_taken mid) = omega (arith, counts.0, counts.1) in
    let shows : area_text (files_taken mid) (area_of (place + 1) line) ≡ area_text (file_at mid place) (area_of (length (file_at mid place)) line) =
    own_text (files_taken mid) at.file place line at.found
    ∙ ap (λ (own : List FileRow). area_text own (area_of (length own) line)) (sym at.own) in
    area_walked mid next (file_at mid place) (place + 1) line raw done walked.0 few shows found.2)
    e

-- all lines
pub lines_walked : (taken last : Taken) (raws done : List RawLine) (lines : List MapsLine) → IsWalked taken done → AreReadAs raws lines
    → Each (λ raw. IsSingle raw.text) raws → with_lines taken raws lines ≡ Ok last → IsWalked last (done ++ raws)
lines_walked taken last [] done [] is are single e =
    subst (λ (t : Taken). IsWalked t (done ++ [])) (same_ok taken last e) (subst (IsWalked taken) (sym (append-nil done)) is)
lines_walked taken last (raw ∷ raws) done (line ∷ lines) is are single e = by_first
    (λ next walked. lines_walked next last raws (done ++ raw ∷ []) lines walked are.1 single.1) (with_line_taken taken line raw.text) refl e
  where
    by_first : ((next : Taken) → IsWalked next (done ++ raw ∷ []) → with_lines next raws lines ≡ Ok last → IsWalked last ((done ++ raw ∷ []) ++ raws))
        → (first : Result Taken Cause) → with_line_taken taken line raw.text ≡ first
        → at_line raw.number first (λ next. with_lines next raws lines) ≡ Ok last → IsWalked last (done ++ raw ∷ raws)
    by_first others (Ok next) first e =
        subst (IsWalked last) (append_assoc done (raw ∷ []) raws)
        (others next (line_walked taken next line raw done is (name_single raw.text line single.0 are.0.reads) first) e)
    by_first others (Err cause) first e = absurd (cc e)
lines_walked taken last [] done (line ∷ lines) is are single e = absurd are
lines_walked taken last (raw ∷ raws) done [] is are single e = absurd are

pub nothing_walked : IsWalked nothing_taken []
nothing_walked = record { files = tt; few = omega arith; sound = none_sound []; mapped = tt; list = refl }
