-- For the functions that take lines: what was taken stays as it is to be.
use Rattle.std.proofs.Common.{◌≡◌, ◌<◌, ◌≤◌, ◌+◌, ℕ, Bool, true, false, ◌&&◌, if◌then◌else◌, nat_eq, nat_lt, nat_le, List, [], ◌∷◌, ◌++◌, length, All, Option, Some, None, Result, Ok, Err, refl, sym, subst, arith, length-append}
use Rattle.std.proofs.lemmas.Bool.{cond_both, and_parts, ltb-true, leb-true}
use Rattle.std.proofs.lemmas.List.Elements.{All-nil, All-cons, All-append}
use Rattle.std.proofs.lemmas.List.Quantifiers.{position-Some}
use Rattle.mm_types.specs.declared.area.Record.{Record}
use Rattle.mm_types.specs.declared.files.FileRow.{FileRow}
use Rattle.mm_types.specs.Packed.{is_valid}
use Rattle.mm_types.proofs.PackedWords.{tests_valid}
use Rattle.text_lexer.specs.declared.error.Cause.{Cause}
use Rattle.text_lexer.specs.declared.error.Cause.TheVariants.{NotOurs}
use Rattle.text_lexer.specs.Causes.{◌>>=◌}
use Rattle.maps_read.specs.declared.maps.MapsLine.{MapsLine}
use Rattle.maps_read.specs.FileLines.{same_file, first_line_of_file, file_text, files_opened, are_one_file}
use Rattle.maps_read.specs.Retracing.{Taken, nothing_taken, area_of, may_follow, is_text_of, is_ours, areas_with, with_area, with_next_file, with_file_at, with_file_taken, file_at, with_line_taken}
use Rattle.maps_read.specs.Internal.Taking.{IsPrinted, AreLinesTaken}

abbrev ok_of : {A E : Type 0} → A → Result A E
ok_of a = Ok a

pub same_ok : {A E : Type 0} (a b : A) → ok_of {A = A} {E = E} a ≡ ok_of {A = A} {E = E} b → a ≡ b
same_ok a b e = cc

-- a test that did not refuse
pub passed : {A : Type 0} (test : Bool) (a b : A) → (if test then ok_of {E = Cause} a else Err NotOurs) ≡ Ok b → (test ≡ true) × (a ≡ b)
passed true a b e = (refl, same_ok a b e)
passed false a b e = absurd (cc e)

-- a reading that goes on was good
pub bound_ok : {A B : Type 0} (read : Result A Cause) (f : A → Result B Cause) (b : B) → (read >>= f) ≡ Ok b
    → (a : A) × (read ≡ Ok a) × (f a ≡ Ok b)
bound_ok (Ok a) f b e = (a, refl, e)
bound_ok (Err cause) f b e = absurd (cc e)

-- what the tests of a line say
pub record AreOurs (areas : List Record) (files : List FileRow) (object : ℕ) (line : MapsLine) (bytes : List ℕ) : Type 0 where
  pub text : is_text_of files line bytes ≡ true
  pub follows : may_follow areas (area_of object line) ≡ true
  pub above : 65536 ≤ line.lo

pub ours : (areas more : List Record) (files : List FileRow) (object : ℕ) (line : MapsLine) (text : List ℕ)
    → areas_with areas files object line text ≡ Ok more
    → AreOurs areas files object line text × (more ≡ areas ++ area_of object line ∷ [])
unfolding areas_with is_ours
ours areas more files object line text e =
    let tests = passed (is_ours areas files object line text) (areas ++ area_of object line ∷ []) more e in
    let first = and_parts (is_text_of files line text) _ tests.0 in
    let second = and_parts (may_follow areas (area_of object line)) (nat_le 65536 line.lo) first.1 in
    (record { text = first.0; follows = second.0; above = leb-true 65536 line.lo second.1 }, sym tests.1)

area_printed : (areas : List Record) (files : List FileRow) (object : ℕ) (line : MapsLine) (text : List ℕ)
    → AreOurs areas files object line text → object ≤ 1024 → IsPrinted (area_of object line)
unfolding may_follow area_of
area_printed areas files object line text are few =
    let above = are.above in
    record {
      valid = tests_valid (area_of object line) (and_parts (is_valid (area_of object line)) _ are.follows).0;
      above = omega arith;
      object = few;
    }

areas_kept : (areas more : List Record) (files : List FileRow) (object : ℕ) (line : MapsLine) (text : List ℕ)
    → areas_with areas files object line text ≡ Ok more → object ≤ 1024 → All IsPrinted areas → All IsPrinted more
areas_kept areas more files object line text e few printed =
    let are = ours areas more files object line text e in
    subst (All IsPrinted) (sym are.1) (All-append IsPrinted areas (area_of object line ∷ []) printed
    (All-cons IsPrinted (area_of object line) [] (area_printed areas files object line text are.0 few) (All-nil IsPrinted)))

area_kept : (taken next : Taken) (files : List FileRow) (object : ℕ) (line : MapsLine) (text : List ℕ) → AreLinesTaken taken → object ≤ 1024
    → with_area taken files object line text ≡ Ok next → AreLinesTaken next
area_kept taken next files object line text is few e =
    let found = bound_ok (areas_with taken.areas files object line text) (λ areas. Ok (record taken { areas = areas })) next e in
    subst AreLinesTaken (same_ok (record taken { areas = found.0 }) next found.2) (record {
      few = is.few;
      both = is.both;
      one = is.one;
      areas = areas_kept taken.areas found.0 files object line text found.1 few is.areas;
    })

one_file : (fd : ℕ) (files : List FileRow) → are_one_file fd files ≡ true → length files ≡ 1
one_file fd [] e = absurd (cc e)
one_file fd (file ∷ []) e = refl
one_file fd (file ∷ other ∷ files) e = absurd (cc e)

-- the next file: one more
pub next_file_kept : (taken next : Taken) (line : MapsLine) → AreLinesTaken taken → with_next_file taken line ≡ Ok next
    → AreLinesTaken next × (length next.opened ≡ length taken.named + 1)
unfolding with_next_file
next_file_kept taken next line is e =
    let fd = 3 + length taken.named in
    let files = files_opened (file_text fd line) in
    let after : Taken = record taken { named = taken.named ++ line ∷ []; opened = taken.opened ++ files ∷ [] } in
    let tests = passed (nat_lt (length taken.named) 1024 && are_one_file fd files) after next e in
    let parts = and_parts (nat_lt (length taken.named) 1024) (are_one_file fd files) tests.0 in
    let room = ltb-true (length taken.named) 1024 parts.0 in
    let both = is.both in
    let named = length-append taken.named (line ∷ []) in
    let opened = length-append taken.opened (files ∷ []) in
    let kept : AreLinesTaken after × (length after.opened ≡ length taken.named + 1) = (
      record {
        few = omega arith;
        both = omega arith;
        one = All-append (λ f. length f ≡ 1) taken.opened (files ∷ []) is.one
            (All-cons (λ f. length f ≡ 1) files [] (one_file fd files parts.1) (All-nil (λ f. length f ≡ 1)));
        areas = is.areas;
      },
      omega arith,
    ) in
    subst (λ (t : Taken). AreLinesTaken t × (length t.opened ≡ length taken.named + 1)) tests.1 kept

-- the file of a line has a place
pub file_kept : (taken : Taken) (found : Taken × ℕ) (line : MapsLine) → AreLinesTaken taken → with_file_taken taken line ≡ Ok found
    → AreLinesTaken found.0 × (found.1 < length found.0.opened)
unfolding with_file_taken
file_kept taken found line is e = by_place (first_line_of_file taken.named line) refl e
  where
    by_place : (place : Option ℕ) → first_line_of_file taken.named line ≡ place → with_file_at taken place line ≡ Ok found
        → AreLinesTaken found.0 × (found.1 < length found.0.opened)
    by_place (Some place) at e =
        let within = (position-Some (λ other. same_file other line) taken.named place line at).0 in
        let both = is.both in
        subst (λ (f : Taken × ℕ). AreLinesTaken f.0 × (f.1 < length f.0.opened)) (same_ok (taken, place) found e) (is, omega arith)
    by_place None at e =
        let next = bound_ok (with_next_file taken line) (λ next. Ok (next, length taken.named)) found e in
        let kept = next_file_kept taken next.0 line is next.1 in
        let more = kept.1 in
        subst (λ (f : Taken × ℕ). AreLinesTaken f.0 × (f.1 < length f.0.opened)) (same_ok (next.0, length taken.named) found next.2) (kept.0, omega arith)

-- a line
pub line_kept : (taken next : Taken) (line : MapsLine) (text : List ℕ) → AreLinesTaken taken → with_line_taken taken line text ≡ Ok next → AreLinesTaken next
unfolding with_line_taken
line_kept taken next line text is e =
    cond_both (nat_eq (length line.name) 0) (with_area taken [] 0 line text)
    (with_file_taken taken line >>= λ found. with_area found.0 (file_at found.0 found.1) (found.1 + 1) line text)
    (λ read. read ≡ Ok next → AreLinesTaken next)
    (λ _ e. area_kept taken next [] 0 line text is (omega arith) e)
    (λ _ e. let found = bound_ok (with_file_taken taken line) (λ found. with_area found.0 (file_at found.0 found.1) (found.1 + 1) line text) next e in
    let kept = file_kept taken found.0 line is found.1 in
    let place = kept.1 in let both = kept.0.both in let few = kept.0.few in
    area_kept found.0.0 next (file_at found.0.0 found.0.1) (found.0.1 + 1) line text kept.0 (omega arith) found.2)
    e

pub nothing_kept : AreLinesTaken nothing_taken
nothing_kept = record { few = omega arith; both = refl; one = All-nil (λ f. length f ≡ 1); areas = All-nil IsPrinted }
