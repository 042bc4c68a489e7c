-- What was read of a text, and where it differs from what it should be.
use Rattle.std.proofs.Common.{ℕ, ◌≡◌, ◌+◌, ◌<◌, ◌≤◌, ◌∙◌, sym, ap, subst, List, [], ◌∷◌, ◌++◌, append_assoc, append-nil, length, take, drop, get_or, arith, inl, inr}
use Rattle.std.proofs.lemmas.Bool.{cases_lt}
use Rattle.std.proofs.lemmas.List.{take_more, take-append-drop}
use Rattle.std.proofs.lemmas.List.Concat.{flat_map-append}
use Rattle.mm_types.specs.declared.area.Record.{Record}
use Rattle.mm_types.specs.declared.files.FileRow.{FileRow}
use Rattle.mm_types.specs.MapsText.{area_text, list_text}
use Rattle.output.specs.declared.given.Given.{Given}
use Rattle.output.specs.TextLines.{text_lines}
use Rattle.output.specs.Internal.Printed.{IsLine}
use Rattle.output.specs.Internal.Judging.{HasRead, Differs}
use Rattle.output.proofs.TextLines.{whole_none, whole_more, count_more, agree_front, agree_behind, first_agrees}

-- before the first line
pub read_none : (text : List ℕ) (given : Given) → given.rest.now ≡ text → given.line ≡ 0 → HasRead text [] given
unfolding text_lines
read_none text given all none = record { is = sym all; whole = whole_none; counted = none }

-- after one more line
pub read_more : (text before line : List ℕ) (old new : Given) → HasRead text before old → IsLine line
    → old.rest.now ≡ line ++ new.rest.now → new.line ≡ old.line + 1 → HasRead text (before ++ line) new
read_more text before line old new read is split counted = record {
  is = read.is ∙ ap (λ (t : List ℕ). before ++ t) split ∙ sym (append_assoc before line new.rest.now);
  whole = whole_more before line read.whole is;
  counted = counted ∙ ap (λ (n : ℕ). n + 1) read.counted ∙ sym (count_more before line read.whole is);
}

-- a text that begins with what was read agrees with it so far
pub read_agrees : (text before rest : List ℕ) (given : Given) (count : ℕ) → HasRead text before given → count ≤ given.line
    → take count (text_lines (before ++ rest)) ≡ take count (text_lines text)
read_agrees text before rest given count read within =
    agree_front before rest given.rest.now count read.whole (omega (arith, read.counted))
    ∙ ap (λ (t : List ℕ). take count (text_lines t)) (sym read.is)

-- what stands behind agrees where the whole does
pub read_behind : (text before rest : List ℕ) (given : Given) (more : ℕ) → HasRead text before given
    → take (given.line + more) (text_lines (before ++ rest)) ≡ take (given.line + more) (text_lines text)
    → take more (text_lines rest) ≡ take more (text_lines given.rest.now)
read_behind text before rest given more read agree =
    agree_behind before rest given.rest.now more read.whole
    (subst (λ (n : ℕ). take (n + more) (text_lines (before ++ rest)) ≡ take (n + more) (text_lines (before ++ given.rest.now))) read.counted
    (agree ∙ ap (λ (t : List ℕ). take (given.line + more) (text_lines t)) read.is))

-- the next line is another than it should be
pub differs_line : (text before line : List ℕ) (given : Given) → HasRead text before given → IsLine line
    → ((rest : List ℕ) → given.rest.now ≡ line ++ rest → ⊥) → Differs text (before ++ line) (given.line + 1)
differs_line text before line given read is other = record {
  before = λ count rest below.
      ap (λ (t : List ℕ). take count (text_lines t)) (append_assoc before line rest)
      ∙ read_agrees text before (line ++ rest) given count read (omega arith);
  here = λ rest agree.
      let behind : take 1 (text_lines (line ++ rest)) ≡ take 1 (text_lines given.rest.now) =
      read_behind text before (line ++ rest) given 1 read
      (ap (λ (t : List ℕ). take (given.line + 1) (text_lines t)) (sym (append_assoc before line rest)) ∙ agree) in
      let found = first_agrees line rest given.rest.now 0 is behind in
      other found.0 found.1;
}

-- it differs from what begins so, too
pub differs_more : (text wanted more : List ℕ) (line : ℕ) → Differs text wanted line → Differs text (wanted ++ more) line
differs_more text wanted more line differs = record {
  before = λ count rest below.
      ap (λ (t : List ℕ). take count (text_lines t)) (append_assoc wanted more rest) ∙ differs.before count (more ++ rest) below;
  here = λ rest agree.
      differs.here (more ++ rest) (ap (λ (t : List ℕ). take line (text_lines t)) (sym (append_assoc wanted more rest)) ∙ agree);
}

-- after the lines of one more area
pub areas_more : (files : List FileRow) (areas : List Record) (place : ℕ) (d : Record) (before : List ℕ) → place < length areas
    → (before ++ list_text files (take place areas)) ++ area_text files (get_or areas place d) ≡ before ++ list_text files (take (place + 1) areas)
areas_more files areas place d before within =
    let area : Record = get_or areas place d in
    append_assoc before (list_text files (take place areas)) (area_text files area)
    ∙ ap (λ (t : List ℕ). before ++ t)
    (ap (λ (t : List ℕ). list_text files (take place areas) ++ t) (sym (append-nil (area_text files area)))
    ∙ sym (flat_map-append (area_text files) (take place areas) (area ∷ []))
    ∙ ap (list_text files) (sym (take_more areas place d within)))

-- a difference in the lines of the first areas is one in those of all
pub differs_areas : (text before : List ℕ) (files : List FileRow) (areas : List Record) (place line : ℕ)
    → Differs text (before ++ list_text files (take place areas)) line → Differs text (before ++ list_text files areas) line
differs_areas text before files areas place line differs =
    let rest : List Record = drop place areas in
    let whole : (before ++ list_text files (take place areas)) ++ list_text files rest ≡ before ++ list_text files areas =
    append_assoc before (list_text files (take place areas)) (list_text files rest)
    ∙ ap (λ (t : List ℕ). before ++ t)
    (sym (flat_map-append (area_text files) (take place areas) rest) ∙ ap (list_text files) (take-append-drop place areas)) in
    subst (λ (t : List ℕ). Differs text t line) whole
    (differs_more text (before ++ list_text files (take place areas)) (list_text files rest) line differs)

-- a difference comes behind what agrees
pub differs_behind : (text before more : List ℕ) (given : Given) (line : ℕ) → HasRead text before given → Differs text (before ++ more) line
    → given.line < line
differs_behind text before more given line read differs = elim (cases_lt given.line line) [
  | inl below ↦ below
  | inr past ↦
      absurd (differs.here []
      (ap (λ (t : List ℕ). take line (text_lines t)) (append-nil (before ++ more)) ∙ read_agrees text before more given line read past))
]
