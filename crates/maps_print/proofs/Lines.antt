-- For `push_line`: where an append that stops leaves a beginning of the line.
use Rattle.std.proofs.Common.{◌≡◌, ℕ, List, ◌++◌, codes, ◌-◌, length, length-append, arith, ap, ◌∙◌, subst}
use Rattle.mm_types.specs.declared.area.Record.{Record}
use Rattle.mm_types.specs.declared.files.FileRow.{FileRow}
use Rattle.mm_types.specs.MapsText.{Backing, backing, front_text, name_text, area_text}
use Rattle.maps_print.specs.Appends.{AppendsFront}
use Rattle.maps_print.proofs.Beginnings.{front_of_all, front_of_first, front_of_second}

-- what stands before the name has been appended, and the name begins at its end
pub record BeforeName (files : List FileRow) (area : Record) (old mid : List ℕ) (width : ℕ) (shown : List ℕ) : Type 0 where
  pub front : mid ≡ old ++ front_text area (backing files area)
  pub column : width ≡ length (front_text area (backing files area))
  pub name : shown ≡ (backing files area).name

-- the same of what was found that the area maps
pub before_name : (files : List FileRow) (area : Record) (old mid : List ℕ) (width : ℕ) (shown : List ℕ) (mapped : Backing)
    → mapped ≡ backing files area → mid ≡ old ++ front_text area mapped → width ≡ length mid - length old → shown ≡ mapped.name
    → BeforeName files area old mid width shown
before_name files area old mid width shown mapped found front wide name =
    let is_front : mid ≡ old ++ front_text area (backing files area) = front ∙ ap (λ m. old ++ front_text area m) found in
    record {
      front = is_front;
      column = let long = ap length is_front in let both = length-append old (front_text area (backing files area)) in omega arith;
      name = name ∙ ap (λ (m : Backing). m.name) found;
    }

-- the name itself is that of the line
names_line : (files : List FileRow) (area : Record) (old mid : List ℕ) (column : ℕ) (name : List ℕ)
    → BeforeName files area old mid column name
    → name_text column name ≡ name_text (length (front_text area (backing files area))) (backing files area).name
names_line files area old mid column name before =
    ap (λ column. name_text column name) before.column ∙ ap (name_text (length (front_text area (backing files area)))) before.name

-- a beginning of the name
pub front_in_name : (files : List FileRow) (area : Record) (old mid new : List ℕ) (column : ℕ) (name : List ℕ)
    → BeforeName files area old mid column name → AppendsFront mid new (name_text column name) → AppendsFront old new (area_text files area)
unfolding area_text
front_in_name files area old mid new column name before stopped = front_of_first old new _ (codes "\n")
    (front_of_second old mid new _ _ before.front
    (subst (λ (text : List ℕ). AppendsFront mid new text) (names_line files area old mid column name before) stopped))

-- the whole name, without the newline
pub front_after_name : (files : List FileRow) (area : Record) (old mid new : List ℕ) (column : ℕ) (name : List ℕ)
    → BeforeName files area old mid column name → new ≡ mid ++ name_text column name → AppendsFront old new (area_text files area)
unfolding area_text
front_after_name files area old mid new column name before adds = front_of_first old new _ (codes "\n")
    (front_of_second old mid new _ _ before.front (front_of_all mid new _ (adds ∙ ap (λ text. mid ++ text) (names_line files area old mid column name before))))
