-- For `fields_of`: its goal.
use Rattle.std.proofs.Common.{ℕ, ◌≡◌, ◌≤◌, List, [], ◌∷◌, length, map, get_or, Bor, Result, refl, sym, subst, arith}
use Rattle.text_lexer.specs.declared.error.Cause.{Cause}
use Rattle.text_lexer.specs.Reading.{ReadsAs}
use Rattle.trace_reader.specs.declared.settings.FileFields.{FileFields}
use Rattle.trace_reader.specs.Settings.{file_fields, read_file_fields}
use Rattle.trace_reader.proofs.settings.fields_of.Goals as goal

-- six words and more are five fields and what begins a path
fields_at : (words : List (Bor (List ℕ))) (d : Bor (List ℕ)) → 6 ≤ length words
    → file_fields (get_or words 0 d).now (get_or words 1 d).now (get_or words 2 d).now (get_or words 3 d).now (get_or words 4 d).now
    ≡ read_file_fields (map (λ word. word.now) words)
unfolding read_file_fields
fields_at (v ∷ w ∷ x ∷ y ∷ z ∷ first ∷ more) d long = refl
fields_at (v ∷ w ∷ x ∷ y ∷ z ∷ []) d long = absurd (omega arith)
fields_at (v ∷ w ∷ x ∷ y ∷ []) d long = absurd (omega arith)
fields_at (v ∷ w ∷ x ∷ []) d long = absurd (omega arith)
fields_at (v ∷ w ∷ []) d long = absurd (omega arith)
fields_at (v ∷ []) d long = absurd (omega arith)
fields_at [] d long = absurd (omega arith)

pub returns-in-len6-up : goal.returns-in-len6-up
returns-in-len6-up c =
    subst (λ (read : Result FileFields Cause). ReadsAs (λ fields. fields) c.file_fields.result read)
    (fields_at c.args.words.now _ c.in-len6-up.len_at_least) c.file_fields.ensures
