-- For `has_distinct_fds`: whether two files of a list share a descriptor, by the files before each.
use Rattle.std.proofs.Common.{ℕ, ◌+◌, ◌≤◌, ◌≡◌, ◌≢◌, ◌<◌, ◌∙◌, sym, ap, subst, Bool, false, IsTrue, List, [], ◌∷◌, ◌++◌, length, get_or, take, AllPairs, Any, arith}
use Rattle.std.proofs.lemmas.Bool.{false≢true}
use Rattle.std.proofs.lemmas.List.{get_or-take, get_or_default, length-take-le, take_all, take_more}
use Rattle.std.proofs.lemmas.List.Quantifiers.{all_pairs_push}
use Rattle.mm_types.specs.declared.files.FileRow.{FileRow}

-- a descriptor that an earlier file has is there twice
pub found_twice : (files : List FileRow) (place : ℕ) (file : FileRow) → place < length files → file ≡ get_or files place file
    → Any (λ f. f.fd ≡ file.fd) (take place files) → AllPairs (λ a b. a.fd ≢ b.fd) files → ⊥
found_twice files place file below read found apart =
    let within : found.0 < place = omega (arith, length-take-le place files, found.2) in
    apart found.0 place file within below
    (ap (λ (f : FileRow). f.fd) (get_or_default files found.0 file found.1 (omega arith) ∙ sym (get_or-take place files found.0 found.1 within) ∙ found.3)
    ∙ found.4 ∙ ap (λ (f : FileRow). f.fd) read)

-- a descriptor that no earlier file has keeps them apart
pub more_distinct : (files : List FileRow) (place : ℕ) (file : FileRow) (found : Bool) → place < length files → file ≡ get_or files place file
    → found ≡ false → (Any (λ f. f.fd ≡ file.fd) (take place files) → IsTrue found)
    → AllPairs (λ a b. a.fd ≢ b.fd) (take place files) → AllPairs (λ a b. a.fd ≢ b.fd) (take (place + 1) files)
more_distinct files place file found below read absent seen apart =
    let more : AllPairs (λ (a b : FileRow). a.fd ≢ b.fd) (take place files ++ file ∷ [])
    = all_pairs_push (λ (a b : FileRow). a.fd ≢ b.fd) (take place files) file apart
    (λ k d within same. false≢true (subst IsTrue absent (seen (k, get_or (take place files) k d, within, get_or_default (take place files) k (get_or (take place files) k d) d within, same)))) in
    subst (λ (l : List FileRow). AllPairs (λ (a b : FileRow). a.fd ≢ b.fd) l) (ap (λ (f : FileRow). take place files ++ f ∷ []) read ∙ sym (take_more files place file below)) more

-- at the end of the list all are apart
pub whole_distinct : (files : List FileRow) (place : ℕ) → length files ≤ place
    → AllPairs (λ a b. a.fd ≢ b.fd) (take place files) → AllPairs (λ a b. a.fd ≢ b.fd) files
whole_distinct files place above apart = subst (λ (l : List FileRow). AllPairs (λ (a b : FileRow). a.fd ≢ b.fd) l) (take_all place files above) apart
