-- For `retraced_traces_make_the_text`: files whose descriptors count from a number are found by them.
use Rattle.std.proofs.Common.{◌≡◌, ◌<◌, ◌+◌, ℕ, ℤ, pos, zero, suc, Bool, true, false, not, nat_lt, List, [], ◌∷◌, length, find, position, Some, None, refl, ap, ◌∙◌, subst, arith}
use Rattle.std.specs.Ordering.{int_eq}
use Rattle.std.specs.List.{position_or_len}
use Rattle.std.proofs.lemmas.Bool.{cond-true, cond-false, lt-ltb}
use Rattle.std.proofs.lemmas.Bool.Decides.{Decides-int_eq}
use Rattle.std.proofs.lemmas.Int.{ints}
use Rattle.mm_types.specs.declared.files.FileRow.{FileRow}

-- a file has this descriptor, and may be read and written
pub record IsOpenAs (number : ℕ) (file : FileRow) : Type 0 where
  pub fd : file.fd ≡ pos number
  pub read : file.read ≡ true
  pub write : file.write ≡ true

-- so have files, with the descriptors from this one on
abbrev pub AreOpenFrom : ℕ → List FileRow → Type 0
AreOpenFrom fd [] = Unit {0}
AreOpenFrom fd (file ∷ files) = IsOpenAs fd file × AreOpenFrom (fd + 1) files

-- whether a file has this descriptor
abbrev pub has_fd : ℕ → FileRow → Bool
has_fd fd file = int_eq file.fd (pos fd)

-- the file at a place is found by its descriptor
pub record IsFound (files : List FileRow) (number at : ℕ) : Type 0 where
  pub file : FileRow
  pub found : find (has_fd number) files ≡ Some file
  pub opened : IsOpenAs number file
  pub place : position_or_len (has_fd number) files ≡ at

same_number : (n : ℕ) → int_eq (pos n) (pos n) ≡ true
same_number n = (Decides-int_eq (pos n) (pos n)).1 refl

pub other_number : (m n : ℕ) → m < n → int_eq (pos m) (pos n) ≡ false
other_number m n less = not_from_yes (int_eq (pos m) (pos n)) (λ yes. let same : pos m ≡ pos n = (Decides-int_eq (pos m) (pos n)).0 yes in omega (arith, ints))
  where
    not_from_yes : (b : Bool) → (b ≡ true → ⊥) → b ≡ false
    not_from_yes true never = absurd (never refl)
    not_from_yes false never = refl

pub find_open : (files : List FileRow) (base place fd : ℕ) → base + place ≡ fd → AreOpenFrom base files → place < length files
    → IsFound files fd place
find_open [] base place fd is are within = absurd (omega arith)
find_open (file ∷ files) base zero fd is are within =
    let same : base ≡ fd = omega arith in
    let has : has_fd fd file ≡ true = ap (λ (n : ℤ). int_eq n (pos fd)) (are.0.fd ∙ ap pos same) ∙ same_number fd in
    record {
      file = file;
      found = cond-true (has_fd fd file) (Some file) (find (has_fd fd) files) has;
      opened = subst (λ (n : ℕ). IsOpenAs n file) same are.0;
      place = cond-false (not (has_fd fd file)) (1 + position_or_len (has_fd fd) files) 0 (ap not has);
    }
find_open (file ∷ files) base (suc place) fd is are within =
    let rest = find_open files (base + 1) place fd (omega arith) are.1 (omega arith) in
    let has : has_fd fd file ≡ false = ap (λ (n : ℤ). int_eq n (pos fd)) are.0.fd ∙ other_number base fd (omega arith) in
    record {
      file = rest.file;
      found = cond-false (has_fd fd file) (Some file) (find (has_fd fd) files) has ∙ rest.found;
      opened = rest.opened;
      place = cond-true (not (has_fd fd file)) (1 + position_or_len (has_fd fd) files) 0 (ap not has)
          ∙ ap (λ (n : ℕ). 1 + n) rest.place ∙ (let e : 1 + place ≡ suc place = omega arith in e);
    }

-- so it is for its place among the files
pub position_open : (files : List FileRow) (fd place : ℕ) → IsFound files fd place → place < length files
    → position (has_fd fd) files ≡ Some place
position_open files fd place is within =
    let at = is.place in
    cond-true (nat_lt (position_or_len (has_fd fd) files) (length files)) (Some (position_or_len (has_fd fd) files)) None
    (lt-ltb (position_or_len (has_fd fd) files) (length files) (omega arith))
    ∙ ap Some at
