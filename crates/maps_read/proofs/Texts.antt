-- For the functions that print and compare: bytes with a newline at their end, and what was written.
use Rattle.std.proofs.Common.{◌≡◌, ◌-◌, ℕ, Bool, true, false, List, [], ◌∷◌, ◌++◌, length, take, drop, bytes_eq, Option, Some, Result, Ok, Err, OnOk, refl, sym, ap, ◌∙◌, subst, append_assoc, arith, take-append-drop, length-append}
use Rattle.std.proofs.Math.Seq.{take-append_seam, drop-append_seam}
use Rattle.std.specs.declared.alloc.AllocError.{AllocError}
use Rattle.std.specs.Bool.{Decides}
use Rattle.std.specs.Fmt.{AppendsText}
use Rattle.std.proofs.lemmas.Bool.Decides.{same_from_decides}
use Rattle.std.proofs.lemmas.Slice.Eq.{bytes_eq-Decides}

-- what was written is this text
pub wrote : (answer : Result (Unit {0}) AllocError) (old new text : List ℕ) (output : Option (List ℕ))
    → OnOk answer (AppendsText old new output) → output ≡ Some text → OnOk answer (new ≡ old ++ text)
wrote (Ok done) old new text output appended is = subst (AppendsText old new) is appended
wrote (Err error) old new text output appended is = tt

-- and then another
pub wrote_both : (answer : Result (Unit {0}) AllocError) (old mid new first second text : List ℕ) → mid ≡ old ++ first
    → OnOk answer (new ≡ mid ++ second) → text ≡ first ++ second → OnOk answer (new ≡ old ++ text)
wrote_both (Ok done) old mid new first second text before after is = after ∙ ap (λ (front : List ℕ). front ++ second) before
    ∙ append_assoc old first second ∙ ap (λ (t : List ℕ). old ++ t) (sym is)
wrote_both (Err error) old mid new first second text before after is = tt

-- a text without the byte at its end is this one where the whole is this one and that byte
same_ends : (shown text : List ℕ) (c : ℕ) → shown ++ c ∷ [] ≡ text ++ c ∷ [] → shown ≡ text
same_ends shown text c e =
    let both : length shown ≡ length text = omega (arith, ap length e, length-append shown (c ∷ []), length-append text (c ∷ [])) in
    sym (take-append_seam shown (c ∷ [])) ∙ ap (take (length shown)) e ∙ ap (λ (n : ℕ). take n (text ++ c ∷ [])) both ∙ take-append_seam text (c ∷ [])

pub stripped : (printed shown text : List ℕ) → bytes_eq (drop (length printed - 1) printed) (10 ∷ []) ≡ true
    → shown ≡ take (length printed - 1) printed → bytes_eq shown text ≡ bytes_eq printed (text ++ 10 ∷ [])
stripped printed shown text ends is =
    let last : drop (length printed - 1) printed ≡ 10 ∷ [] = (bytes_eq-Decides (drop (length printed - 1) printed) (10 ∷ [])).0 ends in
    let whole : printed ≡ shown ++ 10 ∷ [] = sym (take-append-drop (length printed - 1) printed)
    ∙ ap (λ (rest : List ℕ). take (length printed - 1) printed ++ rest) last ∙ ap (λ (front : List ℕ). front ++ 10 ∷ []) (sym is) in
    let first = bytes_eq-Decides shown text in
    let second = bytes_eq-Decides printed (text ++ 10 ∷ []) in
    let decides : Decides (bytes_eq printed (text ++ 10 ∷ [])) (shown ≡ text) =
    (λ yes. same_ends shown text 10 (sym whole ∙ second.0 yes), λ same. second.1 (whole ∙ ap (λ (front : List ℕ). front ++ 10 ∷ []) same)) in
    same_from_decides (bytes_eq shown text) (bytes_eq printed (text ++ 10 ∷ [])) first decides

pub not_stripped : (printed text : List ℕ) → bytes_eq (drop (length printed - 1) printed) (10 ∷ []) ≡ false
    → false ≡ bytes_eq printed (text ++ 10 ∷ [])
not_stripped printed text ends = by_test (bytes_eq printed (text ++ 10 ∷ [])) refl
  where
    by_test : (test : Bool) → bytes_eq printed (text ++ 10 ∷ []) ≡ test → false ≡ test
    by_test false e = refl
    by_test true e =
        let same : printed ≡ text ++ 10 ∷ [] = (bytes_eq-Decides printed (text ++ 10 ∷ [])).0 e in
        let n : length printed - 1 ≡ length text = omega (arith, ap length same, length-append text (10 ∷ [])) in
        let last : drop (length printed - 1) printed ≡ 10 ∷ [] =
        ap (λ (k : ℕ). drop k printed) n ∙ ap (drop (length text)) same ∙ drop-append_seam text (10 ∷ []) in
        absurd (cc (ends, (bytes_eq-Decides (drop (length printed - 1) printed) (10 ∷ [])).1 last))
