-- For the table of words over this state: the words of a state, as they lie in a table: which word is which, and what a change of one is.
use Rattle.std.proofs.Common.{ℕ, zero, suc, ◌≡◌, ◌<◌, ◌+◌, ◌*◌, ◌-◌, ◌∙◌, refl, ap, List, [], ◌∷◌, ◌++◌, length, get_or, set, arith}
use Rattle.std.proofs.lemmas.List.{get_or_append_left, get_or-append_right}
use Rattle.lock_core.specs.declared.stage.SlotState.{SlotState}
use Rattle.lock_core.specs.Core.{slot_at, count_at}
use Rattle.lock_core.specs.Words.{line, lines, flat}

-- each list has this length
unfoldable pub AllWide : ℕ → List (List ℕ) → Type 0
AllWide width lists = (k : ℕ) → k < length lists → length (get_or lists k []) ≡ width

wide_rest : (width : ℕ) (words : List ℕ) (lists : List (List ℕ)) → AllWide width (words ∷ lists) → AllWide width lists
unfolding AllWide
wide_rest width words lists wide k within = wide (suc k) (omega arith)

wide_first : (width : ℕ) (words : List ℕ) (lists : List (List ℕ)) → AllWide width (words ∷ lists) → length words ≡ width
unfolding AllWide
wide_first width words lists wide = wide 0 (omega arith)

-- a word by its list and its place in it
pub flat-get : (width : ℕ) (lists : List (List ℕ)) → AllWide width lists → (k i : ℕ) → k < length lists → i < width
    → get_or (flat lists) (width * k + i) 0 ≡ get_or (get_or lists k []) i 0
flat-get width [] wide k i within inside = absurd (omega arith)
flat-get width (words ∷ lists) wide zero i within inside =
    let wide_one = wide_first width words lists wide in
    let place : width * 0 + i ≡ i = omega arith in
    ap (λ n. get_or (words ++ flat lists) n 0) place ∙ get_or_append_left words (flat lists) 0 i (omega arith)
flat-get width (words ∷ lists) wide (suc k) i within inside =
    let wide_one = wide_first width words lists wide in
    let place : (width * suc k + i) - length words ≡ width * k + i = omega arith in
    get_or-append_right words (flat lists) (length words) (width * suc k + i) 0 refl (omega arith)
    ∙ ap (λ n. get_or (flat lists) n 0) place ∙ flat-get width lists (wide_rest width words lists wide) k i (omega arith) inside

set-append_left : (xs ys : List ℕ) (i x : ℕ) → i < length xs → set (xs ++ ys) i x ≡ set xs i x ++ ys
set-append_left [] ys i x within = absurd (omega arith)
set-append_left (y ∷ xs) ys zero x within = refl
set-append_left (y ∷ xs) ys (suc i) x within = ap (λ (l : List ℕ). y ∷ l) (set-append_left xs ys i x (omega arith))

set-append_right : (xs ys : List ℕ) (i x : ℕ) → set (xs ++ ys) (length xs + i) x ≡ xs ++ set ys i x
set-append_right [] ys i x = ap (λ n. set ys n x) (let e : 0 + i ≡ i = omega arith in e)
set-append_right (y ∷ xs) ys i x =
    ap (λ n. set (y ∷ xs ++ ys) n x) (let e : suc (length xs) + i ≡ suc (length xs + i) = omega arith in e)
    ∙ ap (λ (l : List ℕ). y ∷ l) (set-append_right xs ys i x)

-- a word that changes is a change of its list
pub flat-set : (width : ℕ) (lists : List (List ℕ)) → AllWide width lists → (k i x : ℕ) → k < length lists → i < width
    → set (flat lists) (width * k + i) x ≡ flat (set lists k (set (get_or lists k []) i x))
flat-set width [] wide k i x within inside = absurd (omega arith)
flat-set width (words ∷ lists) wide zero i x within inside =
    let wide_one = wide_first width words lists wide in
    let place : width * 0 + i ≡ i = omega arith in
    ap (λ n. set (words ++ flat lists) n x) place ∙ set-append_left words (flat lists) i x (omega arith)
flat-set width (words ∷ lists) wide (suc k) i x within inside =
    let wide_one = wide_first width words lists wide in
    let place : width * suc k + i ≡ length words + (width * k + i) = omega arith in
    ap (λ n. set (words ++ flat lists) n x) place ∙ set-append_right words (flat lists) (width * k + i) x
    ∙ ap (λ (l : List ℕ). words ++ l) (flat-set width lists (wide_rest width words lists wide) k i x (omega arith) inside)

pub lines-length : (slots : List SlotState) (counts : List ℕ) → length counts ≡ length slots → length (lines slots counts) ≡ length slots
lines-length [] [] same = refl
lines-length [] (count ∷ counts) same = refl
lines-length (slot ∷ slots) [] same = absurd (omega arith)
lines-length (slot ∷ slots) (count ∷ counts) same = ap suc (lines-length slots counts (omega arith))

-- the line of a slot
pub lines-get : (slots : List SlotState) (counts : List ℕ) (k : ℕ) → length counts ≡ length slots → k < length slots
    → get_or (lines slots counts) k [] ≡ line (slot_at slots k) (count_at counts k)
lines-get [] counts k same within = absurd (omega arith)
lines-get (slot ∷ slots) [] k same within = absurd (omega arith)
lines-get (slot ∷ slots) (count ∷ counts) zero same within = refl
lines-get (slot ∷ slots) (count ∷ counts) (suc k) same within = lines-get slots counts k (omega arith) (omega arith)

-- a slot that changes with its count is a change of its line
pub lines-set : (slots : List SlotState) (counts : List ℕ) (k : ℕ) (slot : SlotState) (count : ℕ) → length counts ≡ length slots
    → set (lines slots counts) k (line slot count) ≡ lines (set slots k slot) (set counts k count)
lines-set [] counts k slot count same = refl
lines-set (first ∷ slots) [] k slot count same = absurd (omega arith)
lines-set (first ∷ slots) (one ∷ counts) zero slot count same = refl
lines-set (first ∷ slots) (one ∷ counts) (suc k) slot count same = ap (λ (l : List (List ℕ)). line first one ∷ l) (lines-set slots counts k slot count (omega arith))
