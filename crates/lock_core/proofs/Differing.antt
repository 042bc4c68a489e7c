-- For `first_difference`: the first place at which two lists of rows differ.
use Rattle.std.proofs.Common.{ℕ, zero, suc, ◌≡◌, ◌≢◌, ◌<◌, ◌≤◌, ◌+◌, ◌∙◌, refl, sym, ap, Bool, true, false, nat_eq, nat_lt, List, [], ◌∷◌, length, map, take, get_or, Some, None, arith, inl, inr, if◌then◌else◌}
use Rattle.std.specs.Option.{option_map}
use Rattle.std.specs.Cmp.Lexicographic.{pointwise, same_text}
use Rattle.std.proofs.lemmas.Bool.{cases_Bool, cond-true, cond-false}
use Rattle.std.proofs.lemmas.Bool.Decides.{nat_tests}
use Rattle.std.proofs.lemmas.List.{get_or-map, length-map, take_more}
use Rattle.mm_types.specs.declared.area.Record.{Record}
use Rattle.mm_types.specs.Packed.{packed}
use Rattle.lock_core.specs.Refusals.{first_difference}
use Rattle.lock_core.proofs.Weighing.{row_is_itself}

-- two lists that begin with one row
same_first : (row other : List ℕ) (rows others : List (List ℕ)) → row ≡ other
    → first_difference (row ∷ rows) (other ∷ others) ≡ option_map (λ place. place + 1) (first_difference rows others)
same_first row other rows others same =
    cond-true (pointwise nat_eq row other) (option_map (λ place. place + 1) (first_difference rows others)) (Some 0)
    (ap (pointwise nat_eq row) (sym same) ∙ row_is_itself row)

-- two rows that differ, after rows that do not
pub differs_at : (rows others : List (List ℕ)) (i : ℕ) → i < length rows → i < length others → take i rows ≡ take i others
    → get_or rows i [] ≢ get_or others i [] → first_difference rows others ≡ Some i
differs_at [] others i within inside same apart = absurd (omega arith)
differs_at (row ∷ rows) [] i within inside same apart = absurd (omega arith)
differs_at (row ∷ rows) (other ∷ others) zero within inside same apart = elim (cases_Bool (pointwise nat_eq row other)) [
  | inl alike ↦ absurd (apart (same_text row other (sym alike)))
  | inr unlike ↦ cond-false (pointwise nat_eq row other) (option_map (λ place. place + 1) (first_difference rows others)) (Some 0) unlike
]
differs_at (row ∷ rows) (other ∷ others) (suc i) within inside same apart =
    let first : row ≡ other = cc in
    let rest : take i rows ≡ take i others = cc in
    same_first row other rows others first
    ∙ ap (option_map (λ place. place + 1)) (differs_at rows others i (omega arith) (omega arith) rest apart)
    ∙ ap Some (let e : i + 1 ≡ suc i = omega arith in e)

-- a row where the other list has none left
pub longer_at : (rows others : List (List ℕ)) (i : ℕ) → i < length rows → length others ≤ i → take i rows ≡ take i others
    → first_difference rows others ≡ Some i
longer_at [] others i within past same = absurd (omega arith)
longer_at (row ∷ rows) [] zero within past same = refl
longer_at (row ∷ rows) [] (suc i) within past same = absurd (cc)
longer_at (row ∷ rows) (other ∷ others) zero within past same = absurd (omega arith)
longer_at (row ∷ rows) (other ∷ others) (suc i) within past same =
    let first : row ≡ other = cc in
    let rest : take i rows ≡ take i others = cc in
    same_first row other rows others first
    ∙ ap (option_map (λ place. place + 1)) (longer_at rows others i (omega arith) (omega arith) rest)
    ∙ ap Some (let e : i + 1 ≡ suc i = omega arith in e)

some_left : (count : ℕ) → nat_lt 0 (suc count) ≡ true
some_left count = grind (arith, nat_tests)

less_suc : (a b : ℕ) → nat_lt (suc a) (suc b) ≡ nat_lt a b
less_suc a b = grind (arith, nat_tests)

-- where all rows stand at the head of the other list
pub ends_at : (rows others : List (List ℕ)) → take (length rows) rows ≡ take (length rows) others
    → first_difference rows others ≡ (if nat_lt (length rows) (length others) then Some (length rows) else None)
ends_at [] [] same = refl
ends_at [] (other ∷ others) same = sym (cond-true (nat_lt 0 (suc (length others))) (Some 0) None (some_left (length others)))
ends_at (row ∷ rows) [] same = absurd (cc)
ends_at (row ∷ rows) (other ∷ others) same =
    let first : row ≡ other = cc in
    let rest : take (length rows) rows ≡ take (length rows) others = cc in
    same_first row other rows others first
    ∙ ap (option_map (λ place. place + 1)) (ends_at rows others rest)
    ∙ more (nat_lt (length rows) (length others)) (length rows)
    ∙ ap (λ (b : Bool). if b then Some (suc (length rows)) else None) (sym (less_suc (length rows) (length others)))
  where
    more : (b : Bool) (n : ℕ) → option_map (λ place. place + 1) (if b then Some n else None) ≡ (if b then Some (suc n) else None)
    more true n = ap Some (let e : n + 1 ≡ suc n = omega arith in e)
    more false n = refl

-- the words of an area that is not the row's
pub differs_area : (rows : List (List ℕ)) (areas : List Record) (i : ℕ) (d : Record) (words : List ℕ) → i < length rows → i < length areas
    → words ≡ packed (get_or areas i d) → words ≢ get_or rows i [] → take i rows ≡ take i (map packed areas)
    → first_difference rows (map packed areas) ≡ Some i
differs_area rows areas i d words within inside is apart same =
    let found = get_or-map packed areas i d [] inside in
    differs_at rows (map packed areas) i within (omega (arith, inside, length-map areas packed)) same
    (λ e. apart (is ∙ sym found ∙ sym e))

-- the words of an area that is the row's
pub agrees_area : (rows : List (List ℕ)) (areas : List Record) (i : ℕ) (d : Record) (words : List ℕ) → i < length rows → i < length areas
    → words ≡ packed (get_or areas i d) → words ≡ get_or rows i [] → take i rows ≡ take i (map packed areas)
    → take (i + 1) rows ≡ take (i + 1) (map packed areas)
agrees_area rows areas i d words within inside is same_words same =
    let found = get_or-map packed areas i d [] inside in
    let one = take_more rows i [] within in
    let two = take_more (map packed areas) i [] (omega (arith, inside, length-map areas packed)) in
    let last : get_or rows i [] ≡ get_or (map packed areas) i [] = sym same_words ∙ is ∙ sym found in
    cc
