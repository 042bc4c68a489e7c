-- For `read_words`, `print_bits` and the laws of a sound table: a name, and a bit, tells the row.
use Rattle.std.proofs.Common.{ℕ, ◌≡◌, ◌≢◌, ◌∙◌, sym, ap, refl, suc, zero, Bool, true, List, [], ◌∷◌, get_or, nat_eq, bytes_eq, find, AllPairs, Contains, Option, Some, None, option_map, ⊎_elim, arith}
use Rattle.std.proofs.lemmas.Bool.{cases_order, cond_both, cond-true}
use Rattle.std.proofs.lemmas.Bool.Decides.{same_from_decides, Decides-eqb, Decides-like}
use Rattle.std.proofs.lemmas.List.{get_or_default}
use Rattle.std.proofs.lemmas.Option.{none-some, same_Some}
use Rattle.std.proofs.lemmas.Slice.Eq.{bytes_eq-Decides}
use Rattle.flag_table.specs.Tables.{Row, FlagNames, row_named, bit_with_name}
use Rattle.flag_table.specs.Laws.{IsSoundTable}

-- what is found is an element that passes
pub find-Some : {X : Type 0} (p : X → Bool) (xs : List X) (y : X) → find p xs ≡ Some y → Contains xs y × (p y ≡ true)
find-Some p [] y is = absurd (none-some y is)
find-Some {X} p (x ∷ xs) y is =
    let P : Option X → Type 0 = λ o. o ≡ Some y → Contains (x ∷ xs) y × (p y ≡ true) in
    cond_both (p x) (Some x) (find p xs) P
    (λ passes same. let e : x ≡ y = same_Some x y same in ((0, omega arith, e), ap p (sym e) ∙ passes))
    (λ fails later. let rest = find-Some p xs y later in ((suc rest.0.0, omega (arith, rest.0.1), rest.0.2), rest.1)) is

-- where an element passes, one is found
pub find-Contains : {X : Type 0} (p : X → Bool) (xs : List X) (x : X) → Contains xs x → p x ≡ true
    → (y : X) × (find p xs ≡ Some y)
find-Contains p [] x (k, below, is) passes = absurd (omega arith)
find-Contains p (first ∷ xs) x (zero, below, is) passes =
    (first, cond-true (p first) (Some first) (find p xs) (ap p is ∙ passes))
find-Contains {X} p (first ∷ xs) x (suc k, below, is) passes =
    let P : Option X → Type 0 = λ o. (y : X) × (o ≡ Some y) in
    let later = find-Contains p xs x (k, omega arith, is) passes in
    cond_both (p first) (Some first) (find p xs) P (λ here. (first, refl)) (λ fails. later)

-- rows whose keys differ in a list are one where their keys are equal
pub same_row : {X : Type 0} (key : Row → X) (rows : List Row) → AllPairs (λ a b. key a ≢ key b) rows
    → (a b : Row) → Contains rows a → Contains rows b → key a ≡ key b → a ≡ b
same_row key rows apart a b (i, i_below, i_is) (j, j_below, j_is) same =
    let a_at_j : get_or rows j a ≡ b = get_or_default rows j a b j_below ∙ j_is in
    let b_at_i : get_or rows i b ≡ a = get_or_default rows i b a i_below ∙ i_is in
    ⊎_elim (λ e. sym b_at_i ∙ ap (λ n. get_or rows n b) e ∙ j_is)
    (⊎_elim (λ before. absurd (apart i j a before j_below (ap key i_is ∙ same ∙ sym (ap key a_at_j))))
    (λ after. absurd (apart j i b after i_below (ap key j_is ∙ sym same ∙ sym (ap key b_at_i)))))
    (cases_order i j)

-- a name stands for its row
pub row_named-name : (table : FlagNames) → IsSoundTable table → (row : Row) → Contains table.rows row
    → row_named table.rows row.name ≡ Some row
row_named-name table sound row has =
    let test : Row → Bool = λ r. bytes_eq r.name row.name in
    let found = find-Contains test table.rows row has ((bytes_eq-Decides row.name row.name).1 refl) in
    let is = find-Some test table.rows found.0 found.1 in
    found.1 ∙ ap Some (same_row (λ r. r.name) table.rows sound.names found.0 row is.0 has
    ((bytes_eq-Decides found.0.name row.name).0 is.1))

-- the row that a word names
pub row_named-Some : (rows : List Row) (word : List ℕ) (row : Row) → row_named rows word ≡ Some row
    → Contains rows row × (row.name ≡ word)
row_named-Some rows word row is = let found = find-Some (λ r. bytes_eq r.name word) rows row is in
    (found.0, (bytes_eq-Decides row.name word).0 found.1)

-- two rows have one name where they have one bit
pub same_test : (table : FlagNames) → IsSoundTable table → (a b : Row) → Contains table.rows a → Contains table.rows b
    → bytes_eq a.name b.name ≡ nat_eq a.bit b.bit
same_test table sound a b a_in b_in = same_from_decides (bytes_eq a.name b.name) (nat_eq a.bit b.bit)
    (bytes_eq-Decides a.name b.name)
    (Decides-like (nat_eq a.bit b.bit)
    (λ e. ap (λ (r : Row). r.name) (same_row (λ r. r.bit) table.rows sound.bits a b a_in b_in e))
    (λ e. ap (λ (r : Row). r.bit) (same_row (λ r. r.name) table.rows sound.names a b a_in b_in e))
    (Decides-eqb a.bit b.bit))

-- rows that differ have names that differ
pub name-apart : (table : FlagNames) → IsSoundTable table → (a b : Row) → Contains table.rows a → Contains table.rows b → a ≢ b
    → a.name ≢ b.name
name-apart table sound a b a_in b_in differ = λ e. differ
    (same_row (λ r. r.name) table.rows sound.names a b a_in b_in e)

-- a name of none of these rows
abbrev pub IsNoneOf : List Row → List ℕ → Type 0
IsNoneOf [] name = Unit {0}
IsNoneOf (row ∷ rows) name = (name ≢ row.name) × (IsNoneOf rows name)

pub bit_with_name-None : (rows : List Row) (name : List ℕ) → IsNoneOf rows name → None ≡ bit_with_name rows name
unfolding bit_with_name
bit_with_name-None [] name none = refl
bit_with_name-None (row ∷ rows) name none =
    let P : Option Row → Type 0 = λ o. None ≡ option_map (λ (r : Row). r.bit) o in
    cond_both (bytes_eq row.name name) (Some row) (row_named rows name) P
    (λ same. absurd (none.0 (sym ((bytes_eq-Decides row.name name).0 same))))
    (λ differ. bit_with_name-None rows name none.1)
