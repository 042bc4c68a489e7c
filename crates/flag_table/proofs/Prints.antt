-- For `print_bits`: the names of flags, as they are printed one after another.
use Rattle.std.proofs.Common.{ℕ, ◌+◌, ◌<◌, ◌≤◌, ◌≡◌, ◌≢◌, ◌∙◌, sym, ap, refl, Bool, true, false, cond, List, [], ◌∷◌, ◌++◌, map, length, get_or, take, nat_eq, All, Contains, Option, arith}
use Rattle.std.specs.Option.{option_map_or}
use Rattle.std.proofs.lemmas.Bool.{eq-eqb, eqb-true, ne_eqb}
use Rattle.std.proofs.lemmas.List.{append_assoc, append-nil, map-append, get_or-map, length-map, take_all}
use Rattle.std.proofs.lemmas.List.Elements.{All-map, All-filter, All-take, Contains-get_or, filter_more}
use Rattle.flag_table.specs.Tables.{Row, FlagNames, name_with_bit, bar, names_of, text_of_names}
use Rattle.mm_types.specs.Flags.{has_flag}
use Rattle.flag_table.specs.Printing.{rows_with, printed, with_flag_name}
use Rattle.flag_table.specs.Laws.{IsSoundTable}
use Rattle.flag_table.proofs.Joins.{text_of-append}
use Rattle.flag_table.proofs.Names.{find-Some, find-Contains, same_row}

-- the names of the first n rows whose bits are there
abbrev pub shown : List Row → ℕ → ℕ → List (List ℕ)
shown rows bits n = names_of (rows_with bits (take n rows))

-- one more name, after names that are not empty
text_of-push : (words : List (List ℕ)) (word : List ℕ) → All (λ w. 0 < length w) words
    → text_of_names (words ++ word ∷ []) ≡ with_flag_name (text_of_names words) word
unfolding with_flag_name
text_of-push [] word some = refl
text_of-push ([] ∷ words) word some = absurd (omega (arith, some 0 [] (omega arith)))
text_of-push ((c ∷ first) ∷ []) word some = refl
text_of-push ((c ∷ first) ∷ next ∷ words) word some = text_of-append ((c ∷ first) ∷ next ∷ words) word
    ∙ append_assoc (text_of_names ((c ∷ first) ∷ next ∷ words)) (bar ∷ []) word

-- a bit stands for its row
name_with_bit-bit : (table : FlagNames) → IsSoundTable table → (row : Row) → Contains table.rows row
    → name_with_bit table.rows row.bit ≡ row.name
unfolding name_with_bit
name_with_bit-bit table sound row has =
    let test : Row → Bool = λ r. nat_eq r.bit row.bit in
    let found = find-Contains test table.rows row has (eq-eqb row.bit row.bit refl) in
    let is = find-Some test table.rows found.0 found.1 in
    ap (λ (o : Option Row). option_map_or (λ (r : Row). r.name) o []) found.1
    ∙ ap (λ (r : Row). r.name) (same_row (λ r. r.bit) table.rows sound.bits found.0 row is.0 has
    (eqb-true found.0.bit row.bit is.1))

-- the row at a place of the table, whose bit is at that place of the bits
row_at : (rows : List Row) (column : List ℕ) → column ≡ map (λ row. row.bit) rows → (bits i : ℕ) → i < length column
    → (row : Row) × Contains rows row × (get_or column i 0 ≡ row.bit)
    × (shown rows bits (i + 1) ≡ shown rows bits i ++ names_of (cond (has_flag bits row.bit) (row ∷ []) []))
row_at rows column are bits i within =
    let d : Row = record { name = []; bit = 0 } in
    let Name : Row → List ℕ = λ r. r.name in
    let row = get_or rows i d in
    let below : i < length rows = omega (arith, within, ap length are, length-map rows (λ (r : Row). r.bit)) in (
      row,
      Contains-get_or rows i d below,
      ap (λ (c : List ℕ). get_or c i 0) are ∙ get_or-map (λ (r : Row). r.bit) rows i d 0 below,
      ap (map Name) (filter_more (λ (r : Row). has_flag bits r.bit) rows i d below)
          ∙ map-append Name (rows_with bits (take i rows)) (cond (has_flag bits row.bit) (row ∷ []) []),
    )

-- a row whose bit is there adds its name
pub text_of-shown_yes : (table : FlagNames) → IsSoundTable table → (column : List ℕ) → column ≡ map (λ row. row.bit) table.rows
    → (bits i : ℕ)
    → i < length column → has_flag bits (get_or column i 0) ≡ true → text_of_names (shown table.rows bits (i + 1))
    ≡ with_flag_name (text_of_names (shown table.rows bits i)) (name_with_bit table.rows (get_or column i 0))
text_of-shown_yes table sound column are bits i within there =
    let Name : Row → List ℕ = λ r. r.name in
    let Some_byte : Row → Type 0 = λ r. 0 < length r.name in
    let rows = table.rows in
    let at = row_at rows column are bits i within in
    let row = at.0 in
    let has : has_flag bits row.bit ≡ true = ap (has_flag bits) (sym at.2) ∙ there in
    let name_is : name_with_bit rows (get_or column i 0) ≡ row.name = ap (name_with_bit rows) at.2
    ∙ name_with_bit-bit table sound row at.1 in
    let some : All (λ (w : List ℕ). 0 < length w) (shown rows bits i) = All-map (λ (w : List ℕ). 0 < length w) Name
    (rows_with bits (take i rows))
    (All-filter (λ (r : Row). has_flag bits r.bit) Some_byte (take i rows)
    (All-take Some_byte i rows sound.some_byte)) in
    ap text_of_names (at.3 ∙ ap (λ b. shown rows bits i ++ map Name (cond b (row ∷ []) [])) has)
    ∙ text_of-push (shown rows bits i) row.name some ∙ ap (with_flag_name (text_of_names (shown rows bits i))) (sym name_is)

-- another row adds nothing
pub text_of-shown_no : (rows : List Row) (column : List ℕ) → column ≡ map (λ row. row.bit) rows → (bits i : ℕ)
    → i < length column → has_flag bits (get_or column i 0) ≡ false
    → text_of_names (shown rows bits (i + 1)) ≡ text_of_names (shown rows bits i)
text_of-shown_no rows column are bits i within absent =
    let Name : Row → List ℕ = λ r. r.name in
    let at = row_at rows column are bits i within in
    let lacks : has_flag bits at.0.bit ≡ false = ap (has_flag bits) (sym at.2) ∙ absent in
    ap text_of_names (at.3 ∙ ap (λ b. shown rows bits i ++ map Name (cond b (at.0 ∷ []) [])) lacks
    ∙ append-nil (shown rows bits i))

-- after the last row all are printed
pub text_of-shown_all : (table : FlagNames) (column : List ℕ) → column ≡ map (λ row. row.bit) table.rows → (bits n : ℕ)
    → length column ≤ n → bits ≢ 0
    → text_of_names (shown table.rows bits n) ≡ printed table bits
unfolding printed
text_of-shown_all table column are bits n past some =
    let Name : Row → List ℕ = λ r. r.name in
    let Shown : List Row → List ℕ = λ rs. text_of_names (names_of (rows_with bits rs)) in
    ap Shown (take_all n table.rows (omega (arith, ap length are, length-map table.rows (λ (r : Row). r.bit))))
    ∙ ap (λ b. cond b table.zero (Shown table.rows)) (sym (ne_eqb bits 0 some))

-- no flag
pub printed-zero : (table : FlagNames) (bits : ℕ) → bits ≡ 0 → printed table bits ≡ table.zero
unfolding printed
printed-zero table bits none = let Shown : ℕ → List ℕ = λ n. text_of_names (names_of (rows_with n table.rows)) in
    ap (λ n. cond (nat_eq n 0) table.zero (Shown n)) none
