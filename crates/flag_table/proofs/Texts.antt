-- For the laws `flag_texts_are_read` and `printed_reads_back`: which texts a sound table reads, and that it reads what it prints.
use Rattle.std.proofs.Common.{ℕ, ◌<◌, ◌≡◌, ◌≢◌, ◌↔◌, ◌∙◌, sym, ap, refl, subst, true, false, cond, ◌==◌, List, [], ◌∷◌, ◌++◌, map, length, get_or, bit_and, bytes_eq, codes, All, AllPairs, Contains, Option, Some, None, Result, Ok, Err, IfOk, inl, inr, ⊎_elim, arith}
use Rattle.std.specs.List.{cons_option}
use Rattle.std.specs.Option.{option_or}
use Rattle.std.proofs.lemmas.Bool.{cases_eq, cond_both, or_cases, or_right, false≢true, false_from_ne_true, ne_eqb}
use Rattle.std.proofs.lemmas.List.{append_assoc, get_or_append_left, get_or_at, length-append, length-map, map_push}
use Rattle.std.proofs.lemmas.List.Elements.{All-head, All-tail, All-map, All-weaker, All-contains, All-filter, All-contains_itself}
use Rattle.std.proofs.lemmas.List.Folds.{list_any_none}
use Rattle.std.proofs.lemmas.List.Kept.{AllPairs-filter}
use Rattle.std.proofs.lemmas.List.Splits.{join_with_byte-slice_split, length-slice_split}
use Rattle.std.proofs.lemmas.Slice.Eq.{bytes_eq-Decides}
use Rattle.flag_table.specs.Tables.{Row, FlagNames, bits_of, HasRows, names_of, text_of_names, bar_words, bar}
use Rattle.flag_table.specs.Reading.{is_among, is_zero, error_of, first_error, unless_error, read_words, reading, ReadsBits}
use Rattle.mm_types.specs.Flags.{has_flag}
use Rattle.flag_table.specs.Printing.{rows_with, printed}
use Rattle.flag_table.specs.Laws.{IsSoundTable, AreRows, NamesBits, IsFlagText, has_bar}
use Rattle.flag_table.specs.declared.error.BadWord.{BadWord}
use Rattle.flag_table.specs.declared.error.NameError.{NameError}
use Rattle.flag_table.proofs.Bits.{bits_of-filter, bits_of-within}
use Rattle.flag_table.proofs.Joins.{words_of-no_bar, words_of-text_of}
use Rattle.flag_table.proofs.Names.{row_named-name, name-apart}
use Rattle.flag_table.proofs.Prints.{printed-zero}
use Rattle.flag_table.proofs.Words.{AreGood, named_rows, AreGood-first_error, error_of-named}

-- what is read without an error
unless_error-Ok : (error : Option NameError) (n bits : ℕ) → unless_error error n ≡ Ok bits → (error ≡ None) × (bits ≡ n)
unless_error-Ok None n bits is = (refl, grind arith)
unless_error-Ok (Some error) n bits is = cc

-- the rows of good words
pub AreRows-AreGood : (table : FlagNames) (before words : List (List ℕ)) → AreGood table.rows before words
    → AreRows table (named_rows table.rows words)
AreRows-AreGood table before words good = record {
  of_table = good.inside;
  distinct = λ i j d below within. λ same. good.apart i j d below within (ap (λ (r : Row). r.name) same);
}

-- words that are read are the names of different rows
IsNamed-words : (table : FlagNames) (text : List ℕ) (bits : ℕ) → read_words table.rows (bar_words text) ≡ Ok bits
    → NamesBits table text bits
unfolding read_words
IsNamed-words table text bits is =
    let words = bar_words text in
    let rows = table.rows in
    let both = unless_error-Ok (first_error rows [] words) (bits_of (named_rows rows words)) bits is in
    let good = AreGood-first_error rows [] words both.0 in record {
      named = named_rows rows words;
      some = omega (
        arith,
        length-slice_split (λ c. c == bar) text,
        length-map (named_rows rows words)
            (λ (r : Row). r.name),
        ap length good.names,
      );
      rows = AreRows-AreGood table [] words good;
      text_is = sym (join_with_byte-slice_split bar text) ∙ ap text_of_names (sym good.names);
      bits_are = both.1;
    }

-- different names of rows are good words
good_names : (table : FlagNames) → IsSoundTable table → (prior named : List Row) → All (Contains table.rows) named
    → AllPairs (λ a b. a.name ≢ b.name) (prior ++ named) → first_error table.rows (names_of prior) (names_of named)
    ≡ None
good_names table sound prior [] inside apart = refl
good_names table sound prior (row ∷ named) inside apart =
    let rows = table.rows in
    let Name : Row → List ℕ = λ r. r.name in
    let before = map Name prior in
    let Other : Row → Type 0 = λ r. bytes_eq r.name row.name ≡ false in
    let others : All Other prior = λ k d below. false_from_ne_true (bytes_eq (get_or prior k d).name row.name)
    (λ same. apart k (length prior) d below (omega (arith, length-append prior (row ∷ named)))
    (ap Name (get_or_append_left prior (row ∷ named) d k below)
    ∙ (bytes_eq-Decides (get_or prior k d).name row.name).0 same
    ∙ sym (ap Name (get_or_at prior row named d (length prior) refl)))) in
    let new : is_among before row.name ≡ false = list_any_none (λ (w : List ℕ). bytes_eq w row.name) before
    (All-map (λ (w : List ℕ). bytes_eq w row.name ≡ false) Name prior others) in
    let good : error_of rows before row.name ≡ None = error_of-named rows before row.name row false
    (row_named-name table sound row (All-head (Contains rows) row named inside)) new in
    let Apart : List Row → Type 0 = λ rs. AllPairs (λ a b. a.name ≢ b.name) rs in
    let rest = good_names table sound (prior ++ row ∷ []) named (All-tail (Contains rows) row named inside)
    (subst Apart (sym (append_assoc prior (row ∷ []) named)) apart) in
    ap (λ (o : Option NameError). option_or o (first_error rows (before ++ row.name ∷ []) (map Name named))) good
    ∙ ap (λ (b : List (List ℕ)). first_error rows b (map Name named)) (sym (map_push Name prior row)) ∙ rest

pub first_error-names : (table : FlagNames) → IsSoundTable table → (named : List Row) → AreRows table named
    → first_error table.rows [] (names_of named) ≡ None
first_error-names table sound named rows = good_names table sound [] named rows.of_table (λ i j d below within.
    name-apart table sound (get_or named i d) (get_or named j d) (rows.of_table i d (omega arith))
    (rows.of_table j d within) (rows.distinct i j d below within))

-- names name their rows
named_rows-names : (table : FlagNames) → IsSoundTable table → (named : List Row) → All (Contains table.rows) named
    → named_rows table.rows (names_of named) ≡ named
named_rows-names table sound [] inside = refl
named_rows-names table sound (row ∷ named) inside =
    ap (λ (o : Option Row). cons_option o (named_rows table.rows (names_of named)))
    (row_named-name table sound row (All-head (Contains table.rows) row named inside))
    ∙ ap (λ (rs : List Row). row ∷ rs) (named_rows-names table sound named
    (All-tail (Contains table.rows) row named inside))

-- a text that stands for no flag has no bar
is_zero-no_bar : (table : FlagNames) → IsSoundTable table → (text : List ℕ) → is_zero table text ≡ true → has_bar text ≡ false
unfolding is_zero
is_zero-no_bar table sound text is = ⊎_elim
    (λ zero. ap has_bar ((bytes_eq-Decides text (codes "0")).0 zero))
    (λ zero. ap has_bar ((bytes_eq-Decides text table.zero).0 zero) ∙ sound.zero)
    (or_cases (bytes_eq text (codes "0")) (bytes_eq text table.zero) is)

-- the names of different rows are read
reading-names : (table : FlagNames) → IsSoundTable table → (text : List ℕ) (bits : ℕ) (named : List Row) → 0 < length named
    → AreRows table named
    → text ≡ text_of_names (names_of named) → bits ≡ bits_of named → reading table text ≡ Ok bits
unfolding reading read_words
reading-names table sound text bits [] some rows text_is bits_are = absurd (omega arith)
reading-names table sound text bits (row ∷ named) some are text_is bits_are =
    let rows = table.rows in
    let inside = are.of_table in
    let Name : Row → List ℕ = λ r. r.name in
    let words = map Name (row ∷ named) in
    let No_bar : Row → Type 0 = λ r. has_bar r.name ≡ false in
    let No_zero : Row → Type 0 = λ r. is_zero table r.name ≡ false in
    let no_bar : All No_bar (row ∷ named) = All-weaker (Contains rows) No_bar
    (λ r has. All-contains No_bar rows r sound.no_bar has) (row ∷ named) inside in
    let cut : bar_words text ≡ words = ap bar_words text_is
    ∙ words_of-text_of row.name (map Name named)
    (All-map (λ (w : List ℕ). has_bar w ≡ false) Name (row ∷ named) no_bar) in
    let flags : is_zero table text ≡ false = false_from_ne_true (is_zero table text) (λ zero.
    let one : row.name ∷ map Name named ≡ text ∷ [] = sym cut
    ∙ words_of-no_bar text (is_zero-no_bar table sound text zero) in
    let same : row.name ≡ text = cc in
    false≢true (sym (All-contains No_zero rows row sound.no_zero (All-head (Contains rows) row named inside))
    ∙ ap (is_zero table) same ∙ zero)) in
    let good : first_error rows [] words ≡ None = first_error-names table sound (row ∷ named) are in
    ap (λ b. cond b (Ok 0) (read_words rows (bar_words text))) flags ∙ ap (read_words rows) cut
    ∙ ap (λ (o : Option NameError). unless_error o (bits_of (named_rows rows words))) good
    ∙ ap (λ (rs : List Row). Ok (bits_of rs)) (named_rows-names table sound (row ∷ named) inside) ∙ ap Ok (sym bits_are)

-- a sound table reads these texts and no others
pub reading-Ok : (table : FlagNames) (text : List ℕ) (bits : ℕ) → IsSoundTable table
    → (reading table text ≡ Ok bits) ↔ IsFlagText table text bits
unfolding reading
reading-Ok table text bits sound =
    let words = read_words table.rows (bar_words text) in
    let P : Result ℕ NameError → Type 0 = λ r. r ≡ Ok bits → IsFlagText table text bits in (
      λ is. cond_both (is_zero table text) (Ok 0) words P (λ zero none. inl (zero, cc))
          (λ flags read. inr (IsNamed-words table text bits read)) is,
      λ is. ⊎_elim (λ none. ap (λ b. cond b (Ok 0) words) none.0 ∙ ap Ok (sym none.1))
          (λ n. reading-names table sound text bits n.named n.some n.rows n.text_is n.bits_are) is,
    )

some_row : (rows : List Row) → bits_of rows ≢ 0 → 0 < length rows
some_row [] some = absurd (some refl)
some_row (row ∷ rows) some = omega arith

-- what is printed is a text of flags
pub IsFlagText-printed : (table : FlagNames) (bits : ℕ) → IsSoundTable table → HasRows table bits
    → IsFlagText table (printed table bits) bits
unfolding printed is_zero
IsFlagText-printed table bits sound has = ⊎_elim
    (λ none. inl (
      ap (is_zero table) (printed-zero table bits none)
          ∙ or_right (bytes_eq table.zero (codes "0")) (bytes_eq table.zero table.zero)
          ((bytes_eq-Decides table.zero table.zero).1 refl),
      none,
    ))
    (λ some. let kept : bits_of (rows_with bits table.rows) ≡ bits = bits_of-filter bits table.rows sound.single
    ∙ has in inr (record {
      named = rows_with bits table.rows;
      some = some_row (rows_with bits table.rows) (λ none. some (sym kept ∙ none));
      rows = record {
        of_table = All-filter (λ (r : Row). has_flag bits r.bit) (Contains table.rows) table.rows
            (All-contains_itself table.rows);
        distinct = AllPairs-filter (λ a b. a ≢ b) (λ (r : Row). has_flag bits r.bit) table.rows
            (λ i j d below within. λ same. sound.names i j d below within (ap (λ (r : Row). r.name) same));
      };
      text_is = ap (λ b. cond b table.zero (text_of_names (names_of (rows_with bits table.rows))))
          (ne_eqb bits 0 some);
      bits_are = sym kept;
    }))
    (cases_eq bits 0)

pub reading-printed : (table : FlagNames) (bits : ℕ) → IsSoundTable table → HasRows table bits
    → reading table (printed table bits) ≡ Ok bits
reading-printed table bits sound has = (reading-Ok table (printed table bits) bits sound).1
    (IsFlagText-printed table bits sound has)

-- what is read has rows
pub HasRows-reading : (table : FlagNames) (text : List ℕ) (bits : ℕ) → IsSoundTable table → reading table text ≡ Ok bits
    → HasRows table bits
HasRows-reading table text bits sound is = ⊎_elim
    (λ none. ap (λ n. bit_and n (bits_of table.rows)) none.1 ∙ sym none.1)
    (λ named. let e = named.bits_are in ap (λ n. bit_and n (bits_of table.rows)) e
    ∙ bits_of-within table.rows named.named named.rows.of_table ∙ sym e)
    ((reading-Ok table text bits sound).0 is)

-- and so has what is answered for words
pub HasRows-words : (table : FlagNames) (text : List ℕ) (result : Result ℕ BadWord) → IsSoundTable table → is_zero table text
    ≡ false
    → ReadsBits result (read_words table.rows (bar_words text)) → IfOk result (HasRows table)
unfolding reading
HasRows-words table text (Ok bits) sound flags reads = HasRows-reading table text bits sound
    (ap (λ b. cond b (Ok 0) (read_words table.rows (bar_words text))) flags ∙ reads)
HasRows-words table text (Err word) sound flags reads = tt
