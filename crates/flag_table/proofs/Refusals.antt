-- For the law `bad_words_are_refused`: which texts a table refuses, and why.
use Rattle.std.proofs.Common.{ℕ, ◌<◌, ◌≡◌, ◌≢◌, ◌↔◌, ◌⊎◌, ◌∙◌, sym, ap, refl, Bool, true, false, cond, List, [], ◌∷◌, ◌++◌, map, length, get_or, bytes_eq, All, Contains, Option, Some, None, is_none, Result, Ok, Err, inl, inr, ⊎_elim, arith}
use Rattle.std.specs.Option.{option_or}
use Rattle.std.proofs.lemmas.Bool.{cond_both}
use Rattle.std.proofs.lemmas.List.{append_assoc, append-nil, get_or_default, get_or-map, length-map}
use Rattle.std.proofs.lemmas.List.Elements.{All-contains, Contains-get_or}
use Rattle.std.proofs.lemmas.List.Folds.{Any-from_list_any, list_any_at}
use Rattle.std.proofs.lemmas.Option.{none-some}
use Rattle.std.proofs.lemmas.Slice.Eq.{bytes_eq-Decides}
use Rattle.flag_table.specs.Tables.{Row, FlagNames, row_named, bits_of, names_of, bar_words}
use Rattle.flag_table.specs.Reading.{is_among, is_zero, error_of, first_error, unless_error, read_words, reading}
use Rattle.flag_table.specs.Laws.{IsSoundTable, AreRows, IsBadWord, HasBadWord}
use Rattle.flag_table.specs.declared.error.NameError.{NameError}
use Rattle.flag_table.specs.declared.error.NameError.TheVariants.{Unknown, Twice}
use Rattle.flag_table.proofs.Names.{find-Contains, row_named-name, row_named-Some}
use Rattle.flag_table.proofs.Texts.{AreRows-AreGood, first_error-names}
use Rattle.flag_table.proofs.Words.{named_rows, first_error-append, AreGood-first_error, error_of-named}

-- a first error, with the words before the bad one and after it
record BadWord (rows : List Row) (before words : List (List ℕ)) (error : NameError) : Type 0 where
  good : List (List ℕ)
  word : List ℕ
  rest : List (List ℕ)
  words_are : words ≡ good ++ word ∷ rest
  are_good : first_error rows before good ≡ None
  bad : error_of rows (before ++ good) word ≡ Some error

bad_word : (rows : List Row) (before words : List (List ℕ)) (error : NameError) → first_error rows before words
    ≡ Some error → BadWord rows before words error
bad_word rows before [] error is = absurd (none-some error is)
bad_word rows before (word ∷ words) error is =
    at_word (error_of rows before word) refl is (bad_word rows (before ++ word ∷ []) words error)
  where
    at_word : (here : Option NameError) → error_of rows before word ≡ here
        → option_or here (first_error rows (before ++ word ∷ []) words) ≡ Some error
        → (first_error rows (before ++ word ∷ []) words ≡ Some error → BadWord rows (before ++ word ∷ []) words error)
        → BadWord rows before (word ∷ words) error
    at_word (Some here) at is later = record {
      good = [];
      word = word;
      rest = words;
      words_are = refl;
      are_good = refl;
      bad = ap (λ (b : List (List ℕ)). error_of rows b word) (append-nil before) ∙ at ∙ is;
    }
    at_word None at is later = let found = later is in record {
      good = word ∷ found.good;
      word = found.word;
      rest = found.rest;
      words_are = ap (λ (ws : List (List ℕ)). word ∷ ws) found.words_are;
      are_good = ap (λ (o : Option NameError). option_or o (first_error rows (before ++ word ∷ []) found.good)) at
          ∙ found.are_good;
      bad = ap (λ (b : List (List ℕ)). error_of rows b found.word) (sym (append_assoc before (word ∷ []) found.good))
          ∙ found.bad;
    }

-- the two errors of a word
two_errors : (named : Option Row) (twice : Bool) (word : List ℕ) (error : NameError)
    → cond (is_none named) (Some (Unknown word)) (cond twice (Some (Twice word)) None) ≡ Some error
    → ((named ≡ None) × (error ≡ Unknown word)) ⊎ ((twice ≡ true) × (error ≡ Twice word))
two_errors None twice word error is = inl (refl, cc)
two_errors (Some row) true word error is = inr (refl, cc)
two_errors (Some row) false word error is = absurd (none-some error is)

-- a word that names no row, as a fact of each row
All-unnamed : (rows : List Row) (word : List ℕ) → row_named rows word ≡ None → All (λ row. row.name ≢ word) rows
All-unnamed rows word none = λ k d below. λ same.
    let found = find-Contains (λ (r : Row). bytes_eq r.name word) rows (get_or rows k d)
    (Contains-get_or rows k d below) ((bytes_eq-Decides (get_or rows k d).name word).1 same) in
    none-some found.0 (sym none ∙ found.1)

row_named-None : (rows : List Row) (word : List ℕ) → All (λ row. row.name ≢ word) rows → row_named rows word ≡ None
row_named-None rows word unlike = of_option (row_named rows word) refl
  where
    of_option : (o : Option Row) → row_named rows word ≡ o → row_named rows word ≡ None
    of_option None is = is
    of_option (Some row) is = let found = row_named-Some rows word row is in
        absurd (All-contains (λ (r : Row). r.name ≢ word) rows row unlike found.0 found.1)

Contains-among : (words : List (List ℕ)) (word : List ℕ) → is_among words word ≡ true → Contains words word
Contains-among words word is = let found = Any-from_list_any (λ (w : List ℕ). bytes_eq w word) words is in (
  found.0,
  found.2,
  get_or_default words found.0 word found.1 found.2 ∙ found.3
      ∙ (bytes_eq-Decides found.1 word).0 found.4,
)

among-Contains : (words : List (List ℕ)) (word : List ℕ) → Contains words word → is_among words word ≡ true
among-Contains words word has = list_any_at (λ (w : List ℕ). bytes_eq w word) words has.0 word has.1
    ((bytes_eq-Decides (get_or words has.0 word) word).1 has.2)

unless_error-Err : (first : Option NameError) (bits : ℕ) (error : NameError) → unless_error first bits ≡ Err error
    → first ≡ Some error
unless_error-Err None bits error is = cc
unless_error-Err (Some first) bits error is = ap Some cc

-- the error of a word after names
error_of-IsBadWord : (table : FlagNames) → IsSoundTable table → (named : List Row) → AreRows table named
    → (word : List ℕ) (error : NameError)
    → IsBadWord table named word error → error_of table.rows (names_of named) word ≡ Some error
error_of-IsBadWord table sound named are word error bad =
    let rows = table.rows in
    let Name : Row → List ℕ = λ r. r.name in
    let names = map Name named in ⊎_elim
    (λ unknown. ap (λ (o : Option Row). cond (is_none o) (Some (Unknown word))
    (cond (is_among names word) (Some (Twice word)) None)) (row_named-None rows word unknown.0)
    ∙ ap Some (sym unknown.1))
    (λ twice. let k = twice.0.0 in
    let d : Row = record { name = []; bit = 0 } in
    let below : k < length named = omega (arith, twice.0.1, length-map named Name) in
    let row = get_or named k d in
    let name_is : row.name ≡ word = sym (get_or-map Name named k d word below) ∙ twice.0.2 in
    error_of-named rows names word row true (ap (row_named rows) (sym name_is)
    ∙ row_named-name table sound row (are.of_table k d below)) (among-Contains names word twice.0)
    ∙ ap Some (sym twice.1))
    bad

-- words with a bad one
IsRefused-words : (table : FlagNames) (text : List ℕ) (error : NameError) → is_zero table text ≡ false
    → read_words table.rows (bar_words text) ≡ Err error → HasBadWord table text error
unfolding read_words
IsRefused-words table text error flags read =
    let words = bar_words text in
    let rows = table.rows in
    let found = bad_word rows [] words error
    (unless_error-Err (first_error rows [] words) (bits_of (named_rows rows words)) error read) in
    let good = AreGood-first_error rows [] found.good found.are_good in
    let names = names_of (named_rows rows found.good) in record {
      flags = flags;
      named = named_rows rows found.good;
      word = found.word;
      rest = found.rest;
      words = found.words_are ∙ ap (λ (ws : List (List ℕ)). ws ++ found.word ∷ found.rest) (sym good.names);
      rows = AreRows-AreGood table [] found.good good;
      bad = ⊎_elim (λ unknown. inl (All-unnamed rows found.word unknown.0, unknown.1))
          (λ twice. inr (
            Contains-among names found.word
                (ap (λ (ws : List (List ℕ)). is_among ws found.word) good.names ∙ twice.0),
            twice.1,
          ))
          (two_errors (row_named rows found.word) (is_among found.good found.word) found.word error found.bad);
    }

read_words-IsRefused : (table : FlagNames) (text : List ℕ) (error : NameError) → IsSoundTable table → HasBadWord table text error
    → read_words table.rows (bar_words text) ≡ Err error
unfolding read_words
read_words-IsRefused table text error sound is =
    let rows = table.rows in
    let names = names_of is.named in
    let first : first_error rows [] (names ++ is.word ∷ is.rest) ≡ Some error =
    first_error-append rows [] names (is.word ∷ is.rest) (first_error-names table sound is.named is.rows)
    ∙ ap (λ (o : Option NameError). option_or o (first_error rows (names ++ is.word ∷ []) is.rest))
    (error_of-IsBadWord table sound is.named is.rows is.word error is.bad) in
    ap (read_words rows) is.words ∙ ap (λ (o : Option NameError). unless_error o
    (bits_of (named_rows rows (names ++ is.word ∷ is.rest)))) first

-- a text is refused for its first bad word
pub reading-Err : (table : FlagNames) (text : List ℕ) (error : NameError) → IsSoundTable table
    → (reading table text ≡ Err error) ↔ HasBadWord table text error
unfolding reading
reading-Err table text error sound =
    let words = read_words table.rows (bar_words text) in
    let P : Result ℕ NameError → Type 0 = λ r. r ≡ Err error → HasBadWord table text error in (
      λ is. cond_both (is_zero table text) (Ok 0) words P (λ zero none. cc)
          (λ flags read. IsRefused-words table text error flags read) is,
      λ is. ap (λ b. cond b (Ok 0) words) is.flags ∙ read_words-IsRefused table text error sound is,
    )
