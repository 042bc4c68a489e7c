-- For `read_words`: what the words of a text read as.
use Rattle.std.proofs.Common.{ℕ, ◌+◌, ◌<◌, ◌≡◌, ◌≢◌, ◌∙◌, sym, ap, refl, subst, Bool, true, false, cond, ◌||◌, List, [], ◌∷◌, ◌++◌, map, length, get_or, take, drop, nat_eq, bit_and, bit_or, bytes_eq, filter_map, All, AllPairs, Contains, Option, Some, None, is_none, Result, Ok, Err, is_err, IsErrAnd, option_map, ⊎_elim, arith}
use Rattle.std.specs.List.{list_any, cons_option}
use Rattle.std.specs.Option.{option_or}
use Rattle.std.proofs.lemmas.Bool.{cases_Bool, eqb-true, eqb-false, not-true, not-false, or_parts, false_from_ne_true}
use Rattle.std.proofs.lemmas.Bool.Decides.{not_from_Decides}
use Rattle.std.proofs.lemmas.List.{append-nil, append_assoc, drop_more, take-append-drop, get_or-map, length-map}
use Rattle.std.proofs.lemmas.List.Elements.{All-nil, All-cons, All-head, All-tail, All-same, All-weaker, All-contains, filter_map-append}
use Rattle.std.proofs.lemmas.List.Folds.{list_any-append}
use Rattle.std.proofs.lemmas.Nat.{pow_pos}
use Rattle.std.proofs.lemmas.Option.{none-some, same_Some}
use Rattle.std.proofs.lemmas.Slice.Eq.{bytes_eq-Decides}
use Rattle.flag_table.specs.Tables.{Row, FlagNames, row_named, bits_of, bit_with_name, names_of}
use Rattle.flag_table.specs.Reading.{is_among, error_of, first_error, unless_error, read_words}
use Rattle.mm_types.specs.Flags.{has_flag}
use Rattle.flag_table.specs.Laws.{IsSoundTable, IsOneBit}
use Rattle.flag_table.specs.declared.error.NameError.{NameError}
use Rattle.flag_table.specs.declared.error.NameError.TheVariants.{Unknown, Twice, NoMemory}
use Rattle.flag_table.proofs.Bits.{bits_of-push, bits_of-and}
use Rattle.flag_table.proofs.Names.{row_named-Some, same_test}
use Rattle.flag_table.proofs.Pairs.{AllPairs-cons}

-- the rows that words name
abbrev pub named_rows : List Row → List (List ℕ) → List Row
named_rows rows words = filter_map (row_named rows) words

option_or-None : {X : Type 0} (o p : Option X) → option_or o p ≡ None → (o ≡ None) × (p ≡ None)
option_or-None None p is = (refl, is)
option_or-None (Some x) p is = absurd (none-some x (sym is))

-- after words that are good the first error is that of the others
pub first_error-append : (rows : List Row) (before words more : List (List ℕ)) → first_error rows before words ≡ None
    → first_error rows before (words ++ more) ≡ first_error rows (before ++ words) more
first_error-append rows before [] more good = ap (λ (b : List (List ℕ)). first_error rows b more)
    (sym (append-nil before))
first_error-append rows before (word ∷ words) more good =
    let both = option_or-None (error_of rows before word) (first_error rows (before ++ word ∷ []) words) good in
    ap (λ o. option_or o (first_error rows (before ++ word ∷ []) (words ++ more))) both.0
    ∙ first_error-append rows (before ++ word ∷ []) words more both.1
    ∙ ap (λ (b : List (List ℕ)). first_error rows b more) (append_assoc before (word ∷ []) words)

-- a good word names a row, and is new
good_is : (named : Option Row) (twice : Bool) (word : List ℕ)
    → cond (is_none named) (Some (Unknown word)) (cond twice (Some (Twice word)) None) ≡ None
    → ((row : Row) × (named ≡ Some row)) × (twice ≡ false)
good_is None twice word good = absurd (none-some (Unknown word) (sym good))
good_is (Some row) true word good = absurd (none-some (Twice word) (sym good))
good_is (Some row) false word good = ((row, refl), refl)

-- what good words name
pub record AreGood (rows : List Row) (before words : List (List ℕ)) : Type 0 where
  pub names : names_of (named_rows rows words) ≡ words
  pub inside : All (Contains rows) (named_rows rows words)
  pub new : All (λ word. is_among before word ≡ false) words
  pub apart : AllPairs (λ a b. a.name ≢ b.name) (named_rows rows words)

All-from_map : {X Y : Type 0} (P : Y → Type 0) (f : X → Y) (xs : List X) → All P (map f xs) → All (λ x. P (f x)) xs
All-from_map P f xs all = λ k d below. subst P (get_or-map f xs k d (f d) below)
    (all k (f d) (omega (arith, length-map xs f)))

is_among-push : (before : List (List ℕ)) (word other : List ℕ) → is_among (before ++ word ∷ []) other ≡ false
    → (is_among before other ≡ false) × (word ≢ other)
is_among-push before word other none =
    let parts = or_parts (is_among before other) (bytes_eq word other || false)
    (sym (list_any-append (λ (w : List ℕ). bytes_eq w other) before (word ∷ [])) ∙ none) in (
      parts.0,
      not_from_Decides (bytes_eq word other) (bytes_eq-Decides word other)
          (or_parts (bytes_eq word other) false parts.1).0,
    )

pub AreGood-first_error : (rows : List Row) (before words : List (List ℕ)) → first_error rows before words ≡ None
    → AreGood rows before words
AreGood-first_error rows before [] good = record {
  names = refl;
  inside = All-nil (Contains rows);
  new = All-nil (λ (w : List ℕ). is_among before w ≡ false);
  apart = λ i j d below within. absurd (omega arith);
}
AreGood-first_error rows before (word ∷ words) good =
    let both = option_or-None (error_of rows before word) (first_error rows (before ++ word ∷ []) words) good in
    let is = good_is (row_named rows word) (is_among before word) word both.0 in
    let row = is.0.0 in
    let found = row_named-Some rows word row is.0.1 in
    let rest = AreGood-first_error rows (before ++ word ∷ []) words both.1 in
    let named = named_rows rows words in
    let e : named_rows rows (word ∷ words) ≡ row ∷ named = ap (λ (o : Option Row). cons_option o named) is.0.1 in
    let New : List ℕ → Type 0 = λ w. is_among (before ++ word ∷ []) w ≡ false in
    let Differs : Row → Row → Type 0 = λ a b. a.name ≢ b.name in
    let Apart : List Row → Type 0 = λ rs. AllPairs Differs rs in
    let differ : All (λ n. row.name ≢ n) words = All-weaker New (λ n. row.name ≢ n)
    (λ w h. λ same. (is_among-push before word w h).1 (sym found.1 ∙ same)) words rest.new in record {
      names = ap names_of e ∙ ap (λ (n : List ℕ). n ∷ names_of named) found.1
          ∙ ap (λ (ws : List (List ℕ)). word ∷ ws) rest.names;
      inside = All-same (Contains rows) (named_rows rows (word ∷ words)) (row ∷ named) e
          (All-cons (Contains rows) row named found.0 rest.inside);
      new = All-cons (λ w. is_among before w ≡ false) word words is.1
          (All-weaker New (λ w. is_among before w ≡ false) (λ w h. (is_among-push before word w h).0) words rest.new);
      apart = subst Apart (sym e) (AllPairs-cons Differs row named
          (All-from_map (λ n. row.name ≢ n) (λ (r : Row). r.name) named
          (All-same (λ n. row.name ≢ n) (names_of named) words rest.names differ)) rest.apart);
    }

list_any-same : {X : Type 0} (p q : X → Bool) (xs : List X) → All (λ x. p x ≡ q x) xs → list_any p xs ≡ list_any q xs
list_any-same p q [] same = refl
list_any-same p q (x ∷ xs) same = ap (λ b. b || list_any p xs) (All-head (λ x. p x ≡ q x) x xs same)
    ∙ ap (λ b. q x || b) (list_any-same p q xs (All-tail (λ x. p x ≡ q x) x xs same))

list_any-map : {X Y : Type 0} (p : Y → Bool) (f : X → Y) (xs : List X) → list_any p (map f xs)
    ≡ list_any (λ x. p (f x)) xs
list_any-map p f [] = refl
list_any-map p f (x ∷ xs) = ap (λ b. p (f x) || b) (list_any-map p f xs)

-- whether the bit of a named row is among those so far says whether its name is
seen : (table : FlagNames) → IsSoundTable table → (words : List (List ℕ)) (word : List ℕ) (row : Row)
    → first_error table.rows [] words ≡ None
    → row_named table.rows word ≡ Some row → bit_and (bits_of (named_rows table.rows words)) row.bit
    ≡ cond (is_among words word) row.bit 0
seen table sound words word row none is =
    let good = AreGood-first_error table.rows [] words none in
    let found = row_named-Some table.rows word row is in
    let named = named_rows table.rows words in
    let One : Row → Type 0 = λ r. IsOneBit r.bit in
    let single : All One named = All-weaker (Contains table.rows) One
    (λ r has. All-contains One table.rows r sound.single has) named good.inside in
    let tests : list_any (λ r. nat_eq r.bit row.bit) named ≡ list_any (λ (r : Row). bytes_eq r.name row.name) named =
    list_any-same (λ r. nat_eq r.bit row.bit) (λ r. bytes_eq r.name row.name) named
    (All-weaker (Contains table.rows) (λ r. nat_eq r.bit row.bit ≡ bytes_eq r.name row.name)
    (λ r has. sym (same_test table sound r row has found.0)) named good.inside) in
    let among : list_any (λ (r : Row). bytes_eq r.name row.name) named ≡ is_among words word =
    sym (list_any-map (λ (n : List ℕ). bytes_eq n row.name) (λ (r : Row). r.name) named)
    ∙ ap (λ (ws : List (List ℕ)). list_any (λ n. bytes_eq n row.name) ws) good.names ∙ ap (is_among words) found.1 in
    bits_of-and row.bit (All-contains One table.rows row sound.single found.0) named single
    ∙ ap (λ b. cond b row.bit 0) (tests ∙ among)

-- the row whose bit a word has
row_of : (rows : List Row) (word : List ℕ) (bit : ℕ) → bit_with_name rows word ≡ Some bit
    → (row : Row) × (row_named rows word ≡ Some row) × (row.bit ≡ bit)
unfolding bit_with_name
row_of rows word bit is = of_option (row_named rows word) is
  where
    of_option : (o : Option Row) → option_map (λ row. row.bit) o ≡ Some bit
        → (row : Row) × (o ≡ Some row) × (row.bit ≡ bit)
    of_option None is = absurd (none-some bit is)
    of_option (Some row) is = (row, refl, same_Some row.bit bit is)

pub error_of-Unknown : (rows : List Row) (before : List (List ℕ)) (word : List ℕ) → bit_with_name rows word ≡ None
    → error_of rows before word ≡ Some (Unknown word)
unfolding bit_with_name
error_of-Unknown rows before word is = of_option (row_named rows word) is
  where
    of_option : (o : Option Row) → option_map (λ row. row.bit) o ≡ None
        → cond (is_none o) (Some (Unknown word)) (cond (is_among before word) (Some (Twice word)) None)
        ≡ Some (Unknown word)
    of_option None is = refl
    of_option (Some row) is = absurd (none-some row.bit (sym is))

pub error_of-named : (rows : List Row) (before : List (List ℕ)) (word : List ℕ) (row : Row) (twice : Bool)
    → row_named rows word ≡ Some row
    → is_among before word ≡ twice → error_of rows before word ≡ cond twice (Some (Twice word)) None
error_of-named rows before word row twice named among = ap
    (λ (o : Option Row). cond (is_none o) (Some (Unknown word)) (cond (is_among before word) (Some (Twice word)) None))
    named
    ∙ ap (λ b. cond b (Some (Twice word)) None) among

-- what the test of a bit says
pub has_flag-true : (bits bit : ℕ) → has_flag bits bit ≡ true → bit_and bits bit ≢ 0
has_flag-true bits bit there = eqb-false (bit_and bits bit) 0 (not-true (nat_eq (bit_and bits bit) 0) there)

pub has_flag-false : (bits bit : ℕ) → has_flag bits bit ≡ false → bit_and bits bit ≡ 0
has_flag-false bits bit absent = eqb-true (bit_and bits bit) 0 (not-false (nat_eq (bit_and bits bit) 0) absent)

-- where the words so far are good and have these bits together
pub record AreRead (rows : List Row) (words : List (List ℕ)) (bits : ℕ) : Type 0 where
  pub good : first_error rows [] words ≡ None
  pub together : bits ≡ bits_of (named_rows rows words)

pub error_of-Twice : (table : FlagNames) → IsSoundTable table → (words : List (List ℕ)) (word : List ℕ) (bits bit : ℕ)
    → AreRead table.rows words bits
    → bit_with_name table.rows word ≡ Some bit → has_flag bits bit ≡ true → error_of table.rows words word
    ≡ Some (Twice word)
error_of-Twice table sound words word bits bit read is there =
    let row = row_of table.rows word bit is in
    let both : bit_and bits bit ≡ cond (is_among words word) row.0.bit 0 = ap (λ n. bit_and n bit) read.together
    ∙ ap (bit_and (bits_of (named_rows table.rows words))) (sym row.2)
    ∙ seen table sound words word row.0 read.good row.1 in
    ⊎_elim (λ twice. error_of-named table.rows words word row.0 true row.1 twice)
    (λ new. absurd (has_flag-true bits bit there (both ∙ ap (λ b. cond b row.0.bit 0) new)))
    (cases_Bool (is_among words word))

pub AreRead-push : (table : FlagNames) → IsSoundTable table → (words : List (List ℕ)) (word : List ℕ) (bits bit : ℕ)
    → AreRead table.rows words bits
    → bit_with_name table.rows word ≡ Some bit → has_flag bits bit ≡ false
    → AreRead table.rows (words ++ word ∷ []) (bit_or bits bit)
AreRead-push table sound words word bits bit read is absent =
    let rows = table.rows in
    let row = row_of rows word bit is in
    let both : cond (is_among words word) row.0.bit 0 ≡ 0 = sym (seen table sound words word row.0 read.good row.1)
    ∙ ap (bit_and (bits_of (named_rows rows words))) row.2 ∙ ap (λ n. bit_and n bit) (sym read.together)
    ∙ has_flag-false bits bit absent in
    let one = All-contains (λ (r : Row). IsOneBit r.bit) rows row.0 sound.single
    (row_named-Some rows word row.0 row.1).0 in
    let new : is_among words word ≡ false = false_from_ne_true (is_among words word)
    (λ twice. absurd (omega (arith, one.1, pow_pos one.0, sym (ap (λ b. cond b row.0.bit 0) twice) ∙ both))) in record {
      good = first_error-append rows [] words (word ∷ []) read.good
          ∙ ap (λ (o : Option NameError). option_or o None) (error_of-named rows words word row.0 false row.1 new);
      together = ap (bit_or bits) (sym row.2) ∙ ap (λ n. bit_or n row.0.bit) read.together
          ∙ sym (bits_of-push (named_rows rows words) row.0)
          ∙ ap bits_of (sym (filter_map-append (row_named rows) words (word ∷ [])
          ∙ ap (λ (o : Option Row). named_rows rows words ++ cons_option o []) row.1));
    }

-- the first bad word decides
pub read_words-bad : (rows : List Row) (words : List (List ℕ)) (word : List ℕ) (rest : List (List ℕ)) (bits : ℕ) (error : NameError)
    → AreRead rows words bits → error_of rows words word ≡ Some error → read_words rows (words ++ word ∷ rest) ≡ Err error
unfolding read_words
read_words-bad rows words word rest bits error read bad =
    let all = words ++ word ∷ rest in
    let first : first_error rows [] all ≡ Some error = first_error-append rows [] words (word ∷ rest) read.good
    ∙ ap (λ (o : Option NameError). option_or o (first_error rows (words ++ word ∷ []) rest)) bad in
    ap (λ (o : Option NameError). unless_error o (bits_of (named_rows rows all))) first

-- where all words are good their bits are what is read
pub read_words-good : (rows : List Row) (all words : List (List ℕ)) (bits : ℕ) → AreRead rows words bits → words ≡ all
    → read_words rows all ≡ Ok bits
unfolding read_words
read_words-good rows all words bits read whole = ap (read_words rows) (sym whole)
    ∙ ap (λ (o : Option NameError). unless_error o (bits_of (named_rows rows words))) read.good
    ∙ ap Ok (sym read.together)
