-- For `read_names`: the first word of a text, and the words that were read before it.
use Rattle.std.proofs.Common.{ℕ, ◌≡◌, ◌≢◌, ◌+◌, ◌<◌, ◌≤◌, ◌∙◌, sym, ap, refl, suc, false, true, not, cond, Bool, ◌==◌, ◌&&◌, List, [], ◌∷◌, ◌++◌, length, get_or, take, drop, nat_eq, bytes_eq, bit_or, Contains, Option, Some, None, Ok, Err, option_map, inl, inr, subst, arith}
use Rattle.std.specs.List.{starts_with, position_or_len}
use Rattle.std.proofs.lemmas.Bool.{cases_lt, cond_both, and_parts, and_from, or_parts, false≢true}
use Rattle.std.proofs.lemmas.Bool.Decides.{Decides-eqb}
use Rattle.std.proofs.lemmas.List.{append-nil, append_assoc, length-append, length-take-le, take_all, drop_all, drop_more}
use Rattle.std.proofs.lemmas.List.Elements.{All-contains}
use Rattle.std.proofs.lemmas.List.Splits.{slice_split_at, slice_split_first, slice_split_none}
use Rattle.std.proofs.lemmas.List.Sums.{prefix_len-le-length, fails_before_first, passes_at_first}
use Rattle.std.proofs.lemmas.Option.{none-some, same_Some}
use Rattle.std.proofs.lemmas.Slice.Eq.{bytes_eq-Decides, starts_is}
use Rattle.mm_types.specs.Flags.{has_flag}
use Rattle.flag_table.specs.Tables.{Row, FlagNames, bar, bar_words, bit_with_name}
use Rattle.flag_table.specs.Reading.{bit_ahead, first_word, is_first_word, is_word_end, read_words}
use Rattle.flag_table.specs.Laws.{IsSoundTable, has_bar}
use Rattle.flag_table.specs.declared.error.NameError.TheVariants.{Unknown, Twice}
use Rattle.flag_table.proofs.Joins.{All-no_bar, words_of-no_bar}
use Rattle.flag_table.proofs.Names.{IsNoneOf, bit_with_name-None, row_named-name}
use Rattle.flag_table.proofs.Words.{AreRead, AreRead-push, error_of-Unknown, error_of-Twice, read_words-bad, read_words-good}

-- whether a byte is the bar
abbrev is_bar : ℕ → Bool
is_bar c = c == bar

-- ---- the first word of a text

place-le : (text : List ℕ) → position_or_len is_bar text ≤ length text
place-le text = prefix_len-le-length (λ c. not (is_bar c)) text

take_one : (n c : ℕ) (text : List ℕ) → take (1 + n) (c ∷ text) ≡ c ∷ take n text
take_one n c text = let next : 1 + n ≡ suc n = omega arith in ap (λ (k : ℕ). take k (c ∷ text)) next

-- a name without a bar that bytes follow before which a word ends
first_word-cut : (name after : List ℕ) → has_bar name ≡ false → is_word_end after ≡ true → first_word (name ++ after) ≡ name
unfolding is_word_end
first_word-cut [] [] none ends = refl
first_word-cut [] (c ∷ after) none ends =
    ap (λ (b : Bool). take (cond (not b) (1 + position_or_len is_bar after) 0) (c ∷ after)) ends
first_word-cut (x ∷ name) after none ends =
    let parts = or_parts (is_bar x) (has_bar name) none in
    ap (λ (b : Bool). take (cond (not b) (1 + position_or_len is_bar (name ++ after)) 0) (x ∷ (name ++ after))) parts.0
    ∙ take_one (position_or_len is_bar (name ++ after)) x (name ++ after)
    ∙ ap (λ (rest : List ℕ). x ∷ rest) (first_word-cut name after parts.1 ends)

-- a word ends where the first bar stands
ends_there : (text : List ℕ) → is_word_end (drop (position_or_len is_bar text) text) ≡ true
unfolding is_word_end
ends_there text =
    let n = position_or_len is_bar text in
    elim (cases_lt n (length text)) [
      | inl within ↦ ap is_word_end (drop_more text n 0 within) ∙ passes_at_first is_bar text 0 within
      | inr past ↦ ap is_word_end (drop_all n text past)
    ]

-- the first word is the first word
first_word_is : (text name : List ℕ) → first_word text ≡ name → is_first_word text name ≡ true
unfolding is_first_word
first_word_is text name is =
    let n = position_or_len is_bar text in
    let len : length name ≡ n = ap length (sym is) ∙ length-take-le n text (place-le text) in
    and_from (starts_with nat_eq text name) (is_word_end (drop (length name) text))
    (ap (λ (k : ℕ). bytes_eq name (take k text)) len ∙ (bytes_eq-Decides name (take n text)).1 (sym is))
    (ap (λ (k : ℕ). is_word_end (drop k text)) len ∙ ends_there text)

-- where no row's name is the first word of a text, none has that name
none_named : (rows : List Row) (text : List ℕ) → bit_ahead rows text ≡ None → IsNoneOf rows (first_word text)
unfolding bit_ahead
none_named [] text none = tt
none_named (row ∷ rows) text none = cond_both (is_first_word text row.name) (Some (row.bit, drop (length row.name) text))
    (bit_ahead rows text) (λ o. o ≡ None → IsNoneOf (row ∷ rows) (first_word text))
    (λ begins e. absurd (none-some (row.bit, drop (length row.name) text) (sym e)))
    (λ differs e. ((λ same. false≢true (sym differs ∙ first_word_is text row.name same)), none_named rows text e)) none

-- the words of a text are its first word and others
words_of-first : (text : List ℕ) → (more : List (List ℕ)) × (bar_words text ≡ first_word text ∷ more)
words_of-first text =
    let n = position_or_len is_bar text in
    elim (cases_lt n (length text)) [
      | inl within ↦ (bar_words (drop (n + 1) text), slice_split_first is_bar text 0 within)
      | inr past ↦ (
        [],
        slice_split_none is_bar text (λ k d below. fails_before_first is_bar text k d (omega arith))
            ∙ ap (λ (word : List ℕ). word ∷ []) (sym (take_all n text past)),
      )
    ]

-- ---- the row whose name it is

-- the name of a row, before bytes before which a word ends
record IsAhead (table : FlagNames) (text after : List ℕ) (bit : ℕ) : Type 0 where
  name : List ℕ
  no_bar : has_bar name ≡ false
  whole : text ≡ name ++ after
  ends : is_word_end after ≡ true
  named : bit_with_name table.rows name ≡ Some bit

row_ahead : (rows : List Row) (text : List ℕ) (bit : ℕ) (after : List ℕ) → bit_ahead rows text ≡ Some (bit, after)
    → (row : Row) × Contains rows row × (row.bit ≡ bit) × (text ≡ row.name ++ after) × (is_word_end after ≡ true)
unfolding bit_ahead is_first_word
row_ahead [] text bit after is = absurd (none-some (bit, after) is)
row_ahead (first ∷ rows) text bit after is =
    let P : Option (ℕ × List ℕ) → Type 0 = λ o. o ≡ Some (bit, after)
    → (row : Row) × Contains (first ∷ rows) row × (row.bit ≡ bit) × (text ≡ row.name ++ after) × (is_word_end after ≡ true) in
    let left = drop (length first.name) text in
    cond_both (starts_with nat_eq text first.name && is_word_end left) (Some (first.bit, left)) (bit_ahead rows text) P
    (λ begins same.
    let e = same_Some (first.bit, left) (bit, after) same in
    let parts = and_parts (starts_with nat_eq text first.name) (is_word_end left) begins in
    let rest : left ≡ after = ap (λ (pair : ℕ × List ℕ). pair.1) e in (
      first,
      (0, omega arith, refl),
      ap (λ (pair : ℕ × List ℕ). pair.0) e,
      (starts_is Decides-eqb text first.name true (sym parts.0)).0 refl ∙ ap (λ (t : List ℕ). first.name ++ t) rest,
      ap is_word_end (sym rest) ∙ parts.1,
    ))
    (λ differs later. let found = row_ahead rows text bit after later in
    (found.0, (suc found.1.0, omega (arith, found.1.1), found.1.2), found.2, found.3, found.4)) is

is_ahead : (table : FlagNames) → IsSoundTable table → (text after : List ℕ) (bit : ℕ) → bit_ahead table.rows text ≡ Some (bit, after)
    → IsAhead table text after bit
unfolding bit_with_name
is_ahead table sound text after bit is =
    let found = row_ahead table.rows text bit after is in
    let row = found.0 in record {
      name = row.name;
      no_bar = All-contains (λ (r : Row). has_bar r.name ≡ false) table.rows row sound.no_bar found.1;
      whole = found.3;
      ends = found.4;
      named = ap (option_map (λ (r : Row). r.bit)) (row_named-name table sound row found.1) ∙ ap Some found.2;
    }

-- ---- the words so far

-- the words before the rest of a text are good, and have these bits together
pub record AreAhead (rows : List Row) (text rest : List ℕ) (bits : ℕ) : Type 0 where
  pub words : List (List ℕ)
  pub read : AreRead rows words bits
  pub text_is : bar_words text ≡ words ++ bar_words rest

-- before the first word
pub ahead_start : (rows : List Row) (text : List ℕ) → AreAhead rows text text 0
ahead_start rows text = record { words = []; read = record { good = refl; together = refl }; text_is = refl }

-- a word that no row names
pub ahead_unknown : (rows : List Row) (text rest : List ℕ) (bits : ℕ) → AreAhead rows text rest bits
    → bit_ahead rows rest ≡ None → read_words rows (bar_words text) ≡ Err (Unknown (first_word rest))
ahead_unknown rows text rest bits ahead none =
    let front = words_of-first rest in
    let word = first_word rest in
    ap (read_words rows) (ahead.text_is ∙ ap (λ (ws : List (List ℕ)). ahead.words ++ ws) front.1)
    ∙ read_words-bad rows ahead.words word front.0 bits (Unknown word) ahead.read
    (error_of-Unknown rows ahead.words word (sym (bit_with_name-None rows word (none_named rows rest none))))

-- a word that came before
pub ahead_twice : (table : FlagNames) → IsSoundTable table → (text rest after : List ℕ) (bits bit : ℕ)
    → AreAhead table.rows text rest bits → bit_ahead table.rows rest ≡ Some (bit, after)
    → has_flag bits bit ≡ true → read_words table.rows (bar_words text) ≡ Err (Twice (first_word rest))
ahead_twice table sound text rest after bits bit ahead is there =
    let next = is_ahead table sound rest after bit is in
    let front = words_of-first rest in
    let word = first_word rest in
    let same : word ≡ next.name = ap first_word next.whole ∙ first_word-cut next.name after next.no_bar next.ends in
    ap (read_words table.rows) (ahead.text_is ∙ ap (λ (ws : List (List ℕ)). ahead.words ++ ws) front.1)
    ∙ read_words-bad table.rows ahead.words word front.0 bits (Twice word) ahead.read
    (error_of-Twice table sound ahead.words word bits bit ahead.read
    (ap (bit_with_name table.rows) same ∙ next.named) there)

-- no bar behind bytes before which a word ends
end_is : (after : List ℕ) → is_word_end after ≡ true → ((more : List ℕ) → after ≢ bar ∷ more) → after ≡ []
unfolding is_word_end
end_is [] ends none = refl
end_is (c ∷ after) ends none = absurd (none after (ap (λ (b : ℕ). b ∷ after) ((Decides-eqb c bar).0 ends)))

-- after the last name
pub ahead_end : (table : FlagNames) → IsSoundTable table → (text rest after : List ℕ) (bits bit : ℕ)
    → AreAhead table.rows text rest bits → bit_ahead table.rows rest ≡ Some (bit, after)
    → has_flag bits bit ≡ false → ((more : List ℕ) → after ≢ bar ∷ more)
    → read_words table.rows (bar_words text) ≡ Ok (bit_or bits bit)
ahead_end table sound text rest after bits bit ahead is absent none =
    let next = is_ahead table sound rest after bit is in
    let whole : rest ≡ next.name = next.whole ∙ ap (λ (t : List ℕ). next.name ++ t) (end_is after next.ends none)
    ∙ append-nil next.name in
    read_words-good table.rows (bar_words text) (ahead.words ++ next.name ∷ []) (bit_or bits bit)
    (AreRead-push table sound ahead.words next.name bits bit ahead.read next.named absent)
    (sym (ahead.text_is
    ∙ ap (λ (ws : List (List ℕ)). ahead.words ++ ws) (ap bar_words whole ∙ words_of-no_bar next.name next.no_bar)))

-- after a name with a bar behind it
pub ahead_more : (table : FlagNames) → IsSoundTable table → (text rest after more : List ℕ) (bits bit : ℕ)
    → AreAhead table.rows text rest bits → bit_ahead table.rows rest ≡ Some (bit, after)
    → has_flag bits bit ≡ false → after ≡ bar ∷ more → AreAhead table.rows text more (bit_or bits bit)
ahead_more table sound text rest after more bits bit ahead is absent barred =
    let next = is_ahead table sound rest after bit is in
    let cut : bar_words rest ≡ next.name ∷ bar_words more =
    ap bar_words (next.whole ∙ ap (λ (t : List ℕ). next.name ++ t) barred)
    ∙ slice_split_at is_bar next.name bar more (All-no_bar next.name next.no_bar) refl in record {
      words = ahead.words ++ next.name ∷ [];
      read = AreRead-push table sound ahead.words next.name bits bit ahead.read next.named absent;
      text_is = ahead.text_is ∙ ap (λ (ws : List (List ℕ)). ahead.words ++ ws) cut
          ∙ sym (append_assoc ahead.words (next.name ∷ []) (bar_words more));
    }

-- what is left is shorter
pub ahead_shorter : (table : FlagNames) → IsSoundTable table → (rest after more : List ℕ) (bit : ℕ)
    → bit_ahead table.rows rest ≡ Some (bit, after) → after ≡ bar ∷ more → length more < length rest
ahead_shorter table sound rest after more bit is barred =
    let next = is_ahead table sound rest after bit is in
    omega (arith, ap length next.whole, length-append next.name after, ap length barred)
