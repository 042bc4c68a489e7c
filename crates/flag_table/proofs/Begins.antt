-- For `after_prefix` and `bit_ahead`: where a text does not begin with a name.
use Rattle.std.proofs.Common.{ℕ, ◌≡◌, ◌≢◌, ◌<◌, ◌∙◌, sym, ap, refl, false, true, List, [], ◌∷◌, ◌++◌, length, drop, get_or, nat_eq, Some, None}
use Rattle.std.specs.List.{starts_with}
use Rattle.std.proofs.lemmas.Bool.{cond-true, cond-false, false_from_ne_true}
use Rattle.std.proofs.lemmas.Bool.Decides.{Decides-eqb}
use Rattle.std.proofs.lemmas.List.{get_or_append_left}
use Rattle.std.proofs.lemmas.Slice.Eq.{starts_is}
use Rattle.flag_table.specs.Tables.{Row}
use Rattle.flag_table.specs.Reading.{bit_ahead, is_first_word}

-- a text that begins with a name is the name and what follows
pub begins_is : (text name : List ℕ) → starts_with nat_eq text name ≡ true → text ≡ name ++ drop (length name) text
begins_is text name begins = (starts_is Decides-eqb text name true (sym begins)).0 refl

pub last_differs : (text name : List ℕ) (last : ℕ) → last < length name → get_or text last 0 ≢ get_or name last 0
    → starts_with nat_eq text name ≡ false
last_differs text name last within differ = false_from_ne_true (starts_with nat_eq text name)
    (λ begins. differ (ap (λ (t : List ℕ). get_or t last 0) (begins_is text name begins)
    ∙ get_or_append_left name (drop (length name) text) 0 last within))

-- a text whose first word is the name of none of these rows
abbrev pub BeginsWithNone : List Row → List ℕ → Type 0
BeginsWithNone [] text = Unit {0}
BeginsWithNone (row ∷ rows) text = (is_first_word text row.name ≡ false) × (BeginsWithNone rows text)

-- the row after them, whose name is its first word
pub bit_ahead-after : (before : List Row) (row : Row) (after : List Row) (text rest : List ℕ) → BeginsWithNone before text
    → is_first_word text row.name ≡ true → rest ≡ drop (length row.name) text
    → bit_ahead (before ++ row ∷ after) text ≡ Some (row.bit, rest)
unfolding bit_ahead
bit_ahead-after [] row after text rest none begins left = cond-true (is_first_word text row.name)
    (Some (row.bit, drop (length row.name) text)) (bit_ahead after text) begins ∙ ap (λ (t : List ℕ). Some (row.bit, t)) (sym left)
bit_ahead-after (first ∷ before) row after text rest none begins left = cond-false (is_first_word text first.name)
    (Some (first.bit, drop (length first.name) text)) (bit_ahead (before ++ row ∷ after) text) none.0
    ∙ bit_ahead-after before row after text rest none.1 begins left

-- and where there is none
pub bit_ahead-none : (rows : List Row) (text : List ℕ) → BeginsWithNone rows text → bit_ahead rows text ≡ None
unfolding bit_ahead
bit_ahead-none [] text none = refl
bit_ahead-none (row ∷ rows) text none = cond-false (is_first_word text row.name)
    (Some (row.bit, drop (length row.name) text)) (bit_ahead rows text) none.0 ∙ bit_ahead-none rows text none.1
