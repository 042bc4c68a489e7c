-- For the laws on texts: texts joined by bars, and cut at them.
use Rattle.std.proofs.Common.{ℕ, ◌≡◌, ◌∙◌, sym, ap, refl, false, ◌==◌, List, [], ◌∷◌, ◌++◌, All}
use Rattle.std.proofs.lemmas.Bool.{or_parts}
use Rattle.std.proofs.lemmas.List.{append_assoc}
use Rattle.std.proofs.lemmas.List.Elements.{All-nil, All-cons, All-head, All-tail}
use Rattle.std.proofs.lemmas.List.Splits.{slice_split_none, slice_split_at}
use Rattle.flag_table.specs.Tables.{bar, bar_words, text_of_names}
use Rattle.flag_table.specs.Laws.{has_bar}

-- no byte of a text without a bar is a bar
pub All-no_bar : (text : List ℕ) → has_bar text ≡ false → All (λ c. (c == bar) ≡ false) text
All-no_bar [] none = All-nil (λ (c : ℕ). (c == bar) ≡ false)
All-no_bar (c ∷ text) none = let parts = or_parts (c == bar) (has_bar text) none in
    All-cons (λ (c : ℕ). (c == bar) ≡ false) c text parts.0 (All-no_bar text parts.1)

-- a text without a bar is one word
pub words_of-no_bar : (text : List ℕ) → has_bar text ≡ false → bar_words text ≡ text ∷ []
words_of-no_bar text none = slice_split_none (λ c. c == bar) text (All-no_bar text none)

-- words without bars, joined by bars and cut at them
pub words_of-text_of : (word : List ℕ) (words : List (List ℕ)) → All (λ word. has_bar word ≡ false) (word ∷ words)
    → bar_words (text_of_names (word ∷ words)) ≡ word ∷ words
words_of-text_of word [] none = words_of-no_bar word (All-head (λ (w : List ℕ). has_bar w ≡ false) word [] none)
words_of-text_of word (next ∷ words) none =
    let P : List ℕ → Type 0 = λ w. has_bar w ≡ false in
    slice_split_at (λ c. c == bar) word bar (text_of_names (next ∷ words))
    (All-no_bar word (All-head P word (next ∷ words) none)) refl
    ∙ ap (λ (ws : List (List ℕ)). word ∷ ws) (words_of-text_of next words (All-tail P word (next ∷ words) none))

-- what stands before one more word: a bar, unless it is the first
abbrev pub bar_after : List (List ℕ) → List ℕ
bar_after [] = []
bar_after (word ∷ words) = bar ∷ []

-- one more word
pub text_of-append : (words : List (List ℕ)) (word : List ℕ) → text_of_names (words ++ word ∷ [])
    ≡ (text_of_names words ++ bar_after words) ++ word
text_of-append [] word = refl
text_of-append (first ∷ []) word = sym (append_assoc first (bar ∷ []) word)
text_of-append (first ∷ next ∷ words) word =
    ap (λ (t : List ℕ). first ++ (bar ∷ t)) (text_of-append (next ∷ words) word)
    ∙ sym (append_assoc first (bar ∷ (text_of_names (next ∷ words) ++ (bar ∷ []))) word)
    ∙ ap (λ (t : List ℕ). t ++ word) (sym (append_assoc first (bar ∷ text_of_names (next ∷ words)) (bar ∷ [])))
