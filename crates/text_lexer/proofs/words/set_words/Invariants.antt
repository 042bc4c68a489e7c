-- For `set_words`: what each loop keeps.
use Rattle.std.proofs.Common.{◌≡◌, ◌≤◌, ◌++◌, length, map, vec_capacity}
use denote.Text.{Utf8}
use denote.Shadow.{shadow}
use Rattle.text_lexer.specs.Words.{words_of}
use Rattle.text_lexer.proofs.WordParts.{IsAtWord}
use Rattle.text_lexer.proofs.words.set_words.Given as goal

-- the words so far and those of the rest, which begins with one; there is as much room as there was
abbrev pub invariant-loop-rest : goal.invariant-loop-rest
invariant-loop-rest l = shadow (Utf8 l.rest) × (map
    (λ word. word.now) l.words.items ++ words_of l.rest ≡ words_of l.text) × IsAtWord l.rest
    × (vec_capacity l.fn.words ≤ vec_capacity l.words)

abbrev pub decreases-loop-rest : goal.decreases-loop-rest
decreases-loop-rest l = length l.rest
