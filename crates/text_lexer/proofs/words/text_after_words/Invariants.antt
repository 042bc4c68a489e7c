-- For `text_after_words`: what each loop keeps.
use Rattle.std.proofs.Common.{◌≡◌, ◌-◌}
use denote.Text.{Utf8}
use denote.Shadow.{shadow}
use Rattle.text_lexer.specs.Words.{text_after_words}
use Rattle.text_lexer.proofs.words.text_after_words.Given as goal

abbrev pub invariant-loop : goal.invariant-loop
invariant-loop l = shadow (Utf8 l.rest) × (text_after_words (l.count - l.counter) l.rest ≡ text_after_words l.count l.text)
