-- For `begins_with_fork`: its goals.
use Rattle.std.proofs.Common.{◌≡◌, Bool, ◌&&◌, List, ℕ, codes, bytes_eq, true, false, sym, ap, ◌∙◌}
use Rattle.std.specs.List.{before_first}
use Rattle.text_lexer.specs.Words.{is_blank, begins_with_digit, text_after_words}
use Rattle.output.proofs.ForkWords.{fork_words}
use Rattle.output.proofs.forks.begins_with_fork.Goals as goal

pub returns-then-begins_with_digit : goal.returns-then-begins_with_digit
returns-then-begins_with_digit c =
    let text = c.args.text.now in
    let digit : begins_with_digit (text_after_words 0 text) ≡ true =
    sym (c.begins_with_digit.ensures ∙ ap begins_with_digit c.text_after_words.ensures) ∙ c.if-begins_with_digit.true in
    let named : Bool = bytes_eq (before_first is_blank (text_after_words 1 text)) (codes "fork") in
    let is : c.is_name.result ≡ named =
    c.is_name.ensures ∙ ap (λ (word : List ℕ). bytes_eq word (codes "fork"))
    (c.first_word.ensures ∙ ap (before_first is_blank) c.text_after_words-then-begins_with_digit.ensures) in
    is ∙ ap (λ (digit : Bool). digit && named) (sym digit) ∙ fork_words text

pub returns-else-begins_with_digit : goal.returns-else-begins_with_digit
returns-else-begins_with_digit c =
    let text = c.args.text.now in
    let digit : begins_with_digit (text_after_words 0 text) ≡ false =
    sym (c.begins_with_digit.ensures ∙ ap begins_with_digit c.text_after_words.ensures) ∙ c.if-begins_with_digit.false in
    let named : Bool = bytes_eq (before_first is_blank (text_after_words 1 text)) (codes "fork") in
    c.if-begins_with_digit.false ∙ ap (λ (digit : Bool). digit && named) (sym digit) ∙ fork_words text
