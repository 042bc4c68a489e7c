-- For `is_header`: its goals.
use Rattle.std.proofs.Common.{◌∙◌, sym, refl}
use Rattle.text_lexer.proofs.FirstWords.{header_found}
use Rattle.text_lexer.proofs.words.is_header.Goals as goal

pub returns-then-is_empty : goal.returns-then-is_empty
returns-then-is_empty c =
    header_found c.args.format.now c.args.version.now c.args.text.now _ _ _ _ _ _ _ _ _ c.text_after_words-behind.ensures
    (sym c.if-is_empty.true ∙ c.is_empty.ensures) refl refl refl refl refl refl refl

pub returns-then-not-is_name : goal.returns-then-not-is_name
returns-then-not-is_name c =
    header_found c.args.format.now c.args.version.now c.args.text.now _ _ _ _ _ _ _ _ _ c.text_after_words-behind.ensures
    (sym c.if-is_empty.false ∙ c.is_empty.ensures) c.text_after_words.ensures c.first_word-first.ensures c.if-not-is_name.ensures refl refl refl refl

pub returns-then-is_name : goal.returns-then-is_name
returns-then-is_name c =
    header_found c.args.format.now c.args.version.now c.args.text.now _ _ _ _ _ _ _ _ _ c.text_after_words-behind.ensures
    (sym c.if-is_empty.false ∙ c.is_empty.ensures) c.text_after_words.ensures c.first_word-first.ensures c.if-not-is_name.ensures
    c.first_word-second.ensures c.if-is_name.ensures c.text_after_words-then-is_name.ensures c.is_empty-then-is_name.ensures

pub returns-else-is_name : goal.returns-else-is_name
returns-else-is_name c =
    c.if-is_name.false ∙ header_found c.args.format.now c.args.version.now c.args.text.now _ _ _ _ _ _ _ _ _ c.text_after_words-behind.ensures
    (sym c.if-is_empty.false ∙ c.is_empty.ensures) c.text_after_words.ensures c.first_word-first.ensures c.if-not-is_name.ensures
    c.first_word-second.ensures c.if-is_name.ensures refl refl
