-- For `is_passed_over`: its goals.
use Rattle.std.proofs.Common.{◌∙◌, sym, refl}
use Rattle.step_script.proofs.PassedOver.{passed_found}
use Rattle.step_script.proofs.lines.is_passed_over.Goals as goal

pub returns-then-is_empty : goal.returns-then-is_empty
returns-then-is_empty c =
    c.if-is_empty.true ∙ passed_found c.args.text.now _ _ _ c.text_after_words-text.ensures (sym c.if-is_empty.true ∙ c.is_empty.ensures) refl

pub returns-else-is_empty : goal.returns-else-is_empty
returns-else-is_empty c =
    passed_found c.args.text.now _ _ _ c.text_after_words-text.ensures (sym c.if-is_empty.false ∙ c.is_empty.ensures) c.is_comment.ensures
