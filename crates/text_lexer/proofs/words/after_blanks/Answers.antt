-- For `after_blanks`: its goals.
use Rattle.text_lexer.proofs.WordParts.{boundary_at_part}
use Rattle.text_lexer.proofs.words.after_blanks.Goals as goal

pub split_at-requires : goal.split_at-requires
split_at-requires c = rw (c.first_part.ensures, c.as_bytes.ensures.value) (boundary_at_part c.args.text.now c.utf8.text)
