-- For `split_word`: its goals.
use Rattle.text_lexer.proofs.WordParts.{boundary_at_blank}
use Rattle.text_lexer.proofs.words.split_word.Goals as goal

pub split_at-requires : goal.split_at-requires
split_at-requires c = rw (c.first_blank.ensures, c.as_bytes.ensures.value) (boundary_at_blank c.args.text.now)
