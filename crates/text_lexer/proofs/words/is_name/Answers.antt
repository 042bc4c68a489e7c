-- For `is_name`: its goals.
use Rattle.std.proofs.Common.{ℕ, ◌≡◌, ◌∙◌, sym, ap, List, length, nat_eq, bytes_eq, arith}
use Rattle.std.specs.List.{starts_with}
use Rattle.std.proofs.lemmas.Bool.Decides.{same_from_decides, Decides-like}
use Rattle.std.proofs.lemmas.List.{take_all}
use Rattle.std.proofs.lemmas.Slice.Eq.{bytes_eq-Decides}
use Rattle.std.proofs.lemmas.Str.Pattern.{starts_text}
use Rattle.text_lexer.proofs.words.is_name.Goals as goal

-- a word of the length of a name begins with it just where it is the name
begins_is : (word name : List ℕ) → length word ≡ length name → starts_with nat_eq word name ≡ bytes_eq word name
begins_is word name same = ap (bytes_eq name) (take_all (length name) word (omega (arith, same)))
    ∙ same_from_decides (bytes_eq name word) (bytes_eq word name) (bytes_eq-Decides name word)
    (Decides-like (bytes_eq word name) (λ e. sym e) (λ e. sym e) (bytes_eq-Decides word name))

pub returns-then-word-name : goal.returns-then-word-name
returns-then-word-name c = starts_text c.starts_with.result c.args.name.now c.args.word.now c.starts_with.ensures.cases
    ∙ begins_is c.args.word.now c.args.name.now (omega arith)
