-- For `check_limits`: its goals.
use Rattle.std.proofs.Common.{refl}
use Rattle.text_lexer.specs.Lines.{input_limit}
use Rattle.output.specs.Input.{check_limit}
use Rattle.output.proofs.laws.check_limits.Goals as goal

pub returns-clause-input : goal.returns-clause-input
unfolding check_limit input_limit
returns-clause-input c = refl
