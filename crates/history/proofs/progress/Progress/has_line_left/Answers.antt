-- The proof of `Progress::has_line_left`: where a caller was found that has lines left.
use Rattle.history.proofs.Advances.{some_left}
use Rattle.history.proofs.progress.Progress.has_line_left.Goals as goal

pub returns-in-Some : goal.returns-in-Some
returns-in-Some c = λ lines before is none. some_left lines before _ (c.in-Some.ensures lines before is) none
