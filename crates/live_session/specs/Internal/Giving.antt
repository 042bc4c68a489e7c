-- What giving the answers in a piece results in.
use Rattle.std.specs.Prelude.{ℕ, ◌≡◌, ◌<◌, List, [], length, Result, Ok, Err}
use Rattle.io_edge.specs.Edge.{SinkView}
use Rattle.output.specs.declared.error.PrintError.{PrintError}
use Rattle.output.specs.Giving.{Gave, IsCutOff}

-- all were given and the piece has none; or there are some, and giving them ended early
abbrev pub GivesAnswers : SinkView → SinkView → List ℕ → List ℕ → Result (Unit {0}) PrintError → Type 0
GivesAnswers old new answers left (Ok done) = Gave old new answers × (left ≡ [])
GivesAnswers old new answers left (Err error) = IsCutOff old new [] answers error × (0 < length answers)
