-- What is answered to an input.
use Rattle.std.specs.Prelude.{◌≡◌, ℕ, List}
use Rattle.output.specs.declared.judgement.Judgement.{Judgement}
use Rattle.output.specs.Judgements.{IsJudged, judgement_text}
use Rattle.output.specs.Input.{CheckInput}

-- a text tells what is judged of an input
abbrev pub IsCheckedAs : CheckInput → List ℕ → Type 0
IsCheckedAs input text = (judgement : Judgement) × IsJudged input.trace input.given judgement × (text ≡ judgement_text judgement)
