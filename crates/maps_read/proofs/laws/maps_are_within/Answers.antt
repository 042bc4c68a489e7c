-- For `maps_are_within`: its goals.
use Rattle.maps_read.proofs.Bytes.{maps_within}
use Rattle.maps_read.proofs.Answers.{query_answer-within}
use Rattle.maps_read.proofs.laws.maps_are_within.Goals as goal

pub returns-clause-lines : goal.returns-clause-lines
returns-clause-lines c = maps_within

pub returns-clause-answer : goal.returns-clause-answer
returns-clause-answer c = query_answer-within
