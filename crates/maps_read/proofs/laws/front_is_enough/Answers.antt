-- For `front_is_enough`: its goals.
use Rattle.maps_read.proofs.Bytes.{maps_of-front}
use Rattle.maps_read.proofs.Answers.{query_answer-front}
use Rattle.maps_read.proofs.laws.front_is_enough.Goals as goal

pub returns-clause-lines : goal.returns-clause-lines
returns-clause-lines c = maps_of-front

pub returns-clause-answer : goal.returns-clause-answer
returns-clause-answer c = query_answer-front
