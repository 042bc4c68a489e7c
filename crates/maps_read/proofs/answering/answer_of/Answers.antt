-- For `answer_of`: its goals.
use Rattle.text_lexer.proofs.FirstLine.{error_handed_on}
use Rattle.maps_read.proofs.answering.answer_of.Goals as goal

pub returns-clause-first : goal.returns-clause-first
returns-clause-first c = λ first is one. error_handed_on c.read_maps.result c.answered.result _ c.answered.ensures.unread (c.read_maps.ensures.first first is one)
