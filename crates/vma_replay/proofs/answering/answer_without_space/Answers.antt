-- The proof of `answer_without_space`: what was given of a judgement where the sink failed is a beginning of it.
use Rattle.std.proofs.Common.{◌∙◌, ap, Some}
use Rattle.vma_replay.proofs.Fronts.{check_fault}
use Rattle.vma_replay.proofs.answering.answer_without_space.Goals as goal

pub returns-in-Ok-check_source-clause-write_fault_gives_a_proper_front :
    goal.returns-in-Ok-check_source-clause-write_fault_gives_a_proper_front
returns-in-Ok-check_source-clause-write_fault_gives_a_proper_front g c =
    check_fault _ (g.S.Source.seen c.args.source.now) (g.S.Source.seen c.check_source.new.source) (g.K.Sink.seen c.args.sink.now)
    (g.K.Sink.seen c.give_text-in-Ok-check_source.new.sink) c.in-Ok-check_source.text.items c.deref-in-Ok-check_source.result.now _
    (c.in-Ok-Check.ensures.job ∙ ap Some c.in-Ok-Check.field-0-is) c.in-Ok-check_source.ensures c.deref-in-Ok-check_source.ensures.value
    c.give_text-in-Ok-check_source.ensures
