-- The proof of `replay`: what was given where not all was is a beginning of a text of closed runs; words for which a space is opened were tried.
use Rattle.std.proofs.Common.{◌∙◌, ap, sym, Some}
use Rattle.vma_replay.specs.Jobs.{job_of_run}
use Rattle.vma_replay.specs.declared.words.Run.{Run}
use Rattle.vma_replay.proofs.Fronts.{generate_short, replay_fault, replay_short}
use Rattle.vma_replay.proofs.run.replay.Goals as goal

pub returns-in-Ok-clause-trace : goal.returns-in-Ok-clause-trace
returns-in-Ok-clause-trace g c = λ line cause is. c.in-Ok.ensures.trace line cause (sym c.without_runs.ensures.0 ∙ is)

pub returns-in-Ok-read_source-clause-words_untried : goal.returns-in-Ok-read_source-clause-words_untried
returns-in-Ok-read_source-clause-words_untried g c = λ untried. absurd (cc (untried, c.in-Err-Replay.ensures.tried))

pub returns-in-Ok-read_source-clause-write_fault_gives_a_proper_front : goal.returns-in-Ok-read_source-clause-write_fault_gives_a_proper_front
returns-in-Ok-read_source-clause-write_fault_gives_a_proper_front g c =
    replay_fault _ _ (g.S.Source.seen c.args.source.now) (g.S.Source.seen c.answer_without_space.new.source) (g.S.Source.seen c.read_source.new.source) (g.K.Sink.seen c.args.sink.now)
    (g.K.Sink.seen c.answer_without_space.new.sink) (g.K.Sink.seen c.give_run.new.sink) c.in-Ok-read_source.trace _ _ (ap g.S.Source.seen c.in-Err-Replay.ensures.untouched.0)
    (ap g.K.Sink.seen c.in-Err-Replay.ensures.untouched.1)
    (c.in-Err-Replay.ensures.run ∙ ap (λ (run : Run). Some (job_of_run run)) c.in-Err-Replay.field-0-is) c.in-Ok-read_source.ensures.reading
    c.give_run.ensures

pub returns-in-Ok-read_source-clause-no_memory_gives_a_front : goal.returns-in-Ok-read_source-clause-no_memory_gives_a_front
returns-in-Ok-read_source-clause-no_memory_gives_a_front g c =
    replay_short _ _ (g.S.Source.seen c.args.source.now) (g.S.Source.seen c.answer_without_space.new.source) (g.S.Source.seen c.read_source.new.source) (g.K.Sink.seen c.args.sink.now)
    (g.K.Sink.seen c.answer_without_space.new.sink) (g.K.Sink.seen c.give_run.new.sink) c.in-Ok-read_source.trace _ _ (ap g.S.Source.seen c.in-Err-Replay.ensures.untouched.0)
    (ap g.K.Sink.seen c.in-Err-Replay.ensures.untouched.1)
    (c.in-Err-Replay.ensures.run ∙ ap (λ (run : Run). Some (job_of_run run)) c.in-Err-Replay.field-0-is) c.in-Ok-read_source.ensures.reading
    c.give_run.ensures

pub returns-in-Err-clause-words_untried : goal.returns-in-Err-clause-words_untried
returns-in-Err-clause-words_untried g c = λ untried. absurd (cc (untried, c.in-Err-Replay.ensures.tried))

pub returns-in-Err-Generate-clause-words_untried : goal.returns-in-Err-Generate-clause-words_untried
returns-in-Err-Generate-clause-words_untried g c = λ untried. absurd (cc (untried, c.in-Err-Generate.ensures.tried))

pub returns-in-Err-Generate-clause-no_memory_gives_a_front : goal.returns-in-Err-Generate-clause-no_memory_gives_a_front
returns-in-Err-Generate-clause-no_memory_gives_a_front g c =
    generate_short _ _ _ (g.S.Source.seen c.args.source.now) (g.S.Source.seen c.answer_without_space.new.source) (g.K.Sink.seen c.args.sink.now)
    (g.K.Sink.seen c.answer_without_space.new.sink) (g.K.Sink.seen c.give_summary.new.sink) _ _
    (ap g.K.Sink.seen c.in-Err-Generate.ensures.untouched.1)
    (c.in-Err-Generate.ensures.run ∙ ap (λ (run : Run). Some (job_of_run run)) c.in-Err-Generate.field-0-is) c.give_summary.ensures
