-- The proof of `job_of`: words that `clap` refuses name no job.
use Rattle.std.proofs.Common.{sym, ◌∙◌}
use Rattle.std.proofs.lemmas.Result.{err_from_is_err_and}
use Rattle.vma_replay.proofs.CommandLine.{tried_refused}
use Rattle.vma_replay.proofs.words.job_of.Goals as goal

pub returns-in_err-matches-clause-words : goal.returns-in_err-matches-clause-words
returns-in_err-matches-clause-words c = λ is.
    let given = err_from_is_err_and c.from_residual.result c.from_residual.ensures.1 in
    tried_refused c.args.words.now (sym c.are_tried.ensures ∙ c.if-not-are_tried.false) (λ taken. cc (c.in_err-matches.ensures.err taken, is, given.1, given.2))
