-- The proof of `parse`: the command is one of those that `clap` speaks of.
use Rattle.std.proofs.Common.{ap, map, refl, string_bytes, true, ◌≡◌, ◌∙◌}
use Rattle.clap.specs.Words.{is_simple, matches_of}
use Rattle.clap.proofs.OnLiterals.{clap_on_literals}
use Rattle.vma_replay.specs.Internal.CommandLine.{words_command}
use Rattle.vma_replay.proofs.words.parse.Goals as goal

simple : is_simple words_command ≡ true
unfolding clap_on_literals words_command
simple = refl

pub returns-in-Ok-try_get_matches_from-clause-ok :
    goal.returns-in-Ok-try_get_matches_from-clause-ok
returns-in-Ok-try_get_matches_from-clause-ok c =
    let same = c.in-Ok.ensures in
    (c.in-Ok-try_get_matches_from.ensures.matches (ap is_simple same ∙ simple)).0
    ∙ ap (λ command. matches_of command (map string_bytes c.args.words.now)) same
