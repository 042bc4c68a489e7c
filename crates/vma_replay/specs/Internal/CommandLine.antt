-- The words after the program's name, as `clap` reads them.
use Rattle.std.specs.Prelude.{true, List, [], Option, Some, option_and_then, codes, unwrap_or}
use Rattle.clap.specs.Lexer.{usize_max}
use Rattle.clap.specs.Simple.{App, new_app, new_rule, on_top, with_rule}
use Rattle.clap.specs.Walk.{Row, Rule, all_of, first_of}
use Rattle.vma_replay.specs.declared.words.Job.{Job}
use Rattle.vma_replay.specs.Jobs.{named_job}

-- the word that names the mode
abbrev pub mode_rule : Rule
mode_rule = record (new_rule (codes "mode")) { required = true }

-- the words after it, of which there may be any number
abbrev pub rest_rule : Rule
rest_rule = record (new_rule (codes "rest")) { range = Some (record { start_inclusive = 0; end_inclusive = usize_max }) }

-- a mode and its rest, with no option and no flag
unfoldable pub words_command : App
words_command = with_rule (with_rule (on_top (λ top. record top { no_binary_name = true; disable_help_flag = true; disable_version_flag = true })
    (new_app (codes "replay"))) mode_rule) rest_rule

-- the job that the values name
unfoldable pub job_of_rows : List Row → Option Job
job_of_rows rows = option_and_then (λ name. named_job name (unwrap_or (all_of (codes "rest") rows) [])) (first_of (codes "mode") rows)
