-- What the words after the program's name ask for.
use Rattle.std.specs.Prelude.{ℕ, ◌≤◌, ◌==◌, ◌||◌, ◌&&◌, Bool, false, not, List, [], ◌∷◌, map, codes, bytes_eq, slice_index, string_bytes, String, Option, Some, None, is_some, option_and_then, nat_le, if◌then◌else◌}
use Rattle.std.specs.declared.alloc.Global.{Global}
use Rattle.std.specs.List.{list_any}
use Rattle.text_lexer.specs.Numbers.{decimal_of, number_of}
use Rattle.gen_load.specs.declared.loading.TheConstants.{MOST_OPERATIONS}
use Rattle.vma_replay.specs.declared.words.Conversion.TheVariants as conversions
use Rattle.vma_replay.specs.declared.words.Job.{Job}
use Rattle.vma_replay.specs.declared.words.Job.TheVariants as jobs
use Rattle.vma_replay.specs.declared.words.Mode.TheVariants as modes
use Rattle.vma_replay.specs.declared.words.Run.{Run}
use Rattle.vma_replay.specs.declared.words.Run.TheVariants as runs

-- a job that has no words after the first
abbrev pub alone : Job → List (List ℕ) → Option Job
alone job [] = Some job
alone job (word ∷ words) = None

-- how many operations are to be generated: 1 to 20 decimal digits and nothing else, with a value of at most 400,000
abbrev pub operation_count : List ℕ → Option ℕ
operation_count word = option_and_then (λ count. if nat_le count MOST_OPERATIONS then Some count else None) (decimal_of word)

-- the job of a count and a seed, which is 1 to 20 decimal digits and nothing else, with a value below 2^64
abbrev pub generate_job : List ℕ → List ℕ → Option Job
generate_job count seed = option_and_then (λ operations. option_and_then (λ start. Some (jobs.Generate operations start)) (decimal_of seed))
    (operation_count count)

-- the job of the words after `generate`: a count and a seed
abbrev pub generate_words : List (List ℕ) → Option Job
generate_words (count ∷ seed ∷ []) = generate_job count seed
generate_words words = None

-- the job of the words after `query`: an address, which is a number as the lines of a trace have it
abbrev pub query_words : List (List ℕ) → Option Job
query_words (address ∷ []) = option_and_then (λ at. Some (jobs.Convert (conversions.Query at))) (number_of address)
query_words words = None

-- The job that a first word and the words after it name: each kind of work has its first word. The accepted lists are `serial`, `threads`,
-- `steps`, `retrace` and `check`, each alone, `query ADDRESS`, and `generate COUNT SEED`.
unfoldable pub named_job : List ℕ → List (List ℕ) → Option Job
named_job name words = if bytes_eq name (codes "serial") then alone (jobs.Replay modes.Serial) words
    else if bytes_eq name (codes "threads") then alone (jobs.Replay modes.Threads) words
    else if bytes_eq name (codes "steps") then alone (jobs.Convert conversions.Steps) words
    else if bytes_eq name (codes "retrace") then alone (jobs.Convert conversions.Retrace) words
    else if bytes_eq name (codes "check") then alone jobs.Check words
    else if bytes_eq name (codes "query") then query_words words
    else if bytes_eq name (codes "generate") then generate_words words else None

-- the job that words name
abbrev pub job_of_words : List (String Global) → Option Job
job_of_words [] = None
job_of_words (word ∷ words) = named_job (string_bytes word) (map string_bytes words)

-- whether the words are an accepted list
abbrev pub are_accepted : List (String Global) → Bool
are_accepted words = is_some (job_of_words words)

-- the character `-`
abbrev pub dash : ℕ
dash = 45

-- the word begins with `-`
abbrev pub begins_with_dash : String Global → Bool
begins_with_dash word = slice_index (string_bytes word) 0 == dash

-- a word that is a mode: the first of an accepted list
unfoldable pub is_mode : List ℕ → Bool
is_mode word = bytes_eq word (codes "serial") || bytes_eq word (codes "threads") || bytes_eq word (codes "steps")
    || bytes_eq word (codes "retrace") || bytes_eq word (codes "check") || bytes_eq word (codes "query") || bytes_eq word (codes "generate")

-- the first of the words is one
abbrev pub begin_with_mode : List (String Global) → Bool
begin_with_mode [] = false
begin_with_mode (word ∷ words) = is_mode (string_bytes word)

-- words that begin with a mode, of which none begins with `-`
abbrev pub are_tried : List (String Global) → Bool
are_tried words = begin_with_mode words && not (list_any begins_with_dash words)

-- the job of a run
abbrev pub job_of_run : Run → Job
job_of_run (runs.Replay mode) = jobs.Replay mode
job_of_run (runs.Generate count seed) = jobs.Generate count seed

-- a job that is in its limits
abbrev pub IsInLimits : Job → Type 0
IsInLimits (jobs.Replay mode) = Unit {0}
IsInLimits (jobs.Convert conversion) = Unit {0}
IsInLimits jobs.Check = Unit {0}
IsInLimits (jobs.Generate count seed) = count ≤ MOST_OPERATIONS
