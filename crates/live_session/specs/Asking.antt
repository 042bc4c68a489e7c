-- What a line of a session asks for.
use Rattle.std.specs.Prelude.{ℕ, Bool, false, ◌&&◌, List, [], ◌∷◌, length, codes, bytes_eq, nat_lt, Option, Some, None, option_map, slice_get, Result, Ok, Err, if◌then◌else◌}
use Rattle.text_lexer.specs.declared.error.Cause.{Cause}
use Rattle.text_lexer.specs.declared.error.Cause.TheVariants as causes
use Rattle.text_lexer.specs.Causes.{◌>>=◌}
use Rattle.text_lexer.specs.Lines.{RawLine, text_of}
use Rattle.text_lexer.specs.Numbers.{number}
use Rattle.text_lexer.specs.Words.{words_of, begins_with_digit}
use Rattle.trace_reader.specs.declared.trace.Op.TheVariants.{Maps}
use Rattle.trace_reader.specs.declared.trace.TraceLine.{TraceLine}
use Rattle.trace_reader.specs.Fields.{read_thread}
use Rattle.trace_reader.specs.Lines.{SoFar, after_trace_line}
use Rattle.live_session.specs.declared.asking.Asked.{Asked}
use Rattle.live_session.specs.declared.asking.Asked.TheVariants as asks

-- the word `new` alone
unfoldable pub is_new : List (List ℕ) → Bool
is_new (word ∷ []) = bytes_eq word (codes "new")
is_new _ = false

-- on the line of this number, below the header: the first word is `query`
unfoldable pub is_query_line : ℕ → List (List ℕ) → Bool
is_query_line line [] = false
is_query_line line (first ∷ words) = nat_lt 1 line && bytes_eq first (codes "query")

-- on the line of this number, below the header: the operation is `fork`
unfoldable pub is_fork_line : ℕ → List (List ℕ) → Bool
is_fork_line line (first ∷ name ∷ words) = nat_lt 1 line && begins_with_digit first && bytes_eq name (codes "fork")
is_fork_line line _ = false

-- the address of `query ADDRESS`
unfoldable pub query_of : List (List ℕ) → Result ℕ Cause
query_of (query ∷ address ∷ []) = number address
query_of _ = Err causes.Arity

-- what a line of a trace asks for: the operation that it adds, if it adds one
abbrev pub asked_of_new : Option TraceLine → Asked
asked_of_new (Some line) = asks.Operation line
asked_of_new None = asks.Nothing

-- what a line of a trace asks for, and what the lines say with it
abbrev pub asked_line : SoFar → SoFar → Asked × SoFar
asked_line before after = (asked_of_new (slice_get after.lines (length before.lines)), after)

-- the read of the list by this thread, on the line of this number
abbrev pub areas_line : ℕ → ℕ → TraceLine
areas_line line thread = record { number = line; thread = thread; op = Maps; after = None }

-- the read of the list that words are, on the line of this number: a thread, and `maps` alone
unfoldable pub list_read : ℕ → List (List ℕ) → Option TraceLine
list_read line (thread ∷ name ∷ []) = if bytes_eq name (codes "maps") then option_map (areas_line line) (read_thread thread) else None
list_read line _ = None

-- what a line asks for that is refused as one of a trace: a read of the list for which a trace has no room is answered all the same
abbrev pub beyond : Cause → Option TraceLine → Result Asked Cause
beyond causes.TooMany (Some line) = Ok (asks.Areas line)
beyond cause list = Err cause

-- what a line of a trace asks for, and what the lines say with it
abbrev pub added_or : Option TraceLine → SoFar → Result SoFar Cause → Result (Asked × SoFar) Cause
added_or list so_far (Ok after) = Ok (asked_line so_far after)
added_or list so_far (Err cause) = beyond cause list >>= λ asked. Ok (asked, so_far)

-- What a line with these words asks for behind the lines so far, and what they say with it: the end of the space, an address, nothing, since a
-- session refuses `fork`, or what the line of a trace asks for. All but the last leave what the lines say.
unfoldable pub asked_by_words : SoFar → RawLine → List (List ℕ) → Result (Asked × SoFar) Cause
asked_by_words so_far line words = if is_new words then Ok (asks.New, so_far)
    else if is_query_line line.number words then (query_of words >>= λ address. Ok (asks.Query address, so_far))
    else if is_fork_line line.number words then Err causes.Child
    else added_or (list_read line.number words) so_far (after_trace_line so_far line)

-- what a line asks for behind the lines so far, and what they say with it, or the first test that it fails
unfoldable pub asked_of : SoFar → RawLine → Result (Asked × SoFar) Cause
asked_of so_far line = text_of line >>= λ text. asked_by_words so_far line (words_of text)
