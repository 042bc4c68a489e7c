-- For `read_lines` and `read_script`: where line 1 is named, no memory is taken.
use Rattle.std.proofs.Common.{◌≡◌, ◌≢◌, ℕ, ◌+◌, ◌<◌, ◌≤◌, Bool, true, false, not, ◌&&◌, nat_eq, nat_lt, List, [], ◌∷◌, codes, IfErr, Option, Some, None, Result, Ok, Err, if◌then◌else◌, refl, sym, ap, ◌∙◌, subst, arith}
use Rattle.std.specs.Prelude.{IsErrOf}
use Rattle.std.proofs.lemmas.Bool.{eqb-false, false≢true}
use Rattle.text_lexer.specs.declared.error.BadLine.{BadLine}
use Rattle.text_lexer.specs.declared.error.CallError.{CallError}
use Rattle.text_lexer.specs.declared.error.CallError.TheVariants as calls
use Rattle.text_lexer.specs.declared.error.Cause.{Cause}
use Rattle.text_lexer.specs.declared.error.Cause.TheVariants.{Header, TooMany}
use Rattle.text_lexer.specs.declared.error.ReadError.{ReadError}
use Rattle.text_lexer.specs.declared.error.ReadError.TheVariants as reads
use Rattle.text_lexer.specs.Causes.{◌>>=◌}
use Rattle.text_lexer.specs.BadLines.{at_line}
use Rattle.text_lexer.specs.Lines.{RawLine, lines_from, raw_lines, text_of}
use Rattle.text_lexer.specs.Reading.{IsErrorOf, error_at}
use Rattle.text_lexer.specs.Words.{is_comment, is_header, words_of}
use Rattle.text_lexer.proofs.RawReading.{first_bad, first_good}
use Rattle.text_lexer.proofs.FirstLine.{lines_bad}
use Rattle.step_script.specs.declared.lines.Said.{Said}
use Rattle.step_script.specs.declared.lines.Said.TheVariants as said
use Rattle.grace_core.specs.declared.events.GraceEvent.{GraceEvent}
use Rattle.lock_core.specs.declared.events.LockEvent.{LockEvent}
use Rattle.step_script.specs.declared.script.Script.{Script}
use Rattle.step_script.specs.declared.script.Script.TheVariants.{Lock, Grace}
use Rattle.step_script.specs.declared.script.TheConstants.{MOST_LINES}
use Rattle.step_script.specs.Grammar.{after_script_lines, whole_script, script_of}
use Rattle.step_script.specs.Reading.{LacksOnlyIf}
use Rattle.step_script.specs.GraceLines.{grace_event}
use Rattle.step_script.specs.LockLines.{lock_event}
use Rattle.step_script.specs.Lines.{is_passed_over, speaks, text_speaks, line_speaks, read_core, said_to, said_after, said_by, said_in, script_with, with_said, after_script_line}

-- ---- a line that leaves no core says nothing, and none was named before

-- nothing was said, to no core
said_none : (number : ℕ) (what : Said) → with_said number what ≡ Ok None → what ≡ said.Nothing None
unfolding with_said
said_none number what e = by_test (nat_lt MOST_LINES number) e
  where
    by_said : (what : Said) → script_with number what ≡ None → what ≡ said.Nothing None
    by_said (said.Nothing script) none = ap said.Nothing none
    by_said (said.Core script) none = absurd cc
    by_said (said.Lock script event) none = absurd cc
    by_said (said.Grace script event) none = absurd cc

    by_test : (b : Bool) → (if b then Err TooMany else Ok (script_with number what)) ≡ Ok None → what ≡ said.Nothing None
    by_test true e = absurd cc
    by_test false e = let none : script_with number what ≡ None = cc in by_said what none

-- a word that is no comment names a core or an event
to_none : (script : Option Script) (text name : List ℕ) (words : List (List ℕ)) → said_to script text name words ≢ Ok (said.Nothing None)
unfolding said_to
to_none None text name words = by_core (read_core name words)
  where
    by_core : (read : Result Script Cause) → (read >>= λ core. Ok (said.Core core)) ≢ Ok (said.Nothing None)
    by_core (Ok core) = λ e. cc
    by_core (Err cause) = λ e. cc
to_none (Some (Lock script)) text name words = by_event (lock_event script.readers script.parts text name words)
  where
    by_event : (read : Result LockEvent Cause) → (read >>= λ event. Ok (said.Lock script event)) ≢ Ok (said.Nothing None)
    by_event (Ok event) = λ e. cc
    by_event (Err cause) = λ e. cc
to_none (Some (Grace script)) text name words = by_event (grace_event script.readers script.parts name words)
  where
    by_event : (read : Result GraceEvent Cause) → (read >>= λ event. Ok (said.Grace script event)) ≢ Ok (said.Nothing None)
    by_event (Ok event) = λ e. cc
    by_event (Err cause) = λ e. cc

-- the script is none, and nothing is said
abbrev IsSilent : Option Script → Bool → Type 0
IsSilent script speaks = (script ≡ None) × (speaks ≡ false)

below_none : (script : Option Script) (text : List ℕ) (words : List (List ℕ)) → said_by script text words ≡ Ok (said.Nothing None)
    → IsSilent script (not (is_passed_over words))
unfolding said_by said_after
below_none script text [] e = (cc, refl)
below_none script text (name ∷ words) e = by_comment (is_comment name) e
  where
    by_comment : (b : Bool) → (if b then Ok (said.Nothing script) else said_to script text name words) ≡ Ok (said.Nothing None) → IsSilent script (not b)
    by_comment true e = (cc, refl)
    by_comment false e = absurd (to_none script text name words e)

in_none : (script : Option Script) (number : ℕ) (text : List ℕ) (words : List (List ℕ)) → said_in script number text words ≡ Ok (said.Nothing None)
    → IsSilent script (speaks number words)
unfolding said_in
in_none script number text words e = by_number (nat_eq number 1) e
  where
    header : Bool
    header = is_header (codes "vmasteps") (codes "1") words

    by_header : (b : Bool) → (if b then Ok (said.Nothing script) else Err Header) ≡ Ok (said.Nothing None) → script ≡ None
    by_header true e = cc
    by_header false e = absurd cc

    by_number : (b : Bool) → (if b then (if header then Ok (said.Nothing script) else Err Header) else said_by script text words)
        ≡ Ok (said.Nothing None)
        → IsSilent script (not b && not (is_passed_over words))
    by_number true e = (by_header header e, refl)
    by_number false e = below_none script text words e

silent : (script : Option Script) (line : RawLine) → after_script_line script line ≡ Ok None → IsSilent script (line_speaks line)
unfolding after_script_line
silent script line e = by_text (text_of line) e
  where
    by_said : (text : List ℕ) (read : Result Said Cause) → said_in script line.number text (words_of text) ≡ read
        → (read >>= λ what. with_said line.number what) ≡ Ok None → IsSilent script (speaks line.number (words_of text))
    by_said text (Ok what) is e = in_none script line.number text (words_of text) (is ∙ ap Ok (said_none line.number what e))
    by_said text (Err cause) is e = absurd cc

    by_text : (read : Result (List ℕ) Cause)
        → (read >>= λ text. (said_in script line.number text (words_of text) >>= λ what. with_said line.number what)) ≡ Ok None
        → IsSilent script (text_speaks line.number read)
    by_text (Ok text) e = by_said text (said_in script line.number text (words_of text)) refl e
    by_text (Err cause) e = absurd cc

-- ---- a core that was named stays

keeps_core : (core : Script) (lines : List RawLine) → after_script_lines (Some core) lines ≢ Ok None
keeps_core core [] = λ e. cc
keeps_core core (line ∷ lines) = by_line (after_script_line (Some core) line) refl (λ next. keeps_core next lines)
  where
    by_line : (read : Result (Option Script) Cause) → after_script_line (Some core) line ≡ read
        → ((next : Script) → after_script_lines (Some next) lines ≢ Ok None)
        → at_line line.number read (λ next. after_script_lines next lines) ≢ Ok None
    by_line (Err cause) is later = λ e. cc
    by_line (Ok None) is later = λ e. cc (silent (Some core) line is).0
    by_line (Ok (Some next)) is later = later next

-- ---- a line that says something is not line 1, and what is named then is not line 1 either

below_header : (number : ℕ) (rest : Bool) → (not (nat_eq number 1) && rest) ≡ true → nat_eq number 1 ≡ false
below_header number rest e = by_test (nat_eq number 1) e
  where
    by_test : (b : Bool) → (not b && rest) ≡ true → b ≡ false
    by_test true e = absurd cc
    by_test false e = refl

speaks_below : (line : RawLine) → line_speaks line ≡ true → nat_eq line.number 1 ≡ false
speaks_below line e = by_text (text_of line) e
  where
    by_text : (read : Result (List ℕ) Cause) → text_speaks line.number read ≡ true → nat_eq line.number 1 ≡ false
    by_text (Ok text) e = below_header line.number (not (is_passed_over (words_of text))) e
    by_text (Err cause) e = absurd cc

-- where a line says something and memory runs out there, line 1 is not what is named
pub named_below : (script : Option Script) (lines : List RawLine) (line : RawLine) (number start : ℕ) (rest : List ℕ)
    (all : Result (Option Script) BadLine)
    → after_script_lines script lines ≡ all → lines ≡ line ∷ lines_from (number + 1) start rest → line.number ≡ number
    → 0 < number → line_speaks line ≡ true → IfErr (whole_script all) (λ first. 1 < first.line)
named_below script lines line number start rest all so_far parts numbered begun speaking =
    by_line (after_script_line script line) refl
  where
    more : List RawLine
    more = lines_from (number + 1) start rest

    past : 1 < number
    past = omega (arith, numbered, eqb-false line.number 1 (speaks_below line speaking))

    by_all : (core : Script) (read : Result (Option Script) BadLine) → after_script_lines (Some core) more ≡ read
        → IfErr (whole_script read) (λ first. 1 < first.line)
    by_all core (Ok (Some next)) is = tt
    by_all core (Ok None) is = absurd (keeps_core core more is)
    by_all core (Err first) is = omega (arith, lines_bad after_script_line (Some core) (number + 1) start rest first is)

    by_line : (read : Result (Option Script) Cause) → after_script_line script line ≡ read → IfErr (whole_script all) (λ first. 1 < first.line)
    by_line (Err cause) is =
        subst (λ (r : Result (Option Script) BadLine). IfErr (whole_script r) (λ first. 1 < first.line))
        (sym (first_bad after_script_line script lines more line cause all number so_far parts numbered is)) past
    by_line (Ok None) is = absurd (false≢true (sym (silent script line is).1 ∙ speaking))
    by_line (Ok (Some core)) is =
        by_all core all (first_good after_script_line script (Some core) lines more line all so_far parts is)

-- so where memory runs out at a line
pub memory_below : (script : Option Script) (lines : List RawLine) (line : RawLine) (number start : ℕ) (rest bytes : List ℕ) (error : CallError)
    → after_script_lines script lines ≡ after_script_lines None (raw_lines bytes) → lines ≡ line ∷ lines_from (number + 1) start rest
    → line.number ≡ number → 0 < number → LacksOnlyIf {X = Option Script} (line_speaks line) (Err error)
    → IsErrOf {T = Option Script} (Err (error_at number error)) reads.NoMemory → IfErr (script_of bytes) (λ first. 1 < first.line)
unfolding script_of
memory_below script lines line number start rest bytes (calls.Bad cause) so_far parts numbered begun may lacks = absurd (cc lacks)
memory_below script lines line number start rest bytes calls.NoMemory so_far parts numbered begun speaking lacks =
    named_below script lines line number start rest (after_script_lines None (raw_lines bytes)) so_far parts numbered begun speaking

-- an error of the lines is that of the script, where line 1 is named
pub first_told : (bytes : List ℕ) (first : BadLine) (error : ReadError) → IsErrorOf error (after_script_lines None (raw_lines bytes))
    → (IsErrOf {T = Option Script} (Err error) reads.NoMemory → IfErr (script_of bytes) (λ first. 1 < first.line))
    → script_of bytes ≡ Err first → first.line ≡ 1 → error ≡ reads.Bad first
unfolding script_of
first_told bytes first (reads.Bad bad) is memory named one =
    let same : whole_script (Err bad) ≡ Err first = sym (ap whole_script is) ∙ named in
    let one_line : bad ≡ first = cc in ap reads.Bad one_line
first_told bytes first reads.NoMemory is memory named one =
    let below : 1 < first.line = subst (λ (r : Result Script BadLine). IfErr r (λ first. 1 < first.line)) named (memory refl) in
    absurd (omega (arith, below, one))
