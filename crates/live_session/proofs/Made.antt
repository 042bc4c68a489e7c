-- Serves `laws.rt`: the space of a session is that after its operations, and each is answered by its item.
use Rattle.std.proofs.Common.{◌≡◌, ◌+◌, ◌∙◌, ◌⊎◌, ℕ, true, nat_lt, List, [], ◌∷◌, ◌++◌, length, slice_get, Option, Some, None, unwrap_or, Result, Ok, Err, IfOk, if◌then◌else◌, refl, sym, ap, subst, inl, inr, arith, length-append}
use Rattle.std.proofs.lemmas.Bool.{cond_both, ltb-false}
use Rattle.std.proofs.lemmas.Option.{slice_get_past}
use Rattle.mm_types.specs.declared.config.Config.{Config}
use Rattle.area_rules.specs.Steps.{opening}
use Rattle.area_rules.specs.Tables.{AddressSpace}
use Rattle.text_lexer.specs.declared.error.Cause.{Cause}
use Rattle.text_lexer.specs.declared.error.Cause.TheVariants.{Child}
use Rattle.text_lexer.specs.Causes.{◌>>=◌}
use Rattle.text_lexer.specs.Lines.{RawLine, raw_line, text_of}
use Rattle.text_lexer.specs.Words.{words_of}
use Rattle.trace_reader.specs.declared.trace.Op.{Op}
use Rattle.trace_reader.specs.declared.trace.Op.TheVariants.{Maps}
use Rattle.trace_reader.specs.declared.trace.TraceLine.{TraceLine}
use Rattle.trace_reader.specs.Grammar.{config_of}
use Rattle.trace_reader.specs.Lines.{SoFar, after_trace_line}
use Rattle.history.specs.declared.items.Item.{Item}
use Rattle.history.specs.Histories.{answer_of, call_made, caller_of, gather, items_from, serial_history, space_after, version_after}
use Rattle.output.specs.Output.{content_text, item_text, item_start, maps_text}
use Rattle.live_session.specs.declared.asking.Asked.{Asked}
use Rattle.live_session.specs.declared.asking.Asked.TheVariants as asks
use Rattle.live_session.specs.Asking.{added_or, asked_by_words, asked_of, asked_of_new, is_fork_line, is_new, is_query_line, list_read, query_of}
use Rattle.live_session.specs.Items.{IsTextOfItem, after_operations, items_made}
use Rattle.live_session.specs.Sessions.{Opened, Session, after_operation, session_answer, answer_read, line_answer, session_begun, opened_by, operation_text, line_asks, refused, session_after, session_space}
use Rattle.live_session.proofs.LinesAdded.{Adds, after_line-adds}
use Rattle.live_session.proofs.Reached.{IsList, IsOwn, beyond_holds, list_read-list, ok_holds}

-- ---- what a line that was read adds

-- what a line that asks so leaves of what the lines say
abbrev Leaves : SoFar → SoFar → Asked → Type 0
Leaves before after asks.Nothing = (after.lines ≡ before.lines) × ((before.lines ≡ []) ⊎ (config_of after ≡ config_of before))
Leaves before after (asks.Areas line) = (after ≡ before) × (line.op ≡ Maps)
Leaves before after (asks.Operation line) = (after.lines ≡ before.lines ++ line ∷ []) × (config_of after ≡ config_of before)
Leaves before after (asks.Query address) = after ≡ before
Leaves before after asks.New = Unit {0}

abbrev IsRead : SoFar → Asked × SoFar → Type 0
IsRead before read = Leaves before read.1 read.0

own_read : (s : SoFar) (asked : Asked) → IsOwn asked → IsRead s (asked, s)
own_read s asks.Nothing own = (refl, inr refl)
own_read s (asks.Areas line) own = (refl, own)
own_read s (asks.Operation line) own = absurd own
own_read s (asks.Query address) own = refl
own_read s asks.New own = tt

-- the element behind others
pub slice_get_behind : {X : Type 0} (xs : List X) (x : X) (ys : List X) → slice_get (xs ++ x ∷ ys) (length xs) ≡ Some x
slice_get_behind [] x ys = refl
slice_get_behind (y ∷ xs) x ys = slice_get_behind xs x ys

added_read : (s after : SoFar) → Adds s after → IsRead s (asked_of_new (slice_get after.lines (length s.lines)), after)
added_read s after (inl one) =
    subst (λ (o : Option TraceLine). Leaves s after (asked_of_new o))
    (sym (ap (λ (l : List TraceLine). slice_get l (length s.lines)) one.1 ∙ slice_get_behind s.lines one.0 [])) (one.1, one.2)
added_read s after (inr none) =
    subst (λ (o : Option TraceLine). Leaves s after (asked_of_new o))
    (sym (ap (λ (l : List TraceLine). slice_get l (length s.lines)) none.0 ∙ slice_get_past s.lines (length s.lines) (omega arith))) none

added_or-read : (s : SoFar) (list : Option TraceLine) (read : Result SoFar Cause) → IsList list → IfOk read (Adds s)
    → IfOk (added_or list s read) (IsRead s)
added_or-read s list (Ok after) listed adds = added_read s after adds
added_or-read s list (Err cause) listed adds =
    beyond_holds (IsRead s) s cause list listed (λ asked mine. own_read s asked mine)

asked_by_words-read : (s : SoFar) (line : RawLine) (words : List (List ℕ)) → (line.number ≡ 1 → s.lines ≡ []) → IfOk (asked_by_words s line words) (IsRead s)
unfolding asked_by_words
asked_by_words-read s line words headed =
    cond_both (is_new words) (Ok (asks.New, s)) _ (λ (r : Result (Asked × SoFar) Cause). IfOk r (IsRead s))
    (λ _. tt)
    (λ _. cond_both (is_query_line line.number words) (query_of words >>= λ address. Ok (asks.Query address, s)) _
    (λ (r : Result (Asked × SoFar) Cause). IfOk r (IsRead s))
    (λ _. ok_holds (IsRead s) (query_of words) _ (λ address. refl))
    (λ _. cond_both (is_fork_line line.number words) (Err Child) _ (λ (r : Result (Asked × SoFar) Cause). IfOk r (IsRead s))
    (λ _. tt)
    (λ _. added_or-read s (list_read line.number words) (after_trace_line s line) (list_read-list line.number words)
    (after_line-adds s line headed))))

asked_of-read : (s : SoFar) (line : RawLine) → (line.number ≡ 1 → s.lines ≡ []) → IfOk (asked_of s line) (IsRead s)
unfolding asked_of
asked_of-read s line headed = ok_holds (IsRead s) (text_of line) _ (λ text. asked_by_words-read s line (words_of text) headed)

-- ---- a session has made its operations

-- the space is that after the operations, none is open above the first, and no operation is above the header
pub record Made (s : Session) : Type 0 where
  pub space : session_space s ≡ after_operations (opened_by s.so_far) s.so_far.lines
  pub unopened : s.so_far.lines ≡ [] → s.opened ≡ None
  pub headed : s.count ≡ 0 → s.so_far.lines ≡ []

pub begun_made : Made session_begun
begun_made = record { space = refl; unopened = λ _. refl; headed = λ _. refl }

-- the space of a configuration without an area
abbrev pub opened_as : Config → Opened
opened_as config = record { config = config; space = opening config; version = 0 }

-- one operation more
after_one_more : (now : Opened) (lines : List TraceLine) (line : TraceLine)
    → after_operations now (lines ++ line ∷ []) ≡ after_operation (after_operations now lines) line.op
after_one_more now [] line = refl
after_one_more now (x ∷ lines) line = after_one_more (after_operation now x.op) lines line

-- of lines that say the same configuration the space is the same
pub same_space : (opened : Option Opened) (before after : SoFar) → config_of after ≡ config_of before → unwrap_or opened (opened_by after) ≡ unwrap_or opened (opened_by before)
same_space opened before after same = ap (λ (c : Config). unwrap_or opened (opened_as c)) same

-- a line that adds none
nothing_made : (s : Session) (after : SoFar) (count : ℕ) → Made s → (count ≡ 0 → s.count ≡ 0) → after.lines ≡ s.so_far.lines
    → (s.so_far.lines ≡ []) ⊎ (config_of after ≡ config_of s.so_far)
    → Made (record { count = count; so_far = after; opened = s.opened })
nothing_made s after count made counted same why = record {
  space = by_lines why;
  unopened = λ none. made.unopened (sym same ∙ none);
  headed = λ zero_lines. same ∙ made.headed (counted zero_lines);
}
  where
    by_lines : (s.so_far.lines ≡ []) ⊎ (config_of after ≡ config_of s.so_far) → unwrap_or s.opened (opened_by after) ≡ after_operations (opened_by after) after.lines
    by_lines (inl none) = ap (λ (o : Option Opened). unwrap_or o (opened_by after)) (made.unopened none)
        ∙ ap (after_operations (opened_by after)) (sym (same ∙ none))
    by_lines (inr config) = same_space s.opened s.so_far after config ∙ made.space
        ∙ ap (λ (c : Config). after_operations (opened_as c) s.so_far.lines) (sym config) ∙ ap (after_operations (opened_by after)) (sym same)

-- an operation
operation_made : (s : Session) (after : SoFar) (line : TraceLine) → Made s → after.lines ≡ s.so_far.lines ++ line ∷ [] → config_of after ≡ config_of s.so_far
    → Made (record { count = s.count + 1; so_far = after; opened = Some (after_operation (unwrap_or s.opened (opened_by after)) line.op) })
operation_made s after line made adds config = record {
  space = ap (λ (o : Opened). after_operation o line.op) (same_space s.opened s.so_far after config ∙ made.space
      ∙ ap (λ (c : Config). after_operations (opened_as c) s.so_far.lines) (sym config))
      ∙ sym (after_one_more (opened_by after) s.so_far.lines line) ∙ ap (after_operations (opened_by after)) (sym adds);
  unopened = λ none. absurd (omega (arith, ap length (sym none ∙ adds), length-append s.so_far.lines (line ∷ [])));
  headed = λ zero_lines. absurd (omega (arith, zero_lines));
}

-- as it was, with a line more
counted_made : (s : Session) (after : SoFar) → Made s → after ≡ s.so_far → Made (record { count = s.count + 1; so_far = after; opened = s.opened })
counted_made s after made same = nothing_made s after (s.count + 1) made (λ none. absurd (omega (arith, none)))
    (ap (λ (x : SoFar). x.lines) same) (inr (ap config_of same))

read_made : (s : Session) (asked : Asked) (after : SoFar) → Made s → IsRead s.so_far (asked, after)
    → Made (answer_read (record { count = s.count; so_far = after; opened = s.opened }) asked).session
read_made s asks.Nothing after made read = nothing_made s after (s.count + 1) made (λ none. absurd (omega (arith, none))) read.0 read.1
read_made s (asks.Areas line) after made read = counted_made s after made read.0
read_made s (asks.Operation line) after made read = operation_made s after line made read.0 read.1
read_made s (asks.Query address) after made read = counted_made s after made read
read_made s asks.New after made read = begun_made

refused_made : (s : Session) (cause : Cause) → Made s → Made (refused s cause).session
refused_made s cause made =
    nothing_made s s.so_far (if nat_lt 0 s.count then s.count + 1 else 0) made
    (cond_both (nat_lt 0 s.count) (s.count + 1) 0 (λ (n : ℕ). n ≡ 0 → s.count ≡ 0)
    (λ some none. absurd (omega (arith, none))) (λ none _. omega (arith, ltb-false 0 s.count none))) refl (inr refl)

-- the number of the next line is 1 only before the header
headed_next : (s : Session) → Made s → s.count + 1 ≡ 1 → s.so_far.lines ≡ []
headed_next s made first = made.headed (omega (arith, first))

pub answered_made : (s : Session) (text : List ℕ) → Made s → Made (line_answer s text).session
unfolding line_answer
answered_made s text made =
    by_reading (asked_of s.so_far (raw_line (s.count + 1) 0 text true)) (asked_of-read s.so_far (raw_line (s.count + 1) 0 text true) (headed_next s made))
  where
    by_reading : (r : Result (Asked × SoFar) Cause) → IfOk r (IsRead s.so_far) → Made (session_answer s r).session
    by_reading (Ok read) is = read_made s read.0 read.1 made is
    by_reading (Err cause) is = refused_made s cause made

made_after : (s : Session) (lines : List (List ℕ)) → Made s → Made (session_after s lines)
made_after s [] made = made
made_after s (line ∷ lines) made = made_after (line_answer s line).session lines (answered_made s line made)

pub space_made : (lines : List (List ℕ))
    → session_space (session_after session_begun lines) ≡ after_operations (opened_by (session_after session_begun lines).so_far) (session_after session_begun lines).so_far.lines
space_made lines = (made_after session_begun lines begun_made).space

-- ---- an operation is answered by its item

-- the item of a line at a space
abbrev pub item_at : List TraceLine → TraceLine → Config → Opened → Item
item_at trace line config now =
    record { caller = caller_of trace line.thread; version = version_after config now.space now.version line.op; content = answer_of config now.space line.op }

items_behind : (config : Config) (trace before after : List TraceLine) (line : TraceLine) (space : AddressSpace) (version : ℕ)
    → slice_get (items_from config trace space version (before ++ line ∷ after)) (length before)
    ≡ Some (item_at trace line config (after_operations (record { config = config; space = space; version = version }) before))
items_behind config trace [] after line space version = refl
items_behind config trace (x ∷ before) after line space version =
    items_behind config trace before after line (space_after config space x.op) (version_after config space version x.op)

pub config_stays : (now : Opened) (lines : List TraceLine) → (after_operations now lines).config ≡ now.config
config_stays now [] = refl
config_stays now (x ∷ lines) = config_stays (after_operation now x.op) lines

-- the text of an operation at this space is that of its item
operation_printed : (config : Config) (before : List TraceLine) (line : TraceLine) (now : Opened) → now ≡ after_operations (opened_as config) before
    → IsTextOfItem config before line (operation_text now line)
operation_printed config before line now is =
    let there : Opened = after_operations (opened_as config) before in
    record {
      item = item_at (before ++ line ∷ []) line config there;
      made = items_behind config (before ++ line ∷ []) before [] line (opening config) 0;
      printed = ap (λ (o : Opened). operation_text o line) is ∙ ap (λ (c : Config). item_text c.files line (item_at [] line c there)) (config_stays (opened_as config) before);
    }

answer_text : (s : Session) (text : List ℕ) (read : Asked × SoFar) → line_asks s text ≡ Ok read → (line_answer s text).text ≡ (session_answer s (Ok read)).text
unfolding line_answer
answer_text s text read is = ap (λ (r : Result (Asked × SoFar) Cause). (session_answer s r).text) is

is_read : (s : Session) (text : List ℕ) (read : Asked × SoFar) → Made s → line_asks s text ≡ Ok read → IsRead s.so_far read
is_read s text read made is =
    subst (λ (r : Result (Asked × SoFar) Cause). IfOk r (IsRead s.so_far)) is (asked_of-read s.so_far (raw_line (s.count + 1) 0 text true) (headed_next s made))

printed_of : (s : Session) (text : List ℕ) (line : TraceLine) (after : SoFar) → Made s → line_asks s text ≡ Ok (asks.Operation line, after)
    → (after.lines ≡ s.so_far.lines ++ line ∷ []) × IsTextOfItem (config_of after) s.so_far.lines line (line_answer s text).text
printed_of s text line after made is =
    let read = is_read s text (asks.Operation line, after) made is in
    let now : unwrap_or s.opened (opened_by after) ≡ after_operations (opened_by after) s.so_far.lines =
    same_space s.opened s.so_far after read.1 ∙ made.space ∙ ap (λ (c : Config). after_operations (opened_as c) s.so_far.lines) (sym read.1) in (
      read.0,
      subst (IsTextOfItem (config_of after) s.so_far.lines line) (sym (answer_text s text (asks.Operation line, after) is))
          (operation_printed (config_of after) s.so_far.lines line (unwrap_or s.opened (opened_by after)) now),
    )

-- a read of the list at this space
maps_printed : (line : TraceLine) (now : Opened) → line.op ≡ Maps → item_start line now.version ++ maps_text now.config.files now.space.areas ≡ operation_text now line
unfolding call_made content_text item_start
maps_printed line now is = subst (λ (op : Op). item_start line now.version ++ maps_text now.config.files now.space.areas
    ≡ item_text now.config.files (record { number = line.number; thread = line.thread; op = op; after = line.after })
    (record { caller = 0; version = version_after now.config now.space now.version op; content = answer_of now.config now.space op })) (sym is) refl

maps_printed_of : (s : Session) (text : List ℕ) (line : TraceLine) (after : SoFar) → Made s → line_asks s text ≡ Ok (asks.Areas line, after)
    → IsTextOfItem (config_of after) s.so_far.lines line (line_answer s text).text
maps_printed_of s text line after made is =
    let read = is_read s text (asks.Areas line, after) made is in
    let now : unwrap_or s.opened (opened_by after) ≡ after_operations (opened_by after) s.so_far.lines =
    ap (λ (x : SoFar). unwrap_or s.opened (opened_by x)) read.0 ∙ made.space ∙ ap (λ (x : SoFar). after_operations (opened_by x) s.so_far.lines) (sym read.0) in
    subst (IsTextOfItem (config_of after) s.so_far.lines line)
    (sym (answer_text s text (asks.Areas line, after) is ∙ maps_printed line (unwrap_or s.opened (opened_by after)) read.1))
    (operation_printed (config_of after) s.so_far.lines line (unwrap_or s.opened (opened_by after)) now)

pub operations_printed : (lines : List (List ℕ)) (text : List ℕ) (line : TraceLine) (after : SoFar)
    → line_asks (session_after session_begun lines) text ≡ Ok (asks.Operation line, after)
    → (after.lines ≡ (session_after session_begun lines).so_far.lines ++ line ∷ [])
    × IsTextOfItem (config_of after) (session_after session_begun lines).so_far.lines line (line_answer (session_after session_begun lines) text).text
operations_printed lines text line after is = printed_of (session_after session_begun lines) text line after (made_after session_begun lines begun_made) is

pub lists_printed : (lines : List (List ℕ)) (text : List ℕ) (line : TraceLine) (after : SoFar)
    → line_asks (session_after session_begun lines) text ≡ Ok (asks.Areas line, after)
    → IsTextOfItem (config_of after) (session_after session_begun lines).so_far.lines line (line_answer (session_after session_begun lines) text).text
lists_printed lines text line after is = maps_printed_of (session_after session_begun lines) text line after (made_after session_begun lines begun_made) is

-- `serial` has the same items
pub gathered : (config : Config) (lines : List TraceLine) → serial_history config lines ≡ gather (items_made config lines)
unfolding serial_history
gathered config lines = refl
