-- Serves `answering.rt` and `conversing.rt`: what holds of every session that lines lead to.
use Rattle.std.proofs.Common.{◌≡◌, ◌+◌, ◌-◌, ◌^◌, ◌<◌, ◌≤◌, ◌⊎◌, ℕ, true, nat_eq, nat_lt, List, [], ◌∷◌, length, codes, bytes_eq, slice_get, Option, Some, None, option_map, unwrap_or, Result, Ok, Err, ok_or, IfOk, IfSome, refl, sym, subst, inl, inr, arith, length-append, lit≤}
use Rattle.std.proofs.lemmas.Bool.{cond_both, ltb-false}
use Rattle.std.proofs.lemmas.Option.{slice_get_within}
use Rattle.mm_types.specs.declared.config.Config.{Config}
use Rattle.mm_types.specs.declared.config.TheConstants.{MOST_FILES, MOST_AREAS, DEFAULT_MIN, DEFAULT_TOP, ADDRESS_LIMIT, WIDE_LIMIT}
use Rattle.mm_types.specs.declared.call.Call.{Call}
use Rattle.mm_types.specs.Config.{IsBound, IsValidConfig, default_config}
use Rattle.area_rules.specs.Steps.{opening}
use Rattle.area_rules.specs.Tables.{AddressSpace}
use Rattle.area_rules.proofs.Stepping.{step_objects}
use Rattle.text_lexer.specs.declared.error.Cause.{Cause}
use Rattle.text_lexer.specs.declared.error.Cause.TheVariants.{Header, TooMany, Child}
use Rattle.text_lexer.specs.Causes.{◌>>=◌}
use Rattle.text_lexer.specs.Lines.{RawLine, raw_line, text_of}
use Rattle.text_lexer.specs.Numbers.{number}
use Rattle.text_lexer.specs.Words.{words_of, is_comment, begins_with_digit}
use Rattle.trace_reader.specs.declared.builder.Version.{Version}
use Rattle.trace_reader.specs.declared.builder.Version.TheVariants.{Narrow, Wide}
use Rattle.trace_reader.specs.declared.limits.TheConstants.{MOST_LINES}
use Rattle.trace_reader.specs.declared.trace.Op.TheVariants.{Maps}
use Rattle.trace_reader.specs.declared.trace.TraceLine.{TraceLine}
use Rattle.trace_reader.specs.Fields.{read_thread}
use Rattle.trace_reader.specs.Grammar.{nothing, address_limit, config_of}
use Rattle.trace_reader.specs.Lines.{SoFar, read_version, with_header, with_one, with_line, after_setting, after_words, after_trace_line}
use Rattle.trace_reader.specs.Operations.{read_line}
use Rattle.trace_reader.specs.Values.{AreNumbered}
use Rattle.trace_reader.proofs.LineAdded.{AreRead-later, AreRead-nil}
use Rattle.trace_reader.proofs.TraceValues.{IsSoFar, after_line-good}
use Rattle.history.specs.Histories.{call_made, space_by, version_by}
use Rattle.live_session.specs.declared.asking.Asked.{Asked}
use Rattle.live_session.specs.declared.asking.Asked.TheVariants as asks
use Rattle.live_session.specs.Asking.{asked_line, added_or, asked_by_words, asked_of, asked_of_new, beyond, is_fork_line, is_new, is_query_line, list_read, areas_line, query_of}
use Rattle.live_session.specs.Sessions.{IsWithinLimits, Opened, Session, after_operation, session_answer, answer_read, line_answer, session_begun, opened_by, refused, session_after}
use Rattle.live_session.specs.Internal.Talking.{SpaceHasRoom, IsReached}
use Rattle.live_session.proofs.LinesAdded.{after_setting-lines, bind_holds, either, unless_holds}

-- ---- no line takes lines away

-- so many lines stand
abbrev HasLines : ℕ → SoFar → Type 0
HasLines count so_far = count ≤ length so_far.lines

with_line-lines : (n : ℕ) (s : SoFar) (line : TraceLine) → HasLines n s → IfOk (with_line s line) (HasLines n)
unfolding with_line with_one
with_line-lines n s line some = unless_holds (HasLines n) _ (Ok (with_one s line)) (omega (arith, length-append s.lines (line ∷ [])))

after_words-lines : (n : ℕ) (s : SoFar) (number : ℕ) (text : List ℕ) (words : List (List ℕ)) → HasLines n s → IfOk (after_words s number text words) (HasLines n)
unfolding after_words
after_words-lines n s number text [] some = some
after_words-lines n s number text (first ∷ words) some =
    either (HasLines n) (is_comment first) (Ok s) _ (λ _. some)
    (λ _. either (HasLines n) (begins_with_digit first) (read_line number first words >>= λ line. with_line s line) (after_setting s text first words)
    (λ _. bind_holds (HasLines n) (read_line number first words) _ (λ line. with_line-lines n s line some))
    (λ _. after_setting-lines (λ lines. n ≤ length lines) s text first words some))

with_header-lines : (n : ℕ) (s : SoFar) (words : List (List ℕ)) → HasLines n s → IfOk (with_header s words) (HasLines n)
unfolding with_header
with_header-lines n s words some = bind_holds (HasLines n) (ok_or (read_version words) Header) _ (λ version. some)

after_line-lines : (n : ℕ) (s : SoFar) (line : RawLine) → HasLines n s → IfOk (after_trace_line s line) (HasLines n)
unfolding after_trace_line
after_line-lines n s line some = bind_holds (HasLines n) (text_of line) _
    (λ text. either (HasLines n) (nat_eq line.number 1) (with_header s (words_of text)) (after_words s line.number text (words_of text))
    (λ _. with_header-lines n s (words_of text) some) (λ _. after_words-lines n s line.number text (words_of text) some))

-- ---- what a line that was read leaves

-- what is known of the lines so far stays known of them with the next
later : (n : ℕ) (s : SoFar) → IsSoFar n s → IsSoFar (n + 1) s
later n s known = record {
  areas = known.areas;
  top = known.top;
  min = known.min;
  heap = known.heap;
  files = known.files;
  distinct = known.distinct;
  lines = AreRead-later n s.lines s.children s.maps s.named known.lines;
}

-- what a line that was read leaves: its lines are known, none was taken away, and an operation is one more
record IsGood (n : ℕ) (before : SoFar) (read : Asked × SoFar) : Type 0 where
  known : IsSoFar (n + 1) read.1
  kept : HasLines (length before.lines) read.1
  more : (line : TraceLine) → read.0 ≡ asks.Operation line → length before.lines < length read.1.lines

-- an own line asks for no operation, and where it reads the list it is `maps`
abbrev pub IsOwn : Asked → Type 0
IsOwn asks.Nothing = Unit {0}
IsOwn (asks.Areas line) = line.op ≡ Maps
IsOwn (asks.Operation line) = ⊥
IsOwn (asks.Query address) = Unit {0}
IsOwn asks.New = Unit {0}

pub ok_holds : {A B : Type 0} (P : B → Type 0) (r : Result A Cause) (f : A → Result B Cause) → ((x : A) → IfOk (f x) P) → IfOk (r >>= f) P
ok_holds P (Ok x) f holds = holds x
ok_holds P (Err cause) f holds = tt

-- what there is of a read of the list
abbrev pub IsList : Option TraceLine → Type 0
IsList list = IfSome list (λ line. line.op ≡ Maps)

areas_line-list : (line : ℕ) (thread : Option ℕ) → IsList (option_map (areas_line line) thread)
areas_line-list line (Some thread) = refl
areas_line-list line None = tt

pub list_read-list : (line : ℕ) (words : List (List ℕ)) → IsList (list_read line words)
unfolding list_read
list_read-list line [] = tt
list_read-list line (thread ∷ []) = tt
list_read-list line (thread ∷ name ∷ []) =
    cond_both (bytes_eq name (codes "maps")) (option_map (areas_line line) (read_thread thread)) None IsList (λ _. areas_line-list line (read_thread thread)) (λ _. tt)
list_read-list line (thread ∷ name ∷ next ∷ words) = tt

beyond-own : (cause : Cause) (list : Option TraceLine) → IsList list → IfOk (beyond cause list) IsOwn
beyond-own TooMany (Some line) own = own
beyond-own _ _ own = tt

own_bound : (P : Asked × SoFar → Type 0) (s : SoFar) (r : Result Asked Cause) → IfOk r IsOwn → ((asked : Asked) → IsOwn asked → P (asked, s))
    → IfOk (r >>= λ asked. Ok (asked, s)) P
own_bound P s (Ok asked) own holds = holds asked own
own_bound P s (Err cause) own holds = tt

-- so does a read of the list for which a trace has no room
pub beyond_holds : (P : Asked × SoFar → Type 0) (s : SoFar) (cause : Cause) (list : Option TraceLine) → IsList list
    → ((asked : Asked) → IsOwn asked → P (asked, s)) → IfOk (beyond cause list >>= λ asked. Ok (asked, s)) P
beyond_holds P s cause list own holds = own_bound P s (beyond cause list) (beyond-own cause list own) holds

-- an own line leaves the lines as they are
stays_good : (n : ℕ) (s : SoFar) (asked : Asked) → IsSoFar n s → IsOwn asked → IsGood n s (asked, s)
stays_good n s asked known own = record {
  known = later n s known;
  kept = omega arith;
  more = λ line same. absurd (subst IsOwn same own);
}

new_line : (before after : SoFar) (found : Option TraceLine) → slice_get after.lines (length before.lines) ≡ found → (line : TraceLine)
    → asked_of_new found ≡ asks.Operation line → length before.lines < length after.lines
new_line before after None is line same = absurd cc
new_line before after (Some other) is line same = slice_get_within after.lines (length before.lines) other is

added_good : (n : ℕ) (before after : SoFar) → IsSoFar (n + 1) after → HasLines (length before.lines) after → IsGood n before (asked_line before after)
added_good n before after known kept = record {
  known = known;
  kept = kept;
  more = λ line same. new_line before after (slice_get after.lines (length before.lines)) refl line same;
}

added_or-good : (n : ℕ) (s : SoFar) (list : Option TraceLine) (read : Result SoFar Cause) → IsSoFar n s → IsList list
    → IfOk read (λ after. IsSoFar (n + 1) after × HasLines (length s.lines) after) → IfOk (added_or list s read) (IsGood n s)
added_or-good n s list (Ok after) known listed good = added_good n s after good.0 good.1
added_or-good n s list (Err cause) known listed good =
    beyond_holds (IsGood n s) s cause list listed (λ asked mine. stays_good n s asked known mine)

after_line-known : (n : ℕ) (s : SoFar) (line : RawLine) → IsSoFar n s → line.number ≡ n → n < 2 ^ 64
    → IfOk (after_trace_line s line) (λ after. IsSoFar (n + 1) after × HasLines (length s.lines) after)
after_line-known n s line known numbered small = by_read (after_trace_line s line) refl (after_line-lines (length s.lines) s line (omega arith))
  where
    by_read : (r : Result SoFar Cause) → after_trace_line s line ≡ r → IfOk r (HasLines (length s.lines))
        → IfOk r (λ after. IsSoFar (n + 1) after × HasLines (length s.lines) after)
    by_read (Ok after) is kept = (after_line-good s after line n known numbered small is, kept)
    by_read (Err cause) is kept = tt

asked_by_words-good : (n : ℕ) (s : SoFar) (line : RawLine) (words : List (List ℕ)) → IsSoFar n s → line.number ≡ n → n < 2 ^ 64
    → IfOk (asked_by_words s line words) (IsGood n s)
unfolding asked_by_words
asked_by_words-good n s line words known numbered small =
    cond_both (is_new words) (Ok (asks.New, s)) _ (λ (r : Result (Asked × SoFar) Cause). IfOk r (IsGood n s))
    (λ _. stays_good n s asks.New known tt)
    (λ _. cond_both (is_query_line line.number words) (query_of words >>= λ address. Ok (asks.Query address, s)) _
    (λ (r : Result (Asked × SoFar) Cause). IfOk r (IsGood n s))
    (λ _. ok_holds (IsGood n s) (query_of words) _ (λ address. stays_good n s (asks.Query address) known tt))
    (λ _. cond_both (is_fork_line line.number words) (Err Child) _ (λ (r : Result (Asked × SoFar) Cause). IfOk r (IsGood n s))
    (λ _. tt)
    (λ _. added_or-good n s (list_read line.number words) (after_trace_line s line) known (list_read-list line.number words)
    (after_line-known n s line known numbered small))))

asked_of-good : (n : ℕ) (s : SoFar) (line : RawLine) → IsSoFar n s → line.number ≡ n → n < 2 ^ 64 → IfOk (asked_of s line) (IsGood n s)
unfolding asked_of
asked_of-good n s line known numbered small =
    ok_holds (IsGood n s) (text_of line) _ (λ text. asked_by_words-good n s line (words_of text) known numbered small)

-- ---- a session

-- a space has no more objects than files and lines, and no more calls than lines
abbrev IsSmall : SoFar → Option Opened → Type 0
IsSmall s None = Unit {0}
IsSmall s (Some now) = (now.space.objects ≤ MOST_FILES + length s.lines) × (now.version ≤ length s.lines)

-- what holds of a session after so many lines
record IsSane (n : ℕ) (session : Session) : Type 0 where
  known : IsSoFar (session.count + 1) session.so_far
  few : session.count ≤ n
  small : IsSmall session.so_far session.opened

small_kept : (before after : SoFar) (opened : Option Opened) → IsSmall before opened → HasLines (length before.lines) after → IsSmall after opened
small_kept before after None small kept = tt
small_kept before after (Some now) small kept = (omega (arith, small.0), omega (arith, small.1))

-- at most one object and one call more
objects_by : (config : Config) (space : AddressSpace) (call : Option Call) → (space_by config space call).objects ≤ space.objects + 1
objects_by config space None = omega arith
objects_by config space (Some call) = (step_objects config space call).1

version_more : (version : ℕ) (call : Option Call) → version_by version call ≤ version + 1
version_more version None = omega arith
version_more version (Some call) = omega arith

config_known : (next : ℕ) (s : SoFar) → IsSoFar next s → IsValidConfig (config_of s)
unfolding config_of default_config
config_known next s known =
    let areas = count_or s.areas MOST_AREAS known.areas (lit≤ tt, lit≤ tt) in
    record {
      min = bound_or s.min DEFAULT_MIN known.min (record { aligned = refl; above_zero = lit≤ tt; within = lit≤ tt });
      top = bound_or s.top DEFAULT_TOP known.top (record { aligned = refl; above_zero = lit≤ tt; within = lit≤ tt });
      heap = bound_or_none s.heap known.heap;
      limit = one_of_two s.version;
      some_areas = omega (arith, areas.0);
      most_areas = areas.1;
      most_files = known.files;
      distinct = known.distinct;
    }
  where
    bound_or : (o : Option ℕ) (d : ℕ) → IfSome o IsBound → IsBound d → IsBound (unwrap_or o d)
    bound_or None d h g = g
    bound_or (Some n) d h g = h

    bound_or_none : (o : Option ℕ) → IfSome o IsBound → (unwrap_or o 0 ≡ 0) ⊎ IsBound (unwrap_or o 0)
    bound_or_none None h = inl refl
    bound_or_none (Some n) h = inr h

    count_or : (o : Option ℕ) (d : ℕ) → IfSome o (λ n. (1 ≤ n) × (n ≤ MOST_AREAS)) → (1 ≤ d) × (d ≤ MOST_AREAS) → (1 ≤ unwrap_or o d) × (unwrap_or o d ≤ MOST_AREAS)
    count_or None d h g = g
    count_or (Some n) d h g = h

    one_of_two : (version : Version) → (address_limit version ≡ ADDRESS_LIMIT) ⊎ (address_limit version ≡ WIDE_LIMIT)
    one_of_two Narrow = inl refl
    one_of_two Wide = inr refl

-- a space that is opened has the files as objects
opened_small : (s : SoFar) → IsValidConfig (config_of s) → (opened_by s).space.objects ≤ MOST_FILES
unfolding opening
opened_small s valid = valid.most_files

-- an operation is one line more
small_operated : (before s : SoFar) (opened : Option Opened) (line : TraceLine) → IsValidConfig (config_of s) → IsSmall before opened
    → length before.lines < length s.lines → IsSmall s (Some (after_operation (unwrap_or opened (opened_by s)) line.op))
small_operated before s None line valid small more = (
  omega (arith, objects_by (config_of s) (opening (config_of s)) (call_made (config_of s) (opening (config_of s)) line.op), opened_small s valid),
  omega (arith, version_more 0 (call_made (config_of s) (opening (config_of s)) line.op)),
)
small_operated before s (Some now) line valid small more = (
  omega (arith, objects_by now.config now.space (call_made now.config now.space line.op), small.0),
  omega (arith, version_more now.version (call_made now.config now.space line.op), small.1),
)

nothing_known : IsSoFar 1 nothing
nothing_known = record {
  areas = tt;
  top = tt;
  min = tt;
  heap = tt;
  files = omega arith;
  distinct = λ i j d before below. absurd (omega arith);
  lines = AreRead-nil;
}

begun_sane : (n : ℕ) → IsSane n session_begun
begun_sane n = record { known = nothing_known; few = omega arith; small = tt }

-- a line that was read
read_sane : (n : ℕ) (session : Session) (asked : Asked) (after : SoFar) → IsSane n session → IsGood (session.count + 1) session.so_far (asked, after)
    → IsSane (n + 1) (answer_read (record { count = session.count; so_far = after; opened = session.opened }) asked).session
read_sane n session asks.Nothing after sane good = record {
  known = good.known;
  few = omega (arith, sane.few);
  small = small_kept session.so_far after session.opened sane.small good.kept;
}
read_sane n session (asks.Areas line) after sane good = record {
  known = good.known;
  few = omega (arith, sane.few);
  small = small_kept session.so_far after session.opened sane.small good.kept;
}
read_sane n session (asks.Query address) after sane good = record {
  known = good.known;
  few = omega (arith, sane.few);
  small = small_kept session.so_far after session.opened sane.small good.kept;
}
read_sane n session (asks.Operation line) after sane good = record {
  known = good.known;
  few = omega (arith, sane.few);
  small = small_operated session.so_far after session.opened line (config_known (session.count + 1 + 1) after good.known) sane.small (good.more line refl);
}
read_sane n session asks.New after sane good = begun_sane (n + 1)

-- a bad line
refused_sane : (n : ℕ) (session : Session) (cause : Cause) → IsSane n session → IsSane (n + 1) (refused session cause).session
refused_sane n session cause sane = record {
  known = cond_both (nat_lt 0 session.count) (session.count + 1) 0 (λ (m : ℕ). IsSoFar (m + 1) session.so_far)
      (λ _. later (session.count + 1) session.so_far sane.known)
      (λ none. let zero_is : session.count ≡ 0 = omega (arith, ltb-false 0 session.count none) in
      subst (λ (m : ℕ). IsSoFar (m + 1) session.so_far) zero_is sane.known);
  few = cond_both (nat_lt 0 session.count) (session.count + 1) 0 (λ (m : ℕ). m ≤ n + 1) (λ _. omega (arith, sane.few)) (λ _. omega arith);
  small = sane.small;
}

by_reading : (n : ℕ) (session : Session) (r : Result (Asked × SoFar) Cause) → IsSane n session → IfOk r (IsGood (session.count + 1) session.so_far)
    → IsSane (n + 1) (session_answer session r).session
by_reading n session (Ok read) sane good = read_sane n session read.0 read.1 sane good
by_reading n session (Err cause) sane good = refused_sane n session cause sane

sane_answered : (n : ℕ) (session : Session) (text : List ℕ) → n < 2 ^ 64 - 1 → IsSane n session → IsSane (n + 1) (line_answer session text).session
unfolding line_answer
sane_answered n session text small sane =
    by_reading n session (asked_of session.so_far (raw_line (session.count + 1) 0 text true)) sane
    (asked_of-good (session.count + 1) session.so_far (raw_line (session.count + 1) 0 text true) sane.known refl (omega (arith, sane.few)))

sane_after : (lines : List (List ℕ)) (n m : ℕ) (session : Session) → IsSane n session → n + length lines ≤ m → m < 2 ^ 64
    → IsSane m (session_after session lines)
sane_after [] n m session sane within small = record { known = sane.known; few = omega (arith, sane.few); small = sane.small }
sane_after (line ∷ lines) n m session sane within small =
    sane_after lines (n + 1) m (line_answer session line).session (sane_answered n session line (omega arith) sane) (omega arith) small

-- ---- what is needed of a session that lines lead to

lined_sane : (session : Session) (lines : List (List ℕ)) → session ≡ session_after session_begun lines → length lines < 2 ^ 64 → IsSane (length lines) session
lined_sane session lines now few = subst (IsSane (length lines)) (sym now)
    (sane_after lines 0 (length lines) session_begun (begun_sane 0) (omega arith) few)

-- the settings of lines are a valid configuration
pub lined_config : (session : Session) (lines : List (List ℕ)) → session ≡ session_after session_begun lines → length lines < 2 ^ 64
    → IsValidConfig (config_of session.so_far)
lined_config session lines now few =
    let sane = lined_sane session lines now few in
    config_known (session.count + 1) session.so_far sane.known

-- of the lines each counts once at most
pub lined_count : (session : Session) (lines : List (List ℕ)) → session ≡ session_after session_begun lines → length lines < 2 ^ 64 → session.count ≤ length lines
lined_count session lines now few = (lined_sane session lines now few).few

pub within_limits : (lines : List (List ℕ)) → length lines < 2 ^ 64 → IsWithinLimits (session_after session_begun lines)
within_limits lines few =
    let sane = lined_sane (session_after session_begun lines) lines refl few in
    record { operations = sane.known.lines.few; maps = sane.known.lines.few_reads; files = sane.known.files; named = sane.known.lines.few_named }

reached_sane : (session : Session) (reached : IsReached session) → IsSane (length reached.lines) session
reached_sane session reached = lined_sane session reached.lines reached.now (omega (arith, reached.few))

pub reached_numbered : (session : Session) → IsReached session → AreNumbered session.so_far.lines
reached_numbered session reached = (reached_sane session reached).known.lines.numbered

pub reached_count : (session : Session) → IsReached session → session.count < 2 ^ 64 - 1
reached_count session reached = omega (arith, (reached_sane session reached).few, reached.few)

room_of : (s : SoFar) (opened : Option Opened) → IsSmall s opened → length s.lines ≤ MOST_LINES → SpaceHasRoom opened
room_of s None small few = tt
room_of s (Some now) small few = (omega (arith, small.0, few), omega (arith, small.1, few))

pub reached_room : (session : Session) → IsReached session → SpaceHasRoom session.opened
reached_room session reached =
    let sane = reached_sane session reached in
    room_of session.so_far session.opened sane.small sane.known.lines.few

-- an address space that was just opened has room for an operation
pub opened_room : (s : SoFar) → IsValidConfig (config_of s) → ((opened_by s).space.objects < 2 ^ 32 - 1) × ((opened_by s).version < 2 ^ 64 - 1)
opened_room s valid = (omega (arith, opened_small s valid), omega arith)
