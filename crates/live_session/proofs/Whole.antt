-- Serves `laws.rt`: a session over a trace without forks gives the text of the item of each operation in turn, and then the list.
use Rattle.std.proofs.Common.{◌≡◌, ◌+◌, ◌-◌, ◌<◌, ◌∙◌, ◌⊎◌, ℕ, Bool, true, false, nat_eq, if◌then◌else◌, List, [], ◌∷◌, ◌++◌, length, get_or, slice_get, Option, unwrap_or, Result, Ok, Err, IfOk, refl, sym, ap, subst, inl, inr, arith, append-nil, append_assoc}
use Rattle.std.specs.List.{onto_first}
use Rattle.std.proofs.lemmas.Bool.{cases_Bool, eqb-true, lt-ltb}
use Rattle.std.proofs.lemmas.Option.{slice_get_past}
use Rattle.std.proofs.lemmas.List.Splits.{slice_split-cons_no, slice_split-cons_yes, length-slice_split}
use Rattle.mm_types.specs.declared.area.Record.{Record}
use Rattle.mm_types.specs.declared.config.Config.{Config}
use Rattle.mm_types.specs.declared.files.FileRow.{FileRow}
use Rattle.area_rules.specs.Steps.{after, opening}
use Rattle.area_rules.specs.Tables.{AddressSpace}
use Rattle.text_lexer.specs.declared.error.BadLine.{BadLine}
use Rattle.text_lexer.specs.declared.error.Cause.{Cause}
use Rattle.text_lexer.specs.declared.error.Cause.TheVariants.{Header}
use Rattle.text_lexer.specs.BadLines.{at_line, bad_line}
use Rattle.text_lexer.specs.Lines.{RawLine, is_newline, lines_from, lines_of_pieces, raw_line}
use Rattle.trace_reader.specs.declared.trace.Trace.{Trace}
use Rattle.trace_reader.specs.declared.trace.TraceLine.{TraceLine}
use Rattle.trace_reader.specs.Grammar.{after_trace_lines, config_of, lines_read, nothing, trace_of, trace_so_far, whole_trace}
use Rattle.trace_reader.specs.Lines.{SoFar, after_trace_line}
use Rattle.trace_reader.specs.Values.{children_of}
use Rattle.history.specs.declared.items.Item.{Item}
use Rattle.history.specs.Histories.{gather, items_from, serial_history, space_after, space_after_all, version_after}
use Rattle.history.specs.Labels.{labelled}
use Rattle.history.proofs.SerialOrder.{serial_space}
use Rattle.output.specs.Output.{item_text, listed_text, maps_text, output_text, serial_output, told_by}
use Rattle.output.specs.Telling.{told_in_turn}
use Rattle.output.proofs.InTurn.{told_of_lines}
use Rattle.live_session.specs.Asking.{asked_of_new}
use Rattle.live_session.specs.Items.{after_operations, items_made, output_in_turn}
use Rattle.live_session.specs.Sessions.{LineAnswer, Opened, Session, after_operation, session_answer, answer_read, line_answer, answers, answers_of, areas_text, session_begun, closing_text, ending_text, last_piece, opened_by, operation_text, pieces_of, session_after, session_text, session_space, whole_lines}
use Rattle.live_session.proofs.LinesAdded.{Adds, after_line-adds}
use Rattle.live_session.proofs.Made.{Made, answered_made, begun_made, config_stays, gathered, item_at, opened_as, same_space, slice_get_behind}
use Rattle.live_session.proofs.OwnLines.{asked_as_read, children_front, unended_bad}
use Rattle.live_session.proofs.Pieces.{last_of, some_pieces, whole_lines-cut}
use Rattle.live_session.proofs.Prefixes.{ended_pieces}

-- ---- the text of operations

-- the answers to operations, one after another
abbrev texts : Opened → List TraceLine → List ℕ
texts now [] = []
texts now (line ∷ lines) = operation_text now line ++ texts (after_operation now line.op) lines

-- they are the texts of the items
texts_told : (trace : List TraceLine) (now : Opened) (lines : List TraceLine)
    → texts now lines ≡ told_in_turn (item_text now.config.files) lines (items_from now.config trace now.space now.version lines)
texts_told trace now [] = refl
texts_told trace now (line ∷ lines) = ap (λ (t : List ℕ). operation_text now line ++ t) (texts_told trace (after_operation now line.op) lines)

-- one operation more
texts_more : (now : Opened) (lines : List TraceLine) (line : TraceLine)
    → texts now (lines ++ line ∷ []) ≡ texts now lines ++ operation_text (after_operations now lines) line
texts_more now [] line = append-nil (operation_text now line)
texts_more now (x ∷ lines) line = ap (λ (t : List ℕ). operation_text now x ++ t) (texts_more (after_operation now x.op) lines line)
    ∙ sym (append_assoc (operation_text now x) (texts (after_operation now x.op) lines) (operation_text (after_operations (after_operation now x.op) lines) line))

-- what lines so far are answered by
abbrev texts_of : SoFar → List ℕ
texts_of so_far = texts (opened_by so_far) so_far.lines

-- ---- one line

-- a line was answered that leaves this
record IsStep (s : Session) (told : List ℕ) (after : SoFar) (answer : LineAnswer) : Type 0 where
  so_far : answer.session.so_far ≡ after
  count : answer.session.count ≡ s.count + 1
  text : told ++ answer.text ≡ texts_of after

-- an operation, or none
line_step : (s : Session) (told : List ℕ) (after : SoFar) → Made s → told ≡ texts_of s.so_far → Adds s.so_far after
    → IsStep s told after (answer_read (record { count = s.count; so_far = after; opened = s.opened })
    (asked_of_new (slice_get after.lines (length s.so_far.lines))))
line_step s told after made is (inl one) =
    let line : TraceLine = one.0 in
    let config : config_of after ≡ config_of s.so_far = one.2 in
    let now : unwrap_or s.opened (opened_by after) ≡ after_operations (opened_by after) s.so_far.lines =
    same_space s.opened s.so_far after config ∙ made.space ∙ ap (λ (c : Config). after_operations (opened_as c) s.so_far.lines) (sym config) in
    subst (λ (o : Option TraceLine). IsStep s told after (answer_read (record { count = s.count; so_far = after; opened = s.opened }) (asked_of_new o)))
    (sym (ap (λ (l : List TraceLine). slice_get l (length s.so_far.lines)) one.1 ∙ slice_get_behind s.so_far.lines line []))
    (record {
      so_far = refl;
      count = refl;
      text = ap (λ (o : Opened). told ++ operation_text o line) now
          ∙ ap (λ (t : List ℕ). t ++ operation_text (after_operations (opened_by after) s.so_far.lines) line)
          (is ∙ ap (λ (c : Config). texts (opened_as c) s.so_far.lines) (sym config))
          ∙ sym (texts_more (opened_by after) s.so_far.lines line) ∙ ap (texts (opened_by after)) (sym one.1);
    })
line_step s told after made is (inr none) =
    subst (λ (o : Option TraceLine). IsStep s told after (answer_read (record { count = s.count; so_far = after; opened = s.opened }) (asked_of_new o)))
    (sym (ap (λ (l : List TraceLine). slice_get l (length s.so_far.lines)) none.0 ∙ slice_get_past s.so_far.lines (length s.so_far.lines) (omega arith)))
    (record { so_far = refl; count = refl; text = append-nil told ∙ is ∙ same none.1 ∙ ap (texts (opened_by after)) (sym none.0) })
  where
    same : (s.so_far.lines ≡ []) ⊎ (config_of after ≡ config_of s.so_far) → texts_of s.so_far ≡ texts (opened_by after) s.so_far.lines
    same (inl empty) = ap (texts (opened_by s.so_far)) empty ∙ ap (texts (opened_by after)) (sym empty)
    same (inr config) = ap (λ (c : Config). texts (opened_as c) s.so_far.lines) (sym config)

-- what a line that was read adds
adds_of : (s after : SoFar) (line : RawLine) → (line.number ≡ 1 → s.lines ≡ []) → after_trace_line s line ≡ Ok after → Adds s after
adds_of s after line headed is = subst (λ (r : Result SoFar Cause). IfOk r (Adds s)) is (after_line-adds s line headed)

-- a whole line that a trace without forks has
read_answered : (s : Session) (told : List ℕ) (start : ℕ) (text : List ℕ) (after : SoFar) → Made s → told ≡ texts_of s.so_far
    → after_trace_line s.so_far (raw_line (s.count + 1) start text true) ≡ Ok after → children_of after.lines ≡ [] → IsStep s told after (line_answer s text)
unfolding line_answer
read_answered s told start text after made is read none =
    let adds : Adds s.so_far after =
    adds_of s.so_far after (raw_line (s.count + 1) start text true) (λ first. made.headed (omega (arith, first))) read in
    subst (IsStep s told after) (sym (ap (session_answer s) (asked_as_read s.so_far after (s.count + 1) start text read none)))
    (line_step s told after made is adds)

-- ---- one line after another

-- what the next lines leave, where the first is good
next_lines : (s final : SoFar) (line : RawLine) (lines : List RawLine) → after_trace_lines s (line ∷ lines) ≡ Ok final
    → (next : SoFar) × (after_trace_line s line ≡ Ok next) × (after_trace_lines next lines ≡ Ok final)
next_lines s final line lines is = by_line (after_trace_line s line) refl is
  where
    by_line : (r : Result SoFar Cause) → after_trace_line s line ≡ r → at_line line.number r (λ next. after_trace_lines next lines) ≡ Ok final
        → (next : SoFar) × (after_trace_line s line ≡ Ok next) × (after_trace_lines next lines ≡ Ok final)
    by_line (Ok next) good same = (next, good, same)
    by_line (Err cause) bad same = absurd cc

-- lines that add no child stand behind lines without one
adds_none : (s after : SoFar) → Adds s after → children_of after.lines ≡ [] → children_of s.lines ≡ []
adds_none s after (inl one) none = (children_front s.lines (one.0 ∷ []) (ap children_of (sym one.1) ∙ none)).0
adds_none s after (inr same) none = ap children_of (sym same.0) ∙ none

none_before : (pieces : List (List ℕ)) (s final : SoFar) (number start : ℕ) → 1 < number → after_trace_lines s (lines_of_pieces number start pieces) ≡ Ok final
    → children_of final.lines ≡ [] → children_of s.lines ≡ []
none_before [] s final number start later is none = let same : s ≡ final = cc in ap (λ (x : SoFar). children_of x.lines) same ∙ none
none_before (text ∷ []) s final number start later is none = by_length (nat_eq (length text) 0) is
  where
    by_length : (b : Bool) → after_trace_lines s (if b then [] else raw_line number start text false ∷ []) ≡ Ok final → children_of s.lines ≡ []
    by_length true same = let all : s ≡ final = cc in ap (λ (x : SoFar). children_of x.lines) all ∙ none
    by_length false same =
        let next = next_lines s final (raw_line number start text false) [] same in
        let bad = unended_bad s number start text in
        let clash : Err bad.0 ≡ Ok next.0 = sym bad.1 ∙ next.1 in absurd cc
none_before (text ∷ other ∷ pieces) s final number start later is none =
    let line : RawLine = raw_line number start text true in
    let next = next_lines s final line (lines_of_pieces (number + 1) (start + length text + 1) (other ∷ pieces)) is in
    adds_none s next.0 (adds_of s next.0 line (λ first. absurd (omega (arith, first, later))) next.1)
    (none_before (other ∷ pieces) next.0 final (number + 1) (start + length text + 1) (omega (arith, later)) next.2 none)

-- a newline ends each piece but the last
first_ended : (text : List ℕ) (front : List (List ℕ)) (last : List ℕ) (number start : ℕ) → lines_of_pieces number start (text ∷ (front ++ last ∷ []))
    ≡ raw_line number start text true ∷ lines_of_pieces (number + 1) (start + length text + 1) (front ++ last ∷ [])
first_ended text [] last number start = refl
first_ended text (x ∷ front) last number start = refl

-- whole lines were answered, and no byte is left
record AreAnswered (s : Session) (told : List ℕ) (front : List (List ℕ)) (last : List ℕ) (final : SoFar) : Type 0 where
  so_far : (session_after s front).so_far ≡ final
  made : Made (session_after s front)
  count : (session_after s front).count ≡ s.count + length front
  text : told ++ answers s front ≡ texts_of final
  ended : last ≡ []

lines_answered : (front : List (List ℕ)) (last : List ℕ) (s : Session) (told : List ℕ) (start : ℕ) (final : SoFar) → Made s → told ≡ texts_of s.so_far
    → after_trace_lines s.so_far (lines_of_pieces (s.count + 1) start (front ++ last ∷ [])) ≡ Ok final → children_of final.lines ≡ []
    → AreAnswered s told front last final
lines_answered [] [] s told start final made is read none =
    let same : s.so_far ≡ final = cc in
    record { so_far = same; made = made; count = omega arith; text = append-nil told ∙ is ∙ ap texts_of same; ended = refl }
lines_answered [] (c ∷ last) s told start final made is read none = by_length (nat_eq (length (c ∷ last)) 0) refl read
  where
    by_length : (b : Bool) → nat_eq (length (c ∷ last)) 0 ≡ b
        → after_trace_lines s.so_far (if b then [] else raw_line (s.count + 1) start (c ∷ last) false ∷ []) ≡ Ok final → AreAnswered s told [] (c ∷ last) final
    by_length true empty same = absurd (omega (arith, eqb-true (length (c ∷ last)) 0 empty))
    by_length false some same =
        let next = next_lines s.so_far final (raw_line (s.count + 1) start (c ∷ last) false) [] same in
        let bad = unended_bad s.so_far (s.count + 1) start (c ∷ last) in
        let clash : Err bad.0 ≡ Ok next.0 = sym bad.1 ∙ next.1 in absurd cc
lines_answered (text ∷ front) last s told start final made is read none =
    let line : RawLine = raw_line (s.count + 1) start text true in
    let rest : List RawLine = lines_of_pieces (s.count + 1 + 1) (start + length text + 1) (front ++ last ∷ []) in
    let next = next_lines s.so_far final line rest
    (ap (after_trace_lines s.so_far) (sym (first_ended text front last (s.count + 1) start)) ∙ read) in
    let unforked : children_of next.0.lines ≡ [] =
    none_before (front ++ last ∷ []) next.0 final (s.count + 1 + 1) (start + length text + 1) (omega arith) next.2 none in
    let step = read_answered s told start text next.0 made is next.1 unforked in
    let now : Session = (line_answer s text).session in
    let later = lines_answered front last now (told ++ (line_answer s text).text) (start + length text + 1) final (answered_made s text made)
    (step.text ∙ ap texts_of (sym step.so_far))
    (ap (λ (n : ℕ). after_trace_lines now.so_far (lines_of_pieces (n + 1) (start + length text + 1) (front ++ last ∷ []))) step.count
    ∙ ap (λ (x : SoFar). after_trace_lines x rest) step.so_far ∙ next.2) none in
    record {
      so_far = later.so_far;
      made = later.made;
      count = omega (arith, later.count, step.count);
      text = sym (append_assoc told (line_answer s text).text (answers now front)) ∙ later.text;
      ended = later.ended;
    }

-- ---- a whole input

-- bytes of which none is a newline are their last piece
only_piece : (input : List ℕ) → pieces_of input ≡ [] ∷ [] → input ≡ []
only_piece [] is = refl
only_piece (c ∷ cs) is = elim (cases_Bool (is_newline c)) [ inl alike ↦ newline alike | inr unlike ↦ other unlike ]
  where
    newline : is_newline c ≡ true → c ∷ cs ≡ []
    newline alike = absurd (omega (arith, ap length (sym (slice_split-cons_yes is_newline c cs alike) ∙ is), length-slice_split is_newline cs))

    by_pieces : (ps : List (List ℕ)) → onto_first c ps ≡ [] ∷ [] → 0 < length ps → c ∷ cs ≡ []
    by_pieces [] same some = absurd (omega (arith, some))
    by_pieces (q ∷ qs) same some = absurd cc

    other : is_newline c ≡ false → c ∷ cs ≡ []
    other unlike = by_pieces (pieces_of cs) (sym (slice_split-cons_no is_newline c cs unlike) ∙ is) (some_pieces cs)

-- the last list is that of the space after all operations
space_last : (now : Opened) (lines : List TraceLine) → (after_operations now lines).space ≡ space_after_all now.config now.space lines
space_last now [] = refl
space_last now (line ∷ lines) = space_last (after_operation now line.op) lines

areas_last : (config : Config) (lines : List TraceLine)
    → areas_text (after_operations (opened_as config) lines) ≡ maps_text config.files (space_after_all config (opening config) lines).areas
areas_last config lines =
    ap (λ (c : Config). maps_text c.files (after_operations (opened_as config) lines).space.areas) (config_stays (opened_as config) lines)
    ∙ ap (λ (s : AddressSpace). maps_text config.files s.areas) (space_last (opened_as config) lines)

-- where no byte is left a session ends with its list
ending : (session : Session) (last : List ℕ) → last ≡ [] → 0 < session.count → ending_text session last ≡ areas_text (session_space session)
unfolding ending_text closing_text
ending session last none some =
    ap (λ (l : List ℕ). ending_text session l) none ∙ ap (λ (b : Bool). if b then areas_text (session_space session) else []) (lt-ltb 0 session.count some)

last_piece-cut : (input : List ℕ) (lines : List (List ℕ)) (rest : List ℕ) → pieces_of input ≡ lines ++ rest ∷ [] → last_piece input ≡ rest
unfolding last_piece
last_piece-cut input lines rest cut = ap (λ (l : List (List ℕ)). get_or l (length l - 1) []) cut ∙ last_of lines rest

some_bytes : (bytes : List ℕ) → nat_eq (length bytes) 0 ≡ false → 0 < length bytes
some_bytes [] some = absurd cc
some_bytes (c ∷ bytes) some = omega arith

-- what all lines leave, and that there are some
some_lines : (input : List ℕ) (trace : Trace) → trace_of input ≡ Ok trace
    → (0 < length input) × (final : SoFar) × (after_trace_lines nothing (lines_of_pieces 1 0 (pieces_of input)) ≡ Ok final) × (trace_so_far final ≡ trace)
unfolding trace_of lines_read lines_from
some_lines input trace is = by_length (nat_eq (length input) 0) refl is
  where
    by_lines : (r : Result SoFar BadLine) → after_trace_lines nothing (lines_of_pieces 1 0 (pieces_of input)) ≡ r → whole_trace r ≡ Ok trace
        → (final : SoFar) × (after_trace_lines nothing (lines_of_pieces 1 0 (pieces_of input)) ≡ Ok final) × (trace_so_far final ≡ trace)
    by_lines (Ok final) good same = (final, good, cc)
    by_lines (Err bad) wrong same = absurd cc

    by_length : (b : Bool) → nat_eq (length input) 0 ≡ b
        → (if b then Err (bad_line 1 Header) else whole_trace (after_trace_lines nothing (lines_of_pieces 1 0 (pieces_of input)))) ≡ Ok trace
        → (0 < length input) × (final : SoFar) × (after_trace_lines nothing (lines_of_pieces 1 0 (pieces_of input)) ≡ Ok final) × (trace_so_far final ≡ trace)
    by_length true empty same = absurd cc
    by_length false some same =
        let lines = by_lines (after_trace_lines nothing (lines_of_pieces 1 0 (pieces_of input))) refl same in
        (some_bytes input some, lines.0, lines.1, lines.2)

session_in_turn : (input : List ℕ) (final : SoFar) → 0 < length input → after_trace_lines nothing (lines_of_pieces 1 0 (pieces_of input)) ≡ Ok final
    → children_of final.lines ≡ [] → session_text input ≡ output_in_turn (trace_so_far final)
unfolding session_text answers_of
session_in_turn input final some read none =
    let config : Config = config_of final in
    let cut = ended_pieces (pieces_of input) (some_pieces input) in
    let all = lines_answered cut.front cut.last session_begun [] 0 final begun_made refl
    (ap (λ (p : List (List ℕ)). after_trace_lines nothing (lines_of_pieces 1 0 p)) (sym cut.is) ∙ read) none in
    let session : Session = session_after session_begun cut.front in
    let headed : 0 < length cut.front = some_front cut.front cut.last cut.is all.ended in
    let whole : whole_lines input ≡ cut.front = whole_lines-cut input cut.front cut.last cut.is in
    ap (λ (l : List (List ℕ)). answers session_begun l ++ ending_text (session_after session_begun l) (last_piece input)) whole
    ∙ ap (λ (t : List ℕ). answers session_begun cut.front ++ t)
    (ending session (last_piece input) (last_piece-cut input cut.front cut.last cut.is ∙ all.ended) (omega (arith, all.count, headed))
    ∙ ap areas_text (all.made.space ∙ ap (λ (x : SoFar). after_operations (opened_by x) x.lines) all.so_far)
    ∙ areas_last config final.lines)
    ∙ ap (λ (t : List ℕ). t ++ maps_text config.files (space_after_all config (opening config) final.lines).areas)
    (all.text ∙ texts_told final.lines (opened_by final) final.lines)
  where
    some_front : (front : List (List ℕ)) (last : List ℕ) → pieces_of input ≡ front ++ last ∷ [] → last ≡ [] → 0 < length front
    some_front [] last is empty = absurd (omega (arith, some, ap length (only_piece input (is ∙ ap (λ (l : List ℕ). l ∷ []) empty))))
    some_front (x ∷ front) last is empty = omega arith

pub session_is_in_turn : (input : List ℕ) (trace : Trace) → trace_of input ≡ Ok trace → children_of trace.lines ≡ []
    → session_text input ≡ output_in_turn trace
session_is_in_turn input trace is none =
    let read = some_lines input trace is in
    subst (λ (t : Trace). session_text input ≡ output_in_turn t) read.3
    (session_in_turn input read.1 read.0 read.2 (ap (λ (t : Trace). children_of t.lines) read.3 ∙ none))

-- ---- `serial` prints the same items

pub serial_is_gathered : (trace : Trace) → serial_output trace
    ≡ listed_text trace.config.files trace.lines (gather (items_made trace.config trace.lines)) (space_after_all trace.config (opening trace.config) trace.lines).areas
unfolding serial_output output_text
serial_is_gathered trace =
    ap (λ (s : AddressSpace). listed_text trace.config.files trace.lines (serial_history trace.config trace.lines) s.areas) (serial_space trace.config trace.lines)
    ∙ ap (λ (items : List Item). listed_text trace.config.files trace.lines items (space_after_all trace.config (opening trace.config) trace.lines).areas)
    (gathered trace.config trace.lines)

-- items of lines have the callers of these
labelled_made : (config : Config) (trace : List TraceLine) (space : AddressSpace) (version : ℕ) (lines : List TraceLine)
    → labelled trace lines (items_from config trace space version lines) ≡ items_from config trace space version lines
labelled_made config trace space version [] = refl
labelled_made config trace space version (line ∷ lines) =
    ap (λ (items : List Item). item_at trace line config (record { config = config; space = space; version = version }) ∷ items)
    (labelled_made config trace (space_after config space line.op) (version_after config space version line.op) lines)

listed_in_turn : (files : List FileRow) (lines : List TraceLine) (items : List Item) (areas : List Record) → labelled lines lines items ≡ items
    → listed_text files lines items areas ≡ told_in_turn (item_text files) lines items ++ maps_text files areas
unfolding listed_text
listed_in_turn files lines items areas own =
    ap (λ (l : List Item). told_by (item_text files) lines [] l ++ maps_text files areas) (sym own)
    ∙ ap (λ (t : List ℕ). t ++ maps_text files areas) (told_of_lines files lines items)

-- where that is the order of the lines, the texts are equal
pub session_is_serial : (input : List ℕ) (trace : Trace) → trace_of input ≡ Ok trace → children_of trace.lines ≡ []
    → gather (items_made trace.config trace.lines) ≡ items_made trace.config trace.lines → session_text input ≡ serial_output trace
session_is_serial input trace is none sorted =
    let last : List Record = (space_after_all trace.config (opening trace.config) trace.lines).areas in
    session_is_in_turn input trace is none
    ∙ sym (serial_is_gathered trace
    ∙ ap (λ (items : List Item). listed_text trace.config.files trace.lines items last) sorted
    ∙ listed_in_turn trace.config.files trace.lines (items_made trace.config trace.lines) last
    (labelled_made trace.config trace.lines (opening trace.config) 0 trace.lines))
