-- For `traces_fit`: what holds of every trace that was read.
use Rattle.std.proofs.Common.{◌≡◌, ◌≢◌, ℕ, ◌+◌, ◌^◌, ◌<◌, ◌≤◌, Bool, true, false, not, nat_eq, nat_lt, nat_le, List, [], ◌∷◌, ◌++◌, length, get_or, codes, bytes_eq, ℤ, Option, Some, None, unwrap_or, Result, Ok, Err, ok_or, IfOk, IfSome, AllPairs, if◌then◌else◌, refl, sym, ap, inl, inr, ◌⊎◌, subst, arith, lit≤}
use Rattle.std.specs.List.{list_any, slice_split}
use Rattle.std.specs.Ordering.{int_eq}
use Rattle.std.specs.Str.{is_utf8}
use Rattle.std.proofs.lemmas.Bool.{cond_both, leb-false, ltb-false, or_parts, both_ways}
use Rattle.std.proofs.lemmas.Bool.Decides.{Decides-int_eq}
use Rattle.std.proofs.lemmas.List.{length_push}
use Rattle.std.proofs.lemmas.List.Folds.{list_any_at}
use Rattle.std.proofs.lemmas.List.Quantifiers.{all_pairs_push}
use Rattle.mm_types.specs.declared.config.TheConstants.{ADDRESS_LIMIT, WIDE_LIMIT, DEFAULT_MIN, DEFAULT_TOP, MOST_AREAS, MOST_FILES}
use Rattle.mm_types.specs.declared.files.FileRow.{FileRow}
use Rattle.mm_types.specs.Config.{IsBound, IsValidConfig, default_config}
use Rattle.mm_types.specs.Rows.{first_row}
use Rattle.trace_reader.specs.declared.builder.Version.{Version}
use Rattle.trace_reader.specs.declared.builder.Version.TheVariants.{Narrow, Wide}
use Rattle.trace_reader.specs.declared.trace.Op.{Op}
use Rattle.trace_reader.specs.declared.trace.TraceLine.{TraceLine}
use Rattle.text_lexer.specs.declared.error.Cause.{Cause}
use Rattle.text_lexer.specs.declared.error.Cause.TheVariants.{Header, TooLong, Word, Arity, Thread, TooMany, FileTwice, Utf8, NoEnd, After, Child}
use Rattle.text_lexer.specs.declared.error.BadLine.{BadLine}
use Rattle.text_lexer.specs.declared.limits.TheConstants.{LINE_LIMIT}
use Rattle.trace_reader.specs.declared.trace.Trace.{Trace}
use Rattle.text_lexer.specs.Causes.{◌>>=◌, unless}
use Rattle.text_lexer.specs.BadLines.{bad_line, at_line}
use Rattle.trace_reader.specs.Grammar.{nothing, after_trace_lines, lines_read, address_limit, config_of, trace_so_far, whole_trace, trace_of}
use Rattle.trace_reader.specs.Lines.{SoFar, read_version, with_header, names_rightly, forks_rightly, is_full, with_one, with_line, once, with_limit, with_top, with_min, with_heap, has_descriptor, with_file, after_setting, after_words, after_trace_line}
use Rattle.text_lexer.specs.Lines.{input_limit, is_too_long, RawLine, raw_line, is_newline, lines_of_pieces, lines_from, is_longer_than, text_within}
use Rattle.text_lexer.specs.Words.{is_comment, begins_with_digit, words_of, text_after_words}
use Rattle.trace_reader.specs.Fields.{read_thread}
use Rattle.trace_reader.specs.Operations.{read_op, op_has_its_new, line_named, read_note, without_note, read_line}
use Rattle.trace_reader.specs.Settings.{read_area_limit, limit_of, bound_of, read_file}
use Rattle.trace_reader.specs.Values.{IsLineValue, IsOpValue, IsTraceValue}
use Rattle.trace_reader.proofs.FieldValues.{IsWord, ok_or-holds, number_in-value, bound-value, thread_of-value}
use Rattle.trace_reader.proofs.CallValues.{op_of-value, line_named-value}
use Rattle.trace_reader.proofs.LineAdded.{AreRead, AreRead-push, AreRead-nil, AreRead-later}

abbrev IsCount : ℕ → Type 0
IsCount n = (1 ≤ n) × (n ≤ MOST_AREAS)

-- what holds of what was read so far, where the next line has this number
pub record IsSoFar (next : ℕ) (s : SoFar) : Type 0 where
  pub areas : IfSome s.areas IsCount
  pub top : IfSome s.top IsBound
  pub min : IfSome s.min IsBound
  pub heap : IfSome s.heap IsBound
  pub files : length s.files ≤ MOST_FILES
  pub distinct : AllPairs (λ a b. a.fd ≢ b.fd) s.files
  pub lines : AreRead next s.lines s.children s.maps s.named

later : (next : ℕ) (s : SoFar) → IsSoFar next s → IsSoFar (next + 1) s
later next s known = record {
  areas = known.areas;
  top = known.top;
  min = known.min;
  heap = known.heap;
  files = known.files;
  distinct = known.distinct;
  lines = AreRead-later next s.lines s.children s.maps s.named known.lines;
}

-- ---- a line with a thread

unless_two : {A : Type 0} (P : A → Type 0) (a b : Bool) (c d : Cause) (r : Result A Cause)
    → (a ≡ false → b ≡ false → IfOk r P)
    → IfOk (unless (first_row ((a, c) ∷ (b, d) ∷ [])) r) P
unless_two P true b c d r h = tt
unless_two P false true c d r h = tt
unless_two P false false c d r h = h refl refl

unless_three : {A : Type 0} (P : A → Type 0) (a b f : Bool) (c d e : Cause) (r : Result A Cause)
    → (a ≡ true → b ≡ true → f ≡ false → IfOk r P)
    → IfOk (unless (first_row ((not a, c) ∷ (not b, d) ∷ (f, e) ∷ [])) r) P
unless_three P false b f c d e r h = tt
unless_three P true false f c d e r h = tt
unless_three P true true true c d e r h = tt
unless_three P true true false c d e r h = h refl refl refl

with_line-value : (s : SoFar) (line : TraceLine) → IsSoFar line.number s → IsLineValue line
    → IfOk (with_line s line) (IsSoFar (line.number + 1))
unfolding with_line with_one
with_line-value s line known fits = unless_three (IsSoFar (line.number + 1)) (names_rightly s line) (forks_rightly s line)
    (is_full s line) After Child TooMany (Ok (with_one s line))
    (λ names forks full. record {
      areas = known.areas;
      top = known.top;
      min = known.min;
      heap = known.heap;
      files = known.files;
      distinct = known.distinct;
      lines = AreRead-push s line known.lines fits names forks full;
    })

-- the value of a line by the results of its parts
line_fits : (number : ℕ) (thread : Result ℕ Cause) (op : Result Op Cause) (after : Result (Option ℕ) Cause) (words : List (List ℕ))
    → number < 2 ^ 64 → IfOk thread (λ n. n < 64) → IfOk op IsOpValue → IfOk after (λ o. IfSome o IsWord)
    → IfOk (thread >>= λ t. op >>= λ o. after >>= λ a. if op_has_its_new o words
    then Ok (record { number = number; thread = t; op = o; after = a }) else Err Arity) (λ line. (line.number ≡ number) × IsLineValue line)
line_fits number (Err c) op after words fits ht ho ha = tt
line_fits number (Ok t) (Err c) after words fits ht ho ha = tt
line_fits number (Ok t) (Ok o) (Err c) words fits ht ho ha = tt
line_fits number (Ok t) (Ok o) (Ok a) words fits ht ho ha = cond_both (op_has_its_new o words)
    (Ok (record { number = number; thread = t; op = o; after = a })) (Err Arity) (λ r. IfOk r (λ line. (line.number ≡ number) × IsLineValue line))
    (λ _. (refl, record { number = fits; thread = ht; op = ho; after = ha })) (λ _. tt)

line_of-value : (number : ℕ) (first : List ℕ) (words : List (List ℕ)) → number < 2 ^ 64
    → IfOk (read_line number first words) (λ line. (line.number ≡ number) × IsLineValue line)
unfolding read_line
line_of-value number first words fits = line_fits number (ok_or (read_thread first) Thread) (read_op (without_note words))
    (line_named (read_note words)) (without_note words) fits
    (ok_or-holds (λ n. n < 64) (read_thread first) Thread (thread_of-value first))
    (op_of-value (without_note words)) (line_named-value (read_note words))

line_added : (s : SoFar) (number : ℕ) (r : Result TraceLine Cause) → IsSoFar number s
    → IfOk r (λ line. (line.number ≡ number) × IsLineValue line) → IfOk (r >>= λ line. with_line s line) (IsSoFar (number + 1))
line_added s number (Ok line) known is =
    subst (λ (n : ℕ). IfOk (with_line s line) (IsSoFar (n + 1))) is.0
    (with_line-value s line (subst (λ (n : ℕ). IsSoFar n s) (sym is.0) known) is.1)
line_added s number (Err c) known is = tt

-- ---- a line before them

areas_of-value : (words : List (List ℕ)) → IfOk (read_area_limit words) IsCount
unfolding read_area_limit
areas_of-value (count ∷ []) = number_in-value 1 MOST_AREAS count
areas_of-value _ = tt

limit_of-value : (words : List (List ℕ)) → IfOk (limit_of words) IsCount
unfolding limit_of
limit_of-value [] = tt
limit_of-value (what ∷ words) = cond_both (bytes_eq what (codes "areas")) (read_area_limit words) (Err Word)
    (λ r. IfOk r IsCount) (λ _. areas_of-value words) (λ _. tt)

bound_of-value : (words : List (List ℕ)) → IfOk (bound_of words) IsBound
unfolding bound_of
bound_of-value (address ∷ []) = bound-value address
bound_of-value _ = tt

once_fits : (next : ℕ) (seen : Option ℕ) (P : ℕ → Type 0) (change : ℕ → SoFar) → ((n : ℕ) → P n → IsSoFar next (change n))
    → (r : Result ℕ Cause) → IfOk r P → IfOk (once seen (r >>= λ n. Ok (change n))) (IsSoFar next)
once_fits next (Some m) P change h r p = tt
once_fits next None P change h (Ok n) p = h n p
once_fits next None P change h (Err c) p = tt

with_limit-value : (next : ℕ) (s : SoFar) (words : List (List ℕ)) → IsSoFar next s → IfOk (with_limit s words) (IsSoFar next)
unfolding with_limit
with_limit-value next s words known = once_fits next s.areas IsCount (λ n. record s { areas = Some n })
    (λ n h. record {
      areas = h;
      top = known.top;
      min = known.min;
      heap = known.heap;
      files = known.files;
      distinct = known.distinct;
      lines = known.lines;
    }) (limit_of words) (limit_of-value words)

with_top-value : (next : ℕ) (s : SoFar) (words : List (List ℕ)) → IsSoFar next s → IfOk (with_top s words) (IsSoFar next)
unfolding with_top
with_top-value next s words known = once_fits next s.top IsBound (λ n. record s { top = Some n })
    (λ n h. record {
      areas = known.areas;
      top = h;
      min = known.min;
      heap = known.heap;
      files = known.files;
      distinct = known.distinct;
      lines = known.lines;
    }) (bound_of words) (bound_of-value words)

with_min-value : (next : ℕ) (s : SoFar) (words : List (List ℕ)) → IsSoFar next s → IfOk (with_min s words) (IsSoFar next)
unfolding with_min
with_min-value next s words known = once_fits next s.min IsBound (λ n. record s { min = Some n })
    (λ n h. record {
      areas = known.areas;
      top = known.top;
      min = h;
      heap = known.heap;
      files = known.files;
      distinct = known.distinct;
      lines = known.lines;
    }) (bound_of words) (bound_of-value words)

with_heap-value : (next : ℕ) (s : SoFar) (words : List (List ℕ)) → IsSoFar next s → IfOk (with_heap s words) (IsSoFar next)
unfolding with_heap
with_heap-value next s words known = once_fits next s.heap IsBound (λ n. record s { heap = Some n })
    (λ n h. record {
      areas = known.areas;
      top = known.top;
      min = known.min;
      heap = h;
      files = known.files;
      distinct = known.distinct;
      lines = known.lines;
    }) (bound_of words) (bound_of-value words)

fd_apart : (files : List FileRow) (fd : ℤ) → has_descriptor files fd ≡ false → (k : ℕ) (d : FileRow)
    → k < length files → (get_or files k d).fd ≢ fd
unfolding has_descriptor
fd_apart files fd none k d below same =
    both_ways (list_any (λ file. int_eq file.fd fd) files) none
    (list_any_at (λ (file : FileRow). int_eq file.fd fd) files k d below
    ((Decides-int_eq (get_or files k d).fd fd).1 same))

with_file-value : (next : ℕ) (s : SoFar) (file : FileRow) → IsSoFar next s → IfOk (with_file s file) (IsSoFar next)
unfolding with_file
with_file-value next s file known = unless_two (IsSoFar next) (has_descriptor s.files file.fd)
    (nat_le MOST_FILES (length s.files)) FileTwice TooMany
    (Ok (record s { files = s.files ++ file ∷ [] }))
    (λ apart few. record {
      areas = known.areas;
      top = known.top;
      min = known.min;
      heap = known.heap;
      lines = known.lines;
      files = omega (arith, leb-false MOST_FILES (length s.files) few, length_push s.files file);
      distinct = all_pairs_push (λ (a b : FileRow). a.fd ≢ b.fd) s.files file known.distinct
          (fd_apart s.files file.fd apart);
    })

file_fits : (next : ℕ) (s : SoFar) (file : Result FileRow Cause) → IsSoFar next s → IfOk (file >>= λ f. with_file s f) (IsSoFar next)
file_fits next s (Ok file) known = with_file-value next s file known
file_fits next s (Err c) known = tt

either : (next : ℕ) (test : Bool) (x y : Result SoFar Cause) → IfOk x (IsSoFar next) → IfOk y (IsSoFar next)
    → IfOk (if test then x else y) (IsSoFar next)
either next test x y hx hy = cond_both test x y (λ r. IfOk r (IsSoFar next)) (λ _. hx) (λ _. hy)

after_setting-value : (next : ℕ) (s : SoFar) (text first : List ℕ) (words : List (List ℕ)) → IsSoFar next s
    → IfOk (after_setting s text first words) (IsSoFar next)
unfolding after_setting
after_setting-value next s text first words known =
    either next (nat_lt 0 (length s.lines)) (Err Word) _ tt
    (either next (bytes_eq first (codes "limit")) (with_limit s words) _ (with_limit-value next s words known)
    (either next (bytes_eq first (codes "top")) (with_top s words) _ (with_top-value next s words known)
    (either next (bytes_eq first (codes "min")) (with_min s words) _ (with_min-value next s words known)
    (either next (bytes_eq first (codes "heap")) (with_heap s words) _ (with_heap-value next s words known)
    (either next (bytes_eq first (codes "file")) (read_file words (text_after_words 6 text) >>= λ file. with_file s file)
    (Err Word) (file_fits next s (read_file words (text_after_words 6 text)) known) tt)))))

-- ---- any line

with_header-value : (next : ℕ) (s : SoFar) (words : List (List ℕ)) → IsSoFar next s → IfOk (with_header s words) (IsSoFar next)
unfolding with_header
with_header-value next s words known = by_version (ok_or (read_version words) Header)
  where
    by_version : (r : Result Version Cause) → IfOk (r >>= λ version. Ok (record s { version = version })) (IsSoFar next)
    by_version (Ok version) = record {
      areas = known.areas;
      top = known.top;
      min = known.min;
      heap = known.heap;
      files = known.files;
      distinct = known.distinct;
      lines = known.lines;
    }
    by_version (Err c) = tt

after_words-value : (s : SoFar) (number : ℕ) (text : List ℕ) (words : List (List ℕ)) → IsSoFar number s → number < 2 ^ 64
    → IfOk (after_words s number text words) (IsSoFar (number + 1))
unfolding after_words
after_words-value s number text [] known fits = later number s known
after_words-value s number text (first ∷ words) known fits =
    either (number + 1) (is_comment first) (Ok s) _ (later number s known)
    (either (number + 1) (begins_with_digit first) (read_line number first words >>= λ line. with_line s line) (after_setting s text first words)
    (line_added s number (read_line number first words) known (line_of-value number first words fits))
    (after_setting-value (number + 1) s text first words (later number s known)))

-- what the words of a line do
abbrev after_text : SoFar → ℕ → List ℕ → Result SoFar Cause
after_text s number text = if nat_eq number 1 then with_header s (words_of text) else after_words s number text (words_of text)

after_text-value : (s : SoFar) (number : ℕ) (text : List ℕ) → IsSoFar number s → number < 2 ^ 64
    → IfOk (after_text s number text) (IsSoFar (number + 1))
after_text-value s number text known fits =
    either (number + 1) (nat_eq number 1) (with_header s (words_of text)) (after_words s number text (words_of text))
    (with_header-value (number + 1) s (words_of text) (later number s known))
    (after_words-value s number text (words_of text) known fits)

-- a line that is not too long has a number below the limit
small_number : (line : RawLine) → line.number ≤ line.start + 1 → is_too_long line ≡ false → line.number < 2 ^ 64
unfolding is_longer_than input_limit
small_number line counted short =
    let within = ltb-false input_limit (line.start + length line.text + 1)
    (or_parts (nat_lt LINE_LIMIT (length line.text)) (nat_lt input_limit
    (line.start + length line.text + 1)) short).1 in
    omega (arith, within)

text_fits : (s : SoFar) (line : RawLine) (long ended utf8 : Bool) → IsSoFar line.number s → (long ≡ false → line.number < 2 ^ 64)
    → IfOk (unless (first_row ((long, TooLong) ∷ (not ended, NoEnd) ∷ (not utf8, Utf8) ∷ []))
    (Ok line.text) >>= λ text. after_text s line.number text) (IsSoFar (line.number + 1))
text_fits s line true ended utf8 known small = tt
text_fits s line false false utf8 known small = tt
text_fits s line false true false known small = tt
text_fits s line false true true known small = after_text-value s line.number line.text known (small refl)

after_line-value : (s : SoFar) (line : RawLine) → IsSoFar line.number s → (is_too_long line ≡ false → line.number < 2 ^ 64)
    → IfOk (after_trace_line s line) (IsSoFar (line.number + 1))
unfolding after_trace_line text_within
after_line-value s line known small = text_fits s line (is_too_long line) line.ended (is_utf8 line.text) known small

-- so of a line that is good
pub after_line-good : (before after : SoFar) (line : RawLine) (number : ℕ) → IsSoFar number before → line.number ≡ number → number < 2 ^ 64
    → after_trace_line before line ≡ Ok after → IsSoFar (number + 1) after
after_line-good before after line number known numbered small good =
    subst (λ (n : ℕ). IsSoFar (n + 1) after) numbered
    (subst (λ (r : Result SoFar Cause). IfOk r (IsSoFar (line.number + 1))) good
    (after_line-value before line (subst (λ (n : ℕ). IsSoFar n before) (sym numbered) known) (λ _. omega arith)))

read_fits : (next : ℕ) (Q : SoFar → Type 0) (number : ℕ) (r : Result SoFar Cause) (rest : SoFar → Result SoFar BadLine)
    → IfOk r (IsSoFar next) → ((s : SoFar) → IsSoFar next s → IfOk (rest s) Q) → IfOk (at_line number r rest) Q
read_fits next Q number (Ok s) rest known h = h s known
read_fits next Q number (Err c) rest known h = tt

-- ---- all lines

-- what was read of all lines
abbrev IsRead : SoFar → Type 0
IsRead s = (next : ℕ) × IsSoFar next s

pieces-value : (s : SoFar) (number start : ℕ) (pieces : List (List ℕ)) → IsSoFar number s → number ≤ start + 1
    → IfOk (after_trace_lines s (lines_of_pieces number start pieces)) IsRead
pieces-value s number start [] known counted = (number, known)
pieces-value s number start (text ∷ []) known counted =
    cond_both (nat_eq (length text) 0) [] (raw_line number start text false ∷ [])
    (λ lines. IfOk (after_trace_lines s lines) IsRead) (λ _. (number, known))
    (λ _. read_fits (number + 1) IsRead number (after_trace_line s (raw_line number start text false)) (λ next. Ok next)
    (after_line-value s (raw_line number start text false) known (small_number (raw_line number start text false) counted))
    (λ next h. (number + 1, h)))
pieces-value s number start (text ∷ next ∷ pieces) known counted =
    read_fits (number + 1) IsRead number (after_trace_line s (raw_line number start text true))
    (λ after. after_trace_lines after (lines_of_pieces (number + 1) (start + length text + 1) (next ∷ pieces)))
    (after_line-value s (raw_line number start text true) known (small_number (raw_line number start text true) counted))
    (λ after h. pieces-value after (number + 1) (start + length text + 1) (next ∷ pieces) h (omega arith))

nothing-value : IsSoFar 1 nothing
nothing-value = record {
  areas = tt;
  top = tt;
  min = tt;
  heap = tt;
  files = omega arith;
  distinct =
      λ i j d before below. absurd (omega arith);
  lines = AreRead-nil;
}

lines_read-value : (bytes : List ℕ) → IfOk (lines_read bytes) IsRead
unfolding lines_read lines_from
lines_read-value bytes = pieces-value nothing 1 0 (slice_split is_newline bytes) nothing-value (omega arith)

-- ---- the trace

bound_or : (o : Option ℕ) (d : ℕ) → IfSome o IsBound → IsBound d → IsBound (unwrap_or o d)
bound_or None d h g = g
bound_or (Some n) d h g = h

bound_or_none : (o : Option ℕ) → IfSome o IsBound → (unwrap_or o 0 ≡ 0) ⊎ IsBound (unwrap_or o 0)
bound_or_none None h = inl refl
bound_or_none (Some n) h = inr h

count_or : (o : Option ℕ) (d : ℕ) → IfSome o IsCount → IsCount d → IsCount (unwrap_or o d)
count_or None d h g = g
count_or (Some n) d h g = h

one_of_two : (version : Version) → (address_limit version ≡ ADDRESS_LIMIT) ⊎ (address_limit version ≡ WIDE_LIMIT)
one_of_two Narrow = inl refl
one_of_two Wide = inr refl

config_of-value : (next : ℕ) (s : SoFar) → IsSoFar next s → IsValidConfig (config_of s)
unfolding config_of default_config
config_of-value next s known =
    let areas = count_or s.areas MOST_AREAS known.areas (lit≤ tt, lit≤ tt) in
    record {
      min = bound_or s.min DEFAULT_MIN known.min (record { aligned = refl; above_zero = lit≤ tt; within = lit≤ tt });
      top = bound_or s.top DEFAULT_TOP known.top (record { aligned = refl; above_zero = lit≤ tt; within = lit≤ tt });
      heap = bound_or_none s.heap known.heap;
      limit = one_of_two s.version;
      some_areas = omega (arith, areas.0);
      most_areas = areas.1;
      most_files = known.files;
      distinct = known.distinct;
    }

whole-value : (r : Result SoFar BadLine) (trace : Trace) → IfOk r IsRead → whole_trace r ≡ Ok trace → IsTraceValue trace
whole-value (Ok s) trace read e =
    let same : trace_so_far s ≡ trace = cc in
    let lines = read.1.lines in
    subst IsTraceValue same (record {
      config = config_of-value read.0 s read.1;
      few = lines.few;
      lines = lines.values;
      numbered = lines.numbered;
      named = lines.names;
      inside = lines.inside;
      forks = lines.forks;
      few_named = omega (arith, lines.are_named, lines.few_named);
      few_forks = omega (arith, ap length lines.are_children, lines.few_forks);
      few_reads = omega (arith, lines.are_maps, lines.few_reads);
    })
whole-value (Err first) trace read e = absurd cc

pub trace_of-value : (bytes : List ℕ) (trace : Trace) → trace_of bytes ≡ Ok trace → IsTraceValue trace
unfolding trace_of
trace_of-value bytes trace = cond_both (nat_eq (length bytes) 0) (Err (bad_line 1 Header)) (whole_trace (lines_read bytes))
    (λ r. r ≡ Ok trace → IsTraceValue trace)
    (λ _ e. absurd cc) (λ _ e. whole-value (lines_read bytes) trace (lines_read-value bytes) e)
