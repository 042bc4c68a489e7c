-- For `child_run_makes_a_legal_history`: a finished run of a child, without what it inherited.
use Rattle.std.proofs.Common.{ℕ, ◌≡◌, ◌+◌, ◌-◌, ◌^◌, ◌<◌, ◌≤◌, ◌∙◌, refl, sym, ap, subst, cond, List, [], ◌∷◌, ◌++◌, length, length-append, map, take, drop, slice_get, All, Some, arith}
use Rattle.std.proofs.Math.Seq.{drop-append_seam}
use Rattle.std.proofs.lemmas.List.{length-map}
use Rattle.std.proofs.lemmas.List.Elements.{All-nil, All-cons, All-head, All-tail}
use Rattle.std.proofs.lemmas.Option.{slice_get_within}
use Rattle.mm_types.specs.declared.call.Entry.{Entry}
use Rattle.mm_types.specs.declared.call.Seen.{Seen}
use Rattle.mm_types.specs.declared.call.Seen.TheVariants as reads
use Rattle.mm_types.specs.declared.config.Config.{Config}
use Rattle.trace_reader.specs.declared.trace.TraceLine.{TraceLine}
use Rattle.trace_reader.specs.Values.{AreNumbered, AreNamesRight}
use Rattle.area_rules.specs.Steps.{step, after, IsLegalJournal}
use Rattle.area_rules.specs.Journals.{calls_by, version_of, IsReadAfter, IsReadRight}
use Rattle.history.specs.declared.items.Item.{Item}
use Rattle.history.specs.Histories.{lines_of, is_call, journal_of, IsLegalHistory}
use Rattle.history.specs.Runs.{own_of, ops_of, asked, history_of, HasGrown, IsLegalAfter, IsReadRightAfter, IsRun}
use Rattle.history.proofs.LineAnswers.{AreToldAt, told_from}
use Rattle.history.proofs.Touches.{touches_made}
use Rattle.history.proofs.Finished.{history_is_legal, run_journal}
use Rattle.mm_fork.specs.Behind.{shifted, unshifted, log_behind}
use Rattle.mm_fork.specs.Children.{child_history_of, IsChildRun}
use Rattle.mm_fork.proofs.Places.{taken_on, taken_past, got_on, mapped_from, mapped_to}
use Rattle.mm_fork.proofs.Shifting.{own_behind, ops_behind}

-- A finished run of the lines of a child, counted over all entries, of which none that it inherited is of a caller of the child: the whole
-- journal is legal, each touch behind the inherited entries grew, each caller's reads are right in the whole journal and not from before the
-- fork, what each caller did is its lines, in order, what a line names was done before, and nobody else did anything or has a line.
pub record IsWholeRun (config : Config) (before : List Entry) (lines : List TraceLine) (callers : ℕ) (own : List Entry) (logs : List (List Seen)) : Type 0 where
  pub legal : IsLegalJournal config (before ++ own)
  pub grown : All HasGrown own
  pub all : length logs ≡ callers
  pub right : (caller : ℕ) (log : List Seen) → slice_get logs caller ≡ Some log → All (IsReadRight config (before ++ own)) log
  pub later : (caller : ℕ) (log : List Seen) → slice_get logs caller ≡ Some log → All (λ read. length before ≤ version_of read) log
  pub done : (caller : ℕ) (log : List Seen) → slice_get logs caller ≡ Some log
      → ops_of (own_of caller (before ++ own) log) ≡ asked (lines_of lines caller)
  pub told : AreToldAt (λ caller log. own_of caller (before ++ own) log) lines logs
  pub apart : (caller : ℕ) → caller < callers → calls_by caller before ≡ []
  pub others : (caller : ℕ) → callers ≤ caller → calls_by caller own ≡ []
  pub no_lines : (caller : ℕ) → callers ≤ caller → lines_of lines caller ≡ []

-- what is legal as a whole is legal behind its beginning
legal_behind : (config : Config) (before own : List Entry) → IsLegalJournal config (before ++ own) → IsLegalAfter config before own
legal_behind config before own legal =
    record {
      replies = λ place entry found.
          legal.replies (length before + place) entry (got_on before own place ∙ found)
          ∙ ap (λ (j : List Entry). (step config (after config j) entry.call).reply) (taken_on before own place);
    }

counted : (n v m k : ℕ) → n ≤ v → v ≤ m → m ≡ n + k → v - n ≤ k
counted n v m k late within all = omega arith

-- a read that is right in the whole is right behind the beginning, where it is not from there
read_behind : (config : Config) (before own : List Entry) (read : Seen) → IsReadRight config (before ++ own) read
    → length before ≤ version_of read → IsReadRightAfter config before own (unshifted (length before) read)
read_behind config before own (reads.Fault version page access verdict) right late =
    record {
      right = subst (λ (j : List Entry). IsReadAfter config j (reads.Fault version page access verdict)) (taken_past before own version late) right.right;
      within = counted (length before) version (length (before ++ own)) (length own) late right.within (length-append before own);
    }
read_behind config before own (reads.Maps version list) right late =
    record {
      right = subst (λ (j : List Entry). IsReadAfter config j (reads.Maps version list)) (taken_past before own version late) right.right;
      within = counted (length before) version (length (before ++ own)) (length own) late right.within (length-append before own);
    }

reads_behind : (config : Config) (before own : List Entry) (log : List Seen) → All (IsReadRight config (before ++ own)) log
    → All (λ read. length before ≤ version_of read) log → All (IsReadRightAfter config before own) (log_behind (length before) log)
reads_behind config before own [] right late = All-nil (IsReadRightAfter config before own)
reads_behind config before own (read ∷ log) right late =
    let R = λ (r : Seen). IsReadRight config (before ++ own) r in
    let L = λ (r : Seen). length before ≤ version_of r in
    All-cons (IsReadRightAfter config before own) (unshifted (length before) read) (log_behind (length before) log)
    (read_behind config before own read (All-head R read log right) (All-head L read log late))
    (reads_behind config before own log (All-tail R read log right) (All-tail L read log late))

-- a caller of the child has no part in what it inherited
own_apart : (config : Config) (before : List Entry) (lines : List TraceLine) (callers : ℕ) (own : List Entry) (logs : List (List Seen))
    → IsWholeRun config before lines callers own logs → (caller : ℕ) (log : List Seen) → slice_get logs caller ≡ Some log
    → calls_by caller before ≡ []
own_apart config before lines callers own logs run caller log found =
    run.apart caller (subst (λ (n : ℕ). caller < n) run.all (slice_get_within logs caller log found))

earlier : (s n t i : ℕ) → (s + n) + t ≤ i + n → s + t ≤ i
earlier s n t i before = omega arith

-- and comes as late after what it was told
told_behind : (config : Config) (before : List Entry) (lines : List TraceLine) (callers : ℕ) (own : List Entry) (logs : List (List Seen))
    → IsWholeRun config before lines callers own logs
    → AreToldAt (λ caller log. own_of caller own log) lines (map (log_behind (length before)) logs)
told_behind config before lines callers own logs run caller place log item line number logged stood asked names teller there other said named
    told_log told_stood told_asked is =
    let n : ℕ = length before in
    let mine = mapped_from (log_behind n) logs caller log logged in
    let theirs = mapped_from (log_behind n) logs teller other told_log in
    earlier said.version n (cond (is_call item.content) 1 0) item.version
    (run.told caller place mine.0 (shifted n item) line number mine.1
    (whole caller place mine.0 log item mine.1 mine.2 stood) asked names teller there theirs.0 (shifted n said) named theirs.1
    (whole teller there theirs.0 other said theirs.1 theirs.2 told_stood) told_asked is)
  where
    whole : (caller place : ℕ) (log behind : List Seen) (item : Item) → slice_get logs caller ≡ Some log → log_behind (length before) log ≡ behind
        → slice_get (own_of caller own behind) place ≡ Some item
        → slice_get (own_of caller (before ++ own) log) place ≡ Some (shifted (length before) item)
    whole caller place log behind item found is stood =
        ap (λ (l : List Item). slice_get l place)
        (own_behind caller before own log (own_apart config before lines callers own logs run caller log found) (run.later caller log found))
        ∙ mapped_to (shifted (length before)) (own_of caller own (log_behind (length before) log)) place item
        (ap (λ (l : List Seen). slice_get (own_of caller own l) place) is ∙ stood)

-- such a run is, without what it inherited, a run behind that
run_behind : (config : Config) (before : List Entry) (lines : List TraceLine) (callers : ℕ) (own : List Entry) (logs : List (List Seen))
    → IsWholeRun config before lines callers own logs → IsRun config before lines callers own (map (log_behind (length before)) logs)
run_behind config before lines callers own logs run =
    let n : ℕ = length before in
    let legal : IsLegalAfter config before own = legal_behind config before own run.legal in
    record {
      legal = legal;
      made = touches_made config before own legal run.grown;
      all = length-map logs (log_behind n) ∙ run.all;
      right = λ caller log found.
          let from = mapped_from (log_behind n) logs caller log found in
          subst (λ (l : List Seen). All (IsReadRightAfter config before own) l) from.2
          (reads_behind config before own from.0 (run.right caller from.0 from.1) (run.later caller from.0 from.1));
      done = λ caller log found.
          let from = mapped_from (log_behind n) logs caller log found in
          ap (λ (l : List Seen). ops_of (own_of caller own l)) (sym from.2)
          ∙ sym (ops_behind caller before own from.0 (own_apart config before lines callers own logs run caller from.0 from.1)
          (run.later caller from.0 from.1))
          ∙ run.done caller from.0 from.1;
      told = told_from (λ caller log. own_of caller own log) lines (map (log_behind n) logs) (told_behind config before lines callers own logs run);
      others = run.others;
      no_lines = run.no_lines;
    }

pub whole_run : (config : Config) (before : List Entry) (lines : List TraceLine) (callers : ℕ) (own : List Entry) (logs : List (List Seen))
    → IsWholeRun config before lines callers own logs → IsChildRun config before lines callers own logs
whole_run config before lines callers own logs run =
    record { later = run.later; run = run_behind config before lines callers own logs run }

history_behind : (before own : List Entry) (logs : List (List Seen)) → child_history_of (length before) (before ++ own) logs
    ≡ history_of own (map (log_behind (length before)) logs)
history_behind before own logs = ap (λ (j : List Entry). history_of j (map (log_behind (length before)) logs)) (drop-append_seam before own)

pub child_is_legal : (config : Config) (before : List Entry) (lines : List TraceLine) (callers : ℕ) (own : List Entry) (logs : List (List Seen))
    → IsChildRun config before lines callers own logs → callers ≤ 2 ^ 32 → AreNumbered lines → AreNamesRight lines
    → IsLegalHistory config before lines (child_history_of (length before) (before ++ own) logs)
child_is_legal config before lines callers own logs run few numbered names =
    subst (λ (items : List Item). IsLegalHistory config before lines items) (sym (history_behind before own logs))
    (history_is_legal config before lines callers own (map (log_behind (length before)) logs)
    run.run few numbered names)

pub child_journal : (config : Config) (before : List Entry) (lines : List TraceLine) (callers : ℕ) (own : List Entry) (logs : List (List Seen))
    → IsChildRun config before lines callers own logs → callers ≤ 2 ^ 32
    → journal_of (child_history_of (length before) (before ++ own) logs) ≡ own
child_journal config before lines callers own logs run few =
    ap journal_of (history_behind before own logs)
    ∙ run_journal config before lines callers own (map (log_behind (length before)) logs) run.run few
