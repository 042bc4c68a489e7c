-- Serves the functions that run all lines with one pass: what closing its space leaves.
use Rattle.std.proofs.Common.{cond, ◌⊎◌, Bool, true, false, inl, inr, ℕ, zero, suc, ◌≡◌, ◌+◌, ◌<◌, ◌≤◌, ◌∙◌, refl, sym, ap, subst, nat_eq, filter, None, List, [], ◌∷◌, ◌++◌, ◌||◌, length, map, get_or, set, slice_get, All, Some, arith}
use Rattle.std.specs.Prelude.{Result, Ok, Err, IfOk}
use Rattle.std.proofs.lemmas.List.{length-set, get_or-set_same}
use Rattle.std.proofs.lemmas.Bool.{eq-eqb, ne_eqb}
use Rattle.std.proofs.lemmas.List.Elements.{All-nil, All-weaker, All-filter, All-head, All-tail, All-cons}
use Rattle.std.proofs.lemmas.Option.{slice_get_within, slice_get_read}
use Rattle.mm_types.specs.declared.call.Entry.{Entry}
use Rattle.mm_types.specs.declared.call.Seen.{Seen}
use Rattle.mm_types.specs.declared.call.Seen.TheVariants as reads
use Rattle.mm_types.specs.declared.config.Config.{Config}
use Rattle.trace_reader.specs.declared.trace.TraceLine.{TraceLine}
use Rattle.area_rules.specs.Journals.{calls_by, version_of, IsReadRight}
use Rattle.area_rules.specs.Steps.{IsLegalJournal}
use Rattle.history.specs.declared.items.Item.{Item}
use Rattle.history.specs.Histories.{caller_of, lines_of, occurs}
use Rattle.history.specs.Labels.{IsSerialRun}
use Rattle.history.specs.Runs.{own_of, ops_of, asked, entry_items, log_items, read_item, HasGrown}
use Rattle.history.specs.Histories.{items_of, gather, goes_first}
use Rattle.history.proofs.SerialOrder.{insert_item}
use Rattle.history.proofs.Lists.{at_place}
use Rattle.history.proofs.Touches.{touches_made}
use Rattle.fault_path.specs.Passes.{PassView, caller, seen_by, made_by, IsLater}
use Rattle.lock_core.specs.Facts.{list_after}
use Rattle.mm_space.specs.Names.{SpaceId, since, AreStrangers, IsPassOf, ArePasses}
use Rattle.mm_space.specs.Opening.{AreOpened}
use Rattle.mm_space.specs.Closing.{ClosedView, IsIn, Closes}
use Rattle.mm_space.proofs.States.{parts, no_calls, own_since}
use Rattle.mm_fork.specs.Children.{IsChildRun}
use Rattle.mm_fork.proofs.ChildRuns.{whole_run}
use Rattle.vma_drive.specs.Alone.{RanAlone}
use Rattle.vma_drive.specs.Hearing.{own_by, done_by, IsLate, IsUnused, HaveGrown}
use Rattle.vma_drive.specs.Sharing.{AreOfOneThread, NameNoLine}
use Rattle.vma_drive.proofs.ClosedRuns.{own_in, entry_at, used}

-- ---- the one pass of a space, which has seen what was there before

pub record OnlyPass (name : SpaceId) (passes : List PassView) (pass : PassView) (lines : List TraceLine) : Type 0 where
  pub one : length name.operations ≡ 1
  pub only : length passes ≡ 1
  pub pass_is : IsPassOf name pass
  pub unused : IsUnused pass
  pub left : length lines ≤ pass.left
  pub by : caller pass ≡ 0
  pub seen : seen_by pass ≡ name.before

pub only_pass : (name : SpaceId) (operations : List ℕ) (passes : List PassView) (pass : PassView) (lines : List TraceLine)
    → AreOpened name passes → AreStrangers name.before → operations ≡ name.operations → operations ≡ length lines ∷ []
    → pass ≡ get_or passes 0 pass → OnlyPass name passes pass lines
only_pass name operations passes pass lines opened strangers named its read =
    let most_is : name.operations ≡ length lines ∷ [] = sym named ∙ its in
    let one : length name.operations ≡ 1 = ap length most_is in
    let found : slice_get passes 0 ≡ Some pass = slice_get_read passes (length passes) 0 pass refl (omega (arith, opened.passes_are.all, one)) read in
    let is = opened.passes_are.each 0 pass found in
    let opening = opened.opened 0 pass found in
    let left : pass.left ≡ length lines =
    opening.left ∙ is.0.operations ∙ ap (λ (k : ℕ). get_or name.operations k 0) is.1 ∙ ap (λ (l : List ℕ). get_or l 0 0) most_is in
    record {
      one = one;
      only = opened.passes_are.all ∙ one;
      pass_is = is.0;
      unused = record {
        made = ap (λ (k : ℕ). calls_by k (seen_by pass)) is.1 ∙ ap (λ (l : List Entry). calls_by 0 l) opening.seen
            ∙ no_calls name.before 0 strangers (omega arith);
        log = opening.log;
      };
      left = omega arith;
      by = is.1;
      seen = opening.seen;
    }

-- ---- reads of what was done lately

read_late : (least by : ℕ) (read : Seen) → IsLate least (read_item by read) → least ≤ version_of read
read_late least by (reads.Fault version page access verdict) late = omega (arith, late)
read_late least by (reads.Maps version list) late = omega (arith, late)

items_late : (least by : ℕ) (log : List Seen) → All (IsLate least) (log_items by log) → All (λ read. least ≤ version_of read) log
unfolding log_items
items_late least by [] late = All-nil (λ read. least ≤ version_of read)
items_late least by (read ∷ log) late = All-cons (λ (r : Seen). least ≤ version_of r) read log
    (read_late least by read (All-head (IsLate least) (read_item by read) (log_items by log) late))
    (items_late least by log (All-tail (IsLate least) (read_item by read) (log_items by log) late))

-- what is so of each item of a history was so before it was gathered
uninsert : (P : Item → Type 0) (x : Item) (zs : List Item) → All P (insert_item x zs) → P x × All P zs
uninsert P x [] all = (All-head P x [] all, All-nil P)
uninsert P x (z ∷ zs) all = by_test (goes_first x z) (uninsert P x zs) all
  where
    by_test : (first : Bool) → (All P (insert_item x zs) → P x × All P zs) → All P (cond first (x ∷ z ∷ zs) (z ∷ insert_item x zs)) → P x × All P (z ∷ zs)
    by_test true again all = (All-head P x (z ∷ zs) all, All-tail P x (z ∷ zs) all)
    by_test false again all =
        let rest = again (All-tail P z (insert_item x zs) all) in
        (rest.0, All-cons P z zs (All-head P z (insert_item x zs) all) rest.1)

ungather : (P : Item → Type 0) (zs : List Item) → All P (gather zs) → All P zs
ungather P [] all = all
ungather P (z ∷ zs) all = let parts = uninsert P z (gather zs) all in All-cons P z zs parts.0 (ungather P zs parts.1)

all_after : (P : Item → Type 0) (xs ys : List Item) → All P (xs ++ ys) → All P ys
all_after P [] ys all = all
all_after P (x ∷ xs) ys all = all_after P xs ys (All-tail P x (xs ++ ys) all)

log_late : (least by : ℕ) (seen : List Entry) (log : List Seen) → All (IsLate least) (own_of by seen log) → All (λ read. least ≤ version_of read) log
unfolding own_of
log_late least by seen log late = items_late least by log
    (all_after (IsLate least) (items_of (entry_items 0 seen) by) (log_items by log)
    (ungather (IsLate least) (items_of (entry_items 0 seen) by ++ log_items by log) late))

-- the one log
one_log : (passes : List PassView) (pass : PassView) → length passes ≡ 1 → slice_get passes 0 ≡ Some pass
    → map (λ pass. pass.log) passes ≡ pass.log ∷ []
one_log [] pass one found = absurd (omega arith)
one_log (first ∷ []) pass one found = let same : Some first ≡ Some pass = found in cc
one_log (first ∷ other ∷ rest) pass more found = absurd (omega arith)

-- ---- what is left

module _ (name : SpaceId) (lines : List TraceLine) (passes : List PassView) (closed : ClosedView) (pass : PassView)
    (closes : Closes name passes closed) (strangers : AreStrangers name.before)
    (one : length passes ≡ 1) (found : slice_get passes 0 ≡ Some pass) (by : caller pass ≡ 0) where
  abbrev own : List Entry
  own = since name.before closed.journal

  lies : IsIn name.config closed.journal pass
  lies = closes.each 0 pass found

  journal_is : closed.journal ≡ name.before ++ own
  journal_is = parts closed.journal name.before closes.begins

  made_is : calls_by 0 own ≡ made_by pass
  made_is = sym (own_since closed.journal name.before 0 closes.begins strangers (omega arith))
      ∙ ap (λ (k : ℕ). calls_by k closed.journal) (sym by) ∙ lies.made

  nobody : (other : ℕ) → 1 ≤ other → calls_by other own ≡ []
  nobody other past = closes.others other (omega (arith, one, past))

  all_grown : HaveGrown pass → All HasGrown own
  all_grown grown i d within =
      let entry : Entry = get_or own i d in
      entry_at entry.caller own i d (elim (first entry.caller) [
        | inl zeroth ↦ subst (λ (k : ℕ). All HasGrown (calls_by k own)) (sym zeroth)
            (subst (λ (l : List Entry). All HasGrown l) (sym made_is) grown)
        | inr past ↦ subst (λ (l : List Entry). All HasGrown l) (sym (nobody entry.caller past)) (All-nil HasGrown)
      ]) within refl
    where
      first : (k : ℕ) → (k ≡ 0) ⊎ (1 ≤ k)
      first zero = inl refl
      first (suc k) = inr (omega arith)

  pub ran_alone : HaveGrown pass → done_by pass ≡ asked lines → All (IsLate (length name.before)) (own_by pass)
      → RanAlone name.config name.before lines closed
  ran_alone grown done late = record {
    log = pass.log;
    own = own;
    logs = closes.logs ∙ one_log passes pass one found;
    journal = journal_is;
    legal = subst (λ (l : List Entry). IsLegalJournal name.config l) journal_is closes.legal;
    grown = all_grown grown;
    right = subst (λ (l : List Entry). All (IsReadRight name.config l) pass.log) journal_is lies.right;
    later = log_late (length name.before) (caller pass) (seen_by pass) pass.log late;
    done = ap (λ (l : List Entry). ops_of (own_of 0 l pass.log)) (sym journal_is)
        ∙ ap (λ (k : ℕ). ops_of (own_of k closed.journal pass.log)) (sym by)
        ∙ ap ops_of (own_in name.config closed.journal pass lies) ∙ done;
    others = nobody;
    list = closes.list;
  }

-- ---- the same over the results of a run

-- after the pass was used
pub used_alone : (name : SpaceId) (passes : List PassView) (old new : PassView) (lines : List TraceLine)
    → OnlyPass name passes old lines → IsPassOf name new → IsLater old new
    → ArePasses name (set passes 0 new)
used_alone name passes old new lines only is later = record {
  all = length-set passes 0 new ∙ only.only ∙ sym only.one;
  each = λ place pass found.
      let its = used passes new place pass only.only found in
      (subst (λ (p : PassView). IsPassOf name p) its.1 is, ap caller (sym its.1) ∙ later.by ∙ only.by ∙ sym its.0);
}

pub alone_closed : (name : SpaceId) (config : Config) (before : List Entry) (lines : List TraceLine) (passes : List PassView) (old new : PassView)
    (closed : ClosedView) → OnlyPass name passes old lines → IsLater old new → Closes name (set passes 0 new) closed
    → AreStrangers name.before → name.before ≡ before → name.config ≡ config
    → HaveGrown new → done_by new ≡ asked lines → All (IsLate (length (seen_by old))) (own_by new)
    → RanAlone config before lines closed
alone_closed name config before lines passes old new closed only later closes strangers before_is config_is grown done late =
    subst (λ (s : Config). RanAlone s before lines closed) config_is
    (subst (λ (b : List Entry). RanAlone name.config b lines closed) before_is
    (ran_alone name lines (set passes 0 new) closed new closes strangers
    (length-set passes 0 new ∙ only.only) (slice_get_read (set passes 0 new) (length (set passes 0 new)) 0 new refl (omega (arith, only.only, length-set passes 0 new))
    (sym (get_or-set_same passes 0 new new (omega (arith, only.only))))) (later.by ∙ only.by) grown done
    (subst (λ (l : List Entry). All (IsLate (length l)) (own_by new)) only.seen late)))

-- a run by one pass in a space that began empty
serial_alone : (config : Config) (lines : List TraceLine) (run : ClosedView) → RanAlone config [] lines run
    → (log : List Seen) × (run.logs ≡ log ∷ []) × IsSerialRun config lines run.journal log
serial_alone config lines run ran = (
  ran.log,
  ran.logs,
  record {
    legal = subst (λ (l : List Entry). IsLegalJournal config l) (sym ran.journal) ran.legal;
    made = touches_made config [] run.journal
        (record { replies = (subst (λ (l : List Entry). IsLegalJournal config l) (sym ran.journal) ran.legal).replies })
        (subst (λ (l : List Entry). All HasGrown l) (sym ran.journal) ran.grown);
    right = subst (λ (l : List Entry). All (IsReadRight config l) ran.log) (sym ran.journal) ran.right;
    done = ap (λ (l : List Entry). ops_of (own_of 0 l ran.log)) ran.journal ∙ ran.done;
    others = λ other past. ap (calls_by other) ran.journal ∙ ran.others other past;
  },
)

pub serial_result : {E : Type 0} (config : Config) (before : List Entry) (lines : List TraceLine) (result : Result ClosedView E) → before ≡ []
    → IfOk result (RanAlone config before lines)
    → IfOk result (λ run. (log : List Seen) × (run.logs ≡ log ∷ []) × IsSerialRun config lines run.journal log)
serial_result config before lines (Ok run) none ran = serial_alone config lines run (subst (λ (b : List Entry). RanAlone config b lines run) none ran)
serial_result config before lines (Err e) none ran = tt

pub list_result : {E : Type 0} (config : Config) (before : List Entry) (lines : List TraceLine) (result : Result ClosedView E)
    → IfOk result (RanAlone config before lines) → IfOk result (λ run. run.list ≡ list_after config run.journal)
list_result config before lines (Ok run) ran = ran.list
list_result config before lines (Err e) ran = tt

-- ---- a child has one thread, whose lines are its first caller's

no_thread : (lines : List TraceLine) (one other : ℕ) → All (λ line. line.thread ≡ one) lines → (other ≡ one → ⊥) → occurs lines other ≡ false
no_thread [] one other same apart = refl
no_thread (line ∷ lines) one other same apart =
    ap (λ (t : Bool). t || occurs lines other)
    (ne_eqb line.thread other (λ is. apart (sym is ∙ All-head (λ line. line.thread ≡ one) line lines same)))
    ∙ no_thread lines one other (All-tail (λ line. line.thread ≡ one) line lines same) apart

lowest : (lines : List TraceLine) (one limit : ℕ) → All (λ line. line.thread ≡ one) lines → limit ≤ one → caller_of lines limit ≡ 0
unfolding caller_of
lowest lines one zero same below = refl
lowest lines one (suc thread) same below =
    ap (λ (t : Bool). caller_of lines thread + cond t 1 0) (no_thread lines one thread same (λ is. omega (arith, is, below)))
    ∙ ap (λ (n : ℕ). n + 0) (lowest lines one thread same (omega (arith, below)))

keys_alike : (key : TraceLine → ℕ) (by : ℕ) (lines : List TraceLine) → All (λ line. key line ≡ by) lines → filter (λ line. nat_eq (key line) by) lines ≡ lines
keys_alike key by [] same = refl
keys_alike key by (line ∷ lines) same =
    ap (λ (t : Bool). cond t (line ∷ filter (λ line. nat_eq (key line) by) lines) (filter (λ line. nat_eq (key line) by) lines))
    (eq-eqb (key line) by (All-head (λ line. key line ≡ by) line lines same))
    ∙ ap (λ (l : List TraceLine). line ∷ l) (keys_alike key by lines (All-tail (λ line. key line ≡ by) line lines same))

keys_apart : (key : TraceLine → ℕ) (by other : ℕ) (lines : List TraceLine) → All (λ line. key line ≡ by) lines → by < other
    → filter (λ line. nat_eq (key line) other) lines ≡ []
keys_apart key by other [] same apart = refl
keys_apart key by other (line ∷ lines) same apart =
    ap (λ (t : Bool). cond t (line ∷ filter (λ line. nat_eq (key line) other) lines) (filter (λ line. nat_eq (key line) other) lines))
    (ne_eqb (key line) other (λ is. omega (arith, apart, is, All-head (λ line. key line ≡ by) line lines same)))
    ∙ keys_apart key by other lines (All-tail (λ line. key line ≡ by) line lines same) apart

all_first : (lines : List TraceLine) (one : ℕ) → All (λ line. line.thread ≡ one) lines → All (λ line. caller_of lines line.thread ≡ 0) lines
all_first lines one same = All-weaker (λ line. line.thread ≡ one) (λ line. caller_of lines line.thread ≡ 0)
    (λ line is. ap (caller_of lines) is ∙ lowest lines one one same (omega arith)) lines same

own_lines : (lines : List TraceLine) → AreOfOneThread lines → lines_of lines 0 ≡ lines
unfolding lines_of
own_lines lines one = keys_alike (λ line. caller_of lines line.thread) 0 lines (all_first lines one.0 one.1)

no_others : (lines : List TraceLine) → AreOfOneThread lines → (other : ℕ) → 1 ≤ other → lines_of lines other ≡ []
unfolding lines_of
no_others lines one other past = keys_apart (λ line. caller_of lines line.thread) 0 other lines (all_first lines one.0 one.1) past

-- no line of a caller names a line where none does
no_name : (lines : List TraceLine) (by place : ℕ) (line : TraceLine) → NameNoLine lines → slice_get (lines_of lines by) place ≡ Some line
    → line.after ≡ None
unfolding lines_of
no_name lines by place line alone found = at_place (λ (l : TraceLine). l.after ≡ None) (lines_of lines by) place line
    (All-filter (λ (l : TraceLine). nat_eq (caller_of lines l.thread) by) (λ (l : TraceLine). l.after ≡ None) lines alone) found

child_run : (config : Config) (before : List Entry) (lines : List TraceLine) (run : ClosedView) → RanAlone config before lines run
    → AreStrangers before → AreOfOneThread lines → NameNoLine lines
    → (own : List Entry) × (run.journal ≡ before ++ own) × IsChildRun config before lines 1 own run.logs
child_run config before lines run ran strangers one alone = (
  ran.own,
  ran.journal,
  whole_run config before lines 1 ran.own run.logs (record {
    legal = ran.legal;
    grown = ran.grown;
    all = ap length ran.logs;
    right = λ place log found. let at = first_log ran.logs found in
        subst (λ (l : List Seen). All (IsReadRight config (before ++ ran.own)) l) at.1 ran.right;
    later = λ place log found. let at = first_log ran.logs found in
        subst (λ (l : List Seen). All (λ read. length before ≤ version_of read) l) at.1 ran.later;
    done = λ place log found. let at = first_log ran.logs found in
        ap (λ (k : ℕ). ops_of (own_of k (before ++ ran.own) log)) at.0
        ∙ ap (λ (l : List Seen). ops_of (own_of 0 (before ++ ran.own) l)) (sym at.1) ∙ ran.done
        ∙ ap asked (sym (own_lines lines one) ∙ ap (lines_of lines) (sym at.0));
    told = λ caller place log item line number found own at names.
        absurd (let none_named = no_name lines caller place line alone at in cc);
    apart = λ by within. no_calls before by strangers (omega (arith, within));
    others = ran.others;
    no_lines = no_others lines one;
  }),
)
  where
    first_log : {logs : List (List Seen)} {first : List Seen} {place : ℕ} {log : List Seen} → logs ≡ first ∷ [] → slice_get logs place ≡ Some log
        → (place ≡ 0) × (first ≡ log)
    first_log {logs} {first} {place} {log} are found =
        let at : slice_get (first ∷ []) place ≡ Some log = ap (λ (l : List (List Seen)). slice_get l place) (sym are) ∙ found in
        by_place place at
      where
        by_place : (place : ℕ) → slice_get (first ∷ []) place ≡ Some log → (place ≡ 0) × (first ≡ log)
        by_place zero at = (refl, let same : Some first ≡ Some log = at in cc)
        by_place (suc place) at = absurd (omega (arith, slice_get_within (first ∷ []) (suc place) log at))

pub child_result : {E : Type 0} (config : Config) (before : List Entry) (lines : List TraceLine) (result : Result ClosedView E)
    → IfOk result (RanAlone config before lines) → AreStrangers before → AreOfOneThread lines → NameNoLine lines
    → IfOk result (λ run. (own : List Entry) × (run.journal ≡ before ++ own) × IsChildRun config before lines 1 own run.logs)
child_result config before lines (Ok run) ran strangers one alone = child_run config before lines run ran strangers one alone
child_result config before lines (Err e) ran strangers one alone = tt
