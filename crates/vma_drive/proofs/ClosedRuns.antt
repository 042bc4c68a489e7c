-- Serves the functions that run a trace: what closing a space after all lines were run leaves.
use Rattle.std.proofs.Common.{Bool, true, false, cond, inl, inr, ℕ, ◌≡◌, ◌<◌, ◌≤◌, ◌∙◌, zero, suc, refl, sym, ap, subst, nat_eq, List, [], ◌∷◌, ◌++◌, length, map, take, drop, get_or, set, slice_get, option_map, All, Some, arith}
use Rattle.std.proofs.lemmas.List.{length-map, length-set, take-append-le, take_all, get_or-set_same}
use Rattle.std.proofs.lemmas.Bool.{cases_lt, eq-eqb}
use Rattle.std.proofs.lemmas.List.Elements.{All-nil, All-weaker}
use Rattle.std.proofs.lemmas.Option.{slice_get-map, slice_get_within, slice_get-get_or, get_or_from_slice_get}
use Rattle.mm_types.specs.declared.call.Entry.{Entry}
use Rattle.mm_types.specs.declared.call.Seen.{Seen}
use Rattle.mm_types.specs.declared.config.Config.{Config}
use Rattle.trace_reader.specs.declared.trace.TraceLine.{TraceLine}
use Rattle.trace_reader.specs.Values.{IsLineValue}
use Rattle.area_rules.specs.Journals.{calls_by, IsReadRight}
use Rattle.history.specs.declared.callers.TheConstants.{MOST_THREADS}
use Rattle.history.specs.declared.items.Item.{Item}
use Rattle.history.specs.Histories.{lines_of}
use Rattle.history.specs.Runs.{own_of, ops_of, asked, HasGrown, AreMade, AreTold, IsReadRightAfter, IsRun}
use Rattle.history.proofs.LineAnswers.{told_at, told_from}
use Rattle.history.proofs.Steps.{own_same}
use Rattle.history.proofs.Touches.{touches_made}
use Rattle.history.proofs.ThreadCounts.{no_lines_past}
use Rattle.fault_path.specs.Passes.{PassView, caller, seen_by, made_by}
use Rattle.mm_space.specs.Names.{SpaceId, since, ArePasses}
use Rattle.mm_space.specs.Closing.{ClosedView, IsIn, Closes}
use Rattle.vma_drive.specs.Hearing.{own_by, done_by, HaveGrown, AreToldBy}
use Rattle.history.specs.CallerPlaces.{callers_of}
use Rattle.vma_drive.specs.Sharing.{AreShares}
use Rattle.vma_drive.proofs.Operations.{split, nothing, calls_append}

-- what a pass did, by the whole journal
pub own_in : (settings : Config) (journal : List Entry) (pass : PassView) → IsIn settings journal pass
    → own_of (caller pass) journal pass.log ≡ own_by pass
own_in settings journal pass lies =
    let c : ℕ = caller pass in
    let rest : List Entry = drop (length (seen_by pass)) journal in
    let journal_is : journal ≡ seen_by pass ++ rest = split journal (seen_by pass) lies.later in
    let made : length (calls_by c (seen_by pass ++ rest)) ≡ length (made_by pass) = ap (λ (l : List Entry). length (calls_by c l)) (sym journal_is)
    ∙ ap length lies.made in
    let none : calls_by c rest ≡ [] = nothing (calls_by c rest) (omega (arith, made, calls_append c (seen_by pass) rest)) in
    ap (λ (l : List Entry). own_of c l pass.log) journal_is ∙ own_same c (seen_by pass) rest pass.log none

-- the pass whose log this is
pass_at : (passes : List PassView) (place : ℕ) (log : List Seen) → slice_get (map (λ pass. pass.log) passes) place ≡ Some log
    → (pass : PassView) × (slice_get passes place ≡ Some pass) × (pass.log ≡ log)
pass_at [] place log found = absurd (omega (arith, slice_get_within [] place log found))
pass_at (first ∷ rest) place log found =
    let logs : List (List Seen) = map (λ (pass : PassView). pass.log) (first ∷ rest) in
    let within : place < length (first ∷ rest) = omega (
      arith,
      slice_get_within logs place log found,
      length-map (first ∷ rest)
          (λ (pass : PassView). pass.log),
    ) in
    let pass : PassView = get_or (first ∷ rest) place first in
    let at : slice_get (first ∷ rest) place ≡ Some pass = slice_get-get_or (first ∷ rest) place first within in
    let both : Some pass.log ≡ Some log = ap (option_map (λ (p : PassView). p.log)) (sym at)
    ∙ sym (slice_get-map (λ (p : PassView). p.log) (first ∷ rest) place) ∙ found in
    (pass, at, cc)

-- the pass of a caller
pass_within : (passes : List PassView) (place : ℕ) → place < length passes → (pass : PassView) × (slice_get passes place ≡ Some pass)
pass_within [] place within = absurd (omega arith)
pass_within (first ∷ rest) place within = (get_or (first ∷ rest) place first, slice_get-get_or (first ∷ rest) place first within)

-- an entry has grown where those of its caller have
tail_grown : (by : ℕ) (entry : Entry) (entries : List Entry) → All HasGrown (calls_by by (entry ∷ entries)) → All HasGrown (calls_by by entries)
tail_grown by entry entries grown = by_test (nat_eq entry.caller by) grown
  where
    by_test : (own : Bool) → All HasGrown (cond own (entry ∷ calls_by by entries) (calls_by by entries)) → All HasGrown (calls_by by entries)
    by_test true grown = λ i d within. grown (suc i) d (omega arith)
    by_test false grown = grown

pub entry_at : (by : ℕ) (entries : List Entry) (i : ℕ) (d : Entry) → All HasGrown (calls_by by entries) → i < length entries
    → by ≡ (get_or entries i d).caller → HasGrown (get_or entries i d)
entry_at by [] i d grown within own = absurd (omega arith)
entry_at by (entry ∷ entries) zero d grown within own =
    (subst (λ (t : Bool). All HasGrown (cond t (entry ∷ calls_by by entries) (calls_by by entries))) (eq-eqb entry.caller by (sym own)) grown)
    0 d (omega arith)
entry_at by (entry ∷ entries) (suc i) d grown within own =
    entry_at by entries i d (tail_grown by entry entries grown) (omega arith) own

module _ (name : SpaceId) (lines : List TraceLine) (passes : List PassView) (closed : ClosedView)
    (none : name.before ≡ []) (are : ArePasses name passes) (closes : Closes name passes closed) where
  -- each log is that of a pass, which lies in the journal
  log_of : (place : ℕ) (log : List Seen) → slice_get closed.logs place ≡ Some log
      → (pass : PassView) × (slice_get passes place ≡ Some pass) × (pass.log ≡ log) × IsIn name.config closed.journal pass × (caller pass ≡ place)
  log_of place log found =
      let its : (pass : PassView) × (slice_get passes place ≡ Some pass)
      × (pass.log ≡ log) = pass_at passes place log (ap (λ (l : List (List Seen)). slice_get l place) (sym closes.logs) ∙ found) in
      (its.0, its.1, its.2, closes.each place its.0 its.1, (are.each place its.0 its.1).1)

  log_right : (place : ℕ) (log : List Seen) → slice_get closed.logs place ≡ Some log → All (IsReadRight name.config closed.journal) log
  log_right place log found =
      let its = log_of place log found in
      subst (λ (l : List Seen). All (IsReadRight name.config closed.journal) l) its.2 its.3.right

  log_own : (place : ℕ) (log : List Seen) → slice_get closed.logs place ≡ Some log
      → (pass : PassView) × (slice_get passes place ≡ Some pass) × (own_of place closed.journal log ≡ own_by pass)
  log_own place log found =
      let its = log_of place log found in (
        its.0,
        its.1,
        ap (λ (k : ℕ). own_of k closed.journal log) (sym its.4)
            ∙ ap (λ (l : List Seen). own_of (caller its.0) closed.journal l) (sym its.2)
            ∙ own_in name.config closed.journal its.0 its.3,
      )

  log_done : (place : ℕ) (log : List Seen) → slice_get closed.logs place ≡ Some log
      → (pass : PassView) × (slice_get passes place ≡ Some pass) × (ops_of (own_of place closed.journal log) ≡ done_by pass)
  log_done place log found =
      let its = log_own place log found in
      (its.0, its.1, ap ops_of its.2)

  -- what a line names comes before it in the journal too
  told_in : AreToldBy lines passes → AreTold lines closed.journal closed.logs
  told_in told = told_from (λ place log. own_of place closed.journal log) lines closed.logs
      (λ by place log item line number found item_is at names teller there other said named other_is said_is at_there is.
      let mine = log_own by log found in
      let theirs = log_own teller other other_is in
      told_at (λ place pass. own_by pass) lines passes told by place mine.0 item line number mine.1
      (ap (λ (l : List Item). slice_get l place) (sym mine.2) ∙ item_is) at names
      teller there theirs.0 said named theirs.1 (ap (λ (l : List Item). slice_get l there) (sym theirs.2) ∙ said_is) at_there is)

  many : length closed.logs ≡ length name.operations
  many = ap length closes.logs ∙ length-map passes (λ (pass : PassView). pass.log) ∙ are.all

  -- past the last caller nobody entered anything
  nobody : (other : ℕ) → length passes ≤ other → calls_by other closed.journal ≡ []
  nobody other past = subst (λ (b : List Entry). calls_by other (since b closed.journal) ≡ []) none (closes.others other past)

  log_right_after : (place : ℕ) (log : List Seen) → slice_get closed.logs place ≡ Some log → All (IsReadRightAfter name.config [] closed.journal) log
  log_right_after place log found = All-weaker (IsReadRight name.config closed.journal) (IsReadRightAfter name.config [] closed.journal)
      (λ read right. record { right = right.right; within = right.within }) log (log_right place log found)

  -- where each touch that a caller entered has grown, so has each of the journal
  all_grown : ((place : ℕ) (pass : PassView) → slice_get passes place ≡ Some pass → HaveGrown pass) → All HasGrown closed.journal
  all_grown grown i d within =
      let entry : Entry = get_or closed.journal i d in
      entry_at entry.caller closed.journal i d (elim (cases_lt entry.caller (length passes)) [
        | inl caller_within ↦
            let its = pass_within passes entry.caller caller_within in
            subst (λ (l : List Entry). All HasGrown l)
            (sym (ap (λ (k : ℕ). calls_by k closed.journal) (sym (are.each entry.caller its.0 its.1).1) ∙ (closes.each entry.caller its.0 its.1).made))
            (grown entry.caller its.0 its.1)
        | inr past ↦ subst (λ (l : List Entry). All HasGrown l) (sym (nobody entry.caller past)) (All-nil HasGrown)
      ]) within refl

  made : ((place : ℕ) (pass : PassView) → slice_get passes place ≡ Some pass → HaveGrown pass) → AreMade name.config [] closed.journal
  made grown = touches_made name.config [] closed.journal (record { replies = closes.legal.replies }) (all_grown grown)

  -- where each pass ran the lines of its caller, it is a run of the lines
  pub threads_run : AreShares lines name.operations → All IsLineValue lines → AreToldBy lines passes
      → ((place : ℕ) (pass : PassView) → slice_get passes place ≡ Some pass → HaveGrown pass)
      → ((place : ℕ) (pass : PassView) → slice_get passes place ≡ Some pass → done_by pass ≡ asked (lines_of lines place))
      → IsRun name.config [] lines (callers_of lines) closed.journal closed.logs
  threads_run shares values told grown done = record {
    legal = record { replies = closes.legal.replies };
    made = made grown;
    all = many ∙ shares.all;
    right = log_right_after;
    done = λ place log found. let did = log_done place log found in did.2 ∙ done place did.0 did.1;
    told = told_in told;
    others = λ other past. nobody other (omega (arith, are.all, shares.all));
    no_lines = λ other past. no_lines_past MOST_THREADS lines other (λ i d within. (values i d within).thread) (omega arith);
  }

-- after it was used
pub used : (passes : List PassView) (new : PassView) (place : ℕ) (pass : PassView) → length passes ≡ 1 → slice_get (set passes 0 new) place ≡ Some pass
    → (place ≡ 0) × (new ≡ pass)
used passes new place pass one found =
    let first : place ≡ 0 = omega (arith, slice_get_within (set passes 0 new) place pass found, length-set passes 0 new) in (
      first,
      sym (get_or-set_same passes 0 new pass (omega arith)) ∙ ap (λ (k : ℕ). get_or (set passes 0 new) k pass) (sym first)
          ∙ get_or_from_slice_get (set passes 0 new) place pass pass found,
    )

-- a slice that was lent comes back
pub back : {X : Type 0} (new old : List X) (many : ℕ) → length new ≡ many → take many (new ++ drop (length new) old) ≡ new
back new old many same = take-append-le many new (drop (length new) old) (omega arith) ∙ take_all many new (omega arith)
