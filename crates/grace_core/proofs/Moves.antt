-- For `GraceState::apply`: what each step keeps of what the writer knows (`_writer_facts`), of any reader's snapshot (`_keeps`),
-- and of a free row (`_free`).
use Rattle.std.proofs.Common.{ℕ, ◌≡◌, ◌≢◌, ◌<◌, ◌≤◌, ◌%◌, ◌∙◌, true, false, not, cond, nat_eq, nat_lt, nat_le, max, List, [], ◌∷◌, ◌++◌, length, set, refl, sym, subst, arith, inl, inr}
use Rattle.std.proofs.lemmas.Bool.{cases_Bool, cases_lt, cond_both, and_parts, and_from, both_ways, not-true, not_from_false, ltb-true, le-ltb, leb-true, le-leb, eqb-true, eqb-false}
use Rattle.std.proofs.lemmas.List.{length-set, get_or-set_other}
use Rattle.grace_core.specs.declared.clearing.Clearing.{Clearing}
use Rattle.grace_core.specs.Core.{GraceTreeView, WriterState, times, has_row, row_at, since_at, clearing_at, no_clearing, is_free_row, Exists}
use Rattle.grace_core.specs.Steps.{cleared_up_to, elapsed, filled, next_tree, since_from, with_tree, published, cleared_by, cleared_by_scan, with_clearing, scanned, new_clearing, split, joined}
use Rattle.grace_core.specs.Facts.{KeepsWords, IsRowHeld, HoldsRows, Keeps, FreeFact, WriterFacts}
use Rattle.grace_core.proofs.Elements.{each_set, one_set, each_push}
use Rattle.grace_core.proofs.Clearings.{least_number, least_cleared, least_greatest, push_before, least_push}
use Rattle.grace_core.proofs.Leaving.{length-since_from, since_left, since_same, since_most}

-- the free fact, from the bounds of the clearings
pub free_fact : (writer_state : WriterState) → ((reader : ℕ) → (clearing_at writer_state.clearings reader).cleared ≤ (clearing_at writer_state.clearings reader).tree)
    → ((reader : ℕ) → (clearing_at writer_state.clearings reader).tree ≤ writer_state.tree.number) → FreeFact writer_state
free_fact writer_state before scanned = record {
  cleared = λ reader. omega (arith, before reader, scanned reader);
  scanned = scanned;
}

-- a free row is not of the present tree, and the grace period of the tree that left it out has passed
pub free_parts : (writer_state : WriterState) (row : ℕ) → is_free_row writer_state row ≡ true → (has_row writer_state.tree row ≡ false) × (since_at writer_state.since row ≤ writer_state.passed)
free_parts writer_state row free =
    let parts = and_parts (not (has_row writer_state.tree row)) (nat_le (since_at writer_state.since row) writer_state.passed) free in
    (not-true (has_row writer_state.tree row) parts.0, leb-true (since_at writer_state.since row) writer_state.passed parts.1)

-- and such a row is free
pub free_from : (writer_state : WriterState) (row : ℕ) → has_row writer_state.tree row ≡ false → since_at writer_state.since row ≤ writer_state.passed → is_free_row writer_state row ≡ true
free_from writer_state row out past = and_from (not (has_row writer_state.tree row)) (nat_le (since_at writer_state.since row) writer_state.passed)
    (not_from_false (has_row writer_state.tree row) out) (le-leb (since_at writer_state.since row) writer_state.passed past)

-- a row that waits since a tree up to which every reader is cleared is free
pub free_once_cleared : (writer_state : WriterState) (row : ℕ) → WriterFacts writer_state → has_row writer_state.tree row ≡ false
    → ((reader : ℕ) → Exists writer_state.clearings reader → since_at writer_state.since row ≤ (clearing_at writer_state.clearings reader).cleared) → is_free_row writer_state row ≡ true
free_once_cleared writer_state row writer_facts out each = free_from writer_state row out
    (omega (arith, writer_facts.reached, least_greatest (since_at writer_state.since row) writer_state.tree.number writer_state.clearings (writer_facts.since row) each))

-- root
pub loads : (writer_state : WriterState) (reader pin : ℕ) → WriterFacts writer_state → Exists writer_state.clearings reader → pin % 2 ≡ 1 → Keeps writer_state reader pin writer_state.tree
loads writer_state reader pin writer_facts exists odd = record {
  odd = odd;
  exists = exists;
  words = writer_facts.present;
  holds = λ row here out. absurd (both_ways (has_row writer_state.tree row) out here);
}

-- a free row is of no snapshot
pub away : (writer_state : WriterState) (reader pin : ℕ) (tree : GraceTreeView) (row : ℕ) → HoldsRows writer_state reader pin tree → is_free_row writer_state row ≡ true
    → has_row tree row ≡ false
away writer_state reader pin tree row holds free = elim (cases_Bool (has_row tree row)) [
  | inl here ↦ let parts = free_parts writer_state row free in let held = holds row here parts.0 in absurd (omega (arith, held.not_free, parts.1))
  | inr out ↦ out
]

-- the words of a tree stay where another row changes
pub words_keep : (words : List (List ℕ)) (tree : GraceTreeView) (row : ℕ) (changed : List ℕ) → has_row tree row ≡ false → KeepsWords words tree
    → KeepsWords (set words row changed) tree
words_keep words tree row changed out keeps = record {
  exist = λ other here. omega (arith, length-set words row changed, keeps.exist other here);
  same = λ other here. get_or-set_other words row other changed [] (λ e. both_ways (has_row tree row) out (subst (λ n. has_row tree n ≡ true) e here)) ∙ keeps.same other here;
}

-- fill, of a free row
pub fill_writer_facts : (writer_state : WriterState) (row place word : ℕ) → WriterFacts writer_state → is_free_row writer_state row ≡ true → WriterFacts (filled writer_state row place word)
fill_writer_facts writer_state row place word writer_facts free =
    let changed = set (row_at writer_state.words row) place word in
    let long = length-set writer_state.words row changed in
    record {
      present = words_keep writer_state.words writer_state.tree row changed (free_parts writer_state row free).0 writer_facts.present;
      wide = λ other within. one_set (λ (words : List ℕ). length words ≡ writer_state.width) writer_state.words row other changed []
          (writer_facts.wide other (omega (arith, long)))
          (λ e. length-set (row_at writer_state.words row) place word ∙ writer_facts.wide row (omega (arith, long)));
      sized = writer_facts.sized ∙ sym long;
      since = writer_facts.since;
      before = writer_facts.before;
      passed = writer_facts.passed;
      reached = writer_facts.reached;
      free = free_fact (filled writer_state row place word) writer_facts.before writer_facts.free.scanned;
    }

pub fill_keeps : (writer_state : WriterState) (row place word reader pin : ℕ) (tree : GraceTreeView) → is_free_row writer_state row ≡ true → Keeps writer_state reader pin tree
    → Keeps (filled writer_state row place word) reader pin tree
fill_keeps writer_state row place word reader pin tree free keeps = record {
  odd = keeps.odd;
  exists = keeps.exists;
  words = words_keep writer_state.words tree row (set (row_at writer_state.words row) place word) (away writer_state reader pin tree row keeps.holds free) keeps.words;
  holds = keeps.holds;
}

-- publish, of a later tree
pub publish_writer_facts : (writer_state : WriterState) (number : ℕ) (rows : List ℕ) → WriterFacts writer_state → writer_state.tree.number < number
    → ((row : ℕ) → 0 < times row rows → row < length writer_state.words) → WriterFacts (published writer_state number rows)
publish_writer_facts writer_state number rows writer_facts later exist =
    let tree = next_tree writer_state number rows in
    let since = since_from 0 writer_state.tree tree writer_state.since in
    let least_is = least_number number writer_state.clearings in
    record {
      present = record {
        exist = λ row here. exist row (ltb-true 0 (times row rows) here);
        same = λ row here. refl;
      };
      wide = writer_facts.wide;
      sized = length-since_from 0 writer_state.tree tree writer_state.since ∙ writer_facts.sized;
      since = since_most 0 writer_state.tree tree writer_state.since (λ row. omega (arith, writer_facts.since row));
      before = writer_facts.before;
      passed = omega (arith, writer_facts.passed, least_is);
      reached = omega arith;
      free = free_fact (published writer_state number rows) writer_facts.before (λ reader. omega (arith, writer_facts.free.scanned reader));
    }

-- what is held for a reader is held where a grace period passes up to which the reader is cleared
pub held_settles : (passed n : ℕ) (clearing : Clearing) (pin t : ℕ) → n ≤ clearing.cleared → IsRowHeld passed clearing pin t
    → IsRowHeld (max passed n) clearing pin t
held_settles passed n clearing pin t below held = record {
  not_free = omega (arith, below, held.not_free, held.below);
  below = held.below;
  found = held.found;
}

-- the rows of a snapshot are held where a grace period passes
pub settle_holds : (writer_state : WriterState) (reader pin : ℕ) (tree : GraceTreeView) → Exists writer_state.clearings reader → HoldsRows writer_state reader pin tree
    → HoldsRows (elapsed writer_state) reader pin tree
settle_holds writer_state reader pin tree exists holds row here out =
    held_settles writer_state.passed (cleared_up_to writer_state.tree.number writer_state.clearings) (clearing_at writer_state.clearings reader) pin (since_at writer_state.since row)
    (least_cleared writer_state.tree.number writer_state.clearings reader exists) (holds row here out)

-- the rows of a snapshot are held where another tree is present
pub tree_holds : (writer_state : WriterState) (reader pin : ℕ) (old new : GraceTreeView) → WriterFacts writer_state → writer_state.tree.number < new.number → KeepsWords writer_state.words old
    → HoldsRows writer_state reader pin old → HoldsRows (with_tree writer_state new) reader pin old
tree_holds writer_state reader pin old new writer_facts later words holds row here out =
    let within : row < length writer_state.since = omega (arith, words.exist row here, writer_facts.sized) in
    let clearing = clearing_at writer_state.clearings reader in
    elim (cases_Bool (has_row writer_state.tree row)) [
      | inl was ↦
          let held : IsRowHeld writer_state.passed clearing pin new.number = record {
            not_free = omega (arith, writer_facts.passed, later);
            below = omega (arith, writer_facts.free.cleared reader, later);
            found = λ past. absurd (omega (arith, writer_facts.free.scanned reader, later, past));
          } in
          subst (λ t. IsRowHeld writer_state.passed clearing pin t) (sym (since_left writer_state.tree new writer_state.since row within was out)) held
      | inr was_out ↦
          subst (λ t. IsRowHeld writer_state.passed clearing pin t) (sym (since_same writer_state.tree new writer_state.since row was_out)) (holds row here was_out)
    ]

pub publish_keeps : (writer_state : WriterState) (number : ℕ) (rows : List ℕ) (reader pin : ℕ) (tree : GraceTreeView) → WriterFacts writer_state → writer_state.tree.number < number
    → Keeps writer_state reader pin tree → Keeps (published writer_state number rows) reader pin tree
publish_keeps writer_state number rows reader pin tree writer_facts later keeps = record {
  odd = keeps.odd;
  exists = keeps.exists;
  words = keeps.words;
  holds = settle_holds (with_tree writer_state (next_tree writer_state number rows)) reader pin tree keeps.exists
      (tree_holds writer_state reader pin tree (next_tree writer_state number rows) writer_facts later keeps.words keeps.holds);
}

-- a free row that is not listed stays free
pub publish_free : (writer_state : WriterState) (number : ℕ) (rows : List ℕ) (row : ℕ) → times row rows ≡ 0 → is_free_row writer_state row ≡ true
    → is_free_row (published writer_state number rows) row ≡ true
publish_free writer_state number rows row unlisted free =
    let parts = free_parts writer_state row free in
    let same = since_same writer_state.tree (next_tree writer_state number rows) writer_state.since row parts.0 in
    free_from (published writer_state number rows) row (le-ltb 0 (times row rows) (omega (arith, unlisted))) (omega (arith, parts.1, same))

-- a reader exists after a scan where it did before
pub exists_looked : (writer_state : WriterState) (reader other found : ℕ) → Exists writer_state.clearings other
    → Exists (set writer_state.clearings reader (cleared_by_scan writer_state.tree.number found (clearing_at writer_state.clearings reader))) other
exists_looked writer_state reader other found exists = one_set (λ (c : Clearing). c.joined ≡ false) writer_state.clearings reader other
    (cleared_by_scan writer_state.tree.number found (clearing_at writer_state.clearings reader)) no_clearing exists
    (λ same. subst (λ n. (clearing_at writer_state.clearings n).joined ≡ false) same exists)

-- a scan clears a reader no less than it was cleared
pub cleared_rises : (number found : ℕ) (clearing : Clearing) → clearing.cleared ≤ clearing.tree → clearing.tree ≤ number
    → clearing.cleared ≤ cleared_by number found clearing
cleared_rises number found clearing before scanned =
    cond_both (nat_eq (found % 2) 0) number (cond (nat_eq found clearing.pin) clearing.cleared clearing.tree) (λ n. clearing.cleared ≤ n)
    (λ _. omega (arith, before, scanned))
    (λ _. cond_both (nat_eq found clearing.pin) clearing.cleared clearing.tree (λ n. clearing.cleared ≤ n) (λ _. omega arith) (λ _. before))

-- and up to no tree after the present one
pub cleared_most : (number found : ℕ) (clearing : Clearing) → clearing.cleared ≤ clearing.tree → clearing.tree ≤ number
    → cleared_by number found clearing ≤ number
cleared_most number found clearing before scanned =
    cond_both (nat_eq (found % 2) 0) number (cond (nat_eq found clearing.pin) clearing.cleared clearing.tree) (λ n. n ≤ number)
    (λ _. omega arith)
    (λ _. cond_both (nat_eq found clearing.pin) clearing.cleared clearing.tree (λ n. n ≤ number) (λ _. omega (arith, before, scanned)) (λ _. scanned))

-- what is held for a reader stays held where a scan finds the reader's pin
pub held_looked : (passed number : ℕ) (clearing : Clearing) (pin t : ℕ) → pin % 2 ≡ 1 → IsRowHeld passed clearing pin t
    → IsRowHeld passed (cleared_by_scan number pin clearing) pin t
held_looked passed number clearing pin t odd held = record {
  not_free = held.not_free;
  below = cond_both (nat_eq (pin % 2) 0) number (cond (nat_eq pin clearing.pin) clearing.cleared clearing.tree) (λ n. n < t)
      (λ even. let e = eqb-true (pin % 2) 0 even in absurd (omega (arith, odd, e)))
      (λ _. cond_both (nat_eq pin clearing.pin) clearing.cleared clearing.tree (λ n. n < t) (λ _. held.below)
      (λ differ. elim (cases_lt clearing.tree t) [
        | inl before ↦ before
        | inr after ↦ absurd (eqb-false pin clearing.pin differ (sym (held.found after)))
      ]));
  found = λ _. refl;
}

-- scan, which finds this pin of a reader
pub scan_writer_facts : (writer_state : WriterState) (reader found : ℕ) → WriterFacts writer_state → WriterFacts (scanned writer_state reader found)
scan_writer_facts writer_state reader found writer_facts =
    let old = clearing_at writer_state.clearings reader in
    let new = cleared_by_scan writer_state.tree.number found old in
    let clearings = set writer_state.clearings reader new in
    let most = cleared_most writer_state.tree.number found old (writer_facts.before reader) (writer_facts.free.scanned reader) in
    let before : (other : ℕ) → (clearing_at clearings other).cleared ≤ (clearing_at clearings other).tree =
    each_set (λ _ (c : Clearing). c.cleared ≤ c.tree) writer_state.clearings reader new no_clearing writer_facts.before most in
    let at : (other : ℕ) → (clearing_at clearings other).tree ≤ writer_state.tree.number =
    each_set (λ _ (c : Clearing). c.tree ≤ writer_state.tree.number) writer_state.clearings reader new no_clearing writer_facts.free.scanned (omega arith) in
    let least_is = least_number writer_state.tree.number clearings in
    record {
      present = writer_facts.present;
      wide = writer_facts.wide;
      sized = writer_facts.sized;
      since = writer_facts.since;
      before = before;
      passed = omega (arith, writer_facts.passed, least_is);
      reached = omega arith;
      free = free_fact (scanned writer_state reader found) before at;
    }

pub scan_keeps : (writer_state : WriterState) (reader found other pin : ℕ) (tree : GraceTreeView) → (other ≡ reader → found ≡ pin) → Keeps writer_state other pin tree
    → Keeps (scanned writer_state reader found) other pin tree
scan_keeps writer_state reader found other pin tree finds keeps =
    let new = cleared_by_scan writer_state.tree.number found (clearing_at writer_state.clearings reader) in
    let exists = exists_looked writer_state reader other found keeps.exists in
    record {
      odd = keeps.odd;
      exists = exists;
      words = keeps.words;
      holds = settle_holds (with_clearing writer_state reader new) other pin tree exists
          (λ row here out. one_set (λ (c : Clearing). IsRowHeld writer_state.passed c pin (since_at writer_state.since row)) writer_state.clearings reader other new no_clearing
          (keeps.holds row here out)
          (λ same. subst (λ n. IsRowHeld writer_state.passed (cleared_by_scan writer_state.tree.number n (clearing_at writer_state.clearings reader)) pin (since_at writer_state.since row)) (sym (finds same))
          (held_looked writer_state.passed writer_state.tree.number (clearing_at writer_state.clearings reader) pin (since_at writer_state.since row) keeps.odd
          (subst (λ n. IsRowHeld writer_state.passed (clearing_at writer_state.clearings n) pin (since_at writer_state.since row)) same (keeps.holds row here out)))));
    }

pub scan_free : (writer_state : WriterState) (reader found row : ℕ) → is_free_row writer_state row ≡ true → is_free_row (scanned writer_state reader found) row ≡ true
scan_free writer_state reader found row free =
    let parts = free_parts writer_state row free in
    free_from (scanned writer_state reader found) row parts.0 (omega (arith, parts.1))

-- split
pub split_writer_facts : (writer_state : WriterState) → WriterFacts writer_state → WriterFacts (split writer_state)
split_writer_facts writer_state writer_facts =
    let before : (other : ℕ) → (clearing_at (writer_state.clearings ++ new_clearing ∷ []) other).cleared ≤ (clearing_at (writer_state.clearings ++ new_clearing ∷ []) other).tree =
    each_push (λ (c : Clearing). c.cleared ≤ c.tree) writer_state.clearings new_clearing no_clearing writer_facts.before (omega arith) in
    record {
      present = writer_facts.present;
      wide = writer_facts.wide;
      sized = writer_facts.sized;
      since = writer_facts.since;
      before = before;
      passed = writer_facts.passed;
      reached = omega (arith, writer_facts.reached, least_push writer_state.tree.number writer_state.clearings new_clearing);
      free = free_fact (split writer_state) before
          (each_push (λ (c : Clearing). c.tree ≤ writer_state.tree.number) writer_state.clearings new_clearing no_clearing writer_facts.free.scanned (omega arith));
    }

pub split_keeps : (writer_state : WriterState) (reader pin : ℕ) (tree : GraceTreeView) → Keeps writer_state reader pin tree → Keeps (split writer_state) reader pin tree
split_keeps writer_state reader pin tree keeps =
    let same = sym (push_before writer_state.clearings new_clearing reader keeps.exists) in
    record {
      odd = keeps.odd;
      exists = subst (λ (c : Clearing). c.joined ≡ false) same keeps.exists;
      words = keeps.words;
      holds = λ row here out. subst (λ (c : Clearing). IsRowHeld writer_state.passed c pin (since_at writer_state.since row)) same (keeps.holds row here out);
    }

-- join
pub join_writer_facts : (writer_state : WriterState) (reader : ℕ) → WriterFacts writer_state → WriterFacts (joined writer_state reader)
join_writer_facts writer_state reader writer_facts =
    let new : Clearing = record (clearing_at writer_state.clearings reader) { joined = true } in
    let clearings = set writer_state.clearings reader new in
    let before : (other : ℕ) → (clearing_at clearings other).cleared ≤ (clearing_at clearings other).tree =
    each_set (λ _ (c : Clearing). c.cleared ≤ c.tree) writer_state.clearings reader new no_clearing writer_facts.before (writer_facts.before reader) in
    let at : (other : ℕ) → (clearing_at clearings other).tree ≤ writer_state.tree.number =
    each_set (λ _ (c : Clearing). c.tree ≤ writer_state.tree.number) writer_state.clearings reader new no_clearing writer_facts.free.scanned (writer_facts.free.scanned reader) in
    let least_is = least_number writer_state.tree.number clearings in
    record {
      present = writer_facts.present;
      wide = writer_facts.wide;
      sized = writer_facts.sized;
      since = writer_facts.since;
      before = before;
      passed = omega (arith, writer_facts.passed, least_is);
      reached = omega arith;
      free = free_fact (joined writer_state reader) before at;
    }

pub join_keeps : (writer_state : WriterState) (reader other pin : ℕ) (tree : GraceTreeView) → other ≢ reader → Keeps writer_state other pin tree
    → Keeps (joined writer_state reader) other pin tree
join_keeps writer_state reader other pin tree apart keeps =
    let new : Clearing = record (clearing_at writer_state.clearings reader) { joined = true } in
    let exists : Exists (set writer_state.clearings reader new) other =
    one_set (λ (c : Clearing). c.joined ≡ false) writer_state.clearings reader other new no_clearing keeps.exists (λ same. absurd (apart same)) in
    record {
      odd = keeps.odd;
      exists = exists;
      words = keeps.words;
      holds = settle_holds (with_clearing writer_state reader new) other pin tree exists
          (λ row here out. one_set (λ (c : Clearing). IsRowHeld writer_state.passed c pin (since_at writer_state.since row)) writer_state.clearings reader other new no_clearing
          (keeps.holds row here out) (λ same. absurd (apart same)));
    }

pub join_free : (writer_state : WriterState) (reader row : ℕ) → is_free_row writer_state row ≡ true → is_free_row (joined writer_state reader) row ≡ true
join_free writer_state reader row free =
    let parts = free_parts writer_state row free in
    free_from (joined writer_state reader) row parts.0 (omega (arith, parts.1))
