-- For `NodeTable::open`, `NodeTable::root` and others: what the structs of seats keep, after each step.
use Rattle.std.proofs.Common.{ℕ, zero, suc, ◌≡◌, ◌<◌, ◌≤◌, ◌+◌, ◌-◌, ◌^◌, ◌∙◌, min, refl, sym, ap, subst, List, [], ◌∷◌, ◌++◌, length, get_or, set, replicate, append_assoc, Some, arith}
use Rattle.std.proofs.lemmas.List.{length-set, length-append, length-replicate, replicate-append-replicate, get_or_append_left, set-append_left}
use Rattle.grace_core.specs.declared.clearing.Clearing.{Clearing}
use Rattle.grace_core.specs.Core.{row_at, clearing_at, no_clearing}
use Rattle.grace_core.specs.Steps.{cleared_up_to, cleared_by_scan, next_tree}
use Rattle.grace_core.proofs.Elements.{one_set}
use Rattle.grace_core.proofs.Leaving.{length-since_from}
use Rattle.maple_node.specs.declared.root.Root.{Root}
use Rattle.maple_node.specs.Roots.{FitsRoot}
use Rattle.node_slots.specs.declared.view.Size.{Size}
use Rattle.node_slots.specs.Trees.{shown_rows, empty_row}
use Rattle.atomic_table.specs.Table.{Me}
use Rattle.node_slots.specs.declared.view.ShownTree.{ShownTree}
use Rattle.node_slots.specs.declared.view.NodeView.{NodeView}
use Rattle.node_slots.specs.Views.{root_at, node_store_at, named_tree, publish_at, scan_at}
use Rattle.node_slots.specs.Plays.{RowsExist}
use Rattle.node_slots.specs.Kept.{NodeReaderKept, NodeWriterKept, with_empty}

-- a row that was filled, among those of the table
row_filled : (rows row : ℕ) (words : List (List ℕ)) → row < length words → row_at (with_empty rows words) row ≡ row_at words row
row_filled rows row words there = get_or_append_left words (replicate (rows - length words) empty_row) [] row there

-- a row that was filled has other words
filled_set : (rows row : ℕ) (words : List (List ℕ)) (new : List ℕ) → row < length words
    → set (with_empty rows words) row new ≡ with_empty rows (set words row new)
filled_set rows row words new there =
    set-append_left words (replicate (rows - length words) empty_row) row new there
    ∙ ap (λ n. set words row new ++ replicate (rows - n) empty_row) (sym (length-set words row new))

-- rows of zeros that are added are those that the table has there
grown_same : (rows count : ℕ) (words : List (List ℕ)) → count ≤ rows
    → with_empty rows (words ++ replicate (count - length words) empty_row) ≡ with_empty rows words
grown_same rows count words few =
    let more : List (List ℕ) = replicate (count - length words) empty_row in
    let rest : ℕ = rows - length (words ++ more) in
    let long = length-append words more in
    let many = length-replicate (count - length words) empty_row in
    let e : count - length words + rest ≡ rows - length words = omega arith in
    append_assoc words more (replicate rest empty_row)
    ∙ ap (λ (l : List (List ℕ)). words ++ l) (replicate-append-replicate (count - length words) rest empty_row
    ∙ ap (λ n. replicate n empty_row) e)

-- a value that is read there, whatever stands for none
pub read_any : {A : Type 0} (xs : List A) (i : ℕ) (d e : A) → i < length xs → get_or xs i d ≡ get_or xs i e
read_any [] i d e within = absurd (omega arith)
read_any (x ∷ xs) zero d e within = refl
read_any (x ∷ xs) (suc i) d e within = read_any xs i d e (omega arith)

-- a reader's seat after it took another view of the same reader, whose snapshot it had
pub reader_kept : (reader walks words more : ℕ) (me new : Me (Unit {0}) NodeView) (view : NodeView) → NodeReaderKept reader walks words me → more ≡ words
    → new ≡ (view, me.1) → view.kind ≡ me.0.kind → view.reader ≡ me.0.reader → view.size ≡ me.0.size → view.walks ≡ me.0.walks
    → ((shown : ShownTree) → view.snapshot ≡ Some shown → me.0.snapshot ≡ Some shown)
    → NodeReaderKept reader walks more new
reader_kept reader walks words more me new view kept same is kind number sized count snapshots =
    subst (NodeReaderKept reader walks more) (sym is) (record {
      kind = kind ∙ kept.kind;
      empty = kept.empty;
      reader_is = number ∙ kept.reader_is;
      within = omega (arith, kept.within, same);
      walks_are = kept.walks_are ∙ ap (λ n. min n (2 ^ 64 - 1)) (sym count);
      exist = λ shown some row here. rw sized (kept.exist shown (snapshots shown some) row here);
    })

-- a reader's seat after it loaded a root
pub root_kept : (reader walks count words more : ℕ) (me new : Me (Unit {0}) NodeView) (shown : ShownTree) → NodeReaderKept reader walks words me
    → more ≡ words
    → new ≡ (root_at me.0 shown, me.1) → RowsExist me.0.size.rows shown → count ≡ min (walks + 1) (2 ^ 64 - 1)
    → NodeReaderKept reader count more new
root_kept reader walks count words more me new shown kept same is exist counted =
    subst (NodeReaderKept reader count more) (sym is) (record {
      kind = kept.kind;
      empty = kept.empty;
      reader_is = kept.reader_is;
      within = omega (arith, kept.within, same);
      walks_are = omega (arith, counted, kept.walks_are);
      exist = λ other some. subst (RowsExist me.0.size.rows) (let e : shown ≡ other = cc in e) exist;
    })

-- the writer's seat after it stored a word of a row that was filled
pub store_kept : (size : Size) (root : Root) (words : List (List ℕ)) (clearings : List Clearing) (row place word : ℕ) (old : List ℕ)
    (me new : Me (Unit {0}) NodeView)
    → NodeWriterKept size root (with_empty size.rows words) clearings me → row < length words → old ≡ get_or words row old
    → new ≡ (node_store_at me.0 row place word, me.1)
    → NodeWriterKept size root (with_empty size.rows (set words row (set old place word))) clearings new
store_kept size root words clearings row place word old me new kept there was is =
    let all : List (List ℕ) = with_empty size.rows words in
    let within : row < length all = omega (arith, there, length-append words (replicate (size.rows - length words) empty_row)) in
    let old_is : old ≡ row_at all row = was ∙ read_any words row old [] there ∙ sym (row_filled size.rows row words there) in
    subst (λ (l : List (List ℕ)). NodeWriterKept size root l clearings new) (filled_set size.rows row words (set old place word) there)
    (subst (NodeWriterKept size root (set all row (set old place word)) clearings) (sym is) (record {
      kind = kept.kind;
      empty = kept.empty;
      size_is = kept.size_is;
      root_is = kept.root_is;
      number_is = kept.number_is;
      words_are = ap (λ (l : List (List ℕ)). set l row (set (row_at l row) place word)) kept.words_are
          ∙ ap (λ (l : List ℕ). set all row (set l place word)) (sym old_is);
      clearings_are = kept.clearings_are;
      fits = kept.fits;
      rows = length-set all row (set old place word) ∙ kept.rows;
      wide = λ other inside. one_set (λ (l : List ℕ). length l ≡ 32) all row other (set old place word) []
          (kept.wide other (omega (arith, inside, length-set all row (set old place word))))
          (λ _. length-set old place word ∙ ap (λ (l : List ℕ). length l) old_is ∙ kept.wide row within);
      readers = kept.readers;
      since = kept.since;
      reached = kept.reached;
    }))

-- and after rows of zeros were added
pub grown_kept : (size : Size) (root : Root) (words more : List (List ℕ)) (clearings : List Clearing) (count : ℕ) (me : Me (Unit {0}) NodeView)
    → NodeWriterKept size root (with_empty size.rows words) clearings me → count ≤ size.rows
    → more ≡ words ++ replicate (count - length words) empty_row
    → NodeWriterKept size root (with_empty size.rows more) clearings me
grown_kept size root words more clearings count me kept few is =
    subst (λ (l : List (List ℕ)). NodeWriterKept size root l clearings me) (sym (ap (with_empty size.rows) is ∙ grown_same size.rows count words few)) kept

-- the writer's seat after a publish
pub publish_kept : (size : Size) (root next : Root) (words : List (List ℕ)) (clearings : List Clearing) (me new : Me (Unit {0}) NodeView)
    → NodeWriterKept size root words clearings me → FitsRoot next → new ≡ (publish_at me.0 next, me.1) → NodeWriterKept size next words clearings new
publish_kept size root next words clearings me new kept fits is =
    subst (NodeWriterKept size next words clearings) (sym is) (record {
      kind = kept.kind;
      empty = kept.empty;
      size_is = kept.size_is;
      root_is = refl;
      number_is = refl;
      words_are = kept.words_are;
      clearings_are = kept.clearings_are;
      fits = fits;
      rows = kept.rows;
      wide = kept.wide;
      readers = kept.readers;
      since = length-since_from 0 me.0.known.writer_state.tree (next_tree me.0.known.writer_state next.tree (shown_rows (named_tree me.0.known next)))
          me.0.known.writer_state.since ∙ kept.since;
      reached = omega (arith, ap (cleared_up_to next.tree) kept.clearings_are);
    })

-- the writer's seat after it loaded a pin
pub scan_kept : (size : Size) (root : Root) (words : List (List ℕ)) (clearings : List Clearing) (reader found : ℕ) (old changed : Clearing)
    (me new : Me (Unit {0}) NodeView)
    → NodeWriterKept size root words clearings me → reader < size.readers → old ≡ get_or clearings reader old → changed ≡ cleared_by_scan root.tree found old
    → new ≡ (scan_at me.0 reader found, me.1) → NodeWriterKept size root words (set clearings reader changed) new
scan_kept size root words clearings reader found old changed me new kept there was change is =
    let within : reader < length clearings = omega (arith, there, kept.readers) in
    let old_is : old ≡ clearing_at clearings reader = was ∙ read_any clearings reader old no_clearing within in
    let same : set me.0.known.writer_state.clearings reader (cleared_by_scan me.0.known.writer_state.tree.number found (clearing_at me.0.known.writer_state.clearings reader)) ≡ set
    clearings reader changed =
    ap (λ (l : List Clearing). set l reader (cleared_by_scan me.0.known.writer_state.tree.number found (clearing_at l reader))) kept.clearings_are
    ∙ ap (λ n. set clearings reader (cleared_by_scan n found (clearing_at clearings reader))) kept.number_is
    ∙ ap (λ (c : Clearing). set clearings reader (cleared_by_scan root.tree found c)) (sym old_is)
    ∙ ap (set clearings reader) (sym change) in
    subst (NodeWriterKept size root words (set clearings reader changed)) (sym is) (record {
      kind = kept.kind;
      empty = kept.empty;
      size_is = kept.size_is;
      root_is = kept.root_is;
      number_is = kept.number_is;
      words_are = kept.words_are;
      clearings_are = same;
      fits = kept.fits;
      rows = kept.rows;
      wide = kept.wide;
      readers = length-set clearings reader changed ∙ kept.readers;
      since = kept.since;
      reached = omega (
        arith,
        ap (cleared_up_to root.tree) same,
        ap (λ n. cleared_up_to n (set me.0.known.writer_state.clearings reader
            (cleared_by_scan me.0.known.writer_state.tree.number found (clearing_at me.0.known.writer_state.clearings reader)))) kept.number_is,
      );
    })
