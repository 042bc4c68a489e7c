-- For `Turns`: what one caller did comes one thing after the other.
use Rattle.std.proofs.Common.{ℕ, suc, ◌≡◌, ◌+◌, ◌<◌, ◌≤◌, ◌∙◌, refl, sym, ap, subst, true, ◌⊎◌, inl, inr, List, [], ◌∷◌, ◌++◌, length, drop, get_or, All, arith}
use Rattle.std.specs.List.{AllPairs}
use Rattle.std.proofs.lemmas.Bool.{cond-false}
use Rattle.std.proofs.lemmas.List.{append-nil, drop_all, drop_more, nil_from_length}
use Rattle.std.proofs.lemmas.List.Elements.{All-nil, All-cons, All-head, All-tail, All-append, All-weaker}
use Rattle.mm_types.specs.declared.call.Entry.{Entry}
use Rattle.mm_types.specs.declared.call.Seen.{Seen}
use Rattle.mm_types.proofs.Sorting.{Rises, Rises-sort_by}
use Rattle.trace_reader.specs.declared.trace.TraceLine.{TraceLine}
use Rattle.area_rules.specs.Journals.{version_of}
use Rattle.history.specs.declared.items.Item.{Item}
use Rattle.history.specs.declared.callers.TheConstants.{MOST_THREADS}
use Rattle.history.specs.declared.turns.Turn.{Turn}
use Rattle.history.specs.Histories.{caller_of, goes_first, gather}
use Rattle.history.specs.Labels.{labelled, label_of}
use Rattle.history.specs.Runs.{entry_items, read_item, log_items, logs_items, history_of, place_key}
use Rattle.history.specs.Turns.{turn_item, IsInTurn}
use Rattle.history.specs.Internal.Turns.{turn_place, AreLater}
use Rattle.history.proofs.SerialOrder.{insert_item}
use Rattle.history.proofs.Gathers.{After, all_gather, call_before, higher_after}
use Rattle.history.proofs.Regrouping.{labelled_small}
use Rattle.history.proofs.Orders.{GoesFirst, in_order_gathered, first_is_no_higher, in_order_first, pair_parts}
use Rattle.history.proofs.Sorts.{gather_is_sort}
use Rattle.history.proofs.Steps.{entry_item}

-- an item that may stand before all others, where those in front of it have to stand after it, comes first
gather_head : (x : Item) (front ys : List Item) → All (λ y. After y x) front → All (GoesFirst x) ys → gather (front ++ x ∷ ys) ≡ x ∷ gather (front ++ ys)
gather_head x [] ys later all = in_order_first x (gather ys) (all_gather (GoesFirst x) ys all)
gather_head x (y ∷ front) ys later all =
    ap (insert_item y) (gather_head x front ys (All-tail (λ (y : Item). After y x) y front later) all)
    ∙ cond-false (goes_first y x) (y ∷ x ∷ gather (front ++ ys)) (x ∷ insert_item y (gather (front ++ ys)))
    (All-head (λ (y : Item). After y x) y front later)

-- entries behind a version have later ones
entries_above : (low version : ℕ) (entries : List Entry) → low ≤ version → All (λ y. low < y.version) (entry_items version entries)
unfolding entry_items
entries_above low version [] below = All-nil (λ (y : Item). low < y.version)
entries_above low version (entry ∷ entries) below =
    All-cons (λ (y : Item). low < y.version) (entry_item version entry) (entry_items (version + 1) entries) (omega arith)
    (entries_above low (version + 1) entries (omega arith))

read_first : (read : Seen) (log : List Seen) → log_items 0 (read ∷ log) ≡ read_item 0 read ∷ log_items 0 log
unfolding log_items
read_first read log = refl

no_entries : (version : ℕ) → entry_items version [] ≡ []
unfolding entry_items
no_entries version = refl

first_pairs : (read : Seen) (log : List Seen) → AllPairs (λ a b. goes_first a b ≡ true) (log_items 0 (read ∷ log))
    → All (GoesFirst (read_item 0 read)) (log_items 0 log) × AllPairs (λ a b. goes_first a b ≡ true) (log_items 0 log)
unfolding log_items
first_pairs read log pairs = (
  (pair_parts GoesFirst [] (read_item 0 read) (log_items 0 log) pairs).1,
  λ i j d before within.
      pairs (suc i) (suc j) d (omega arith) (omega arith),
)

-- a read that saw no later call comes first
pub read_told : (version : ℕ) (journal : List Entry) (read : Seen) (log : List Seen) → AllPairs (λ a b. goes_first a b ≡ true) (log_items 0 (read ∷ log))
    → (version_of read ≤ version) ⊎ (journal ≡ [])
    → gather (entry_items version journal ++ log_items 0 (read ∷ log)) ≡ read_item 0 read ∷ gather (entry_items version journal ++ log_items 0 log)
read_told version journal read log pairs when =
    let x : Item = read_item 0 read in
    let later : All (λ y. After y x) (entry_items version journal) = elim when [
      | inl low ↦ All-weaker (λ (y : Item). version_of read < y.version) (λ (y : Item). After y x) (λ y above. higher_after y x above)
          (entry_items version journal) (entries_above (version_of read) version journal low)
      | inr none ↦ subst (λ (l : List Item). All (λ y. After y x) l) (sym (ap (λ (l : List Entry). entry_items version l) none ∙ no_entries version))
          (All-nil (λ (y : Item). After y x))
    ] in
    ap (λ (l : List Item). gather (entry_items version journal ++ l)) (read_first read log)
    ∙ gather_head x (entry_items version journal) (log_items 0 log) later (first_pairs read log pairs).0

entry_first : (version : ℕ) (entry : Entry) (entries : List Entry)
    → entry_items version (entry ∷ entries) ≡ entry_item version entry ∷ entry_items (version + 1) entries
unfolding entry_items
entry_first version entry entries = refl

reads_above : (version : ℕ) (log : List Seen) → AllPairs (λ a b. goes_first a b ≡ true) (log_items 0 log)
    → AreLater version log → All (λ y. version < y.version) (log_items 0 log)
unfolding log_items
reads_above version [] pairs above = All-nil (λ (y : Item). version < y.version)
reads_above version (read ∷ log) pairs above =
    let low : version < version_of read = above read log refl in
    All-cons (λ (y : Item). version < y.version) (read_item 0 read) (log_items 0 log) low
    (All-weaker (GoesFirst (read_item 0 read)) (λ (y : Item). version < y.version)
    (λ y first. let up : version_of read ≤ y.version = first_is_no_higher (read_item 0 read) y first in omega (arith, low, up)) (log_items 0 log)
    (first_pairs read log pairs).0)

-- and else a call does
pub call_told : (version : ℕ) (entry : Entry) (entries : List Entry) (log : List Seen) → AllPairs (λ a b. goes_first a b ≡ true) (log_items 0 log)
    → AreLater version log
    → gather (entry_items version (entry ∷ entries) ++ log_items 0 log)
    ≡ entry_item version entry ∷ gather (entry_items (version + 1) entries ++ log_items 0 log)
call_told version entry entries log pairs above =
    let x : Item = entry_item version entry in
    let rest : List Item = entry_items (version + 1) entries ++ log_items 0 log in
    let all : All (λ y. version < y.version) rest =
    All-append (λ (y : Item). version < y.version) (entry_items (version + 1) entries) (log_items 0 log)
    (entries_above version (version + 1) entries (omega arith)) (reads_above version log pairs above) in
    ap (λ (l : List Item). gather (l ++ log_items 0 log)) (entry_first version entry entries)
    ∙ in_order_first x (gather rest)
    (all_gather (GoesFirst x) rest
    (All-weaker (λ (y : Item). version < y.version) (GoesFirst x) (λ y up. call_before y x (omega arith) refl) rest all))

-- the same of lists that begin so
pub read_taken : (version : ℕ) (journal : List Entry) (log : List Seen) (read : Seen) (rest : List Seen) → log ≡ read ∷ rest
    → AllPairs (λ a b. goes_first a b ≡ true) (log_items 0 log) → (version_of read ≤ version) ⊎ (journal ≡ [])
    → gather (entry_items version journal ++ log_items 0 log) ≡ read_item 0 read ∷ gather (entry_items version journal ++ log_items 0 rest)
read_taken version journal log read rest is pairs when =
    ap (λ (l : List Seen). gather (entry_items version journal ++ log_items 0 l)) is
    ∙ read_told version journal read rest (subst (λ (l : List Seen). AllPairs (λ a b. goes_first a b ≡ true) (log_items 0 l)) is pairs) when

pub pairs_taken : (log : List Seen) (read : Seen) (rest : List Seen) → log ≡ read ∷ rest → AllPairs (λ a b. goes_first a b ≡ true) (log_items 0 log)
    → AllPairs (λ a b. goes_first a b ≡ true) (log_items 0 rest)
pairs_taken log read rest is pairs =
    (first_pairs read rest (subst (λ (l : List Seen). AllPairs (λ a b. goes_first a b ≡ true) (log_items 0 l)) is pairs)).1

pub call_taken : (version : ℕ) (journal : List Entry) (log : List Seen) (entry : Entry) (rest : List Entry) → journal ≡ entry ∷ rest
    → AllPairs (λ a b. goes_first a b ≡ true) (log_items 0 log) → AreLater version log
    → gather (entry_items version journal ++ log_items 0 log) ≡ entry_item version entry ∷ gather (entry_items (version + 1) rest ++ log_items 0 log)
call_taken version journal log entry rest is pairs later =
    ap (λ (l : List Entry). gather (entry_items version l ++ log_items 0 log)) is ∙ call_told version entry rest log pairs later

nothing : (version : ℕ) → gather (entry_items version [] ++ log_items 0 []) ≡ []
unfolding entry_items log_items
nothing version = refl

-- at the end nothing is left
pub none_told : (version : ℕ) (journal : List Entry) (log : List Seen) → length journal ≡ 0 → (journal ≡ [] → log ≡ [])
    → gather (entry_items version journal ++ log_items 0 log) ≡ []
none_told version journal log no_calls no_reads =
    let none : journal ≡ [] = nil_from_length journal no_calls in
    ap (λ (l : List Entry). gather (entry_items version l ++ log_items 0 log)) none
    ∙ ap (λ (l : List Seen). gather (entry_items version [] ++ log_items 0 l)) (no_reads none) ∙ nothing version

-- at first all is
pub all_told : (journal : List Entry) (log : List Seen) → gather (entry_items 0 journal ++ log_items 0 log) ≡ history_of journal (log ∷ [])
unfolding history_of logs_items
all_told journal log = ap (λ (l : List Item). gather (entry_items 0 journal ++ l)) (sym (append-nil (log_items 0 log)))

-- ---- the order of the lines

-- where one thing more is no earlier, the rest decides
pub turns_more : (trace lines : List TraceLine) (place : ℕ) (d : TraceLine) (items left : List Item) (turn : Turn) (last now caller : ℕ)
    (all : List Item) → (Rises place_key last (labelled trace (drop place lines) items) → Rises place_key 0 all)
    → place < length lines → items ≡ turn_item turn ∷ left → caller ≡ caller_of trace (get_or lines place d).thread → now ≡ turn_place caller turn
    → last ≤ now → Rises place_key now (labelled trace (drop (place + 1) lines) left) → Rises place_key 0 all
turns_more trace lines place d items left turn last now caller all so_far within first of_line is up rises =
    let line : TraceLine = get_or lines place d in
    let rest : List TraceLine = drop (place + 1) lines in
    let here : now ≡ turn_place (caller_of trace line.thread) turn = is ∙ ap (λ (c : ℕ). turn_place c turn) of_line in
    so_far (subst (λ (l : List TraceLine). Rises place_key last (labelled trace l items)) (sym (drop_more lines place d within))
    (subst (λ (l : List Item). Rises place_key last (labelled trace (line ∷ rest) l)) (sym first)
    (omega (arith, here, up), subst (λ (n : ℕ). Rises place_key n (labelled trace rest left)) here rises)))

-- and where none of all falls, one thing more is no earlier
pub turns_later : (trace lines : List TraceLine) (place : ℕ) (d : TraceLine) (items left : List Item) (turn : Turn) (last now caller : ℕ)
    (all : List Item) → (Rises place_key 0 all → Rises place_key last (labelled trace (drop place lines) items))
    → place < length lines → items ≡ turn_item turn ∷ left → caller ≡ caller_of trace (get_or lines place d).thread → now ≡ turn_place caller turn
    → Rises place_key 0 all → (last ≤ now) × Rises place_key now (labelled trace (drop (place + 1) lines) left)
turns_later trace lines place d items left turn last now caller all later within first of_line is rises =
    let line : TraceLine = get_or lines place d in
    let rest : List TraceLine = drop (place + 1) lines in
    let here : now ≡ turn_place (caller_of trace line.thread) turn = is ∙ ap (λ (c : ℕ). turn_place c turn) of_line in
    let both : Rises place_key last (labelled trace (line ∷ rest) (turn_item turn ∷ left)) =
    subst (λ (l : List Item). Rises place_key last (labelled trace (line ∷ rest) l)) first
    (subst (λ (l : List TraceLine). Rises place_key last (labelled trace l items)) (drop_more lines place d within) (later rises)) in
    (omega (arith, here, both.0), subst (λ (n : ℕ). Rises place_key n (labelled trace rest left)) (sym here) both.1)

-- at the end of the lines, or of what was done, nothing is left that could be earlier
pub lines_end : (trace lines : List TraceLine) (place low : ℕ) (items : List Item) → length lines ≤ place
    → Rises place_key low (labelled trace (drop place lines) items)
lines_end trace lines place low items past = subst (λ (l : List TraceLine). Rises place_key low (labelled trace l items)) (sym (drop_all place lines past)) tt

pub items_end : (trace lines : List TraceLine) (low : ℕ) (items : List Item) → items ≡ [] → Rises place_key low (labelled trace lines items)
items_end trace [] low items none = tt
items_end trace (line ∷ lines) low items none = subst (λ (l : List Item). Rises place_key low (labelled trace (line ∷ lines) l)) (sym none) tt

-- things that are in order, with the callers of the lines, are the history with these
pub in_turn_order : (lines : List TraceLine) (journal : List Entry) (log : List Seen) (items tried : List Item) → items ≡ history_of journal (log ∷ [])
    → tried ≡ history_of journal (log ∷ []) → labelled lines lines tried ≡ gather (labelled lines lines tried)
    → labelled lines lines items ≡ label_of lines journal log
unfolding label_of
in_turn_order lines journal log items tried is tried_is same =
    ap (λ (l : List Item). labelled lines lines l) (is ∙ sym tried_is) ∙ same ∙ ap (λ (l : List Item). gather (labelled lines lines l)) tried_is

-- items whose places do not fall are gathered as they are
pub turns_gathered : (lines : List TraceLine) (items : List Item) → All (λ line. line.thread < MOST_THREADS) lines
    → Rises place_key 0 (labelled lines lines items) → labelled lines lines items ≡ gather (labelled lines lines items)
turns_gathered lines items threads rises = in_order_gathered (labelled lines lines items) rises (labelled_small lines lines items threads)

-- and only those
pub gathered_rises : (lines : List TraceLine) (items : List Item) → All (λ line. line.thread < MOST_THREADS) lines
    → labelled lines lines items ≡ gather (labelled lines lines items) → Rises place_key 0 (labelled lines lines items)
gathered_rises lines items threads same =
    let all : List Item = labelled lines lines items in
    subst (λ (l : List Item). Rises place_key 0 l) (sym (same ∙ gather_is_sort all (labelled_small lines lines items threads)))
    (Rises-sort_by place_key all)

-- what is not gathered so is not in turn
pub not_in_turn : (lines : List TraceLine) (journal : List Entry) (log : List Seen) (tried : List Item) → tried ≡ history_of journal (log ∷ [])
    → (labelled lines lines tried ≡ gather (labelled lines lines tried) → ⊥) → IsInTurn lines journal log → ⊥
unfolding label_of
not_in_turn lines journal log tried is apart in_turn =
    apart (ap (λ (l : List Item). labelled lines lines l) is ∙ in_turn.turns
    ∙ ap (λ (l : List Item). gather (labelled lines lines l)) (sym is))
