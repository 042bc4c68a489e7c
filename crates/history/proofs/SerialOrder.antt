-- For the laws on the serial history: the items of a trace in the order of a history, where reads wait for the next call or the end, and go by caller there.
use Rattle.std.proofs.Common.{ℕ, zero, suc, ◌≡◌, ◌+◌, ◌<◌, ◌≤◌, ◌∙◌, refl, sym, ap, subst, cond, if◌then◌else◌, Bool, true, false, not, ◌&&◌, ◌||◌, nat_eq, nat_le, List, [], ◌∷◌, ◌++◌, append_assoc, length, map, filter, take, slice_get, All, Option, Some, None, IfSome, arith, inl, inr}
use Rattle.std.specs.Prelude.{is_some}
use Rattle.std.specs.List.Sorted.{IsSortedByKey, IsStableByKey}
use Rattle.std.specs.Ordering.{nat_cmp}
use Rattle.std.proofs.lemmas.Bool.{true≢false, false≢true, cases_Bool, cond_both, cond-true, cond-false, cases_lt, or_left, lt-ltb, le-ltb, eq-eqb}
use Rattle.std.proofs.lemmas.List.{append-nil}
use Rattle.std.proofs.lemmas.List.Elements.{All-nil, All-cons, All-append, All-head, All-tail, All-push, All-map, All-weaker, filter-append}
use Rattle.std.proofs.lemmas.List.Sums.{fold-append}
use Rattle.mm_types.specs.declared.call.Call.{Call}
use Rattle.mm_types.specs.declared.config.Config.{Config}
use Rattle.history.specs.declared.items.Item.{Item}
use Rattle.trace_reader.specs.declared.trace.Op.{Op}
use Rattle.trace_reader.specs.declared.trace.Op.TheVariants as ops
use Rattle.trace_reader.specs.declared.trace.TraceLine.{TraceLine}
use Rattle.trace_reader.specs.Values.{is_call_op, AreNumbered, NamesACall, AreNamesRight}
use Rattle.area_rules.specs.Tables.{AddressSpace}
use Rattle.area_rules.specs.Steps.{opening, after}
use Rattle.mm_types.specs.Sorts.{insert_in_order, sort_by}
use Rattle.history.specs.Histories.{occurs, caller_of, lines_of, AsksItself, AskThemselves, call_made, makes_call, is_call, journal_of, line_answered, StandsAmong, IsLegalHistory, goes_first, gather, space_by, version_by, space_after, version_after, items_from, serial_history, space_after_all, sort_by_caller, leading_reads, after_reads, answered_by, answered}
use Rattle.history.proofs.Lists.{split_at, at_place, get_past}
use Rattle.history.proofs.Calls.{line_call}
use Rattle.history.proofs.Numbers.{IsNamed, named_line, passed, own_place, names_call}
use Rattle.history.proofs.CallerOrder.{callers_alike}
use Rattle.mm_types.proofs.Sorting.{insert_by, filter-sort_by, All-sort_by, Rises, Rises-sort_by, sort_by-from_filters, sort_by-from_stable, sort_by_alike}
use Rattle.history.proofs.Serial.{item_of, call_answer, HasLines, pairs_from, items_of_pairs, answers_place, GoesBefore, AreOrdered, opening_stands, counts_taken, items_are_history, all_reached}

-- an item in its place in a history
abbrev pub insert_item : Item → List Item → List Item
insert_item item items = insert_in_order goes_first item items

-- a line that makes no call at an address space
abbrev pub IsRead : Config → AddressSpace → TraceLine → Type 0
IsRead config space line = makes_call config space line.op ≡ false

abbrev caller_in : List TraceLine → TraceLine → ℕ
caller_in trace line = caller_of trace line.thread

no_reads : (config : Config) (space : AddressSpace) → All (IsRead config space) []
no_reads config space = All-nil (IsRead config space)

-- a read changes neither the address space nor the version
pub read_space : (config : Config) (space : AddressSpace) (op : Op) → makes_call config space op ≡ false → space_after config space op ≡ space
read_space config space op read = by_call (call_made config space op) read
  where
    by_call : (made : Option Call) → is_some made ≡ false → space_by config space made ≡ space
    by_call (Some call) read = absurd (true≢false read)
    by_call None read = refl

read_version : (config : Config) (space : AddressSpace) (version : ℕ) (op : Op) → makes_call config space op ≡ false
    → version_after config space version op ≡ version
read_version config space version op read = by_call (call_made config space op) read
  where
    by_call : (made : Option Call) → is_some made ≡ false → version_by version made ≡ version
    by_call (Some call) read = absurd (true≢false read)
    by_call None read = refl

call_version : (config : Config) (space : AddressSpace) (version : ℕ) (op : Op) → makes_call config space op ≡ true
    → version_after config space version op ≡ version + 1
call_version config space version op makes = by_call (call_made config space op) makes
  where
    by_call : (made : Option Call) → is_some made ≡ true → version_by version made ≡ version + 1
    by_call (Some call) makes = refl
    by_call None makes = absurd (false≢true makes)

version_rises : (config : Config) (space : AddressSpace) (version : ℕ) (op : Op) → version ≤ version_after config space version op
version_rises config space version op = by_call (call_made config space op)
  where
    by_call : (made : Option Call) → version ≤ version_by version made
    by_call (Some call) = omega arith
    by_call None = omega arith

-- when an item goes first
earlier_first : (a b : Item) → a.version < b.version → goes_first a b ≡ true
unfolding goes_first
earlier_first a b earlier =
    ap (λ (t : Bool). t || (nat_eq a.version b.version && (is_call a.content || (not (is_call b.content) && nat_le a.caller b.caller))))
    (lt-ltb a.version b.version earlier)

level_first : (a b : Item) → a.version ≡ b.version
    → goes_first a b ≡ (is_call a.content || (not (is_call b.content) && nat_le a.caller b.caller))
unfolding goes_first
level_first a b level =
    let reads : Bool = is_call a.content || (not (is_call b.content) && nat_le a.caller b.caller) in
    ap (λ (t : Bool). t || (nat_eq a.version b.version && reads)) (le-ltb a.version b.version (omega arith))
    ∙ ap (λ (t : Bool). t && reads) (eq-eqb a.version b.version level)

reads_by_caller : (a b : Item) → a.version ≡ b.version → is_call a.content ≡ false → is_call b.content ≡ false
    → goes_first a b ≡ nat_le a.caller b.caller
reads_by_caller a b level read other =
    level_first a b level ∙ ap (λ (t : Bool). t || (not (is_call b.content) && nat_le a.caller b.caller)) read
    ∙ ap (λ (t : Bool). not t && nat_le a.caller b.caller) other

call_first : (a b : Item) → a.version ≤ b.version → is_call a.content ≡ true → goes_first a b ≡ true
call_first a b above call = elim (cases_lt a.version b.version) [
  | inl below ↦ earlier_first a b below
  | inr level ↦ level_first a b (omega arith) ∙ or_left (is_call a.content) (not (is_call b.content) && nat_le a.caller b.caller) call
]

-- items begin at this version or above it
abbrev pub BeginsAt : ℕ → List Item → Type 0
BeginsAt version [] = Unit {0}
BeginsAt version (item ∷ items) = version ≤ item.version

begins_inserted : (version : ℕ) (item : Item) (items : List Item) → version ≤ item.version → BeginsAt version items
    → BeginsAt version (insert_item item items)
begins_inserted version item [] above begins = above
begins_inserted version item (first ∷ items) above begins =
    cond_both (goes_first item first) (item ∷ first ∷ items) (first ∷ insert_item item items) (BeginsAt version) (λ h. above) (λ h. begins)

-- an item goes before those of higher versions, wherever it goes among the others
inserted_before : (item : Item) (items later : List Item) → BeginsAt (item.version + 1) later
    → insert_item item (items ++ later) ≡ insert_item item items ++ later
inserted_before item [] [] begins = refl
inserted_before item [] (first ∷ later) begins = cond-true _ _ _ (earlier_first item first (omega (arith, begins)))
inserted_before item (first ∷ items) later begins =
    ap (λ (l : List Item). cond (goes_first item first) (item ∷ first ∷ (items ++ later)) (first ∷ l)) (inserted_before item items later begins)
    ∙ joined (goes_first item first) (item ∷ first ∷ items) (first ∷ insert_item item items) later
  where
    joined : (t : Bool) (xs ys zs : List Item) → cond t (xs ++ zs) (ys ++ zs) ≡ cond t xs ys ++ zs
    joined true xs ys zs = refl
    joined false xs ys zs = refl

gathered_before : (version : ℕ) (items later : List Item) → All (λ item. item.version ≡ version) items → BeginsAt (version + 1) (gather later)
    → gather (items ++ later) ≡ gather items ++ gather later
gathered_before version [] later all begins = refl
gathered_before version (item ∷ items) later all begins =
    let level : Item → Type 0 = λ i. i.version ≡ version in
    ap (insert_item item) (gathered_before version items later (All-tail level item items all) begins)
    ∙ inserted_before item (gather items) (gather later)
    (subst (λ (v : ℕ). BeginsAt (v + 1) (gather later)) (sym (All-head level item items all)) begins)

pub inserted_first : (item : Item) (later : List Item) → is_call item.content ≡ true → BeginsAt item.version later
    → insert_item item later ≡ item ∷ later
inserted_first item [] call begins = refl
inserted_first item (first ∷ later) call begins = cond-true _ _ _ (call_first item first begins call)

-- lines in the order of a history from an address space on, with pending reads before them
abbrev pub history_lines : Config → List TraceLine → AddressSpace → List TraceLine → List TraceLine → List TraceLine
history_lines config trace space pending [] = sort_by (caller_in trace) pending
history_lines config trace space pending (line ∷ lines) =
    if makes_call config space line.op
    then sort_by (caller_in trace) pending ++ line ∷ history_lines config trace (space_after config space line.op) [] lines
    else history_lines config trace space (pending ++ line ∷ []) lines

-- what is so of them where the next line is a call, and where it is a read, is so of them
by_next_line : (config : Config) (trace : List TraceLine) (space : AddressSpace) (pending : List TraceLine) (line : TraceLine) (lines : List TraceLine)
    (P : List TraceLine → Type 0)
    → (makes_call config space line.op ≡ true
    → P (sort_by (caller_in trace) pending ++ line ∷ history_lines config trace (space_after config space line.op) [] lines))
    → (IsRead config space line → P (history_lines config trace space (pending ++ line ∷ []) lines))
    → P (history_lines config trace space pending (line ∷ lines))
by_next_line config trace space pending line lines P at_call at_read =
    cond_both (makes_call config space line.op)
    (sort_by (caller_in trace) pending ++ line ∷ history_lines config trace (space_after config space line.op) [] lines)
    (history_lines config trace space (pending ++ line ∷ []) lines) P at_call at_read

-- they are the lines of the trace, and those of each caller are in its order
filter_history : (config : Config) (trace : List TraceLine) (space : AddressSpace) (pending lines : List TraceLine) (caller : ℕ)
    → filter (λ line. nat_eq (caller_of trace line.thread) caller) (history_lines config trace space pending lines)
    ≡ filter (λ line. nat_eq (caller_of trace line.thread) caller) (pending ++ lines)
filter_history config trace space pending [] caller =
    filter-sort_by (caller_in trace) caller pending
    ∙ ap (filter (λ line. nat_eq (caller_of trace line.thread) caller)) (sym (append-nil pending))
filter_history config trace space pending (line ∷ lines) caller =
    let p : TraceLine → Bool = λ line. nat_eq (caller_of trace line.thread) caller in
    let sorted : List TraceLine = sort_by (caller_in trace) pending in
    let later : List TraceLine = history_lines config trace (space_after config space line.op) [] lines in
    by_next_line config trace space pending line lines (λ l. filter p l ≡ filter p (pending ++ line ∷ lines))
    (λ call. filter-append p sorted (line ∷ later)
    ∙ ap (λ (l : List TraceLine). l ++ filter p (line ∷ later)) (filter-sort_by (caller_in trace) caller pending)
    ∙ ap (λ (l : List TraceLine). filter p pending ++ cond (p line) (line ∷ l) l)
    (filter_history config trace (space_after config space line.op) [] lines caller)
    ∙ sym (filter-append p pending (line ∷ lines)))
    (λ read. filter_history config trace space (pending ++ line ∷ []) lines caller ∙ ap (filter p) (append_assoc pending (line ∷ []) lines))

-- what is so of all lines is so of all in that order
all_history : (P : TraceLine → Type 0) (config : Config) (trace : List TraceLine) (space : AddressSpace) (pending lines : List TraceLine)
    → All P pending → All P lines → All P (history_lines config trace space pending lines)
all_history P config trace space pending [] waiting all = All-sort_by (caller_in trace) P pending waiting
all_history P config trace space pending (line ∷ lines) waiting all =
    let next : AddressSpace = space_after config space line.op in
    let later : List TraceLine = history_lines config trace next [] lines in
    let here : P line = All-head P line lines all in
    let rest : All P lines = All-tail P line lines all in
    by_next_line config trace space pending line lines (λ l. All P l)
    (λ call. All-append P (sort_by (caller_in trace) pending) (line ∷ later) (All-sort_by (caller_in trace) P pending waiting)
    (All-cons P line later here (all_history P config trace next [] lines (All-nil P) rest)))
    (λ read. all_history P config trace space (pending ++ line ∷ []) lines (All-push P pending line waiting here) rest)

all_ask : (config : Config) (lines : List TraceLine) → AskThemselves lines → AskThemselves (history_lines config lines (opening config) [] lines)
all_ask config lines all =
    all_history (λ (line : TraceLine). AsksItself line.op) config lines (opening config) [] lines (All-nil (λ (line : TraceLine). AsksItself line.op)) all

has_lines : (config : Config) (space : AddressSpace) (trace : List TraceLine) → HasLines trace (history_lines config trace space [] trace)
unfolding lines_of
has_lines config space trace caller = sym (filter_history config trace space [] trace caller)

module _ (config : Config) (trace : List TraceLine) where
  sorted_reads : (space : AddressSpace) (reads : List TraceLine) → All (IsRead config space) reads
      → All (IsRead config space) (sort_by (caller_in trace) reads)
  sorted_reads space reads all = All-sort_by (caller_in trace) (IsRead config space) reads all

  -- what stands after reads is the same
  behind_reads : {X : Type 0} (f : AddressSpace → ℕ → X) (space : AddressSpace) (version : ℕ) (line : TraceLine) → IsRead config space line
      → f (space_after config space line.op) (version_after config space version line.op) ≡ f space version
  behind_reads f space version line read =
      ap (λ (s : AddressSpace). f s (version_after config space version line.op)) (read_space config space line.op read)
      ∙ ap (λ (v : ℕ). f space v) (read_version config space version line.op read)

  items_behind_reads : (space : AddressSpace) (version : ℕ) (reads lines : List TraceLine) → All (IsRead config space) reads
      → items_from config trace space version (reads ++ lines)
      ≡ map (item_of config trace space version) reads ++ items_from config trace space version lines
  items_behind_reads space version [] lines all = refl
  items_behind_reads space version (line ∷ reads) lines all =
      ap (λ (l : List Item). item_of config trace space version line ∷ l)
      (behind_reads (λ s v. items_from config trace s v (reads ++ lines)) space version line (All-head (IsRead config space) line reads all)
      ∙ items_behind_reads space version reads lines (All-tail (IsRead config space) line reads all))

  pairs_behind_reads : (space : AddressSpace) (version : ℕ) (reads lines : List TraceLine) → All (IsRead config space) reads
      → pairs_from config trace space version (reads ++ lines)
      ≡ map (answered_by config trace space version) reads ++ pairs_from config trace space version lines
  pairs_behind_reads space version [] lines all = refl
  pairs_behind_reads space version (line ∷ reads) lines all =
      ap (λ (l : List (TraceLine × Item)). answered_by config trace space version line ∷ l)
      (behind_reads (λ s v. pairs_from config trace s v (reads ++ lines)) space version line (All-head (IsRead config space) line reads all)
      ∙ pairs_behind_reads space version reads lines (All-tail (IsRead config space) line reads all))

  -- reads at one version go by caller
  inserted_read : (space : AddressSpace) (version : ℕ) (line : TraceLine) (lines : List TraceLine) → IsRead config space line → All (IsRead config space) lines
      → insert_item (item_of config trace space version line) (map (item_of config trace space version) lines)
      ≡ map (item_of config trace space version) (insert_by (caller_in trace) line lines)
  inserted_read space version line [] read all = refl
  inserted_read space version line (first ∷ lines) read all =
      let item : TraceLine → Item = item_of config trace space version in
      let other : IsRead config space first = All-head (IsRead config space) first lines all in
      let test : Bool = nat_le (caller_in trace line) (caller_in trace first) in
      ap (λ (t : Bool). cond t (item line ∷ item first ∷ map item lines) (item first ∷ insert_item (item line) (map item lines)))
      (reads_by_caller (item line) (item first) (read_version config space version line.op read ∙ sym (read_version config space version first.op other))
      (call_answer config space line.op ∙ read) (call_answer config space first.op ∙ other))
      ∙ ap (λ (l : List Item). cond test (item line ∷ item first ∷ map item lines) (item first ∷ l))
      (inserted_read space version line lines read (All-tail (IsRead config space) first lines all))
      ∙ mapped test item (line ∷ first ∷ lines) (first ∷ insert_by (caller_in trace) line lines)
    where
      mapped : (t : Bool) (f : TraceLine → Item) (xs ys : List TraceLine) → cond t (map f xs) (map f ys) ≡ map f (cond t xs ys)
      mapped true f xs ys = refl
      mapped false f xs ys = refl

  gathered_reads : (space : AddressSpace) (version : ℕ) (reads : List TraceLine) → All (IsRead config space) reads
      → gather (map (item_of config trace space version) reads) ≡ map (item_of config trace space version) (sort_by (caller_in trace) reads)
  gathered_reads space version [] all = refl
  gathered_reads space version (line ∷ reads) all =
      let rest : All (IsRead config space) reads = All-tail (IsRead config space) line reads all in
      ap (insert_item (item_of config trace space version line)) (gathered_reads space version reads rest)
      ∙ inserted_read space version line (sort_by (caller_in trace) reads) (All-head (IsRead config space) line reads all) (sorted_reads space reads rest)

  same_version : (space : AddressSpace) (version : ℕ) (reads : List TraceLine) → All (IsRead config space) reads
      → All (λ item. item.version ≡ version) (map (item_of config trace space version) reads)
  same_version space version reads all =
      All-map (λ (i : Item). i.version ≡ version) (item_of config trace space version) reads
      (All-weaker (IsRead config space) (λ line. version_after config space version line.op ≡ version)
      (λ line read. read_version config space version line.op read) reads all)

  begins_gathered : (space : AddressSpace) (least version : ℕ) (lines : List TraceLine) → least ≤ version
      → BeginsAt least (gather (items_from config trace space version lines))
  begins_gathered space least version [] above = tt
  begins_gathered space least version (line ∷ lines) above =
      let next : AddressSpace = space_after config space line.op in
      let now : ℕ = version_after config space version line.op in
      let up : least ≤ now = omega (arith, version_rises config space version line.op) in
      begins_inserted least (item_of config trace space version line) (gather (items_from config trace next now lines)) up
      (begins_gathered next least now lines up)

  -- gathered items are those of the lines in the order of a history
  gathered_lines : (space : AddressSpace) (version : ℕ) (pending lines : List TraceLine) → All (IsRead config space) pending
      → gather (items_from config trace space version (pending ++ lines)) ≡ items_from config trace space version (history_lines config trace space pending lines)
  gathered_lines space version pending [] reads =
      let item : TraceLine → Item = item_of config trace space version in
      let sorted : List TraceLine = sort_by (caller_in trace) pending in
      ap gather (items_behind_reads space version pending [] reads ∙ append-nil (map item pending))
      ∙ gathered_reads space version pending reads ∙ sym (append-nil (map item sorted))
      ∙ sym (items_behind_reads space version sorted [] (sorted_reads space pending reads))
      ∙ ap (items_from config trace space version) (append-nil sorted)
  gathered_lines space version pending (line ∷ lines) reads =
      let item : TraceLine → Item = item_of config trace space version in
      let now : ℕ = version_after config space version line.op in
      let next : AddressSpace = space_after config space line.op in
      let sorted : List TraceLine = sort_by (caller_in trace) pending in
      let later : List Item = items_from config trace next now lines in
      by_next_line config trace space pending line lines (λ l. gather (items_from config trace space version (pending ++ line ∷ lines)) ≡ items_from config trace space version l)
      (λ call.
      let first : insert_item (item line) (gather later) ≡ item line ∷ gather later =
      inserted_first (item line) (gather later) (call_answer config space line.op ∙ call) (begins_gathered next now now lines (omega arith)) in
      let up : version + 1 ≤ now = omega (arith, call_version config space version line.op call) in
      let begins : BeginsAt (version + 1) (insert_item (item line) (gather later)) =
      begins_inserted (version + 1) (item line) (gather later) up (begins_gathered next (version + 1) now lines up) in
      ap gather (items_behind_reads space version pending (line ∷ lines) reads)
      ∙ gathered_before version (map item pending) (item line ∷ later) (same_version space version pending reads) begins
      ∙ ap (λ (l : List Item). l ++ insert_item (item line) (gather later)) (gathered_reads space version pending reads)
      ∙ ap (λ (l : List Item). map item sorted ++ l) (first ∙ ap (λ (l : List Item). item line ∷ l) (gathered_lines next now [] lines (no_reads config (space_after config space line.op))))
      ∙ sym (items_behind_reads space version sorted (line ∷ history_lines config trace (space_after config space line.op) [] lines) (sorted_reads space pending reads)))
      (λ read. ap (λ (l : List TraceLine). gather (items_from config trace space version l)) (sym (append_assoc pending (line ∷ []) lines))
      ∙ gathered_lines space version (pending ++ line ∷ []) lines (All-push (IsRead config space) pending line reads read))

  -- lines whose items are in order, whatever stands before them
  abbrev AlwaysOrdered : AddressSpace → List TraceLine → Type 0
  AlwaysOrdered space lines = (prior : Option Item) (version : ℕ) → AreOrdered prior (items_from config trace space version lines)

  -- so are reads that rise after one of no higher caller
  rising_ordered : (low : ℕ) (reads lines : List TraceLine) (prior : Option Item) (space : AddressSpace) (version : ℕ)
      → All (IsRead config space) reads → Rises (caller_in trace) low reads → IfSome prior (λ p. is_call p.content ≡ false → p.caller ≤ low)
      → AlwaysOrdered space lines → AreOrdered prior (items_from config trace space version (reads ++ lines))
  rising_ordered low [] lines prior space version all rises below always = always prior version
  rising_ordered low (line ∷ reads) lines prior space version all rises below always =
      let item : Item = item_of config trace space version line in (
        before prior item (λ p h. omega (arith, h, rises.0)) below,
        subst (λ (s : AddressSpace). AreOrdered (Some item) (items_from config trace s (version_after config space version line.op) (reads ++ lines)))
            (sym (read_space config space line.op (All-head (IsRead config space) line reads all)))
            (rising_ordered (caller_in trace line) reads lines (Some item) space (version_after config space version line.op)
            (All-tail (IsRead config space) line reads all) rises.1 (λ read. omega arith) always),
      )
    where
      before : (prior : Option Item) (item : Item) → ((p : Item) → p.caller ≤ low → p.caller ≤ item.caller)
          → IfSome prior (λ p. is_call p.content ≡ false → p.caller ≤ low) → IfSome prior (λ p. GoesBefore p item)
      before None item up below = tt
      before (Some p) item up below = λ read other. up p (below read)

  history_ordered : (pending lines : List TraceLine) (prior : Option Item) (space : AddressSpace) (version : ℕ) → All (IsRead config space) pending
      → IfSome prior (λ p. is_call p.content ≡ false → p.caller ≤ 0)
      → AreOrdered prior (items_from config trace space version (history_lines config trace space pending lines))
  history_ordered pending [] prior space version reads starts =
      let sorted : List TraceLine = sort_by (caller_in trace) pending in
      subst (λ (l : List TraceLine). AreOrdered prior (items_from config trace space version l)) (append-nil sorted)
      (rising_ordered 0 sorted [] prior space version (sorted_reads space pending reads) (Rises-sort_by (caller_in trace) pending) starts (λ p v. tt))
  history_ordered pending (line ∷ lines) prior space version reads starts =
      let sorted : List TraceLine = sort_by (caller_in trace) pending in
      let next : AddressSpace = space_after config space line.op in
      by_next_line config trace space pending line lines (λ l. AreOrdered prior (items_from config trace space version l))
      (λ call. rising_ordered 0 sorted (line ∷ history_lines config trace next [] lines) prior space version (sorted_reads space pending reads)
      (Rises-sort_by (caller_in trace) pending) starts
      (λ p v.
      let item : Item = item_of config trace space v line in
      let calls : is_call item.content ≡ true = call_answer config space line.op ∙ call in (
        call_after p item calls,
        history_ordered [] lines (Some item) next (version_after config space v line.op) (no_reads config next)
            (λ read. absurd (true≢false (sym calls ∙ read))),
      )))
      (λ read. history_ordered (pending ++ line ∷ []) lines prior space version (All-push (IsRead config space) pending line reads read) starts)
    where
      call_after : (p : Option Item) (item : Item) → is_call item.content ≡ true → IfSome p (λ q. GoesBefore q item)
      call_after None item call = tt
      call_after (Some q) item call = λ read other. absurd (true≢false (sym call ∙ other))

  -- the lines in that order, each with its item
  answered_lines : (space : AddressSpace) (version : ℕ) (pending lines : List TraceLine) → All (IsRead config space) pending
      → answered config trace space version pending lines ≡ pairs_from config trace space version (history_lines config trace space pending lines)
  unfolding sort_by_caller
  answered_lines space version pending [] reads =
      let sorted : List TraceLine = sort_by (caller_in trace) pending in
      sym (append-nil (map (answered_by config trace space version) sorted))
      ∙ sym (pairs_behind_reads space version sorted [] (sorted_reads space pending reads))
      ∙ ap (pairs_from config trace space version) (append-nil sorted)
  answered_lines space version pending (line ∷ lines) reads =
      let pair : TraceLine → TraceLine × Item = answered_by config trace space version in
      let now : ℕ = version_after config space version line.op in
      let next : AddressSpace = space_after config space line.op in
      let sorted : List TraceLine = sort_by (caller_in trace) pending in
      either_way (makes_call config space line.op) (map pair sorted ++ pair line ∷ answered config trace next now [] lines)
      (answered config trace space version (pending ++ line ∷ []) lines)
      (sorted ++ line ∷ history_lines config trace (space_after config space line.op) [] lines) (history_lines config trace space (pending ++ line ∷ []) lines)
      (ap (λ (l : List (TraceLine × Item)). map pair sorted ++ pair line ∷ l) (answered_lines next now [] lines (no_reads config (space_after config space line.op)))
      ∙ sym (pairs_behind_reads space version sorted (line ∷ history_lines config trace (space_after config space line.op) [] lines) (sorted_reads space pending reads)))
      (λ read. answered_lines space version (pending ++ line ∷ []) lines (All-push (IsRead config space) pending line reads read))
    where
      either_way : (t : Bool) (xs ys : List (TraceLine × Item)) (ls ms : List TraceLine) → xs ≡ pairs_from config trace space version ls
          → (t ≡ false → ys ≡ pairs_from config trace space version ms) → cond t xs ys ≡ pairs_from config trace space version (cond t ls ms)
      either_way true xs ys ls ms same other = same
      either_way false xs ys ls ms same other = other refl

  -- they lead to the same address space
  space_after_reads : (space : AddressSpace) (reads : List TraceLine) → All (IsRead config space) reads → space_after_all config space reads ≡ space
  space_after_reads space [] all = refl
  space_after_reads space (line ∷ reads) all =
      ap (λ (s : AddressSpace). space_after_all config s reads) (read_space config space line.op (All-head (IsRead config space) line reads all))
      ∙ space_after_reads space reads (All-tail (IsRead config space) line reads all)

  space_after_history : (space : AddressSpace) (pending lines : List TraceLine) → All (IsRead config space) pending
      → space_after_all config space (history_lines config trace space pending lines) ≡ space_after_all config space lines
  space_after_history space pending [] reads = space_after_reads space (sort_by (caller_in trace) pending) (sorted_reads space pending reads)
  space_after_history space pending (line ∷ lines) reads =
      let sorted : List TraceLine = sort_by (caller_in trace) pending in
      by_next_line config trace space pending line lines (λ l. space_after_all config space l ≡ space_after_all config space (line ∷ lines))
      (λ call. fold-append (λ s l. space_after config s l.op) space sorted (line ∷ history_lines config trace (space_after config space line.op) [] lines)
      ∙ ap (λ (s : AddressSpace). space_after_all config s (line ∷ history_lines config trace (space_after config space line.op) [] lines))
      (space_after_reads space sorted (sorted_reads space pending reads))
      ∙ space_after_history (space_after config space line.op) [] lines (no_reads config (space_after config space line.op)))
      (λ read. space_after_history space (pending ++ line ∷ []) lines (All-push (IsRead config space) pending line reads read)
      ∙ ap (λ (s : AddressSpace). space_after_all config s lines) (sym (read_space config space line.op read)))

  -- a read is pending, and a call stands after the pending reads
  pub answered-read : (space : AddressSpace) (version : ℕ) (pending : List TraceLine) (line : TraceLine) (lines : List TraceLine) → IsRead config space line
      → answered config trace space version pending (line ∷ lines) ≡ answered config trace space version (pending ++ line ∷ []) lines
  answered-read space version pending line lines read = cond-false _ _ _ read

  pub answered-call : (space : AddressSpace) (version : ℕ) (pending : List TraceLine) (line : TraceLine) (lines : List TraceLine) → makes_call config space line.op ≡ true
      → answered config trace space version pending (line ∷ lines)
      ≡ map (answered_by config trace space version) (sort_by_caller trace pending) ++ answered_by config trace space version line
      ∷ answered config trace (space_after config space line.op) (version_after config space version line.op) [] lines
  answered-call space version pending line lines call = cond-true _ _ _ call

  -- the reads before the first call, and then the rest
  pub answered_groups : (space : AddressSpace) (version : ℕ) (pending lines : List TraceLine)
      → answered config trace space version pending lines
      ≡ map (answered_by config trace space version) (sort_by_caller trace (pending ++ leading_reads config space lines))
      ++ answered config trace space version [] (after_reads config space lines)
  unfolding sort_by_caller
  answered_groups space version pending [] =
      let told : List TraceLine → List (TraceLine × Item) = λ reads. map (answered_by config trace space version) (sort_by (caller_in trace) reads) in
      ap told (sym (append-nil pending)) ∙ sym (append-nil (told (pending ++ [])))
  answered_groups space version pending (line ∷ lines) =
      let told : List TraceLine → List (TraceLine × Item) = λ reads. map (answered_by config trace space version) (sort_by (caller_in trace) reads) in
      let rest : List TraceLine → List (TraceLine × Item) = answered config trace space version [] in
      let grouped : Bool → List (TraceLine × Item) =
      λ t. told (pending ++ cond t [] (line ∷ leading_reads config space lines)) ++ rest (cond t (line ∷ lines) (after_reads config space lines)) in
      elim (cases_Bool (makes_call config space line.op)) [
        | inl call ↦
            answered-call space version pending line lines call
            ∙ ap (λ (l : List (TraceLine × Item)). told pending ++ l) (sym (answered-call space version [] line lines call))
            ∙ ap (λ (l : List TraceLine). told l ++ rest (line ∷ lines)) (sym (append-nil pending)) ∙ ap grouped (sym call)
        | inr read ↦
            answered-read space version pending line lines read ∙ answered_groups space version (pending ++ line ∷ []) lines
            ∙ ap (λ (l : List TraceLine). told l ++ rest (after_reads config space lines)) (append_assoc pending (line ∷ []) (leading_reads config space lines))
            ∙ ap grouped (sym read)
      ]

-- the history of a trace in the order of its lines
serial_lines : (config : Config) (lines : List TraceLine)
    → serial_history config lines ≡ items_from config lines (opening config) 0 (history_lines config lines (opening config) [] lines)
unfolding serial_history
serial_lines config lines = gathered_lines config lines (opening config) 0 [] lines (no_reads config (opening config))

serial_pairs : (config : Config) (lines : List TraceLine)
    → answered config lines (opening config) 0 [] lines ≡ pairs_from config lines (opening config) 0 (history_lines config lines (opening config) [] lines)
serial_pairs config lines = answered_lines config lines (opening config) 0 [] lines (no_reads config (opening config))

-- the numbers of lines rise, one after the other
abbrev Ascend : List TraceLine → Type 0
Ascend [] = Unit {0}
Ascend (line ∷ lines) = All (λ later. line.number < later.number) lines × Ascend lines

ascend : (lines : List TraceLine) → AreNumbered lines → Ascend lines
ascend [] numbered = tt
ascend (line ∷ lines) numbered =
    (λ k d within. numbered 0 (suc k) d (omega arith) (omega arith), ascend lines (λ i j d below within. numbered (suc i) (suc j) d (omega arith) (omega arith)))

-- a call has a higher number than each line before it
abbrev CallRises : TraceLine → TraceLine → Type 0
CallRises line later = is_call_op later.op ≡ true → line.number < later.number

abbrev CallsRise : List TraceLine → Type 0
CallsRise [] = Unit {0}
CallsRise (line ∷ lines) = All (CallRises line) lines × CallsRise lines

-- a line that makes no call is no call
read_is_none : (config : Config) (space : AddressSpace) (op : Op) → makes_call config space op ≡ false → is_call_op op ≡ true → ⊥
read_is_none config space (ops.Call call) read call_op =
    true≢false (ap (λ (m : Option Call). is_some m) (sym (line_call config space call)) ∙ read)
read_is_none config space (ops.Fault page access) read call_op = false≢true call_op
read_is_none config space ops.Maps read call_op = false≢true call_op
read_is_none config space (ops.Fork child) read call_op = false≢true call_op

reads_rise : (config : Config) (space : AddressSpace) (reads : List TraceLine) → All (IsRead config space) reads → CallsRise reads
reads_rise config space [] all = tt
reads_rise config space (line ∷ reads) all =
    let rest : All (IsRead config space) reads = All-tail (IsRead config space) line reads all in (
      All-weaker (IsRead config space) (CallRises line) (λ later read call. absurd (read_is_none config space later.op read call)) reads rest,
      reads_rise config space reads rest,
    )

rise_append : (xs ys : List TraceLine) → CallsRise xs → CallsRise ys → All (λ x. All (CallRises x) ys) xs → CallsRise (xs ++ ys)
rise_append [] ys first second across = second
rise_append (x ∷ xs) ys first second across =
    let P : TraceLine → Type 0 = λ x. All (CallRises x) ys in (
      All-append (CallRises x) xs ys first.0 (All-head P x xs across),
      rise_append xs ys first.1 second (All-tail P x xs across),
    )

-- what stands behind a place
calls_rise_at : (before : List TraceLine) (line : TraceLine) (rest : List TraceLine) → CallsRise (before ++ line ∷ rest) → All (CallRises line) rest
calls_rise_at [] line rest rise = rise.0
calls_rise_at (first ∷ before) line rest rise = calls_rise_at before line rest rise.1

-- so it is in the order of a history
calls_rise : (config : Config) (trace : List TraceLine) (space : AddressSpace) (pending lines : List TraceLine) → All (IsRead config space) pending
    → All (λ p. All (λ line. p.number < line.number) lines) pending → Ascend lines → CallsRise (history_lines config trace space pending lines)
calls_rise config trace space pending [] reads below rise =
    reads_rise config space (sort_by (caller_in trace) pending) (sorted_reads config trace space pending reads)
calls_rise config trace space pending (line ∷ lines) reads below rise =
    let next : AddressSpace = space_after config space line.op in
    let sorted : List TraceLine = sort_by (caller_in trace) pending in
    let later : List TraceLine = history_lines config trace next [] lines in
    let over : TraceLine → TraceLine → Type 0 = λ p l. p.number < l.number in
    by_next_line config trace space pending line lines CallsRise
    (λ call.
    rise_append sorted (line ∷ later) (reads_rise config space sorted (sorted_reads config trace space pending reads)) (
      All-weaker (over line) (CallRises line) (λ l low call. low) later (all_history (over line) config trace next [] lines (All-nil (over line)) rise.0),
      calls_rise config trace next [] lines (no_reads config next) (All-nil (λ (p : TraceLine). All (over p) lines)) rise.1,
    )
    (All-weaker (λ (p : TraceLine). All (over p) (line ∷ lines)) (λ p. All (CallRises p) (line ∷ later))
    (λ p low.
    All-cons (CallRises p) line later (λ call. All-head (over p) line lines low)
    (All-weaker (over p) (CallRises p) (λ l under call. under) later
    (all_history (over p) config trace next [] lines (All-nil (over p)) (All-tail (over p) line lines low))))
    sorted (All-sort_by (caller_in trace) (λ (p : TraceLine). All (over p) (line ∷ lines)) pending below)))
    (λ read.
    calls_rise config trace space (pending ++ line ∷ []) lines (All-push (IsRead config space) pending line reads read)
    (All-push (λ (p : TraceLine). All (over p) lines) pending line
    (All-weaker (λ (p : TraceLine). All (over p) (line ∷ lines)) (λ p. All (over p) lines) (λ p low. All-tail (over p) line lines low) pending below)
    rise.0)
    rise.1)

-- the line that a line names stands before it there
named_before : (trace lines : List TraceLine) → HasLines trace lines → AreNumbered trace → CallsRise lines
    → (place : ℕ) (line : TraceLine) → slice_get lines place ≡ Some line → NamesACall trace line → (number : ℕ) → line.after ≡ Some number
    → (teller there : ℕ) (named : TraceLine) → slice_get (lines_of trace teller) there ≡ Some named → named.number ≡ number
    → there < length (filter (λ line. nat_eq (caller_of trace line.thread) teller) (take place lines))
named_before trace lines whole numbered rise place line found names number after teller there named its same =
    let own : TraceLine → Bool = λ l. nat_eq (caller_of trace l.thread) teller in
    let before : List TraceLine = take place lines in
    let split = split_at lines place line found in
    let parts : filter own before ++ filter own (line ∷ split.0) ≡ lines_of trace teller =
    sym (filter-append own before (line ∷ split.0)) ∙ ap (filter own) split.1 ∙ sym (whole teller) in
    let mine = own_place trace teller there named its in
    let call = names_call trace numbered line number names after mine.0 named mine.1 same in
    elim (cases_lt there (length (filter own before))) [
      | inl within ↦ within
      | inr past ↦
          let late = get_past (filter own before) (filter own (line ∷ split.0)) there named past (ap (λ (l : List TraceLine). slice_get l there) parts ∙ its) in
          let behind = passed own (line ∷ split.0) late.0 named late.1 in
          absurd (not_behind split.0 behind.0 behind.1 call (calls_rise_at before line split.0 (subst CallsRise (sym split.1) rise)))
    ]
  where
    not_behind : (rest : List TraceLine) (i : ℕ) → slice_get (line ∷ rest) i ≡ Some named → (is_call_op named.op ≡ true) × (named.number < line.number)
        → All (CallRises line) rest → ⊥
    not_behind rest zero here call rise = let is : line ≡ named = cc in omega (arith, call.1, ap (λ (l : TraceLine). l.number) is)
    not_behind rest (suc i) here call rise = omega (arith, call.1, at_place (CallRises line) rest i named rise here call.0)

-- so its item stands before
told_before : (config : Config) (trace lines : List TraceLine) → HasLines trace lines → AreNumbered trace → CallsRise lines → All (NamesACall trace) lines
    → (place : ℕ) (line : TraceLine) → slice_get lines place ≡ Some line
    → IfSome line.after (StandsAmong trace (take place (items_from config trace (opening config) 0 lines)))
told_before config trace lines whole numbered rise names place line found = by_number line.after refl
  where
    by_number : (after : Option ℕ) → line.after ≡ after → IfSome after (StandsAmong trace (take place (items_from config trace (opening config) 0 lines)))
    by_number None is = tt
    by_number (Some number) is =
        let call : NamesACall trace line = at_place (NamesACall trace) lines place line names found in
        let named : IsNamed trace number = named_line trace line number call is in
        record {
          teller = named.teller;
          place = named.place;
          line = named.line;
          its = named.its;
          numbered = named.numbered;
          answered = omega (
            arith,
            counts_taken config trace lines place named.teller,
            named_before trace lines whole numbered rise place line found call number is named.teller named.place named.line named.its
                named.numbered,
          );
        }

-- it is legal and of the trace
pub serial_is_history : (config : Config) (lines : List TraceLine) → AskThemselves lines → AreNumbered lines → AreNamesRight lines
    → IsLegalHistory config [] lines (serial_history config lines)
serial_is_history config lines all numbered names =
    let order : List TraceLine = history_lines config lines (opening config) [] lines in
    subst (λ (items : List Item). IsLegalHistory config [] lines items) (sym (serial_lines config lines))
    (items_are_history config lines order (all_ask config lines all) (has_lines config (opening config) lines)
    (history_ordered config lines [] lines None (opening config) 0 (no_reads config (opening config)) tt)
    (told_before config lines order (has_lines config (opening config) lines) numbered
    (calls_rise config lines (opening config) [] lines (no_reads config (opening config))
    (All-nil (λ (p : TraceLine). All (λ (line : TraceLine). p.number < line.number) lines)) (ascend lines numbered))
    (all_history (NamesACall lines) config lines (opening config) [] lines (All-nil (NamesACall lines)) names)))

-- its items are those of the lines in that order
pub serial-answered : (config : Config) (lines : List TraceLine)
    → serial_history config lines ≡ map (λ p. p.1) (answered config lines (opening config) 0 [] lines)
serial-answered config lines =
    serial_lines config lines ∙ sym (items_of_pairs config lines (opening config) 0 (history_lines config lines (opening config) [] lines))
    ∙ ap (map (λ (p : TraceLine × Item). p.1)) (sym (serial_pairs config lines))

pub answered_line : (config : Config) (lines : List TraceLine) (place : ℕ) (pair : TraceLine × Item) → AskThemselves lines
    → slice_get (answered config lines (opening config) 0 [] lines) place ≡ Some pair
    → line_answered lines (take place (serial_history config lines)) pair.1 ≡ Some pair.0
answered_line config lines place pair all found =
    subst (λ (items : List Item). line_answered lines (take place items) pair.1 ≡ Some pair.0) (sym (serial_lines config lines))
    (answers_place config lines (history_lines config lines (opening config) [] lines) place pair (all_ask config lines all) (has_lines config (opening config) lines)
    (ap (λ (l : List (TraceLine × Item)). slice_get l place) (sym (serial_pairs config lines)) ∙ found)).line

-- it leads to the address space after all lines
pub serial_space : (config : Config) (lines : List TraceLine)
    → after config (journal_of (serial_history config lines)) ≡ space_after_all config (opening config) lines
serial_space config lines =
    ap (λ (items : List Item). after config (journal_of items)) (serial_lines config lines)
    ∙ all_reached config lines (opening config) 0 (history_lines config lines (opening config) [] lines) [] (opening_stands config)
    ∙ space_after_history config lines (opening config) [] lines (no_reads config (opening config))

-- the two parts of some lines
pub leading_reads-after_reads : (config : Config) (space : AddressSpace) (lines : List TraceLine)
    → leading_reads config space lines ++ after_reads config space lines ≡ lines
leading_reads-after_reads config space [] = refl
leading_reads-after_reads config space (line ∷ lines) =
    let joined : Bool → List TraceLine =
    λ t. cond t [] (line ∷ leading_reads config space lines) ++ cond t (line ∷ lines) (after_reads config space lines) in
    elim (cases_Bool (makes_call config space line.op)) [
      | inl call ↦ ap joined call
      | inr read ↦ ap joined read ∙ ap (λ (l : List TraceLine). line ∷ l) (leading_reads-after_reads config space lines)
    ]

pub leading_reads_are_reads : (config : Config) (space : AddressSpace) (lines : List TraceLine)
    → All (IsRead config space) (leading_reads config space lines)
leading_reads_are_reads config space [] = no_reads config space
leading_reads_are_reads config space (line ∷ lines) =
    cond_both (makes_call config space line.op) [] (line ∷ leading_reads config space lines) (All (IsRead config space)) (λ call. no_reads config space)
    (λ read. All-cons (IsRead config space) line (leading_reads config space lines) read (leading_reads_are_reads config space lines))

-- a sorted list in which the lines of each caller are the same, in the same order, is the sorted one
pub sort_by_caller-from_filters : (trace old new : List TraceLine) → IsSortedByKey (λ line. caller_of trace line.thread) nat_cmp new
    → ((caller : ℕ) → filter (λ line. nat_eq (caller_of trace line.thread) caller) new
    ≡ filter (λ line. nat_eq (caller_of trace line.thread) caller) old) → new ≡ sort_by_caller trace old
unfolding sort_by_caller
sort_by_caller-from_filters trace old new sorted same =
    sort_by-from_filters (caller_in trace) old new sorted (λ line. same (caller_of trace line.thread))

-- what a stable sort by caller makes
pub sort_by_caller-from_stable : (trace old new : List TraceLine) → IsSortedByKey (λ line. caller_of trace line.thread) nat_cmp new
    → IsStableByKey (λ line. caller_of trace line.thread) nat_cmp old new → new ≡ sort_by_caller trace old
unfolding sort_by_caller
sort_by_caller-from_stable trace old new sorted stable = sort_by-from_stable (caller_in trace) old new sorted stable

-- what a stable sort by thread makes of lines of the trace
pub sort_by_caller-from_threads : (trace old new : List TraceLine) → All (λ line. occurs trace line.thread ≡ true) old
    → IsSortedByKey (λ line. line.thread) nat_cmp new → IsStableByKey (λ line. line.thread) nat_cmp old new → new ≡ sort_by_caller trace old
unfolding sort_by_caller
sort_by_caller-from_threads trace old new all sorted stable =
    let thread : TraceLine → ℕ = λ line. line.thread in
    sort_by-from_stable thread old new sorted stable
    ∙ sort_by_alike thread (caller_in trace) (λ line. occurs trace line.thread ≡ true)
    (λ a b here there. callers_alike trace a.thread b.thread here there) old all
