-- For `gather`: the reads of logs, and the merge of a journal with reads that are in order.
use Rattle.std.proofs.Common.{ℕ, zero, suc, ◌≡◌, ◌+◌, ◌-◌, ◌<◌, ◌≤◌, ◌^◌, ◌∙◌, refl, sym, ap, subst, true, List, [], ◌∷◌, ◌++◌, append_assoc, length, min, map, take, drop, get_or, All, slice_range, arith, inl, inr}
use Rattle.std.specs.List.{AllPairs}
use Rattle.std.proofs.lemmas.Bool.{cases_lt}
use Rattle.std.proofs.lemmas.List.{append-nil, drop_all, drop_more, map-append, take-append-drop, take_all, take_more, length-take-le, map_more, length-map, nil_from_length}
use Rattle.std.proofs.lemmas.List.Elements.{All-nil, All-head, All-append, All-push, All-weaker}
use Rattle.std.proofs.lemmas.Option.{slice_get_within}
use Rattle.mm_types.specs.declared.call.Entry.{Entry}
use Rattle.mm_types.specs.declared.call.Seen.{Seen}
use Rattle.area_rules.specs.Journals.{version_of}
use Rattle.history.specs.declared.items.Item.{Item}
use Rattle.history.specs.Histories.{goes_first, gather}
use Rattle.history.specs.Runs.{entry_items, read_item, log_items, logs_items, history_of}
use Rattle.history.proofs.Sorts.{Small}
use Rattle.history.proofs.Gathers.{Before, After, gather_last, lower_before, higher_after, call_before}
use Rattle.history.proofs.Steps.{entry_item, entries_append, log_push, Stands, entries_stand}
use Rattle.history.proofs.Legal.{all_log, all_logs}
use Rattle.history.proofs.Orders.{pair_parts, GoesFirst, first_is_no_higher, gather_part}

-- one read more of a log
pub log_more : (caller : ℕ) (log : List Seen) (place : ℕ) (d : Seen) → place < length log
    → log_items caller (take place log) ++ read_item caller (get_or log place d) ∷ [] ≡ log_items caller (take (place + 1) log)
log_more caller log place d within =
    sym (log_push caller (take place log) (get_or log place d)) ∙ ap (λ (l : List Seen). log_items caller l) (sym (take_more log place d within))

pub log_start : (caller : ℕ) (items : List Item) → items ≡ items ++ log_items caller []
unfolding log_items
log_start caller items = sym (append-nil items)

-- one log more
logs_push : (caller : ℕ) (logs : List (List Seen)) (log : List Seen)
    → logs_items caller (logs ++ log ∷ []) ≡ logs_items caller logs ++ log_items (caller + length logs) log
unfolding logs_items
logs_push caller [] log = append-nil (log_items caller log) ∙ ap (λ (k : ℕ). log_items k log) (at_once caller)
  where
    at_once : (n : ℕ) → n ≡ n + 0
    at_once n = omega arith
logs_push caller (first ∷ logs) log =
    ap (λ (l : List Item). log_items caller first ++ l)
    (logs_push (caller + 1) logs log ∙ ap (λ (k : ℕ). logs_items (caller + 1) logs ++ log_items k log) (one_later caller (length logs)))
    ∙ sym (append_assoc (log_items caller first) (logs_items (caller + 1) logs) (log_items (caller + suc (length logs)) log))
  where
    one_later : (n m : ℕ) → n + 1 + m ≡ n + suc m
    one_later n m = omega arith

pub logs_more : {V : Type 0} (f : V → List Seen) (logs : List V) (place : ℕ) (d : V) → place < length logs
    → logs_items 0 (map f (take place logs)) ++ log_items place (f (get_or logs place d)) ≡ logs_items 0 (map f (take (place + 1) logs))
logs_more {V} f logs place d within =
    let so_far : List (List Seen) = map f (take place logs) in
    let size : 0 + length so_far ≡ place = ap (λ (n : ℕ). 0 + n) (length-map (take place logs) f)
    ∙ omega_size place (length-take-le place logs (omega arith)) in
    ap (λ (k : ℕ). logs_items 0 so_far ++ log_items k (f (get_or logs place d))) (sym size) ∙ sym (logs_push 0 so_far (f (get_or logs place d)))
    ∙ ap (λ (l : List (List Seen)). logs_items 0 l) (sym (map_more f logs place d within))
  where
    omega_size : (n : ℕ) → length (take n logs) ≡ n → 0 + length (take n logs) ≡ n
    omega_size n same = omega arith

pub logs_start : [] ≡ logs_items 0 []
unfolding logs_items
logs_start = refl

-- as many logs have as small callers
pub logs_small : (logs : List (List Seen)) → length logs ≤ 2 ^ 32 → All Small (logs_items 0 logs)
logs_small logs few =
    all_logs Small 0 logs (λ place log found.
    let within : place < length logs = slice_get_within logs place log found in
    all_log Small (0 + place) log (λ k d below. omega arith))

-- one entry more
pub entries_more : (version : ℕ) (entries : List Entry) (place : ℕ) (d : Entry) → place < length entries
    → entry_items version (take place entries) ++ entry_item (version + place) (get_or entries place d) ∷ [] ≡ entry_items version
    (take (place + 1) entries)
unfolding entry_items
entries_more version entries place d within =
    let size : version + place ≡ version + length (take place entries) =
    ap (λ (n : ℕ). version + n) (sym (length-take-le place entries (omega arith))) in
    ap (λ (v : ℕ). entry_items version (take place entries) ++ entry_item v (get_or entries place d) ∷ []) size
    ∙ sym (entries_append version (take place entries) (get_or entries place d ∷ []))
    ∙ ap (λ (l : List Entry). entry_items version l) (sym (take_more entries place d within))

pub entries_start : (version : ℕ) (items : List Item) → items ≡ items ++ entry_items version []
unfolding entry_items
entries_start version items = sym (append-nil items)

-- entries that go on after all that is there come last
merge_entries : (version : ℕ) (front reads : List Item) (entries : List Entry) → All (Stands version) front → All (λ y. y.version ≤ version) reads
    → gather (front ++ reads) ++ entry_items version entries ≡ gather ((front ++ entry_items version entries) ++ reads)
unfolding entry_items
merge_entries version front reads [] stand low =
    append-nil (gather (front ++ reads)) ∙ ap (λ (l : List Item). gather (l ++ reads)) (sym (append-nil front))
merge_entries version front reads (entry ∷ entries) stand low =
    let x : Item = entry_item version entry in
    let later : List Item = entry_items (version + 1) entries in
    let before : All (Before x) front = All-weaker (Stands version) (Before x) (λ y h. lower_before x y (omega (arith, h.0))) front stand in
    let after : All (After x) reads = All-weaker (λ (y : Item). y.version ≤ version) (After x) (λ y h. higher_after x y (omega arith)) reads low in
    sym (append_assoc (gather (front ++ reads)) (x ∷ []) later)
    ∙ ap (λ (l : List Item). l ++ later) (sym (gather_last x front reads before after)
    ∙ ap (λ (l : List Item). gather l) (sym (append_assoc front (x ∷ []) reads)))
    ∙ merge_entries (version + 1) (front ++ x ∷ []) reads entries
    (All-push (Stands (version + 1)) front x
    (All-weaker (Stands version) (Stands (version + 1)) (λ y h. (omega (arith, h.0), h.1)) front stand) (omega arith, refl))
    (All-weaker (λ (y : Item). y.version ≤ version) (λ (y : Item). y.version ≤ version + 1) (λ y h. omega arith) reads low)
    ∙ ap (λ (l : List Item). gather (l ++ reads)) (append_assoc front (x ∷ []) later)

-- where the merge of a journal with reads stands: the items so far are the entries up to a version and the reads so far, in order
pub record Merged (journal : List Entry) (yielded rest items : List Item) (next : ℕ) : Type 0 where
  pub within : next ≤ length journal
  pub same : items ≡ gather (entry_items 0 (take next journal) ++ yielded)
  pub before : next < length journal → All (λ y. y.version ≤ next) yielded
  pub after : All (λ y. next ≤ y.version) rest

pub merge_start : (journal : List Entry) (reads : List Item) → Merged journal [] reads [] 0
unfolding entry_items
merge_start journal reads = record {
  within = omega arith;
  same = refl;
  before = λ some. All-nil (λ (y : Item). y.version ≤ 0);
  after = λ k d inside. omega arith;
}

range_taken : {X : Type 0} (xs : List X) (next upto : ℕ) → next ≤ upto → upto ≤ length xs → take next xs ++ slice_range xs next upto ≡ take upto xs
range_taken xs zero upto below within = refl_take xs upto
  where
    refl_take : {X : Type 0} (xs : List X) (n : ℕ) → take (n - 0) xs ≡ take n xs
    refl_take {X} xs n = let same : n - 0 ≡ n = omega arith in ap (λ (m : ℕ). take m xs) same
range_taken [] (suc next) upto below within = absurd (omega arith)
range_taken xs (suc next) zero below within = absurd (omega arith)
range_taken {X} (x ∷ xs) (suc next) (suc upto) below within =
    let same : suc upto - suc next ≡ upto - next = omega arith in
    ap (λ (l : List X). x ∷ l) (ap (λ (n : ℕ). take next xs ++ take n (drop next xs)) same ∙ range_taken xs next upto (omega arith) (omega arith))

-- the entries up to a version are pushed
merge_upto : (journal : List Entry) (yielded rest items : List Item) (next upto : ℕ) → Merged journal yielded rest items next → next ≤ upto
    → upto ≤ length journal
    → items ++ entry_items next (slice_range journal next upto) ≡ gather (entry_items 0 (take upto journal) ++ yielded)
merge_upto journal yielded rest items next upto merged below within =
    let front : List Item = entry_items 0 (take next journal) in
    let more : List Entry = slice_range journal next upto in
    let size : length (take next journal) ≡ next = length-take-le next journal merged.within in
    let joined : front ++ entry_items next more ≡ entry_items 0 (take upto journal) =
    ap (λ (v : ℕ). front ++ entry_items v more) (sym (plain (length (take next journal)) ∙ size)) ∙ sym (entries_append 0 (take next journal) more)
    ∙ ap (λ (l : List Entry). entry_items 0 l) (range_taken journal next upto below within) in
    ap (λ (l : List Item). l ++ entry_items next more) merged.same
    ∙ elim (cases_lt next (length journal)) [
      | inl some ↦ merge_entries next front yielded more (entries_stand 0 next (take next journal) (omega (arith, size))) (merged.before some)
      | inr all ↦
          let none : upto - next ≡ 0 = omega arith in
          let empty : more ≡ [] = ap (λ (n : ℕ). take n (drop next journal)) none in
          ap (λ (l : List Entry). gather (front ++ yielded) ++ entry_items next l) empty ∙ nothing_more next (gather (front ++ yielded))
          ∙ ap (λ (l : List Item). gather (l ++ yielded)) (sym (nothing_more next front))
          ∙ ap (λ (l : List Entry). gather ((front ++ entry_items next l) ++ yielded)) (sym empty)
    ]
    ∙ ap (λ (l : List Item). gather (l ++ yielded)) joined
  where
    plain : (n : ℕ) → 0 + n ≡ n
    plain n = omega arith

    nothing_more : (version : ℕ) (items : List Item) → items ++ entry_items version [] ≡ items
    nothing_more version items = sym (entries_start version items)

-- and then the read
pub merge_read : (journal : List Entry) (yielded : List Item) (read : Item) (rest items : List Item) (next upto : ℕ)
    → AllPairs (λ a b. goes_first a b ≡ true) (yielded ++ read ∷ rest) → Merged journal yielded (read ∷ rest) items next
    → upto ≤ read.version → upto ≤ length journal → (upto < length journal → read.version ≤ upto) → next ≤ upto
    → Merged journal (yielded ++ read ∷ []) rest ((items ++ entry_items next (slice_range journal next upto)) ++ read ∷ []) upto
merge_read journal yielded read rest items next upto pairs merged low within high below =
    let front : List Item = entry_items 0 (take upto journal) in
    let parts = pair_parts GoesFirst yielded read rest pairs in
    let size : length (take upto journal) ≡ upto = length-take-le upto journal within in
    let calls : All (Before read) front =
    All-weaker (Stands upto) (Before read) (λ y h. call_before read y (omega (arith, h.0)) h.1) front
    (entries_stand 0 upto (take upto journal) (omega (arith, size))) in
    record {
      within = within;
      same = ap (λ (l : List Item). l ++ read ∷ []) (merge_upto journal yielded (read ∷ rest) items next upto merged below within)
          ∙ ap (λ (l : List Item). gather l ++ read ∷ []) (sym (append-nil (front ++ yielded)))
          ∙ sym (gather_last read (front ++ yielded) [] (All-append (Before read) front yielded calls parts.0) (All-nil (After read)))
          ∙ ap (λ (l : List Item). gather l) (append_assoc front yielded (read ∷ []));
      before = λ some. All-push (λ (y : Item). y.version ≤ upto) yielded read
          (All-weaker (λ (y : Item). goes_first y read ≡ true) (λ (y : Item). y.version ≤ upto)
          (λ y first. let up : y.version ≤ read.version = first_is_no_higher y read first in omega (arith, up, high some)) yielded parts.0)
          (high some);
      after = All-weaker (λ (y : Item). goes_first read y ≡ true) (λ (y : Item). upto ≤ y.version)
          (λ y first. let up : read.version ≤ y.version = first_is_no_higher read y first in omega (arith, up)) rest parts.1;
    }

-- the next read is no lower than the entries so far
pub merge_above : (journal : List Entry) (yielded : List Item) (read : Item) (rest items : List Item) (next : ℕ)
    → Merged journal yielded (read ∷ rest) items next
    → next ≤ read.version
merge_above journal yielded read rest items next merged = All-head (λ (y : Item). next ≤ y.version) read rest merged.after

-- reads that are put in order before they are merged make the same history
pub gathered_history : (journal : List Entry) (logs : List (List Seen)) (sorted items : List Item) → sorted ≡ gather (logs_items 0 logs)
    → AllPairs (λ a b. goes_first a b ≡ true) sorted → items ≡ gather (entry_items 0 journal ++ sorted) → items ≡ history_of journal logs
unfolding history_of
gathered_history journal logs sorted items same pairs is = is ∙ gather_part (entry_items 0 journal) (logs_items 0 logs) sorted same pairs

pub one_log_items : (log : List Seen) (items : List Item) → items ≡ [] ++ log_items 0 log → items ≡ logs_items 0 (log ∷ [])
unfolding logs_items
one_log_items log items same = same ∙ sym (append-nil (log_items 0 log))

-- the steps of the loops
pub log_pushed : (caller : ℕ) (log : List Seen) (place : ℕ) (read : Seen) (item : Item) (old start new : List Item) → new ≡ old ++ item ∷ []
    → old ≡ start ++ log_items caller (take place log) → item ≡ read_item caller read → read ≡ get_or log place read → place < length log
    → new ≡ start ++ log_items caller (take (place + 1) log)
log_pushed caller log place read item old start new pushed so_far is here within =
    pushed ∙ ap (λ (l : List Item). l ++ item ∷ []) so_far ∙ append_assoc start (log_items caller (take place log)) (item ∷ [])
    ∙ ap (λ (x : Item). start ++ (log_items caller (take place log) ++ x ∷ [])) (is ∙ ap (read_item caller) here)
    ∙ ap (λ (l : List Item). start ++ l) (log_more caller log place read within)

pub log_done : (caller : ℕ) (log : List Seen) (place : ℕ) (items start before : List Item) → items ≡ start ++ log_items caller (take place log)
    → length log ≤ place
    → start ≡ before → items ≡ before ++ log_items caller log
log_done caller log place items start before same past is =
    same ∙ ap (λ (l : List Seen). start ++ log_items caller l) (take_all place log past) ∙ ap (λ (l : List Item). l ++ log_items caller log) is

pub entries_pushed : (version : ℕ) (entries : List Entry) (place : ℕ) (d : Entry) (old start new : List Item)
    → new ≡ old ++ entry_item (version + place) (get_or entries place d) ∷ [] → old ≡ start ++ entry_items version (take place entries)
    → place < length entries
    → new ≡ start ++ entry_items version (take (place + 1) entries)
entries_pushed version entries place d old start new pushed so_far within =
    let x : Item = entry_item (version + place) (get_or entries place d) in
    pushed ∙ ap (λ (l : List Item). l ++ x ∷ []) so_far ∙ append_assoc start (entry_items version (take place entries)) (x ∷ [])
    ∙ ap (λ (l : List Item). start ++ l) (entries_more version entries place d within)

pub entries_done : (version : ℕ) (entries : List Entry) (place : ℕ) (items start : List Item)
    → items ≡ start ++ entry_items version (take place entries)
    → length entries ≤ place → items ≡ start ++ entry_items version entries
entries_done version entries place items start same past =
    same ∙ ap (λ (l : List Entry). start ++ entry_items version l) (take_all place entries past)

pub merge_more : (journal : List Entry) (yielded whole rest all items pushed new : List Item) (read : Item) (next upto : ℕ)
    → AllPairs (λ a b. goes_first a b ≡ true) all → yielded ++ whole ≡ all → whole ≡ read ∷ rest → Merged journal yielded whole items next
    → upto ≡ min read.version (length journal) → pushed ≡ items ++ entry_items next (slice_range journal next upto) → new ≡ pushed ++ read ∷ []
    → Merged journal (yielded ++ read ∷ []) rest new upto
merge_more journal yielded whole rest all items pushed new read next upto pairs split is merged level entries push =
    let old : Merged journal yielded (read ∷ rest) items next = subst (λ (l : List Item). Merged journal yielded l items next) is merged in
    let above : next ≤ read.version = merge_above journal yielded read rest items next old in
    let inside : next ≤ length journal = old.within in
    let made : new ≡ (items ++ entry_items next (slice_range journal next upto)) ++ read ∷ [] = push
    ∙ ap (λ (l : List Item). l ++ read ∷ []) entries in
    subst (λ (l : List Item). Merged journal (yielded ++ read ∷ []) rest l upto) (sym made)
    (merge_read journal yielded read rest items next upto
    (subst (λ (l : List Item). AllPairs (λ a b. goes_first a b ≡ true) (yielded ++ l)) is
    (subst (λ (l : List Item). AllPairs (λ a b. goes_first a b ≡ true) l) (sym split) pairs))
    old (omega arith) (omega arith) (λ some. omega arith) (omega arith))

pub one_more_read : (yielded whole rest all : List Item) (read : Item) → yielded ++ whole ≡ all → whole ≡ read ∷ rest
    → (yielded ++ read ∷ []) ++ rest ≡ all
one_more_read yielded whole rest all read split is = append_assoc yielded (read ∷ []) rest ∙ ap (λ (l : List Item). yielded ++ l) (sym is) ∙ split

-- at the end the rest of the entries is pushed
pub merge_done : (journal : List Entry) (yielded rest all items new : List Item) (next : ℕ) → yielded ++ rest ≡ all → length rest ≡ 0
    → Merged journal yielded rest items next
    → new ≡ items ++ entry_items next (slice_range journal next (length journal)) → new ≡ gather (entry_items 0 journal ++ all)
merge_done journal yielded rest all items new next split none merged pushed =
    let whole : yielded ≡ all = sym (append-nil yielded) ∙ ap (λ (l : List Item). yielded ++ l) (sym (nil_from_length rest none)) ∙ split in
    pushed ∙ merge_upto journal yielded rest items next (length journal) merged merged.within (omega arith)
    ∙ ap (λ (l : List Entry). gather (entry_items 0 l ++ yielded)) (take_all (length journal) journal (omega arith))
    ∙ ap (λ (l : List Item). gather (entry_items 0 journal ++ l)) whole

pub logs_pushed : {V : Type 0} (f : V → List Seen) (logs : List V) (place : ℕ) (v : V) (log : List Seen) (old new : List Item)
    → new ≡ old ++ log_items place log
    → old ≡ logs_items 0 (map f (take place logs)) → log ≡ f v → v ≡ get_or logs place v → place < length logs
    → new ≡ logs_items 0 (map f (take (place + 1) logs))
logs_pushed {V} f logs place v log old new pushed so_far is here within =
    pushed ∙ ap (λ (l : List Item). l ++ log_items place log) so_far
    ∙ ap (λ (l : List Seen). logs_items 0 (map f (take place logs)) ++ log_items place l) (is ∙ ap f here)
    ∙ logs_more f logs place v within

-- the steps of a merge with one log, whose reads are in order
log_parted : (log : List Seen) (place : ℕ) → log_items 0 (take place log) ++ log_items 0 (drop place log) ≡ log_items 0 log
unfolding log_items
log_parted log place =
    sym (map-append (read_item 0) (take place log) (drop place log)) ∙ ap (λ (l : List Seen). map (read_item 0) l) (take-append-drop place log)

log_next : (log : List Seen) (place : ℕ) (read : Seen) → read ≡ get_or log place read → place < length log
    → log_items 0 (drop place log) ≡ read_item 0 read ∷ log_items 0 (drop (place + 1) log)
unfolding log_items
log_next log place read here within =
    ap (λ (l : List Seen). map (read_item 0) l) (drop_more log place read within)
    ∙ ap (λ (r : Seen). read_item 0 r ∷ map (read_item 0) (drop (place + 1) log)) (sym here)

pub merge_log_start : (journal : List Entry) (log : List Seen) (items : List Item) → items ≡ []
    → Merged journal (log_items 0 (take 0 log)) (log_items 0 (drop 0 log)) items 0
unfolding log_items
merge_log_start journal log items none =
    subst (λ (l : List Item). Merged journal [] (map (read_item 0) log) l 0) (sym none) (merge_start journal (map (read_item 0) log))

-- the next read of a log is no lower than the entries so far
pub merge_log_above : (journal : List Entry) (log : List Seen) (place : ℕ) (read : Seen) (items : List Item) (next : ℕ)
    → Merged journal (log_items 0 (take place log)) (log_items 0 (drop place log)) items next → read ≡ get_or log place read → place < length log
    → next ≤ version_of read
merge_log_above journal log place read items next merged here within =
    merge_above journal (log_items 0 (take place log)) (read_item 0 read) (log_items 0 (drop (place + 1) log)) items next
    (subst (λ (l : List Item). Merged journal (log_items 0 (take place log)) l items next) (log_next log place read here within) merged)

pub merge_log_more : (journal : List Entry) (log : List Seen) (place : ℕ) (read : Seen) (item : Item) (items pushed new : List Item) (next upto : ℕ)
    → AllPairs (λ a b. goes_first a b ≡ true) (log_items 0 log)
    → Merged journal (log_items 0 (take place log)) (log_items 0 (drop place log)) items next → read ≡ get_or log place read
    → item ≡ read_item 0 read → upto ≡ min (version_of read) (length journal)
    → pushed ≡ items ++ entry_items next (slice_range journal next upto) → new ≡ pushed ++ item ∷ [] → place < length log
    → Merged journal (log_items 0 (take (place + 1) log)) (log_items 0 (drop (place + 1) log)) new upto
merge_log_more journal log place read item items pushed new next upto pairs merged here is level entries push within =
    let yielded : List Item = log_items 0 (take place log) in
    let rest : List Item = log_items 0 (drop (place + 1) log) in
    let more : yielded ++ read_item 0 read ∷ [] ≡ log_items 0 (take (place + 1) log) =
    ap (λ (r : Seen). yielded ++ read_item 0 r ∷ []) here ∙ log_more 0 log place read within in
    subst (λ (l : List Item). Merged journal l rest new upto) more
    (merge_more journal yielded (log_items 0 (drop place log)) rest (log_items 0 log) items pushed new (read_item 0 read) next upto pairs
    (log_parted log place) (log_next log place read here within) merged level entries
    (push ∙ ap (λ (x : Item). pushed ++ x ∷ []) is))

no_items : log_items 0 [] ≡ []
unfolding log_items
no_items = refl

pub merge_log_done : (journal : List Entry) (log : List Seen) (place : ℕ) (items new : List Item) (next : ℕ)
    → Merged journal (log_items 0 (take place log)) (log_items 0 (drop place log)) items next → length log ≤ place
    → new ≡ items ++ entry_items next (slice_range journal next (length journal)) → new ≡ history_of journal (log ∷ [])
unfolding history_of logs_items
merge_log_done journal log place items new next merged past pushed =
    let none : log_items 0 (drop place log) ≡ [] = ap (λ (l : List Seen). log_items 0 l) (drop_all place log past) ∙ no_items in
    merge_done journal (log_items 0 (take place log)) (log_items 0 (drop place log)) (log_items 0 log) items new next (log_parted log place)
    (ap (λ (l : List Item). length l) none) merged pushed
    ∙ ap (λ (l : List Item). gather (entry_items 0 journal ++ l)) (sym (append-nil (log_items 0 log)))
