-- For `label`: items with the callers of their lines, and reads between two calls that are put in order alone.
use Rattle.std.proofs.Common.{ℕ, zero, suc, ◌≡◌, ◌+◌, ◌*◌, ◌<◌, ◌≤◌, ◌∙◌, refl, sym, ap, subst, cond, Bool, true, false, List, [], ◌∷◌, ◌++◌, append_assoc, length, min, take, drop, get_or, set, All, ◌⊎◌, arith, inl, inr}
use Rattle.std.specs.List.{AllPairs}
use Rattle.std.proofs.lemmas.Bool.{cases_lt}
use Rattle.std.proofs.lemmas.List.{append-nil, take_at, set_at, get_or_at, drop_more, nil_from_length}
use Rattle.std.proofs.lemmas.List.Elements.{All-nil, All-cons, All-head, All-tail, All-push, All-weaker}
use Rattle.trace_reader.specs.declared.trace.TraceLine.{TraceLine}
use Rattle.history.specs.declared.items.Item.{Item}
use Rattle.history.specs.Histories.{occurs, caller_of, is_call, goes_first, gather}
use Rattle.mm_types.specs.declared.call.Entry.{Entry}
use Rattle.mm_types.specs.declared.call.Seen.{Seen}
use Rattle.history.specs.Runs.{entry_items, logs_items, history_of, time_key}
use Rattle.history.specs.Labels.{labelled, label_of}
use Rattle.history.proofs.Sorts.{Small}
use Rattle.history.proofs.Gathers.{Before, After, gather_last, gather_apart}
use Rattle.history.proofs.Orders.{pair_parts, time_of_call, time_of_read, time_first, time_before, labelled_in_time}

-- an item with the caller of a line
abbrev pub relabelled : List TraceLine → TraceLine → Item → Item
relabelled trace line item = record { caller = caller_of trace line.thread; version = item.version; content = item.content }

labelled_next : (trace lines : List TraceLine) (items : List Item) (place : ℕ) (d : TraceLine) (e : Item) → place < length lines
    → place < length items
    → labelled trace (take (suc place) lines) items ≡ labelled trace (take place lines) items ++ relabelled trace (get_or lines place d)
    (get_or items place e) ∷ []
labelled_next trace [] items place d e within inside = absurd (omega arith)
labelled_next trace (line ∷ lines) [] place d e within inside = absurd (omega arith)
labelled_next trace (line ∷ lines) (item ∷ items) zero d e within inside = refl
labelled_next trace (line ∷ lines) (item ∷ items) (suc place) d e within inside =
    ap (λ (l : List Item). relabelled trace line item ∷ l) (labelled_next trace lines items place d e (omega arith) (omega arith))

labelled_size : (trace lines : List TraceLine) (items : List Item) (place : ℕ) → place ≤ length lines → place ≤ length items
    → length (labelled trace (take place lines) items) ≡ place
labelled_size trace lines items zero within inside = refl
labelled_size trace [] items (suc place) within inside = absurd (omega arith)
labelled_size trace (line ∷ lines) [] (suc place) within inside = absurd (omega arith)
labelled_size trace (line ∷ lines) (item ∷ items) (suc place) within inside =
    ap (λ (n : ℕ). suc n) (labelled_size trace lines items place (omega arith) (omega arith))

-- the lines past the shorter of the two make no difference
labelled_taken : (trace lines : List TraceLine) (items : List Item) (place : ℕ) → (length lines ≤ place) ⊎ (length items ≤ place)
    → labelled trace (take place lines) items ≡ labelled trace lines items
labelled_taken trace [] items zero past = refl
labelled_taken trace [] items (suc place) past = refl
labelled_taken trace (line ∷ lines) [] zero past = refl
labelled_taken trace (line ∷ lines) [] (suc place) past = refl
labelled_taken trace (line ∷ lines) (item ∷ items) zero past = absurd (elim past [ inl less ↦ omega arith | inr less ↦ omega arith ])
labelled_taken trace (line ∷ lines) (item ∷ items) (suc place) past =
    ap (λ (l : List Item). relabelled trace line item ∷ l)
    (labelled_taken trace lines items place (elim past [ inl less ↦ inl (omega arith) | inr less ↦ inr (omega arith) ]))

-- one item more has its caller
pub give_more : (trace lines : List TraceLine) (old now : List Item) (place : ℕ) (d : TraceLine) (e x : Item)
    → now ≡ labelled trace (take place lines) old ++ drop place old → place < length lines → place < length old
    → x ≡ relabelled trace (get_or lines place d) (get_or now place e)
    → set now place x ≡ labelled trace (take (place + 1) lines) old ++ drop (place + 1) old
give_more trace lines old now place d e x so_far within inside is =
    let front : List Item = labelled trace (take place lines) old in
    let size : length front ≡ place = labelled_size trace lines old place (omega arith) (omega arith) in
    let y : Item = get_or old place e in
    let next : now ≡ front ++ y ∷ drop (place + 1) old = so_far ∙ ap (λ (l : List Item). front ++ l) (drop_more old place e inside) in
    let there : get_or now place e ≡ y = ap (λ (l : List Item). get_or l place e) next ∙ get_or_at front y (drop (place + 1) old) e place size in
    let made : x ≡ relabelled trace (get_or lines place d) y = is ∙ ap (λ (i : Item). relabelled trace (get_or lines place d) i) there in
    ap (λ (l : List Item). set l place x) next ∙ set_at front y (drop (place + 1) old) x place size
    ∙ ap (λ (i : Item). front ++ i ∷ drop (place + 1) old) made
    ∙ sym (append_assoc front (relabelled trace (get_or lines place d) y ∷ []) (drop (place + 1) old))
    ∙ ap (λ (l : List Item). l ++ drop (place + 1) old)
    (sym (labelled_next trace lines old place d e within inside) ∙ ap (λ (n : ℕ). labelled trace (take n lines) old) (one_more place))
  where
    one_more : (n : ℕ) → suc n ≡ n + 1
    one_more n = omega arith

pub give_done : (trace lines : List TraceLine) (old now : List Item) (place count : ℕ) → now ≡ labelled trace (take place lines) old ++ drop place old
    → count ≤ place → place ≤ count
    → count ≡ min (length lines) (length old) → take count now ≡ labelled trace lines old
give_done trace lines old now place count so_far low high is =
    let same : place ≡ count = omega arith in
    let size : length (labelled trace (take place lines) old) ≡ count = labelled_size trace lines old place (omega arith) (omega arith) ∙ same in
    ap (take count) so_far ∙ take_at (labelled trace (take place lines) old) (drop place old) count size
    ∙ labelled_taken trace lines old place (elim (cases_lt place (length lines)) [ inl less ↦ inr (omega arith) | inr past ↦ inl past ])

-- a thread's caller is at most its number, so items of lines of few threads have small callers
caller_low : (trace : List TraceLine) (thread : ℕ) → caller_of trace thread ≤ thread
unfolding caller_of
caller_low trace zero = omega arith
caller_low trace (suc thread) =
    let low : caller_of trace thread ≤ thread = caller_low trace thread in
    at_most_one (caller_of trace thread) thread (occurs trace thread) low
  where
    at_most_one : (n m : ℕ) (t : Bool) → n ≤ m → n + cond t 1 0 ≤ suc m
    at_most_one n m true low = omega arith
    at_most_one n m false low = omega arith

pub labelled_small : (trace lines : List TraceLine) (items : List Item) → All (λ line. line.thread < 64) lines
    → All Small (labelled trace lines items)
labelled_small trace [] items few = All-nil Small
labelled_small trace (line ∷ lines) [] few = All-nil Small
labelled_small trace (line ∷ lines) (item ∷ items) few =
    let low : caller_of trace line.thread ≤ line.thread = caller_low trace line.thread in
    let thread : line.thread < 64 = All-head (λ (line : TraceLine). line.thread < 64) line lines few in
    All-cons Small (relabelled trace line item) (labelled trace lines items) (omega arith)
    (labelled_small trace lines items (All-tail (λ (line : TraceLine). line.thread < 64) line lines few))

-- Where putting items in order stands. What is done are the items up to the last call, in order; the reads after it wait. Its time parts what is
-- done from the reads and from the rest.
pub record Halfway (yielded rest done reads : List Item) : Type 0 where
  pub front : List Item
  pub version : ℕ
  pub all : front ++ reads ≡ yielded
  pub sorted : done ≡ gather front
  pub before : All (λ x. time_key x ≤ version * 2) front
  pub waiting : All (λ y. version * 2 ≤ time_key y) reads
  pub after : All (λ y. version * 2 ≤ time_key y) rest
  pub no_calls : All (λ y. is_call y.content ≡ false) reads

pub halfway_start : (items : List Item) → Halfway [] items [] []
halfway_start items = record {
  front = [];
  version = 0;
  all = refl;
  sorted = refl;
  before = All-nil (λ (x : Item). time_key x ≤ 0);
  waiting = All-nil (λ (y : Item). 0 ≤ time_key y);
  after = λ k d within. omega arith;
  no_calls = All-nil (λ (y : Item). is_call y.content ≡ false);
}

-- the reads that wait, put in order after what is done
halfway_gathered : (yielded rest done reads : List Item) → Halfway yielded rest done reads → done ++ gather reads ≡ gather yielded
halfway_gathered yielded rest done reads half =
    ap (λ (l : List Item). l ++ gather reads) half.sorted
    ∙ sym (gather_apart half.front reads
    (All-weaker (λ (x : Item). time_key x ≤ half.version * 2) (λ (x : Item). All (λ y. goes_first x y ≡ true) reads)
    (λ x low. λ k d within.
    let y : Item = get_or reads k d in
    let time : time_key y ≡ y.version * 2 + 1 = time_of_read y (half.no_calls k d within) in
    let high : half.version * 2 ≤ time_key y = half.waiting k d within in
    time_first x y (omega (arith, low, time, high))) half.front half.before))
    ∙ ap (λ (l : List Item). gather l) half.all

pub halfway_read : (yielded whole rest done reads : List Item) (read : Item) → whole ≡ read ∷ rest → Halfway yielded whole done reads
    → is_call read.content ≡ false
    → Halfway (yielded ++ read ∷ []) rest done (reads ++ read ∷ [])
halfway_read yielded whole rest done reads read is half no_call =
    let after : All (λ y. half.version * 2 ≤ time_key y) (read ∷ rest) =
    subst (λ (l : List Item). All (λ y. half.version * 2 ≤ time_key y) l) is half.after in
    record {
      front = half.front;
      version = half.version;
      all = sym (append_assoc half.front reads (read ∷ [])) ∙ ap (λ (l : List Item). l ++ read ∷ []) half.all;
      sorted = half.sorted;
      before = half.before;
      waiting = All-push (λ (y : Item). half.version * 2 ≤ time_key y) reads read half.waiting
          (All-head (λ (y : Item). half.version * 2 ≤ time_key y) read rest after);
      after = All-tail (λ (y : Item). half.version * 2 ≤ time_key y) read rest after;
      no_calls = All-push (λ (y : Item). is_call y.content ≡ false) reads read half.no_calls no_call;
    }

pub halfway_call : (items yielded whole rest done reads pushed new : List Item) (call : Item) → AllPairs (λ a b. time_key a ≤ time_key b) items
    → yielded ++ whole ≡ items → whole ≡ call ∷ rest → Halfway yielded whole done reads → is_call call.content ≡ true
    → pushed ≡ done ++ gather reads → new ≡ pushed ++ call ∷ [] → Halfway (yielded ++ call ∷ []) rest new []
halfway_call items yielded whole rest done reads pushed new call pairs split is half calls push made =
    let parts = pair_parts (λ (a : Item) (b : Item). time_key a ≤ time_key b) yielded call rest
    (subst (λ (l : List Item). AllPairs (λ a b. time_key a ≤ time_key b) (yielded ++ l)) is
    (subst (λ (l : List Item). AllPairs (λ a b. time_key a ≤ time_key b) l) (sym split) pairs)) in
    let time : time_key call ≡ call.version * 2 = time_of_call call calls in
    record {
      front = yielded ++ call ∷ [];
      version = call.version;
      all = append-nil (yielded ++ call ∷ []);
      sorted = made ∙ ap (λ (l : List Item). l ++ call ∷ []) (push ∙ halfway_gathered yielded whole done reads half)
          ∙ ap (λ (l : List Item). gather l ++ call ∷ []) (sym (append-nil yielded))
          ∙ sym (gather_last call yielded []
          (All-weaker (λ (y : Item). time_key y ≤ time_key call) (Before call) (λ y low. time_before call y low calls) yielded parts.0)
          (All-nil (After call)));
      before = All-push (λ (x : Item). time_key x ≤ call.version * 2) yielded call
          (All-weaker (λ (y : Item). time_key y ≤ time_key call) (λ (y : Item). time_key y ≤ call.version * 2)
          (λ y low. omega (arith, low, time)) yielded parts.0)
          (omega (arith, time));
      waiting = All-nil (λ (y : Item). call.version * 2 ≤ time_key y);
      after = All-weaker (λ (y : Item). time_key call ≤ time_key y) (λ (y : Item). call.version * 2 ≤ time_key y)
          (λ y high. omega (arith, high, time)) rest parts.1;
      no_calls = All-nil (λ (y : Item). is_call y.content ≡ false);
    }

pub halfway_end : (items yielded rest done reads new : List Item) → yielded ++ rest ≡ items → length rest ≡ 0 → Halfway yielded rest done reads
    → new ≡ done ++ gather reads → new ≡ gather items
halfway_end items yielded rest done reads new split none half push =
    push ∙ halfway_gathered yielded rest done reads half
    ∙ ap (λ (l : List Item). gather l) (sym (append-nil yielded) ∙ ap (λ (l : List Item). yielded ++ l) (sym (nil_from_length rest none)) ∙ split)

pub one_at : (P : Item → Type 0) (yielded whole rest items : List Item) (item : Item) → yielded ++ whole ≡ items → whole ≡ item ∷ rest → All P items
    → P item
one_at P yielded whole rest items item split is all =
    let there : yielded ++ item ∷ rest ≡ items = ap (λ (l : List Item). yielded ++ l) (sym is) ∙ split in
    last_part P yielded item rest (subst (λ (l : List Item). All P l) (sym there) all)
  where
    last_part : (P : Item → Type 0) (xs : List Item) (y : Item) (ys : List Item) → All P (xs ++ y ∷ ys) → P y
    last_part P [] y ys all = All-head P y ys all
    last_part P (x ∷ xs) y ys all = last_part P xs y ys (All-tail P x (xs ++ y ∷ ys) all)

pub given_caller : (trace : List TraceLine) (line : TraceLine) (item now : Item) (caller : ℕ) → caller ≡ caller_of trace line.thread → item ≡ now
    → record { caller = caller; version = item.version; content = item.content } ≡ relabelled trace line now
given_caller trace line item now caller is here =
    ap (λ (k : ℕ). record { caller = k; version = item.version; content = item.content }) is ∙ ap (λ (i : Item). relabelled trace line i) here

-- the labelled items of a gathered history
pub label_in_time : (lines : List TraceLine) (journal : List Entry) (logs : List (List Seen))
    → AllPairs (λ a b. time_key a ≤ time_key b) (labelled lines lines (history_of journal logs))
unfolding history_of
label_in_time lines journal logs = labelled_in_time lines lines (entry_items 0 journal ++ logs_items 0 logs)

pub label_made : (lines : List TraceLine) (journal : List Entry) (log : List Seen) (items : List Item)
    → items ≡ labelled lines lines (history_of journal (log ∷ []))
    → gather items ≡ label_of lines journal log
unfolding label_of
label_made lines journal log items same = ap gather same
