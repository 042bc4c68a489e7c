-- For the methods of `Progress`: how far the callers are before the first item, after each, and at the end.
use Rattle.std.proofs.Common.{ℕ, ◌≡◌, ◌+◌, ◌<◌, ◌≤◌, ◌∙◌, refl, sym, ap, subst, cond, Bool, true, false, nat_eq, List, [], ◌∷◌, ◌++◌, length, length-append, map, filter, get_or, set, replicate, slice_get, All, Bor, Option, Some, None, arith, inl, inr}
use Rattle.std.specs.Prelude.{Vec, vec_len}
use Rattle.std.specs.List.{last_or, HoldsAt}
use Rattle.std.specs.Option.{option_map, option_copied, MatchOption}
use Rattle.std.specs.declared.alloc.Global.{Global}
use Rattle.std.proofs.lemmas.Bool.{cases_lt, cases_eq, cond-true, cond-false, eq-eqb, ne_eqb}
use Rattle.std.proofs.lemmas.List.{length-set, length-map, length-replicate, get_or-set_same, get_or-set_other, get_or-replicate}
use Rattle.std.proofs.lemmas.List.Elements.{All-nil, All-push, filter-append}
use Rattle.std.proofs.lemmas.List.Sums.{length-filter, count_by-le-length}
use Rattle.std.proofs.lemmas.Option.{slice_get-map, slice_get-get_or, slice_get_within, slice_get_past, get_or_from_slice_get, none-some, same_Some}
use Rattle.trace_reader.specs.declared.trace.TraceLine.{TraceLine}
use Rattle.trace_reader.specs.Values.{AreNumbered}
use Rattle.history.specs.declared.items.Content.{Content}
use Rattle.history.specs.declared.items.Content.TheVariants as contents
use Rattle.history.specs.declared.items.Item.{Item}
use Rattle.history.specs.declared.progress.Progress.TheInside.{Inside}
use Rattle.history.specs.declared.callers.TheConstants.{MOST_THREADS}
use Rattle.history.specs.Threads.{counts_below}
use Rattle.history.specs.Histories.{caller_of, lines_of, items_of, is_call, journal_of}
use Rattle.history.specs.CallerPlaces.{ArePlaces, StandAt}
use Rattle.history.specs.Checking.{next_line}
use Rattle.history.specs.Coming.{ProgressView, lowest_after, IsProgress, HasNoneLeft}
use Rattle.history.specs.Internal.Kept.{progress_of, IsPlaced}
use Rattle.history.specs.Internal.Walks.{IsLowestLeft}
use Rattle.history.proofs.Lists.{slice_get_found}
use Rattle.history.proofs.ThreadCounts.{items_within}
use Rattle.history.proofs.Legal.{calls}
use Rattle.history.proofs.Placed.{count_calls, journal_append}

-- the items of a caller, with one item more
pub items_more : (before : List Item) (item : Item) (caller : ℕ)
    → length (items_of (before ++ item ∷ []) caller) ≡ length (items_of before caller) + cond (nat_eq item.caller caller) 1 0
unfolding items_of
items_more before item caller =
    let own : Item → Bool = λ item. nat_eq item.caller caller in
    ap (λ (l : List Item). length l) (filter-append own before (item ∷ [])) ∙ length-append (filter own before) (filter own (item ∷ []))
    ∙ ap (λ (n : ℕ). length (filter own before) + n) (one_or_none (own item) item)
  where
    one_or_none : (kept : Bool) (item : Item) → length (cond kept (item ∷ []) []) ≡ cond kept 1 0
    one_or_none true item = refl
    one_or_none false item = refl

own_entry : (caller version : ℕ) (content : Content)
    → length (journal_of (record { caller = caller; version = version; content = content } ∷ [])) ≡ cond (is_call content) 1 0
unfolding journal_of
own_entry caller version (contents.Called call reply) = refl
own_entry caller version (contents.Fault page access verdict) = refl
own_entry caller version (contents.List areas) = refl

-- the version with one item more
pub version_more : (before : List Item) (item : Item)
    → length (journal_of (before ++ item ∷ [])) ≡ length (journal_of before) + cond (is_call item.content) 1 0
version_more before item =
    ap (λ l. length l) (journal_append before (item ∷ [])) ∙ length-append (journal_of before) (journal_of (item ∷ []))
    ∙ ap (λ (n : ℕ). length (journal_of before) + n) (own_entry item.caller item.version item.content)

pub last_or-push : (other : Option Item) (items : List Item) (item : Item) → last_or other (items ++ item ∷ []) ≡ Some item
last_or-push other [] item = refl
last_or-push other (first ∷ items) item = last_or-push (Some first) items item

-- there are no more entries than items
pub journal_within : (items : List Item) → length (journal_of items) ≤ length items
journal_within items = omega (arith, count_calls items, length-filter calls items, count_by-le-length calls items)

-- before the first item
pub progress_none : (lines : List TraceLine) (callers : ℕ) (places : List (Vec ℕ Global)) (progress : ProgressView)
    → ArePlaces lines callers places → progress.lines ≡ lines → progress.answered ≡ replicate callers 0 → progress.version ≡ 0
    → progress.lowest ≡ 0 → IsProgress lines [] progress
unfolding items_of journal_of
progress_none lines callers places progress placed its none version lowest =
    let count : length progress.answered ≡ callers = ap (λ (l : List ℕ). length l) none ∙ length-replicate callers 0 in
    record {
      its_lines = its;
      no_lines = λ caller past. placed.no_lines caller (omega (arith, count, past));
      answered = λ caller within. ap (λ (l : List ℕ). get_or l caller 0) none ∙ get_or-replicate callers caller 0 0 (omega (arith, count, within));
      version = version;
      lowest = lowest;
      few = λ caller. omega arith;
      callers = All-nil (λ (item : Item). item.caller < length progress.answered);
    }

-- the places are kept from the first item on
pub placed_none : (callers : ℕ) (fields : Inside) → All (λ line. line.thread < MOST_THREADS) fields.lines.now → AreNumbered fields.lines.now
    → fields.callers ≡ counts_below MOST_THREADS fields.lines.now → ArePlaces fields.lines.now callers fields.places.items
    → fields.answered.items ≡ replicate callers 0 → IsPlaced fields
placed_none callers fields threads numbered counted placed none =
    let count : length fields.answered.items ≡ callers = ap (λ (l : List ℕ). length l) none ∙ length-replicate callers 0 in
    record {
      threads = threads;
      numbered = numbered;
      counted = counted;
      places = subst (λ (n : ℕ). ArePlaces fields.lines.now n fields.places.items) (sym count) placed;
    }

-- and with one answer more
pub placed_more : (old new : Inside) (caller count : ℕ) → IsPlaced old → new.lines ≡ old.lines → new.callers ≡ old.callers
    → new.places ≡ old.places → new.answered.items ≡ set old.answered.items caller count → IsPlaced new
placed_more old new caller count kept lines callers places pushed =
    let same : length new.answered.items ≡ length old.answered.items =
    ap (λ (l : List ℕ). length l) pushed ∙ length-set old.answered.items caller count in
    let its : new.lines.now ≡ old.lines.now = ap (λ (l : Bor (List TraceLine)). l.now) lines in
    record {
      threads = subst (All (λ line. line.thread < MOST_THREADS)) (sym its) kept.threads;
      numbered = subst AreNumbered (sym its) kept.numbered;
      counted = callers ∙ kept.counted ∙ ap (counts_below MOST_THREADS) (sym its);
      places = subst (λ (l : List TraceLine). ArePlaces l (length new.answered.items) new.places.items) (sym its)
          (subst (λ (n : ℕ). ArePlaces old.lines.now n new.places.items) (sym same)
          (subst (λ (v : Vec (Vec ℕ Global) Global). ArePlaces old.lines.now (length old.answered.items) v.items) (sym places) kept.places));
    }

-- a caller with a line left is one of the callers, and has fewer items than lines
pub left_within : (lines : List TraceLine) (before : List Item) (progress : ProgressView) (caller : ℕ) (line : TraceLine)
    → IsProgress lines before progress → next_line lines before caller ≡ Some line → caller < length progress.answered
left_within lines before progress caller line is next = elim (cases_lt caller (length progress.answered)) [
  | inl below ↦ below
  | inr past ↦
      let none : None ≡ next_line lines before caller =
      sym (ap (λ (l : List TraceLine). slice_get l (length (items_of before caller))) (is.no_lines caller past)) in
      absurd (none-some line (none ∙ next))
]

pub left_fewer : (lines : List TraceLine) (before : List Item) (caller : ℕ) (line : TraceLine) → next_line lines before caller ≡ Some line
    → length (items_of before caller) < length (lines_of lines caller)
left_fewer lines before caller line next = slice_get_within (lines_of lines caller) (length (items_of before caller)) line next

once : (m n : ℕ) → m ≡ n → ◌≡◌ {A = ℕ} (cond (nat_eq m n) 1 0) 1
once m n same = cond-true (nat_eq m n) 1 0 (eq-eqb m n same)

never : (m n : ℕ) → (m ≡ n → ⊥) → ◌≡◌ {A = ℕ} (cond (nat_eq m n) 1 0) 0
never m n apart = cond-false (nat_eq m n) 1 0 (ne_eqb m n apart)

-- after an item that answers the next line of its caller
pub progress_more : (lines : List TraceLine) (before : List Item) (item : Item) (line : TraceLine) (old new : ProgressView)
    → IsProgress lines before old → next_line lines before item.caller ≡ Some line → new.lines ≡ old.lines
    → new.answered ≡ set old.answered item.caller (get_or old.answered item.caller 0 + 1)
    → new.version ≡ old.version + cond (is_call item.content) 1 0 → new.lowest ≡ cond (is_call item.content) 0 item.caller
    → IsProgress lines (before ++ item ∷ []) new
progress_more lines before item line old new is next same pushed version lowest =
    let here : item.caller < length old.answered = left_within lines before old item.caller line is next in
    let size : length new.answered ≡ length old.answered =
    ap (λ (l : List ℕ). length l) pushed ∙ length-set old.answered item.caller (get_or old.answered item.caller 0 + 1) in
    record {
      its_lines = same ∙ is.its_lines;
      no_lines = λ caller past. is.no_lines caller (omega (arith, size, past));
      answered = λ caller low.
          let was : get_or old.answered caller 0 ≡ length (items_of before caller) = is.answered caller (omega (arith, size, low)) in
          let now : get_or new.answered caller 0 ≡ get_or (set old.answered item.caller (get_or old.answered item.caller 0 + 1)) caller 0 =
          ap (λ (l : List ℕ). get_or l caller 0) pushed in
          let more : length (items_of (before ++ item ∷ []) caller) ≡ length (items_of before caller) + cond (nat_eq item.caller caller) 1 0 =
          items_more before item caller in
          elim (cases_eq caller item.caller) [
            | inl own ↦
                let set_here : get_or (set old.answered item.caller (get_or old.answered item.caller 0 + 1)) item.caller 0
                ≡ get_or old.answered item.caller 0 + 1 =
                get_or-set_same old.answered item.caller (get_or old.answered item.caller 0 + 1) 0 here in
                let at_own : get_or (set old.answered item.caller (get_or old.answered item.caller 0 + 1)) caller 0
                ≡ get_or old.answered caller 0 + 1 =
                ap (λ (k : ℕ). get_or (set old.answered item.caller (get_or old.answered item.caller 0 + 1)) k 0) own ∙ set_here
                ∙ ap (λ (k : ℕ). get_or old.answered k 0 + 1) (sym own) in
                let one_more = once item.caller caller (sym own) in
                omega (arith, was, now, more, at_own, one_more)
            | inr other ↦
                let kept : get_or (set old.answered item.caller (get_or old.answered item.caller 0 + 1)) caller 0
                ≡ get_or old.answered caller 0 =
                get_or-set_other old.answered item.caller caller (get_or old.answered item.caller 0 + 1) 0 other in
                let none_more = never item.caller caller (λ same. other (sym same)) in
                omega (arith, was, now, more, kept, none_more)
          ];
      version = version ∙ ap (λ (n : ℕ). n + cond (is_call item.content) 1 0) is.version ∙ sym (version_more before item);
      lowest = lowest ∙ sym (ap lowest_after (last_or-push None before item));
      few = λ caller.
          let more : length (items_of (before ++ item ∷ []) caller) ≡ length (items_of before caller) + cond (nat_eq item.caller caller) 1 0 =
          items_more before item caller in
          elim (cases_eq item.caller caller) [
            | inl own ↦
                let one_more = once item.caller caller own in
                let fewer : length (items_of before caller) < length (lines_of lines caller) =
                subst (λ (k : ℕ). length (items_of before k) < length (lines_of lines k)) own (left_fewer lines before item.caller line next) in
                omega (arith, more, one_more, fewer)
            | inr other ↦
                let none_more = never item.caller caller other in
                omega (arith, more, none_more, is.few caller)
          ];
      callers = subst (λ (n : ℕ). All (λ (item : Item). item.caller < n) (before ++ item ∷ [])) (sym size)
          (All-push (λ (item : Item). item.caller < length old.answered) before item is.callers here);
    }

-- there are no more items than lines
pub progress_within : (lines : List TraceLine) (before : List Item) (progress : ProgressView) → IsProgress lines before progress
    → length before ≤ length lines
progress_within lines before progress is = items_within lines before (length progress.answered) is.callers is.few

-- no caller has more lines than there are
pub lines_within : (lines : List TraceLine) (caller : ℕ) → length (lines_of lines caller) ≤ length lines
unfolding lines_of
lines_within lines caller =
    omega (
      arith,
      length-filter (λ (line : TraceLine). nat_eq (caller_of lines line.thread) caller) lines,
      count_by-le-length (λ (line : TraceLine). nat_eq (caller_of lines line.thread) caller) lines,
    )

-- what stands at a place of a caller is its line there
own_line : (lines : List TraceLine) (places : List ℕ) (own : List TraceLine) (count : ℕ) → StandAt lines places own
    → option_map (slice_get lines) (slice_get places count) ≡ option_map Some (slice_get own count)
own_line lines places own count stand =
    sym (slice_get-map (slice_get lines) places count) ∙ ap (λ (l : List (Option TraceLine)). slice_get l count) stand
    ∙ slice_get-map Some own count

next_some : (found : Option TraceLine) (line : Option TraceLine) → Some found ≡ option_map Some line → found ≡ line
next_some found None same = absurd (cc)
next_some found (Some line) same = cc

next_none : (line : Option TraceLine) → None ≡ option_map Some line → None ≡ line
next_none None same = refl
next_none (Some line) same = absurd (cc)

-- the fields of a `Progress`, where its callers are as far as some items say
pub record IsAt (before : List Item) (fields : Inside) : Type 0 where
  pub placed : IsPlaced fields
  pub is : IsProgress fields.lines.now before (progress_of fields)

-- what holds of the lines of its fields holds of the lines of the trace
pub of_fields : (P : List TraceLine → Type 0) (lines : List TraceLine) (before : List Item) (fields : Inside) (progress : ProgressView)
    → progress_of fields ≡ progress → IsPlaced fields → IsProgress lines before progress → (IsAt before fields → P fields.lines.now) → P lines
of_fields P lines before fields progress same placed is shown =
    let own : IsProgress lines before (progress_of fields) = subst (IsProgress lines before) (sym same) is in
    subst P own.its_lines
    (shown (record { placed = placed; is = subst (λ (l : List TraceLine). IsProgress l before (progress_of fields)) (sym own.its_lines) own }))

-- and what is as far is its value
pub own_view : (before : List Item) (fields : Inside) (progress : ProgressView) → progress_of fields ≡ progress → IsAt before fields
    → IsProgress fields.lines.now before progress
own_view before fields progress same at = subst (IsProgress fields.lines.now before) same at.is

-- the next line of a caller, looked up by its place
pub next_found : (before : List Item) (fields : Inside) (caller : ℕ) (own : Vec ℕ Global) (count place : ℕ)
    → IsAt before fields → slice_get fields.places.items caller ≡ Some own → slice_get fields.answered.items caller ≡ Some count
    → slice_get own.items count ≡ Some place → slice_get fields.lines.now place ≡ next_line fields.lines.now before caller
next_found before fields caller own count place at owns counts found =
    let lines : List TraceLine = fields.lines.now in
    let within : caller < length fields.answered.items = slice_get_within fields.answered.items caller count counts in
    let counted : count ≡ length (items_of before caller) = sym (get_or_from_slice_get fields.answered.items caller count 0 counts)
    ∙ at.is.answered caller within in
    let line : Some (slice_get lines place) ≡ option_map Some (slice_get (lines_of lines caller) count) =
    ap (option_map (slice_get lines)) (sym found) ∙ own_line lines own.items (lines_of lines caller) count (at.placed.places.stand caller own owns) in
    next_some (slice_get lines place) (slice_get (lines_of lines caller) count) line ∙ ap (slice_get (lines_of lines caller)) counted

-- an element that was looked up
pub read_at : {X : Type 0} (xs ys : List X) (place : ℕ) (x : X) → ys ≡ xs → place < length ys → x ≡ get_or ys place x
    → slice_get xs place ≡ Some x
read_at xs ys place x same within is =
    ap (λ l. slice_get l place) (sym same) ∙ slice_get-get_or ys place x within ∙ ap Some (sym is)

-- or was not there
pub none_at : {X : Type 0} (xs ys : List X) (place : ℕ) → ys ≡ xs → length ys ≤ place → slice_get xs place ≡ None
none_at xs ys place same past = ap (λ l. slice_get l place) (sym same) ∙ slice_get_past ys place past

pub option_copied-slice_get : {X : Type 0} (xs : List X) (place : ℕ) (found : Option (Bor X))
    → MatchOption found (length xs ≤ place) (λ x. (place < length xs) × HoldsAt (λ y. x.now ≡ y) xs place)
    → option_copied found ≡ slice_get xs place
option_copied-slice_get xs place None past = sym (slice_get_past xs place past)
option_copied-slice_get xs place (Some x) here = ap Some (here.1 x.now) ∙ sym (slice_get-get_or xs place x.now here.0)

-- the lines of the first callers are answered
pub record AreAnswered (fields : Inside) (count : ℕ) : Type 0 where
  pub each : (caller : ℕ) → caller < count → (own : Vec ℕ Global) → slice_get fields.places.items caller ≡ Some own
      → vec_len own ≤ get_or fields.answered.items caller 0

pub answered_none : (fields : Inside) → AreAnswered fields 0
answered_none fields = record { each = λ caller below. absurd (omega arith) }

pub answered_more : (fields : Inside) (count : ℕ) (own : Vec ℕ Global) → AreAnswered fields count
    → slice_get fields.places.items count ≡ Some own → vec_len own ≤ get_or fields.answered.items count 0
    → AreAnswered fields (count + 1)
answered_more fields count own answered owns enough = record {
  each = λ caller below other found. elim (cases_eq caller count) [
    | inl same ↦
        let is : own ≡ other =
        same_Some own other (sym owns ∙ ap (slice_get fields.places.items) (sym same) ∙ found) in
        subst (λ (v : Vec ℕ Global). vec_len v ≤ get_or fields.answered.items caller 0) is
        (subst (λ (k : ℕ). vec_len own ≤ get_or fields.answered.items k 0) (sym same) enough)
    | inr apart ↦ answered.each caller (omega arith) other found
  ];
}

-- a caller has as many places as lines
own_count : (lines : List TraceLine) (callers : ℕ) (places : List (Vec ℕ Global)) (caller : ℕ) (own : Vec ℕ Global)
    → ArePlaces lines callers places → slice_get places caller ≡ Some own → vec_len own ≡ length (lines_of lines caller)
own_count lines callers places caller own placed owns =
    let same : length (map (slice_get lines) own.items) ≡ length (map Some (lines_of lines caller)) =
    ap (λ (l : List (Option TraceLine)). length l) (placed.stand caller own owns) in
    omega (arith, own.ok.0, same, length-map own.items (slice_get lines), length-map (lines_of lines caller) Some)

none_past : (before : List Item) (fields : Inside) (caller : ℕ) → IsAt before fields
    → length fields.answered.items ≤ caller → length (items_of before caller) ≡ length (lines_of fields.lines.now caller)
none_past before fields caller at past =
    let none : length (lines_of fields.lines.now caller) ≡ 0 = ap (λ (l : List TraceLine). length l) (at.is.no_lines caller past) in
    omega (arith, none, at.is.few caller)

all_answered : (before : List Item) (fields : Inside) (caller count : ℕ) → IsAt before fields
    → AreAnswered fields count → caller < count → length (items_of before caller) ≡ length (lines_of fields.lines.now caller)
all_answered before fields caller count at answered below = elim (cases_lt caller (length fields.answered.items)) [
  | inl within ↦
      let found = slice_get_found fields.places.items caller (omega (arith, within, at.placed.places.all)) in
      omega (
        arith,
        at.is.few caller,
        at.is.answered caller within,
        answered.each caller below found.0 found.1,
        own_count fields.lines.now (length fields.answered.items) fields.places.items caller found.0 at.placed.places found.1,
      )
  | inr past ↦ none_past before fields caller at past
]

-- past the last caller no lines are left
pub none_left : (before : List Item) (fields : Inside) (count : ℕ) → IsAt before fields
    → AreAnswered fields count → length fields.answered.items ≤ count → HasNoneLeft fields.lines.now before
none_left before fields count at answered whole = λ caller. elim (cases_lt caller count) [
  | inl below ↦ all_answered before fields caller count at answered below
  | inr past ↦ none_past before fields caller at (omega arith)
]

-- the first caller whose lines are not all answered
pub lowest_left : (before : List Item) (fields : Inside) (caller : ℕ) (own : Vec ℕ Global)
    → IsAt before fields → AreAnswered fields caller → slice_get fields.places.items caller ≡ Some own
    → get_or fields.answered.items caller 0 < vec_len own → IsLowestLeft fields.lines.now before caller
lowest_left before fields caller own at answered owns fewer = record {
  left =
      let placed : caller < length fields.places.items = slice_get_within fields.places.items caller own owns in
      let within : caller < length fields.answered.items = omega (arith, placed, at.placed.places.all) in
      omega (
        arith,
        own_count fields.lines.now (length fields.answered.items) fields.places.items caller own at.placed.places owns,
        at.is.answered caller within,
        fewer,
      );
  lowest = λ lower below. all_answered before fields lower caller at answered below;
}

-- then a line is left
pub some_left : (lines : List TraceLine) (before : List Item) (caller : ℕ) → IsLowestLeft lines before caller → HasNoneLeft lines before → ⊥
some_left lines before caller lowest none = absurd (omega (arith, lowest.left, none caller))
