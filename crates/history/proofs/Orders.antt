-- For gathering and labelling: lists of items that are in order, and what comes of putting them so.
use Rattle.std.proofs.Common.{ℕ, suc, ◌≡◌, ◌+◌, ◌*◌, ◌^◌, ◌<◌, ◌≤◌, ◌∙◌, refl, sym, ap, subst, cond, Bool, true, false, not, ◌&&◌, ◌||◌, nat_eq, nat_lt, nat_le, List, [], ◌∷◌, ◌++◌, length, length-append, take, drop, get_or, All, arith, inl, inr}
use Rattle.std.specs.List.{AllPairs}
use Rattle.std.proofs.lemmas.Bool.{cases_Bool, cases_lt, cond_both, cond-true, le-leb, leb-true}
use Rattle.std.proofs.lemmas.Bool.Decides.{nat_tests}
use Rattle.std.proofs.lemmas.List.{take_all, take_more, drop_more, get_or_append_left, get_or_at, get_or-append-add, get_or-take, length-take-le}
use Rattle.std.proofs.lemmas.List.Elements.{All-nil, All-cons, All-head, All-tail, All-push, All-weaker, All-from_get_or}
use Rattle.std.proofs.lemmas.List.Kept.{AllPairs-cons}
use Rattle.trace_reader.specs.declared.trace.TraceLine.{TraceLine}
use Rattle.mm_types.proofs.Sorting.{Rises, Rises-sort_by, All-sort_by}
use Rattle.mm_types.specs.Sorts.{sort_by}
use Rattle.mm_types.specs.declared.call.Seen.{Seen}
use Rattle.mm_types.specs.declared.call.Seen.TheVariants as reads
use Rattle.area_rules.specs.Journals.{version_of}
use Rattle.history.specs.declared.items.Item.{Item}
use Rattle.history.specs.Histories.{is_call, goes_first, gather}
use Rattle.history.specs.Runs.{place_key, time_key, read_item, log_items}
use Rattle.history.specs.Labels.{labelled}
use Rattle.history.proofs.SerialOrder.{insert_item}
use Rattle.history.proofs.Legal.{all_log}
use Rattle.history.proofs.Sorts.{Small, goes_alike, gather_is_sort, sorted_rises}
use Rattle.history.proofs.Gathers.{Before, lower_before, higher_after, call_before}

-- the first of two items may stand before the second
abbrev pub GoesFirst : Item → Item → Type 0
GoesFirst a b = goes_first a b ≡ true

-- all later elements of a list that rises are no lower
pub rises_above : {X : Type 0} (key : X → ℕ) (low : ℕ) (xs : List X) → Rises key low xs → All (λ y. low ≤ key y) xs
rises_above {X} key low [] rises = All-nil (λ (y : X). low ≤ key y)
rises_above {X} key low (x ∷ xs) rises =
    All-cons (λ (y : X). low ≤ key y) x xs rises.0
    (All-weaker (λ (y : X). key x ≤ key y) (λ (y : X). low ≤ key y) (λ y above. omega (arith, rises.0)) xs (rises_above key (key x) xs rises.1))

pub rises_pairs : {X : Type 0} (key : X → ℕ) (low : ℕ) (xs : List X) → Rises key low xs → AllPairs (λ a b. key a ≤ key b) xs
rises_pairs key low [] rises = λ i j d before within. absurd (omega arith)
rises_pairs {X} key low (x ∷ xs) rises =
    AllPairs-cons (λ (a : X) (b : X). key a ≤ key b) x xs (rises_above key (key x) xs rises.1) (rises_pairs key (key x) xs rises.1)

-- one more element that is no lower
pub rises_push : {X : Type 0} (key : X → ℕ) (low : ℕ) (xs : List X) (x : X) → Rises key low xs → All (λ y. key y ≤ key x) xs → low ≤ key x
    → Rises key low (xs ++ x ∷ [])
rises_push key low [] x rises below above = (above, tt)
rises_push {X} key low (first ∷ xs) x rises below above = (
  rises.0,
  rises_push key (key first) xs x rises.1 (All-tail (λ (y : X). key y ≤ key x) first xs below) (All-head (λ (y : X). key y ≤ key x) first xs below),
)

-- of a list in which all pairs are related, what goes before an element and what goes after it
pub pair_parts : {X : Type 0} (R : X → X → Type 0) (before : List X) (x : X) (rest : List X) → AllPairs R (before ++ x ∷ rest)
    → All (λ y. R y x) before × All (R x) rest
pair_parts {X} R before x rest pairs =
    let whole : List X = before ++ x ∷ rest in
    let size : length whole ≡ length before + suc (length rest) = length-append before (x ∷ rest) in
    let here : (d : X) → get_or whole (length before) d ≡ x = λ d. get_or_at before x rest d (length before) refl in (
      λ k d within. subst (λ (y : X). R y x) (get_or_append_left before (x ∷ rest) d k within)
          (subst (λ (y : X). R (get_or whole k d) y) (here d) (pairs k (length before) d within (omega arith))),
      λ k d within. subst (λ (y : X). R x y) (get_or-append-add before (x ∷ rest) (suc k) d)
          (subst (λ (y : X). R y (get_or whole (length before + suc k) d)) (here d)
          (pairs (length before) (length before + suc k) d (omega arith) (omega arith))),
    )

-- items whose places rise are in order
pub places_in_order : (low : ℕ) (xs : List Item) → Rises place_key low xs → All Small xs → AllPairs (λ a b. goes_first a b ≡ true) xs
places_in_order low [] rises small = λ i j d before within. absurd (omega arith)
places_in_order low (x ∷ xs) rises small =
    let one : Small x = All-head Small x xs small in
    let rest : All Small xs = All-tail Small x xs small in
    let above : All (λ y. place_key x ≤ place_key y) xs = rises_above place_key (place_key x) xs rises.1 in
    AllPairs-cons GoesFirst x xs
    (λ k d within. goes_alike x (get_or xs k d) one (rest k d within) ∙ le-leb (place_key x) (place_key (get_or xs k d)) (above k d within))
    (places_in_order (place_key x) xs rises.1 rest)

-- and are gathered as they are
pub in_order_gathered : (xs : List Item) → Rises place_key 0 xs → All Small xs → xs ≡ gather xs
in_order_gathered xs rises small = sym (gather_is_sort xs small ∙ sorted_rises place_key 0 xs rises)

-- a sort by place gathers them
pub sort_gathers : (xs ys : List Item) → All Small xs → ys ≡ sort_by place_key xs → ys ≡ gather xs
sort_gathers xs ys small sorted = sorted ∙ sym (gather_is_sort xs small)

pub sort_in_order : (xs ys : List Item) → All Small xs → ys ≡ sort_by place_key xs → AllPairs (λ a b. goes_first a b ≡ true) ys
sort_in_order xs ys small sorted =
    subst (λ (l : List Item). AllPairs (λ a b. goes_first a b ≡ true) l) (sym sorted)
    (places_in_order 0 (sort_by place_key xs) (Rises-sort_by place_key xs) (All-sort_by place_key Small xs small))

-- what goes before the first item of items in order
pub in_order_first : (x : Item) (xs : List Item) → All (λ y. goes_first x y ≡ true) xs → insert_item x xs ≡ x ∷ xs
in_order_first x [] all = refl
in_order_first x (y ∷ ys) all =
    cond-true (goes_first x y) (x ∷ y ∷ ys) (y ∷ insert_item x ys) (All-head (λ (y : Item). goes_first x y ≡ true) y ys all)

pairs_head : {X : Type 0} (R : X → X → Type 0) (x : X) (xs : List X) → AllPairs R (x ∷ xs) → All (R x) xs × AllPairs R xs
pairs_head R x xs pairs =
    (λ k d within. pairs 0 (suc k) d (omega arith) (omega arith), λ i j d before within. pairs (suc i) (suc j) d (omega arith) (omega arith))

pub pairs_gathered : (xs : List Item) → AllPairs (λ a b. goes_first a b ≡ true) xs → gather xs ≡ xs
pairs_gathered [] pairs = refl
pairs_gathered (x ∷ xs) pairs =
    let parts = pairs_head GoesFirst x xs pairs in
    ap (insert_item x) (pairs_gathered xs parts.1) ∙ in_order_first x xs parts.0

-- a part that is gathered first makes no difference
pub gather_part : (xs ys sorted : List Item) → sorted ≡ gather ys → AllPairs (λ a b. goes_first a b ≡ true) sorted
    → gather (xs ++ sorted) ≡ gather (xs ++ ys)
gather_part [] ys sorted same pairs = pairs_gathered sorted pairs ∙ same
gather_part (x ∷ xs) ys sorted same pairs = ap (insert_item x) (gather_part xs ys sorted same pairs)

-- when an item stands, as a number
pub time_of_call : (x : Item) → is_call x.content ≡ true → time_key x ≡ x.version * 2
time_of_call x call = ap (λ (t : Bool). x.version * 2 + cond t 0 1) call ∙ no_more (x.version * 2)
  where
    no_more : (n : ℕ) → n + 0 ≡ n
    no_more n = omega arith

pub time_of_read : (x : Item) → is_call x.content ≡ false → time_key x ≡ x.version * 2 + 1
time_of_read x read = ap (λ (t : Bool). x.version * 2 + cond t 0 1) read

pub time_bounds : (x : Item) → (x.version * 2 ≤ time_key x) × (time_key x ≤ x.version * 2 + 1)
time_bounds x = elim (cases_Bool (is_call x.content)) [
  | inl call ↦ let e : time_key x ≡ x.version * 2 = time_of_call x call in (omega arith, omega arith)
  | inr read ↦ let e : time_key x ≡ x.version * 2 + 1 = time_of_read x read in (omega arith, omega arith)
]

-- an item of an earlier time goes first
pub time_first : (x y : Item) → time_key x < time_key y → goes_first x y ≡ true
time_first x y earlier =
    let low : (x.version * 2 ≤ time_key x) × (time_key x ≤ x.version * 2 + 1) = time_bounds x in
    let high : (y.version * 2 ≤ time_key y) × (time_key y ≤ y.version * 2 + 1) = time_bounds y in
    elim (cases_lt x.version y.version) [
      | inl below ↦ lower_before y x below
      | inr above ↦ elim (cases_Bool (is_call x.content)) [
        | inl call ↦ call_before y x (omega (arith, low.0, high.1)) call
        | inr read ↦ let e : time_key x ≡ x.version * 2 + 1 = time_of_read x read in absurd (omega (arith, e, earlier, high.1, above))
      ]
    ]

-- and a call goes after all that are no later
pub time_before : (x y : Item) → time_key y ≤ time_key x → is_call x.content ≡ true → Before x y
time_before x y earlier call =
    let now : time_key x ≡ x.version * 2 = time_of_call x call in
    elim (cases_Bool (is_call y.content)) [
      | inl other ↦ let e : time_key y ≡ y.version * 2 = time_of_call y other in call_before x y (omega (arith, e, now, earlier)) other
      | inr read ↦ let e : time_key y ≡ y.version * 2 + 1 = time_of_read y read in lower_before x y (omega (arith, e, now, earlier))
    ]

-- the version of an item that goes first is no higher
pub first_is_no_higher : (a b : Item) → goes_first a b ≡ true → a.version ≤ b.version
first_is_no_higher a b first = elim (cases_lt b.version a.version) [
  | inl below ↦ let after : goes_first a b ≡ false = higher_after a b below in absurd (cc)
  | inr level ↦ level
]

no_read_first : (v w c d : ℕ) (s t : Bool) → v ≡ w → t ≡ true → s ≡ false
    → (nat_lt v w || (nat_eq v w && (s || (not t && nat_le c d)))) ≡ true → ⊥
no_read_first v w c d s t level call read first = grind (arith, nat_tests)

-- a read does not go before a call of its version
read_goes_first : (a b : Item) → a.version ≡ b.version → is_call b.content ≡ true → is_call a.content ≡ false → goes_first a b ≡ true → ⊥
unfolding goes_first
read_goes_first a b level call read first =
    no_read_first a.version b.version a.caller b.caller (is_call a.content) (is_call b.content) level call read first

-- an item that goes first is no later
pub first_in_time : (a b : Item) → goes_first a b ≡ true → time_key a ≤ time_key b
first_in_time a b first = elim (cases_lt (time_key b) (time_key a)) [
  | inl below ↦ elim (cases_Bool (is_call b.content)) [
    | inl call ↦
        let e : time_key b ≡ b.version * 2 = time_of_call b call in
        elim (cases_Bool (is_call a.content)) [
          | inl other ↦
              let f : time_key a ≡ a.version * 2 = time_of_call a other in
              let up : a.version ≤ b.version = first_is_no_higher a b first in absurd (omega (arith, e, f, below))
          | inr read ↦
              let f : time_key a ≡ a.version * 2 + 1 = time_of_read a read in
              let up : a.version ≤ b.version = first_is_no_higher a b first in
              let level : a.version ≡ b.version = omega (arith, e, f, below) in
              absurd (read_goes_first a b level call read first)
        ]
    | inr read ↦
        let e : time_key b ≡ b.version * 2 + 1 = time_of_read b read in
        let up : a.version ≤ b.version = first_is_no_higher a b first in absurd (omega (arith, e, below, (time_bounds a).1))
  ]
  | inr level ↦ level
]

later_in_time : (a b : Item) → goes_first a b ≡ false → time_key b ≤ time_key a
later_in_time a b later = elim (cases_lt (time_key a) (time_key b)) [
  | inl below ↦ let first : goes_first a b ≡ true = time_first a b below in absurd (cc)
  | inr level ↦ level
]

-- gathered items rise in time
insert_in_time : (low : ℕ) (x : Item) (xs : List Item) → low ≤ time_key x → Rises time_key low xs → Rises time_key low (insert_item x xs)
insert_in_time low x [] above rises = (above, tt)
insert_in_time low x (y ∷ ys) above rises =
    cond_both (goes_first x y) (x ∷ y ∷ ys) (y ∷ insert_item x ys) (Rises time_key low)
    (λ first. (above, (first_in_time x y first, rises.1)))
    (λ later. (rises.0, insert_in_time (time_key y) x ys (later_in_time x y later) rises.1))

pub gather_in_time : (xs : List Item) → Rises time_key 0 (gather xs)
gather_in_time [] = tt
gather_in_time (x ∷ xs) = insert_in_time 0 x (gather xs) (omega arith) (gather_in_time xs)

-- and with other callers too
labelled_rises : (trace lines : List TraceLine) (low : ℕ) (items : List Item) → Rises time_key low items
    → Rises time_key low (labelled trace lines items)
labelled_rises trace [] low items rises = tt
labelled_rises trace (line ∷ lines) low [] rises = tt
labelled_rises trace (line ∷ lines) low (item ∷ items) rises = (rises.0, labelled_rises trace lines (time_key item) items rises.1)

pub labelled_in_time : (trace lines : List TraceLine) (xs : List Item) → AllPairs (λ a b. time_key a ≤ time_key b) (labelled trace lines (gather xs))
labelled_in_time trace lines xs =
    rises_pairs time_key 0 (labelled trace lines (gather xs)) (labelled_rises trace lines 0 (gather xs) (gather_in_time xs))

-- one element more whose number is no lower
pub rises_more : {X : Type 0} (key : X → ℕ) (xs : List X) (place : ℕ) (x : X) (last now : ℕ) → Rises key 0 (take place xs)
    → All (λ y. key y ≤ last) (take place xs) → x ≡ get_or xs place x → now ≡ key x → last ≤ now → place < length xs
    → Rises key 0 (take (place + 1) xs) × All (λ y. key y ≤ now) (take (place + 1) xs)
rises_more {X} key xs place x last now rises low here is up within =
    let more : take place xs ++ x ∷ [] ≡ take (place + 1) xs =
    ap (λ (y : X). take place xs ++ y ∷ []) here ∙ sym (take_more xs place x within) in
    let below : All (λ y. key y ≤ now) (take place xs) =
    All-weaker (λ (y : X). key y ≤ last) (λ (y : X). key y ≤ now) (λ y h. omega arith) (take place xs) low in (
      subst (λ (l : List X). Rises key 0 l) more
          (rises_push key 0 (take place xs) x rises (subst (λ (n : ℕ). All (λ y. key y ≤ n) (take place xs)) is below)
          (omega arith)),
      subst (λ (l : List X). All (λ y. key y ≤ now) l) more
          (All-push (λ (y : X). key y ≤ now) (take place xs) x below (omega arith)),
    )

-- reads whose versions do not fall have items whose places do not
log_places : (low : ℕ) (log : List Seen) → Rises version_of low log → Rises place_key (low * 2 ^ 33 + 1) (log_items 0 log)
unfolding log_items
log_places low [] rises = tt
log_places low (reads.Fault version page access verdict ∷ log) rises = (omega (arith, rises.0), log_places version log rises.1)
log_places low (reads.Maps version list ∷ log) rises = (omega (arith, rises.0), log_places version log rises.1)

-- such reads are in the order of a history
pub log_in_order : (log : List Seen) → Rises version_of 0 log → AllPairs (λ a b. goes_first a b ≡ true) (log_items 0 log)
log_in_order log rises =
    places_in_order (0 * 2 ^ 33 + 1) (log_items 0 log) (log_places 0 log rises) (all_log Small 0 log (λ k d below. omega arith))

-- where versions do not fall, those from a read on do not
pub falls_no_later : (log : List Seen) (place : ℕ) (read : Seen) (last now : ℕ) → (Rises version_of 0 log → Rises version_of last (drop place log))
    → read ≡ get_or log place read → now ≡ version_of read → place < length log → Rises version_of 0 log
    → (last ≤ now) × Rises version_of now (drop (place + 1) log)
falls_no_later log place read last now later here is within all =
    let more : drop place log ≡ read ∷ drop (place + 1) log =
    drop_more log place read within ∙ ap (λ (x : Seen). x ∷ drop (place + 1) log) (sym here) in
    let both : Rises version_of last (read ∷ drop (place + 1) log) = subst (λ (l : List Seen). Rises version_of last l) more (later all) in
    (omega (arith, is, both.0), subst (λ (n : ℕ). Rises version_of n (drop (place + 1) log)) (sym is) both.1)

versions_above : (version : ℕ) (log : List Seen) → All (λ item. version ≤ item.version) (log_items 0 log) → All (λ read. version ≤ version_of read) log
unfolding log_items
versions_above version [] all = All-nil (λ (read : Seen). version ≤ version_of read)
versions_above version (read ∷ log) all =
    All-cons (λ (read : Seen). version ≤ version_of read) read log
    (All-head (λ (item : Item). version ≤ item.version) (read_item 0 read) (log_items 0 log) all)
    (versions_above version log (All-tail (λ (item : Item). version ≤ item.version) (read_item 0 read) (log_items 0 log) all))

-- and only reads whose versions do not fall are in the order of a history
pub log_rises : (low : ℕ) (log : List Seen) → All (λ read. low ≤ version_of read) log → AllPairs (λ a b. goes_first a b ≡ true) (log_items 0 log)
    → Rises version_of low log
unfolding log_items
log_rises low [] above pairs = tt
log_rises low (read ∷ log) above pairs =
    let x : Item = read_item 0 read in
    let first : All (GoesFirst x) (log_items 0 log) = (pair_parts GoesFirst [] x (log_items 0 log) pairs).1 in (
      All-head (λ (read : Seen). low ≤ version_of read) read log above,
      log_rises (version_of read) log
          (versions_above (version_of read) log
          (All-weaker (GoesFirst x) (λ (y : Item). version_of read ≤ y.version) (λ y goes. first_is_no_higher x y goes) (log_items 0 log) first))
          (λ i j d before within. pairs (suc i) (suc j) d (omega arith) (omega arith)),
    )

pub all_places : (items : List Item) (place : ℕ) → Rises place_key 0 (take place items) → length items ≤ place → Rises place_key 0 items
all_places items place rises past = subst (λ (l : List Item). Rises place_key 0 l) (take_all place items past) rises

-- the place of an item is no more than what bounds the places up to it
pub place_reached : (items : List Item) (place : ℕ) (item : Item) (now : ℕ) → item ≡ get_or items place item → now ≡ place_key item
    → place < length items → (bound : ℕ) → All (λ y. place_key y ≤ bound) (take (place + 1) items) → now ≤ bound
place_reached items place item now here is within bound all =
    let size : length (take (place + 1) items) ≡ place + 1 = length-take-le (place + 1) items (omega arith) in
    let same : get_or (take (place + 1) items) place item ≡ item = get_or-take (place + 1) items place item (omega arith) ∙ sym here in
    let low : place_key item ≤ bound = subst (λ (y : Item). place_key y ≤ bound) same (all place item (omega arith)) in omega arith

-- of items in order none has a place below the greatest of those before it
pub place_falls : (items : List Item) (place : ℕ) (item : Item) (last now : ℕ) → All Small items → AllPairs (λ a b. goes_first a b ≡ true) items
    → ((bound : ℕ) → All (λ y. place_key y ≤ bound) (take place items) → last ≤ bound)
    → item ≡ get_or items place item → now ≡ place_key item → place < length items → now < last → ⊥
place_falls items place item last now small pairs reached here is within falls =
    let size : length (take place items) ≡ place = length-take-le place items (omega arith) in
    let one : Small item = subst Small (sym here) (small place item within) in
    let low : All (λ y. place_key y ≤ place_key item) (take place items) =
    All-from_get_or (λ (y : Item). place_key y ≤ place_key item) (take place items) item (λ k inside.
    let before : k < place = omega (arith, inside, size) in
    let first : goes_first (get_or items k item) item ≡ true =
    subst (λ (y : Item). goes_first (get_or items k item) y ≡ true) (sym here) (pairs k place item before within) in
    let small_too : Small (get_or items k item) = small k item (omega arith) in
    subst (λ (y : Item). place_key y ≤ place_key item) (sym (get_or-take place items k item before))
    (leb-true (place_key (get_or items k item)) (place_key item) (sym (goes_alike (get_or items k item) item small_too one) ∙ first))) in
    let bound : last ≤ place_key item = reached (place_key item) low in omega arith
