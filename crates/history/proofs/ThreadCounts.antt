-- For `Callers`: how many lines each thread has, and what follows of the callers and their lines.
use Rattle.std.proofs.Common.{ℕ, zero, suc, ◌≡◌, ◌+◌, ◌-◌, ◌<◌, ◌≤◌, ◌∙◌, refl, sym, ap, subst, cond, Bool, true, false, ◌||◌, nat_eq, nat_lt, List, [], ◌∷◌, ◌++◌, length, get_or, set, take, replicate, filter, sum, count_by, All, arith, inl, inr, zero-add}
use Rattle.std.specs.List.{list_any}
use Rattle.std.proofs.lemmas.Bool.{cases_lt, cases_order, cases_eq, cond-true, cond-false, lt-ltb, eq-eqb, ne_eqb}
use Rattle.std.proofs.lemmas.Bool.Decides.{nat_tests}
use Rattle.std.proofs.lemmas.List.{take-append-le, take_all, take_more, length-set, length-take, length-replicate, get_or-set_same, get_or-set_other, get_or_append_left, get_or-append_right, get_or-replicate, get_or_past, same_lists, length_push}
use Rattle.std.proofs.lemmas.List.Elements.{All-head, All-tail, All-weaker}
use Rattle.std.proofs.lemmas.List.Sums.{sum_by-cons, sum_by_push, length-filter, count_by-le-length}
use Rattle.trace_reader.specs.declared.trace.TraceLine.{TraceLine}
use Rattle.trace_reader.specs.Values.{IsLineValue}
use Rattle.history.specs.declared.items.Item.{Item}
use Rattle.history.specs.Histories.{occurs, caller_of, lines_of, items_of}
use Rattle.history.specs.Threads.{lines_by, counts_below}
use Rattle.history.proofs.CallerOrder.{caller_above, all_occur}

abbrev Positive : ℕ → Bool
Positive n = nat_lt 0 n

-- some element passes where the count of those that do is not 0
some_passes : {X : Type 0} (p : X → Bool) (xs : List X) → nat_lt 0 (count_by p xs) ≡ list_any p xs
some_passes p [] = refl
some_passes {X} p (x ∷ xs) =
    ap (λ (n : ℕ). nat_lt 0 n) (sum_by-cons (λ (x : X). cond (p x) 1 0) x xs) ∙ one_more (p x) (count_by p xs) (list_any p xs) (some_passes p xs)
  where
    one_more : (t : Bool) (n : ℕ) (rest : Bool) → nat_lt 0 n ≡ rest → nat_lt 0 (cond t 1 0 + n) ≡ (t || rest)
    one_more true n rest same = lt-ltb 0 (1 + n) (omega arith)
    one_more false n rest same = ap (λ (m : ℕ). nat_lt 0 m) (zero-add n) ∙ same

-- there is a count for each thread
pub counts_length : (most : ℕ) (lines : List TraceLine) → length (counts_below most lines) ≡ most
unfolding counts_below
counts_length zero lines = refl
counts_length (suc thread) lines =
    let rest : length (counts_below thread lines) ≡ thread = counts_length thread lines in
    omega (arith, length_push (counts_below thread lines) (lines_by lines thread), rest)

pub counts_at : (most : ℕ) (lines : List TraceLine) (thread d : ℕ) → thread < most → get_or (counts_below most lines) thread d ≡ lines_by lines thread
unfolding counts_below
counts_at zero lines thread d below = absurd (omega arith)
counts_at (suc last) lines thread d below =
    let size : length (counts_below last lines) ≡ last = counts_length last lines in
    elim (cases_lt thread last) [
      | inl lower ↦ get_or_append_left (counts_below last lines) (lines_by lines last ∷ []) d thread (omega arith)
          ∙ counts_at last lines thread d lower
      | inr level ↦
          let same : thread ≡ last = omega arith in
          get_or-append_right (counts_below last lines) (lines_by lines last ∷ []) last thread d size level
          ∙ ap (λ (k : ℕ). get_or (lines_by lines last ∷ []) k d) (zero_difference thread last same) ∙ ap (lines_by lines) (sym same)
    ]
  where
    zero_difference : (a b : ℕ) → a ≡ b → a - b ≡ 0
    zero_difference a b same = omega arith

pub counts_taken : (most thread : ℕ) (lines : List TraceLine) → thread ≤ most → take thread (counts_below most lines) ≡ counts_below thread lines
unfolding counts_below
counts_taken zero thread lines below = take_all thread [] (omega arith) ∙ ap (λ (n : ℕ). counts_below n lines) (none_below thread below)
  where
    none_below : (n : ℕ) → n ≤ 0 → 0 ≡ n
    none_below n below = omega arith
counts_taken (suc last) thread lines below =
    let size : length (counts_below last lines) ≡ last = counts_length last lines in
    elim (cases_lt last thread) [
      | inl above ↦
          let same : suc last ≡ thread = omega arith in
          take_all thread (counts_below (suc last) lines) (omega (arith, counts_length (suc last) lines)) ∙ ap (λ (n : ℕ). counts_below n lines) same
      | inr within ↦ take-append-le thread (counts_below last lines) (lines_by lines last ∷ []) (omega arith) ∙ counts_taken last thread lines within
    ]

-- a thread has a line where its count is not 0
pub counted_occurs : (lines : List TraceLine) (thread : ℕ) → nat_lt 0 (lines_by lines thread) ≡ occurs lines thread
counted_occurs lines thread = some_passes (λ (line : TraceLine). nat_eq line.thread thread) lines

callers_counted : (thread : ℕ) (lines : List TraceLine) → count_by Positive (counts_below thread lines) ≡ caller_of lines thread
unfolding caller_of counts_below
callers_counted zero lines = refl
callers_counted (suc thread) lines =
    sum_by_push (λ (n : ℕ). cond (Positive n) 1 0) (counts_below thread lines) (lines_by lines thread)
    ∙ ap (λ (n : ℕ). n + cond (Positive (lines_by lines thread)) 1 0) (callers_counted thread lines)
    ∙ ap (λ (t : Bool). caller_of lines thread + cond t 1 0) (counted_occurs lines thread)

-- the threads with a line that are below a thread are as many as its caller says
pub threads_below : (most : ℕ) (counts : List ℕ) (lines : List TraceLine) (thread : ℕ) → thread ≤ most → counts ≡ counts_below most lines
    → count_by (λ count. nat_lt 0 count) (take thread counts) ≡ caller_of lines thread
threads_below most counts lines thread within same =
    ap (λ (l : List ℕ). count_by Positive (take thread l)) same ∙ ap (λ (l : List ℕ). count_by Positive l) (counts_taken most thread lines within)
    ∙ callers_counted thread lines

-- no more threads below a number have a line than there are
pub busy_few : (thread : ℕ) (counts : List ℕ) → count_by Positive (take thread counts) ≤ thread
busy_few thread counts = let few = count_by-le-length Positive (take thread counts) in let short = length-take thread counts in omega arith

-- at first nothing is counted
pub counts_none : (most : ℕ) → replicate most 0 ≡ counts_below most []
counts_none most =
    same_lists (replicate most 0) (counts_below most []) (length-replicate most 0 ∙ sym (counts_length most []))
    (λ k d within.
    let below : k < most = subst (λ (n : ℕ). k < n) (length-replicate most 0) within in
    get_or-replicate most k 0 d below ∙ sym (counts_at most [] k d below))

-- a count is at most the number of the lines so far
pub counted_few : (most : ℕ) (counts : List ℕ) (lines : List TraceLine) (place thread : ℕ) → counts ≡ counts_below most (take place lines)
    → get_or counts thread 0 ≤ place
counted_few most counts lines place thread same =
    let so_far : List TraceLine = take place lines in
    let size : length counts ≡ most = ap (λ (l : List ℕ). length l) same ∙ counts_length most so_far in
    elim (cases_lt thread most) [
      | inl below ↦
          let is : get_or counts thread 0 ≡ lines_by so_far thread = ap (λ (l : List ℕ). get_or l thread 0) same
          ∙ counts_at most so_far thread 0 below in
          omega (arith, is, count_by-le-length (λ (line : TraceLine). nat_eq line.thread thread) so_far, length-take place lines)
      | inr past ↦ omega (arith, get_or_past counts thread 0 (omega arith))
    ]

lines_by_more : (lines : List TraceLine) (line : TraceLine) (thread : ℕ)
    → lines_by (lines ++ line ∷ []) thread ≡ lines_by lines thread + cond (nat_eq line.thread thread) 1 0
lines_by_more lines line thread = sum_by_push (λ (l : TraceLine). cond (nat_eq l.thread thread) 1 0) lines line

-- one line more
pub counts_more : (most : ℕ) (lines : List TraceLine) (line : TraceLine) → line.thread < most
    → set (counts_below most lines) line.thread (lines_by lines line.thread + 1) ≡ counts_below most (lines ++ line ∷ [])
counts_more most lines line below =
    let old : List ℕ = counts_below most lines in
    let new : List ℕ = set old line.thread (lines_by lines line.thread + 1) in
    let size : length new ≡ most = length-set old line.thread (lines_by lines line.thread + 1) ∙ counts_length most lines in
    same_lists new (counts_below most (lines ++ line ∷ [])) (size ∙ sym (counts_length most (lines ++ line ∷ [])))
    (λ k d within.
    let low : k < most = omega arith in
    let goal : get_or new k d ≡ lines_by lines k + cond (nat_eq line.thread k) 1 0 =
    elim (cases_eq k line.thread) [
      | inl same ↦
          ap (λ (j : ℕ). get_or new j d) same
          ∙ get_or-set_same old line.thread (lines_by lines line.thread + 1) d (omega (arith, counts_length most lines))
          ∙ ap (λ (j : ℕ). lines_by lines j + 1) (sym same)
          ∙ ap (λ (t : Bool). lines_by lines k + cond t 1 0) (sym (eq-eqb line.thread k (sym same)))
      | inr other ↦
          get_or-set_other old line.thread k (lines_by lines line.thread + 1) d other ∙ counts_at most lines k d low
          ∙ sym (plus_zero (lines_by lines k))
          ∙ ap (λ (t : Bool). lines_by lines k + cond t 1 0) (sym (ne_eqb line.thread k (λ same. other (sym same))))
    ] in
    goal ∙ sym (lines_by_more lines line k) ∙ sym (counts_at most (lines ++ line ∷ []) k d low))
  where
    plus_zero : (n : ℕ) → n + 0 ≡ n
    plus_zero n = omega arith

same_kept : {X : Type 0} (P : X → Type 0) (p q : X → Bool) → ((x : X) → P x → p x ≡ q x) → (xs : List X) → All P xs → filter p xs ≡ filter q xs
same_kept P p q same [] all = refl
same_kept {X} P p q same (x ∷ xs) all =
    ap (λ (t : Bool). cond t (x ∷ filter p xs) (filter p xs)) (same x (All-head P x xs all))
    ∙ ap (λ (l : List X). cond (q x) (x ∷ l) l) (same_kept P p q same xs (All-tail P x xs all))

none_kept : {X : Type 0} (p : X → Bool) (xs : List X) → All (λ x. p x ≡ false) xs → filter p xs ≡ []
none_kept p [] all = refl
none_kept {X} p (x ∷ xs) all =
    cond-false (p x) (x ∷ filter p xs) (filter p xs) (All-head (λ (x : X). p x ≡ false) x xs all)
    ∙ none_kept p xs (All-tail (λ (x : X). p x ≡ false) x xs all)

-- threads of a trace are one where their callers are
same_caller : (lines : List TraceLine) (a b : ℕ) → occurs lines a ≡ true → occurs lines b ≡ true
    → nat_eq (caller_of lines a) (caller_of lines b) ≡ nat_eq a b
same_caller lines a b here there = elim (cases_order a b) [
  | inl same ↦ eq-eqb (caller_of lines a) (caller_of lines b) (ap (caller_of lines) same) ∙ sym (eq-eqb a b same)
  | inr apart ↦ elim apart [
    | inl below ↦
        let up : caller_of lines a < caller_of lines b = caller_above lines a b here below in
        ne_eqb (caller_of lines a) (caller_of lines b) (λ same. omega arith) ∙ sym (ne_eqb a b (λ same. omega arith))
    | inr above ↦
        let up : caller_of lines b < caller_of lines a = caller_above lines b a there above in
        ne_eqb (caller_of lines a) (caller_of lines b) (λ same. omega arith) ∙ sym (ne_eqb a b (λ same. omega arith))
  ]
]

-- a caller has the lines of its thread
pub lines_at : (lines : List TraceLine) (thread : ℕ) → occurs lines thread ≡ true
    → length (lines_of lines (caller_of lines thread)) ≡ lines_by lines thread
unfolding lines_of
lines_at lines thread here =
    ap (λ (l : List TraceLine). length l)
    (same_kept (λ line. occurs lines line.thread ≡ true) (λ line. nat_eq (caller_of lines line.thread) (caller_of lines thread))
    (λ line. nat_eq line.thread thread) (λ line there. same_caller lines line.thread thread there here) lines (all_occur lines))
    ∙ length-filter (λ (line : TraceLine). nat_eq line.thread thread) lines

-- each line of a trace with so many threads is of a caller below the last
below_last : (most : ℕ) (lines : List TraceLine) (line : TraceLine) (caller : ℕ) → caller_of lines most ≤ caller → occurs lines line.thread ≡ true
    → line.thread < most → nat_eq (caller_of lines line.thread) caller ≡ false
below_last most lines line caller past here below =
    let up : caller_of lines line.thread < caller_of lines most = caller_above lines line.thread most here below in
    ne_eqb (caller_of lines line.thread) caller (λ same. omega arith)

both : {X : Type 0} (P Q : X → Type 0) (xs : List X) → All P xs → All Q xs → All (λ x. P x × Q x) xs
both P Q xs left right = λ k d within. (left k d within, right k d within)

-- past the last caller there are no lines
pub no_lines_past : (most : ℕ) (lines : List TraceLine) (caller : ℕ) → All (λ line. line.thread < most) lines → caller_of lines most ≤ caller
    → lines_of lines caller ≡ []
unfolding lines_of
no_lines_past most lines caller few past =
    none_kept (λ line. nat_eq (caller_of lines line.thread) caller) lines
    (All-weaker (λ (line : TraceLine). (occurs lines line.thread ≡ true) × (line.thread < most))
    (λ (line : TraceLine). nat_eq (caller_of lines line.thread) caller ≡ false)
    (λ line h. below_last most lines line caller past h.0 h.1) lines
    (both (λ (line : TraceLine). occurs lines line.thread ≡ true) (λ (line : TraceLine). line.thread < most) lines (all_occur lines) few))

-- one line more of a list
pub counts_next : (most : ℕ) (counts : List ℕ) (lines : List TraceLine) (place d : ℕ) (line other : TraceLine)
    → counts ≡ counts_below most (take place lines)
    → place < length lines → line ≡ get_or lines place other → line.thread < most
    → set counts line.thread (get_or counts line.thread d + 1) ≡ counts_below most (take (place + 1) lines)
counts_next most counts lines place d line other same within is below =
    let so_far : List TraceLine = take place lines in
    ap (λ (l : List ℕ). set l line.thread (get_or l line.thread d + 1)) same
    ∙ ap (λ (n : ℕ). set (counts_below most so_far) line.thread (n + 1)) (counts_at most so_far line.thread d below)
    ∙ counts_more most so_far line below
    ∙ ap (λ (x : TraceLine). counts_below most (so_far ++ x ∷ [])) is
    ∙ ap (λ (l : List TraceLine). counts_below most l) (sym (take_more lines place other within))

-- of a caller: where a count stands after as many threads with lines as the caller says, it is the number of its lines
pub found_lines : (most : ℕ) (counts : List ℕ) (lines : List TraceLine) (place count caller d : ℕ) → counts ≡ counts_below most lines
    → place < length counts
    → count ≡ get_or counts place d → 0 < count → caller ≡ count_by (λ count. nat_lt 0 count) (take place counts)
    → count ≡ length (lines_of lines caller)
found_lines most counts lines place count caller d same within is some before =
    let size : length counts ≡ most = ap (λ (l : List ℕ). length l) same ∙ counts_length most lines in
    let below : place < most = omega arith in
    let lines_there : count ≡ lines_by lines place = is ∙ ap (λ (l : List ℕ). get_or l place d) same ∙ counts_at most lines place d below in
    let here : occurs lines place ≡ true = sym (counted_occurs lines place) ∙ lt-ltb 0 (lines_by lines place) (omega arith) in
    lines_there ∙ sym (lines_at lines place here)
    ∙ ap (λ (k : ℕ). length (lines_of lines k)) (sym (before ∙ threads_below most counts lines place (omega arith) same))

-- past the last caller there are none
pub found_none : (most : ℕ) (counts : List ℕ) (lines : List TraceLine) (caller : ℕ) → All (λ line. line.thread < most) lines
    → counts ≡ counts_below most lines
    → count_by (λ count. nat_lt 0 count) counts ≤ caller → 0 ≡ length (lines_of lines caller)
found_none most counts lines caller few same past =
    let size : length counts ≡ most = ap (λ (l : List ℕ). length l) same ∙ counts_length most lines in
    let all : count_by Positive counts ≡ caller_of lines most =
    ap (λ (l : List ℕ). count_by Positive l) (sym (take_all most counts (omega arith))) ∙ threads_below most counts lines most (omega arith) same in
    ap (λ (l : List TraceLine). length l) (sym (no_lines_past most lines caller few (omega arith)))

-- how many elements have a number below this one
tally : {X : Type 0} → (X → ℕ) → ℕ → List X → ℕ
tally f zero xs = 0
tally f (suc n) xs = tally f n xs + count_by (λ x. nat_eq (f x) n) xs

tally_none : {X : Type 0} (f : X → ℕ) (n : ℕ) → tally f n [] ≡ 0
unfolding tally
tally_none f zero = refl
tally_none f (suc n) = let rest : tally f n [] ≡ 0 = tally_none f n in omega arith

none_below_zero : (m : ℕ) → 0 ≡ 0 + cond (nat_lt m 0) 1 0
none_below_zero m = grind (arith, nat_tests)

tally_more : {X : Type 0} (f : X → ℕ) (n : ℕ) (x : X) (xs : List X) → tally f n (x ∷ xs) ≡ tally f n xs + cond (nat_lt (f x) n) 1 0
unfolding tally
tally_more f zero x xs = none_below_zero (f x)
tally_more {X} f (suc n) x xs =
    let rest : tally f n (x ∷ xs) ≡ tally f n xs + cond (nat_lt (f x) n) 1 0 = tally_more f n x xs in
    let here : count_by (λ x. nat_eq (f x) n) (x ∷ xs) ≡ cond (nat_eq (f x) n) 1 0 + count_by (λ x. nat_eq (f x) n) xs =
    sum_by-cons (λ (y : X). cond (nat_eq (f y) n) 1 0) x xs in
    let one : cond (nat_lt (f x) n) 1 0 + cond (nat_eq (f x) n) 1 0 ≡ cond (nat_lt (f x) (suc n)) 1 0 = below_next (f x) n in
    omega (arith, rest, here, one)
  where
    below_next : (m n : ℕ) → cond (nat_lt m n) 1 0 + cond (nat_eq m n) 1 0 ≡ cond (nat_lt m (suc n)) 1 0
    below_next m n = grind (arith, nat_tests)

tally_within : {X : Type 0} (f : X → ℕ) (n : ℕ) (xs : List X) → tally f n xs ≤ length xs
tally_within f n [] = let none : tally f n [] ≡ 0 = tally_none f n in omega arith
tally_within f n (x ∷ xs) =
    let rest : tally f n xs ≤ length xs = tally_within f n xs in
    let more : tally f n (x ∷ xs) ≡ tally f n xs + cond (nat_lt (f x) n) 1 0 = tally_more f n x xs in
    let one : cond (nat_lt (f x) n) 1 0 ≤ 1 = at_most_one (nat_lt (f x) n) in omega arith
  where
    at_most_one : (t : Bool) → cond t 1 0 ≤ 1
    at_most_one true = omega arith
    at_most_one false = omega arith

sum_tallied : (lines : List TraceLine) (counts : List ℕ) (n : ℕ) → n ≤ length counts
    → ((caller d : ℕ) → caller < length counts → get_or counts caller d ≡ length (lines_of lines caller))
    → sum (take n counts) ≡ tally (λ line. caller_of lines line.thread) n lines
unfolding tally lines_of
sum_tallied lines counts zero within each = refl
sum_tallied lines counts (suc n) within each =
    let next : suc n ≡ n + 1 = omega arith in
    let last : ℕ = get_or counts n 0 in
    ap (λ (k : ℕ). sum (take k counts)) next ∙ ap (λ (l : List ℕ). sum l) (take_more counts n 0 (omega arith))
    ∙ sum_by_push (λ (k : ℕ). k) (take n counts) last ∙ ap (λ (k : ℕ). k + last) (sum_tallied lines counts n (omega arith) each)
    ∙ ap (λ (k : ℕ). tally (λ line. caller_of lines line.thread) n lines + k)
    (each n 0 (omega arith) ∙ length-filter (λ (line : TraceLine). nat_eq (caller_of lines line.thread) n) lines)

-- so callers have no more lines together than there are
pub shared_lines : (lines : List TraceLine) (counts : List ℕ)
    → ((caller d : ℕ) → caller < length counts → get_or counts caller d ≡ length (lines_of lines caller))
    → sum counts ≤ length lines
shared_lines lines counts each =
    let whole : sum (take (length counts) counts) ≡ sum counts = ap (λ (l : List ℕ). sum l) (take_all (length counts) counts (omega arith)) in
    omega (
      arith,
      whole,
      sum_tallied lines counts (length counts) (omega arith) each,
      tally_within (λ (line : TraceLine). caller_of lines line.thread)
          (length counts) lines,
    )

-- the threads of a trace that was read are below 64
pub threads_of_trace : (lines : List TraceLine) → All IsLineValue lines → All (λ line. line.thread < 64) lines
threads_of_trace lines values = λ k d within. (values k d within).thread

tally_full : {X : Type 0} (f : X → ℕ) (n : ℕ) (xs : List X) → All (λ x. f x < n) xs → tally f n xs ≡ length xs
tally_full f n [] below = tally_none f n
tally_full {X} f n (x ∷ xs) below =
    let rest : tally f n xs ≡ length xs = tally_full f n xs (All-tail (λ (y : X). f y < n) x xs below) in
    let more : tally f n (x ∷ xs) ≡ tally f n xs + cond (nat_lt (f x) n) 1 0 = tally_more f n x xs in
    omega (arith, rest, more, one_below (f x) n (All-head (λ (y : X). f y < n) x xs below))
  where
    one_below : (m n : ℕ) → m < n → ◌≡◌ {A = ℕ} (cond (nat_lt m n) 1 0) 1
    one_below m n below = cond-true (nat_lt m n) 1 0 (lt-ltb m n below)

tally_rises : {X Y : Type 0} (f : X → ℕ) (g : Y → ℕ) (n : ℕ) (xs : List X) (ys : List Y)
    → ((k : ℕ) → count_by (λ x. nat_eq (f x) k) xs ≤ count_by (λ y. nat_eq (g y) k) ys) → tally f n xs ≤ tally g n ys
unfolding tally
tally_rises f g zero xs ys each = omega arith
tally_rises f g (suc n) xs ys each = omega (arith, tally_rises f g n xs ys each, each n)

-- where each caller has no more items than lines, there are no more items than lines
pub items_within : (lines : List TraceLine) (items : List Item) (callers : ℕ) → All (λ item. item.caller < callers) items
    → ((caller : ℕ) → length (items_of items caller) ≤ length (lines_of lines caller)) → length items ≤ length lines
unfolding items_of lines_of
items_within lines items callers all few =
    let rises : tally (λ (item : Item). item.caller) callers items ≤ tally (λ (line : TraceLine). caller_of lines line.thread) callers lines =
    tally_rises (λ (item : Item). item.caller) (λ (line : TraceLine). caller_of lines line.thread) callers items lines
    (λ k. omega (
      arith,
      few k,
      length-filter (λ (item : Item). nat_eq item.caller k) items,
      length-filter (λ (line : TraceLine). nat_eq (caller_of lines line.thread) k) lines,
    )) in
    omega (
      arith,
      rises,
      tally_full (λ (item : Item). item.caller) callers items all,
      tally_within (λ (line : TraceLine). caller_of lines line.thread) callers lines,
    )
