-- For gathered histories: their order is that of a number, and a stable sort by a number keeps the order of what a filter keeps.
use Rattle.std.proofs.Common.{ℕ, ◌≡◌, ◌+◌, ◌*◌, ◌^◌, ◌<◌, ◌≤◌, ◌∙◌, refl, sym, ap, cond, Bool, true, false, not, ◌&&◌, ◌||◌, nat_eq, nat_lt, nat_le, List, [], ◌∷◌, filter, All, arith}
use Rattle.std.proofs.lemmas.Bool.{cond_both, cond-true, cond-false}
use Rattle.std.proofs.lemmas.Bool.Decides.{nat_tests}
use Rattle.std.proofs.lemmas.List.Elements.{All-head, All-tail, All-filter}
use Rattle.mm_types.specs.Sorts.{sort_by}
use Rattle.mm_types.proofs.Sorting.{insert_by, filter-sort_by, Rises, Rises-sort_by, same_from_filters, All-sort_by}
use Rattle.history.specs.declared.items.Item.{Item}
use Rattle.history.specs.Histories.{is_call, items_of, goes_first, gather}
use Rattle.history.specs.Runs.{place_key}
use Rattle.history.proofs.SerialOrder.{insert_item}

-- an item whose caller has 32 bits
abbrev pub Small : Item → Type 0
Small item = item.caller < 2 ^ 32

goes_by_number : (s t : Bool) (v w c d : ℕ) → c < 2 ^ 32 → d < 2 ^ 32
    → (nat_lt v w || (nat_eq v w && (s || (not t && nat_le c d)))) ≡ nat_le (v * 2 ^ 33 + cond s 0 (c + 1)) (w * 2 ^ 33 + cond t 0 (d + 1))
goes_by_number true true v w c d small other = grind (arith, nat_tests)
goes_by_number true false v w c d small other = grind (arith, nat_tests)
goes_by_number false true v w c d small other = grind (arith, nat_tests)
goes_by_number false false v w c d small other = grind (arith, nat_tests)

-- of two items the one of the lower number goes first
pub goes_alike : (a b : Item) → Small a → Small b → goes_first a b ≡ nat_le (place_key a) (place_key b)
unfolding goes_first
goes_alike a b small other = goes_by_number (is_call a.content) (is_call b.content) a.version b.version a.caller b.caller small other

insert_alike : (x : Item) (xs : List Item) → Small x → All Small xs → insert_item x xs ≡ insert_by place_key x xs
insert_alike x [] one all = refl
insert_alike x (y ∷ ys) one all =
    ap (λ (t : Bool). cond t (x ∷ y ∷ ys) (y ∷ insert_item x ys)) (goes_alike x y one (All-head Small y ys all))
    ∙ ap (λ (l : List Item). cond (nat_le (place_key x) (place_key y)) (x ∷ y ∷ ys) (y ∷ l)) (insert_alike x ys one (All-tail Small y ys all))

-- so a history is gathered by a sort by that number
pub gather_is_sort : (xs : List Item) → All Small xs → gather xs ≡ sort_by place_key xs
gather_is_sort [] all = refl
gather_is_sort (x ∷ xs) all =
    let rest : All Small xs = All-tail Small x xs all in
    ap (insert_item x) (gather_is_sort xs rest)
    ∙ insert_alike x (sort_by place_key xs) (All-head Small x xs all) (All-sort_by place_key Small xs rest)

rises_lower : {X : Type 0} (key : X → ℕ) (low other : ℕ) (xs : List X) → other ≤ low → Rises key low xs → Rises key other xs
rises_lower key low other [] below rises = tt
rises_lower key low other (x ∷ xs) below rises = (omega (arith, rises.0), rises.1)

-- what a filter keeps of a list that rises does so too
pub rises_filter : {X : Type 0} (key : X → ℕ) (p : X → Bool) (low : ℕ) (xs : List X) → Rises key low xs → Rises key low (filter p xs)
rises_filter key p low [] rises = tt
rises_filter key p low (x ∷ xs) rises =
    cond_both (p x) (x ∷ filter p xs) (filter p xs) (Rises key low)
    (λ kept. (rises.0, rises_filter key p (key x) xs rises.1))
    (λ dropped. rises_lower key (key x) low (filter p xs) rises.0 (rises_filter key p (key x) xs rises.1))

swap_step : {X : Type 0} (s t : Bool) (p q : X → Bool) (x : X) (xs : List X) → p x ≡ s → q x ≡ t → filter p (filter q xs) ≡ filter q (filter p xs)
    → filter p (cond t (x ∷ filter q xs) (filter q xs)) ≡ filter q (cond s (x ∷ filter p xs) (filter p xs))
swap_step {X} true true p q x xs left right same =
    cond-true (p x) (x ∷ filter p (filter q xs)) (filter p (filter q xs)) left ∙ ap (λ (l : List X). x ∷ l) same
    ∙ sym (cond-true (q x) (x ∷ filter q (filter p xs)) (filter q (filter p xs)) right)
swap_step true false p q x xs left right same = same ∙ sym (cond-false (q x) (x ∷ filter q (filter p xs)) (filter q (filter p xs)) right)
swap_step false true p q x xs left right same = cond-false (p x) (x ∷ filter p (filter q xs)) (filter p (filter q xs)) left ∙ same
swap_step false false p q x xs left right same = same

-- two filters, either way round
pub filter_swap : {X : Type 0} (p q : X → Bool) (xs : List X) → filter p (filter q xs) ≡ filter q (filter p xs)
filter_swap p q [] = refl
filter_swap p q (x ∷ xs) = swap_step (p x) (q x) p q x xs refl refl (filter_swap p q xs)

-- a stable sort keeps the order of what a filter keeps
pub filter_sort : {X : Type 0} (key : X → ℕ) (p : X → Bool) (xs : List X) → filter p (sort_by key xs) ≡ sort_by key (filter p xs)
filter_sort {X} key p xs =
    same_from_filters key 0 (filter p (sort_by key xs)) 0 (sort_by key (filter p xs))
    (rises_filter key p 0 (sort_by key xs) (Rises-sort_by key xs)) (Rises-sort_by key (filter p xs))
    (λ x. let q : X → Bool = λ y. nat_eq (key y) (key x) in
    filter_swap q p (sort_by key xs) ∙ ap (filter p) (filter-sort_by key (key x) xs) ∙ filter_swap p q xs
    ∙ sym (filter-sort_by key (key x) (filter p xs)))

-- a list that rises is sorted
pub sorted_rises : {X : Type 0} (key : X → ℕ) (low : ℕ) (xs : List X) → Rises key low xs → sort_by key xs ≡ xs
sorted_rises key low xs rises = same_from_filters key 0 (sort_by key xs) low xs (Rises-sort_by key xs) rises (λ x. filter-sort_by key (key x) xs)

-- what a caller did comes in the order of its own items
pub gather_by_caller : (xs : List Item) (caller : ℕ) → All Small xs → items_of (gather xs) caller ≡ gather (items_of xs caller)
unfolding items_of
gather_by_caller xs caller all =
    let p : Item → Bool = λ item. nat_eq item.caller caller in
    ap (filter p) (gather_is_sort xs all) ∙ filter_sort place_key p xs ∙ sym (gather_is_sort (filter p xs) (All-filter p Small xs all))

-- the calls of a history go as they would alone
pub gather_calls : (xs : List Item) → All Small xs → filter (λ item. is_call item.content) (gather xs) ≡ gather
    (filter (λ item. is_call item.content) xs)
gather_calls xs all =
    let p : Item → Bool = λ item. is_call item.content in
    ap (filter p) (gather_is_sort xs all) ∙ filter_sort place_key p xs ∙ sym (gather_is_sort (filter p xs) (All-filter p Small xs all))
