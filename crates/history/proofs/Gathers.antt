-- For gathered histories: an item that goes after all others comes last, and items that go before all others come first.
use Rattle.std.proofs.Common.{◌≡◌, ◌<◌, ◌≤◌, ◌∙◌, ℕ, refl, ap, cond, Bool, true, false, not, ◌&&◌, ◌||◌, nat_eq, nat_lt, nat_le, List, [], ◌∷◌, ◌++◌, All, arith}
use Rattle.std.proofs.lemmas.Bool.{cond_both, cond-true, cond-false}
use Rattle.std.proofs.lemmas.Bool.Decides.{nat_tests}
use Rattle.std.proofs.lemmas.List.Elements.{All-cons, All-head, All-tail}
use Rattle.history.specs.declared.items.Item.{Item}
use Rattle.history.specs.Histories.{is_call, goes_first, gather}
use Rattle.history.proofs.SerialOrder.{insert_item}

-- the second of two items may stand before the first
abbrev pub Before : Item → Item → Type 0
Before x y = goes_first y x ≡ true

-- the first of two items has to stand after the second
abbrev pub After : Item → Item → Type 0
After x y = goes_first x y ≡ false

joined : (t : Bool) (xs ys zs : List Item) → cond t (xs ++ zs) (ys ++ zs) ≡ cond t xs ys ++ zs
joined true xs ys zs = refl
joined false xs ys zs = refl

pub insert_before : (x y : Item) (zs : List Item) → Before x y → insert_item y (zs ++ x ∷ []) ≡ insert_item y zs ++ x ∷ []
insert_before x y [] before = cond-true (goes_first y x) (y ∷ x ∷ []) (x ∷ y ∷ []) before
insert_before x y (z ∷ zs) before =
    ap (λ (l : List Item). cond (goes_first y z) (y ∷ z ∷ (zs ++ x ∷ [])) (z ∷ l)) (insert_before x y zs before)
    ∙ joined (goes_first y z) (y ∷ z ∷ zs) (z ∷ insert_item y zs) (x ∷ [])

pub insert_past : (x : Item) (zs : List Item) → All (After x) zs → insert_item x zs ≡ zs ++ x ∷ []
insert_past x [] all = refl
insert_past x (z ∷ zs) all =
    cond-false (goes_first x z) (x ∷ z ∷ zs) (z ∷ insert_item x zs) (All-head (After x) z zs all)
    ∙ ap (λ (l : List Item). z ∷ l) (insert_past x zs (All-tail (After x) z zs all))

all_insert : (P : Item → Type 0) (x : Item) (zs : List Item) → P x → All P zs → All P (insert_item x zs)
all_insert P x [] one all = All-cons P x [] one all
all_insert P x (z ∷ zs) one all =
    cond_both (goes_first x z) (x ∷ z ∷ zs) (z ∷ insert_item x zs) (All P)
    (λ first. All-cons P x (z ∷ zs) one all)
    (λ later. All-cons P z (insert_item x zs) (All-head P z zs all) (all_insert P x zs one (All-tail P z zs all)))

-- what is so of each item stays so
pub all_gather : (P : Item → Type 0) (zs : List Item) → All P zs → All P (gather zs)
all_gather P [] all = all
all_gather P (z ∷ zs) all = all_insert P z (gather zs) (All-head P z zs all) (all_gather P zs (All-tail P z zs all))

-- an item that goes after all others is the last, wherever it came from
pub gather_last : (x : Item) (xs ys : List Item) → All (Before x) xs → All (After x) ys → gather (xs ++ x ∷ ys) ≡ gather (xs ++ ys) ++ x ∷ []
gather_last x [] ys before after = insert_past x (gather ys) (all_gather (After x) ys after)
gather_last x (y ∷ xs) ys before after =
    ap (insert_item y) (gather_last x xs ys (All-tail (Before x) y xs before) after)
    ∙ insert_before x y (gather (xs ++ ys)) (All-head (Before x) y xs before)

-- an item that may stand before all of a list goes among what is before them
insert_among : (x : Item) (zs later : List Item) → All (λ y. goes_first x y ≡ true) later → insert_item x (zs ++ later) ≡ insert_item x zs ++ later
insert_among x [] [] all = refl
insert_among x [] (y ∷ ys) all =
    cond-true (goes_first x y) (x ∷ y ∷ ys) (y ∷ insert_item x ys) (All-head (λ (y : Item). goes_first x y ≡ true) y ys all)
insert_among x (z ∷ zs) later all =
    ap (λ (l : List Item). cond (goes_first x z) (x ∷ z ∷ (zs ++ later)) (z ∷ l)) (insert_among x zs later all)
    ∙ joined (goes_first x z) (x ∷ z ∷ zs) (z ∷ insert_item x zs) later

-- items that may stand before all of a list come before it
pub gather_apart : (xs ys : List Item) → All (λ x. All (λ y. goes_first x y ≡ true) ys) xs → gather (xs ++ ys) ≡ gather xs ++ gather ys
gather_apart [] ys all = refl
gather_apart (x ∷ xs) ys all =
    let apart : Item → Type 0 = λ x. All (λ y. goes_first x y ≡ true) ys in
    ap (insert_item x) (gather_apart xs ys (All-tail apart x xs all))
    ∙ insert_among x (gather xs) (gather ys) (all_gather (λ y. goes_first x y ≡ true) ys (All-head apart x xs all))

below_first : (v w : ℕ) (t : Bool) → v < w → (nat_lt v w || (nat_eq v w && t)) ≡ true
below_first v w t below = grind (arith, nat_tests)

above_first : (v w : ℕ) (t : Bool) → w < v → (nat_lt v w || (nat_eq v w && t)) ≡ false
above_first v w t above = grind (arith, nat_tests)

call_level : (v w : ℕ) (s t : Bool) → v ≤ w → s ≡ true → (nat_lt v w || (nat_eq v w && (s || t))) ≡ true
call_level v w s t below call = grind (arith, nat_tests)

read_level : (v w c d : ℕ) (s t : Bool) → v ≤ w → c ≤ d → t ≡ false → (nat_lt v w || (nat_eq v w && (s || (not t && nat_le c d)))) ≡ true
read_level v w c d s t below level read = grind (arith, nat_tests)

-- when the second of two items may stand before the first, and when it has to
pub lower_before : (x y : Item) → y.version < x.version → Before x y
unfolding goes_first
lower_before x y below = below_first y.version x.version (is_call y.content || (not (is_call x.content) && nat_le y.caller x.caller)) below

pub higher_after : (x y : Item) → y.version < x.version → After x y
unfolding goes_first
higher_after x y below = above_first x.version y.version (is_call x.content || (not (is_call y.content) && nat_le x.caller y.caller)) below

pub call_before : (x y : Item) → y.version ≤ x.version → is_call y.content ≡ true → Before x y
unfolding goes_first
call_before x y below call = call_level y.version x.version (is_call y.content) (not (is_call x.content) && nat_le y.caller x.caller) below call

pub read_before : (x y : Item) → y.version ≤ x.version → y.caller ≤ x.caller → is_call x.content ≡ false → Before x y
unfolding goes_first
read_before x y below level read = read_level y.version x.version y.caller x.caller (is_call y.content) (is_call x.content) below level read
