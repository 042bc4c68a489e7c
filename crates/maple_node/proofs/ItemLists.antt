-- For `item_at` and all laws of items: which items end up to a page, which end above it, and which has it.
use Rattle.std.proofs.Common.{ℕ, suc, ◌≡◌, ◌<◌, ◌≤◌, ◌+◌, Bool, true, false, List, [], ◌∷◌, ◌++◌, length, take, Some, None, refl, sym, ap, subst, ◌∙◌, arith, inl, inr, length-append}
use Rattle.std.proofs.lemmas.List.{length-take-le}
use Rattle.std.specs.Prelude.{nat_lt, nat_le}
use Rattle.std.proofs.lemmas.Bool.{cases_lt}
use Rattle.std.proofs.lemmas.Bool.Decides.{nat_tests}
use Rattle.maple_node.specs.declared.item.NodeItem.{NodeItem}
use Rattle.maple_node.specs.Nodes.{items_end, Ascends, KeepsNoGap}
use Rattle.maple_node.specs.Levels.{item_at, AllFrom}
use Rattle.maple_node.proofs.Lists.{ends_above}
use Rattle.maple_node.specs.Splices.{ending_by, ending_after}

-- an item that ends up to a page, or above it, before others
pub ending_by-first : (page : ℕ) (x : NodeItem) (xs : List NodeItem) → x.end ≤ page → ending_by page (x ∷ xs) ≡ x ∷ ending_by page xs
ending_by-first page x xs ends = let test : nat_le x.end page ≡ true = grind (arith, nat_tests) in rw test refl

pub ending_by-later : (page : ℕ) (x : NodeItem) (xs : List NodeItem) → page < x.end → ending_by page (x ∷ xs) ≡ ending_by page xs
ending_by-later page x xs ends = let test : nat_le x.end page ≡ false = grind (arith, nat_tests) in rw test refl

pub ending_after-first : (page : ℕ) (x : NodeItem) (xs : List NodeItem) → page < x.end → ending_after page (x ∷ xs) ≡ x ∷ ending_after page xs
ending_after-first page x xs ends = let test : nat_lt page x.end ≡ true = grind (arith, nat_tests) in rw test refl

pub ending_after-later : (page : ℕ) (x : NodeItem) (xs : List NodeItem) → x.end ≤ page → ending_after page (x ∷ xs) ≡ ending_after page xs
ending_after-later page x xs ends = let test : nat_lt page x.end ≡ false = grind (arith, nat_tests) in rw test refl

pub item_at-first : (page : ℕ) (x : NodeItem) (xs : List NodeItem) → page < x.end → item_at page (x ∷ xs) ≡ Some x
item_at-first page x xs ends = let test : nat_lt page x.end ≡ true = grind (arith, nat_tests) in rw test refl

pub item_at-later : (page : ℕ) (x : NodeItem) (xs : List NodeItem) → x.end ≤ page → item_at page (x ∷ xs) ≡ item_at page xs
item_at-later page x xs ends = let test : nat_lt page x.end ≡ false = grind (arith, nat_tests) in rw test refl

-- parts of items that ascend
pub Ascends-left : (start : ℕ) (xs ys : List NodeItem) → Ascends start (xs ++ ys) → Ascends start xs
Ascends-left start [] ys ascends = tt
Ascends-left start (x ∷ xs) ys ascends = (ascends.0, Ascends-left x.end xs ys ascends.1)

pub Ascends-right : (start : ℕ) (xs ys : List NodeItem) → Ascends start (xs ++ ys) → Ascends (items_end start xs) ys
Ascends-right start [] ys ascends = ascends
Ascends-right start (x ∷ xs) ys ascends = Ascends-right x.end xs ys ascends.1

-- what holds of each of joined items and the page where it begins
pub AllFrom-left : (P : ℕ → NodeItem → Type 0) (start : ℕ) (xs ys : List NodeItem) → AllFrom P start (xs ++ ys) → AllFrom P start xs
AllFrom-left P start [] ys all = tt
AllFrom-left P start (x ∷ xs) ys all = (all.0, AllFrom-left P x.end xs ys all.1)

pub AllFrom-right : (P : ℕ → NodeItem → Type 0) (start : ℕ) (xs ys : List NodeItem) → AllFrom P start (xs ++ ys) → AllFrom P (items_end start xs) ys
AllFrom-right P start [] ys all = all
AllFrom-right P start (x ∷ xs) ys all = AllFrom-right P x.end xs ys all.1

pub AllFrom-append : (P : ℕ → NodeItem → Type 0) (start : ℕ) (xs ys : List NodeItem) → AllFrom P start xs → AllFrom P (items_end start xs) ys
    → AllFrom P start (xs ++ ys)
AllFrom-append P start [] ys left right = right
AllFrom-append P start (x ∷ xs) ys left right = (left.0, AllFrom-append P x.end xs ys left.1 right)

-- joined entries keep no gap where both parts keep none
pub IsPlain-left : (leaf : Bool) (xs ys : List NodeItem) → KeepsNoGap leaf (xs ++ ys) → KeepsNoGap leaf xs
IsPlain-left leaf [] ys plain = tt
IsPlain-left true (x ∷ xs) ys plain = (plain.0, IsPlain-left true xs ys plain.1)
IsPlain-left false (x ∷ xs) ys plain = IsPlain-left false xs ys plain

pub IsPlain-right : (leaf : Bool) (xs ys : List NodeItem) → KeepsNoGap leaf (xs ++ ys) → KeepsNoGap leaf ys
IsPlain-right leaf [] ys plain = plain
IsPlain-right true (x ∷ xs) ys plain = IsPlain-right true xs ys plain.1
IsPlain-right false (x ∷ xs) ys plain = IsPlain-right false xs ys plain

pub IsPlain-append : (leaf : Bool) (xs ys : List NodeItem) → KeepsNoGap leaf xs → KeepsNoGap leaf ys → KeepsNoGap leaf (xs ++ ys)
IsPlain-append leaf [] ys left right = right
IsPlain-append true (x ∷ xs) ys left right = (left.0, IsPlain-append true xs ys left.1 right)
IsPlain-append false (x ∷ xs) ys left right = IsPlain-append false xs ys left right

pub IsPlain-ending_by : (leaf : Bool) (page : ℕ) (xs : List NodeItem) → KeepsNoGap leaf xs → KeepsNoGap leaf (ending_by page xs)
IsPlain-ending_by leaf page [] plain = tt
IsPlain-ending_by true page (x ∷ xs) plain = elim (cases_lt page x.end) as (λ _. KeepsNoGap true (ending_by page (x ∷ xs))) [
  | inl above ↦ rw (ending_by-later page x xs above) (IsPlain-ending_by true page xs plain.1)
  | inr within ↦ rw (ending_by-first page x xs within) (plain.0, IsPlain-ending_by true page xs plain.1)
]
IsPlain-ending_by false page (x ∷ xs) plain = elim (cases_lt page x.end) as (λ _. KeepsNoGap false (ending_by page (x ∷ xs))) [
  | inl above ↦ rw (ending_by-later page x xs above) (IsPlain-ending_by false page xs plain)
  | inr within ↦ rw (ending_by-first page x xs within) (IsPlain-ending_by false page xs plain)
]

pub IsPlain-ending_after : (leaf : Bool) (page : ℕ) (xs : List NodeItem) → KeepsNoGap leaf xs → KeepsNoGap leaf (ending_after page xs)
IsPlain-ending_after leaf page [] plain = tt
IsPlain-ending_after true page (x ∷ xs) plain = elim (cases_lt page x.end) as (λ _. KeepsNoGap true (ending_after page (x ∷ xs))) [
  | inl above ↦ rw (ending_after-first page x xs above) (plain.0, IsPlain-ending_after true page xs plain.1)
  | inr within ↦ rw (ending_after-later page x xs within) (IsPlain-ending_after true page xs plain.1)
]
IsPlain-ending_after false page (x ∷ xs) plain = elim (cases_lt page x.end) as (λ _. KeepsNoGap false (ending_after page (x ∷ xs))) [
  | inl above ↦ rw (ending_after-first page x xs above) (IsPlain-ending_after false page xs plain)
  | inr within ↦ rw (ending_after-later page x xs within) (IsPlain-ending_after false page xs plain)
]

-- items that end up to a page, or begin there or above it
pub ending_by_all : (start page : ℕ) (xs : List NodeItem) → Ascends start xs → items_end start xs ≤ page → ending_by page xs ≡ xs
ending_by_all start page [] ascends ends = refl
ending_by_all start page (x ∷ xs) ascends ends =
    let later = ends_above x.end xs ascends.1 in
    rw (ending_by-first page x xs (omega arith)) (ap (λ (ys : List NodeItem). x ∷ ys) (ending_by_all x.end page xs ascends.1 ends))

pub ending_after_none : (start page : ℕ) (xs : List NodeItem) → Ascends start xs → items_end start xs ≤ page → ending_after page xs ≡ []
ending_after_none start page [] ascends ends = refl
ending_after_none start page (x ∷ xs) ascends ends =
    let later = ends_above x.end xs ascends.1 in
    rw (ending_after-later page x xs (omega arith)) (ending_after_none x.end page xs ascends.1 ends)

pub item_at-past : (start page : ℕ) (xs : List NodeItem) → Ascends start xs → items_end start xs ≤ page → item_at page xs ≡ None
item_at-past start page [] ascends ends = refl
item_at-past start page (x ∷ xs) ascends ends =
    let later = ends_above x.end xs ascends.1 in
    rw (item_at-later page x xs (omega arith)) (item_at-past x.end page xs ascends.1 ends)

pub ending_by_none : (start page : ℕ) (xs : List NodeItem) → Ascends start xs → page ≤ start → ending_by page xs ≡ []
ending_by_none start page [] ascends begins = refl
ending_by_none start page (x ∷ xs) ascends begins =
    let first = ascends.0 in
    rw (ending_by-later page x xs (omega arith)) (ending_by_none x.end page xs ascends.1 (omega arith))

pub ending_after_all : (start page : ℕ) (xs : List NodeItem) → Ascends start xs → page ≤ start → ending_after page xs ≡ xs
ending_after_all start page [] ascends begins = refl
ending_after_all start page (x ∷ xs) ascends begins =
    let first = ascends.0 in
    rw (ending_after-first page x xs (omega arith)) (ap (λ (ys : List NodeItem). x ∷ ys) (ending_after_all x.end page xs ascends.1 (omega arith)))

-- the first item ends above the page
pub ending_by_first : (start page : ℕ) (x : NodeItem) (xs : List NodeItem) → Ascends start (x ∷ xs) → page < x.end → ending_by page (x ∷ xs) ≡ []
ending_by_first start page x xs ascends above = rw (ending_by-later page x xs above) (ending_by_none x.end page xs ascends.1 (omega arith))

pub ending_after_first : (start page : ℕ) (x : NodeItem) (xs : List NodeItem) → Ascends start (x ∷ xs) → page < x.end → ending_after page (x ∷ xs) ≡ x ∷ xs
ending_after_first start page x xs ascends above =
    rw (ending_after-first page x xs above) (ap (λ (ys : List NodeItem). x ∷ ys) (ending_after_all x.end page xs ascends.1 (omega arith)))

-- those that end up to a page are followed by those that end above it
pub ending_by-ending_after : (start page : ℕ) (xs : List NodeItem) → Ascends start xs → ending_by page xs ++ ending_after page xs ≡ xs
ending_by-ending_after start page [] ascends = refl
ending_by-ending_after start page (x ∷ xs) ascends = elim (cases_lt page x.end) as (λ _. ending_by page (x ∷ xs) ++ ending_after page (x ∷ xs) ≡ x ∷ xs) [
  | inl above ↦ rw (ending_by_first start page x xs ascends above, ending_after_first start page x xs ascends above) refl
  | inr within ↦ rw (ending_by-first page x xs within, ending_after-later page x xs within)
      (ap (λ (ys : List NodeItem). x ∷ ys) (ending_by-ending_after x.end page xs ascends.1))
]

-- they end up to the page
pub ending_by_below : (start page : ℕ) (xs : List NodeItem) → start ≤ page → items_end start (ending_by page xs) ≤ page
ending_by_below start page [] begins = begins
ending_by_below start page (x ∷ xs) begins = elim (cases_lt page x.end) as (λ _. items_end start (ending_by page (x ∷ xs)) ≤ page) [
  | inl above ↦ rw (ending_by-later page x xs above) (ending_by_below start page xs begins)
  | inr within ↦ rw (ending_by-first page x xs within) (ending_by_below x.end page xs within)
]

-- and where they begin or above it
pub end_ending_by : (start page : ℕ) (xs : List NodeItem) → Ascends start xs → start ≤ items_end start (ending_by page xs)
end_ending_by start page xs ascends =
    let joined : Ascends start (ending_by page xs ++ ending_after page xs) =
    let whole : List NodeItem → Type 0 = λ ys. Ascends start ys in subst whole (sym (ending_by-ending_after start page xs ascends)) ascends in
    ends_above start (ending_by page xs) (Ascends-left start (ending_by page xs) (ending_after page xs) joined)

-- a part of items, filtered, is no longer than the items
pub length-ending_by : (page : ℕ) (xs : List NodeItem) → length (ending_by page xs) ≤ length xs
length-ending_by page [] = omega arith
length-ending_by page (x ∷ xs) =
    let later = length-ending_by page xs in
    elim (cases_lt page x.end) as (λ _. length (ending_by page (x ∷ xs)) ≤ suc (length xs)) [
      | inl above ↦ rw (ending_by-later page x xs above) (omega arith)
      | inr within ↦ rw (ending_by-first page x xs within) (omega arith)
    ]

pub length-ending_after : (page : ℕ) (xs : List NodeItem) → length (ending_after page xs) ≤ length xs
length-ending_after page [] = omega arith
length-ending_after page (x ∷ xs) =
    let later = length-ending_after page xs in
    elim (cases_lt page x.end) as (λ _. length (ending_after page (x ∷ xs)) ≤ suc (length xs)) [
      | inl above ↦ rw (ending_after-first page x xs above) (omega arith)
      | inr within ↦ rw (ending_after-later page x xs within) (omega arith)
    ]

-- there is room for one more of the items that are left
pub room_left : (place : ℕ) (before list some items : List NodeItem) → list ≡ before ++ some → length some ≤ length (take place items)
    → place < length items → length before + length items ≤ 40 → length list < 40
room_left place before list some items is short there room =
    let joined : length list ≡ length before + length some = ap length is ∙ length-append before some in
    omega (arith, length-take-le place items (omega arith))

-- the item that has a page is the first of those that end above it
pub record Stands (start page : ℕ) (xs : List NodeItem) (item : NodeItem) : Type 0 where
  pub above : page < item.end
  pub within : item.end ≤ items_end start xs
  pub ending_after : ending_after page xs ≡ item ∷ ending_after item.end xs

pub stands : (start page : ℕ) (xs : List NodeItem) (item : NodeItem) → Ascends start xs → item_at page xs ≡ Some item → Stands start page xs item
stands start page [] item ascends found = absurd (cc)
stands start page (x ∷ xs) item ascends found = elim (cases_lt page x.end) as (λ _. Stands start page (x ∷ xs) item) [
  | inl above ↦
      let first : Some x ≡ Some item = sym (item_at-first page x xs above) ∙ found in
      let same : x ≡ item = cc in
      let Here : NodeItem → Type 0 = λ y. Stands start page (x ∷ xs) y in
      subst Here same (record {
        above = above;
        within = ends_above x.end xs ascends.1;
        ending_after = rw (ending_after_first start page x xs ascends above, ending_after-later x.end x xs (omega arith), ending_after_all x.end x.end xs ascends.1 (omega arith)) refl;
      })
  | inr within ↦
      let deep = stands x.end page xs item ascends.1 (sym (item_at-later page x xs within) ∙ found) in
      let high = deep.above in
      record {
        above = deep.above;
        within = deep.within;
        ending_after = rw (ending_after-later page x xs within, ending_after-later item.end x xs (omega arith)) deep.ending_after;
      }
]

-- no item has a page where they end or above that
pub item_at-none : (start page : ℕ) (xs : List NodeItem) → item_at page xs ≡ None → start ≤ page → items_end start xs ≤ page
item_at-none start page [] none begins = begins
item_at-none start page (x ∷ xs) none begins = elim (cases_lt page x.end) as (λ _. items_end start (x ∷ xs) ≤ page) [
  | inl above ↦ let first = sym (item_at-first page x xs above) ∙ none in absurd (cc)
  | inr within ↦ item_at-none x.end page xs (sym (item_at-later page x xs within) ∙ none) within
]

-- and one has each page below that
pub record Found (page : ℕ) (xs : List NodeItem) : Type 0 where
  pub item : NodeItem
  pub is : item_at page xs ≡ Some item

pub found_at : (start page : ℕ) (xs : List NodeItem) → start ≤ page → page < items_end start xs → Found page xs
found_at start page [] begins within = absurd (omega arith)
found_at start page (x ∷ xs) begins within = elim (cases_lt page x.end) as (λ _. Found page (x ∷ xs)) [
  | inl above ↦ record { item = x; is = item_at-first page x xs above }
  | inr later ↦ let deep = found_at x.end page xs later within in
      record { item = deep.item; is = item_at-later page x xs later ∙ deep.is }
]

-- it is among the first ones where these end above the page, and otherwise among the others
pub item_at-left : (start page : ℕ) (xs ys : List NodeItem) → start ≤ page → page < items_end start xs → item_at page (xs ++ ys) ≡ item_at page xs
item_at-left start page [] ys begins within = absurd (omega arith)
item_at-left start page (x ∷ xs) ys begins within = elim (cases_lt page x.end) as (λ _. item_at page (x ∷ (xs ++ ys)) ≡ item_at page (x ∷ xs)) [
  | inl above ↦ item_at-first page x (xs ++ ys) above ∙ sym (item_at-first page x xs above)
  | inr later ↦ item_at-later page x (xs ++ ys) later ∙ item_at-left x.end page xs ys later within ∙ sym (item_at-later page x xs later)
]

pub item_at-right : (start page : ℕ) (xs ys : List NodeItem) → Ascends start xs → items_end start xs ≤ page → item_at page (xs ++ ys) ≡ item_at page ys
item_at-right start page [] ys ascends ends = refl
item_at-right start page (x ∷ xs) ys ascends ends =
    let later = ends_above x.end xs ascends.1 in
    item_at-later page x (xs ++ ys) (omega arith) ∙ item_at-right x.end page xs ys ascends.1 ends

-- what holds of each item and the page where it begins holds of the one that has a page
pub AllFrom-at : (P : ℕ → NodeItem → Type 0) (start page : ℕ) (xs : List NodeItem) (item : NodeItem) → Ascends start xs → AllFrom P start xs
    → item_at page xs ≡ Some item → P (items_end start (ending_by page xs)) item
AllFrom-at P start page [] item ascends all found = absurd (cc)
AllFrom-at P start page (x ∷ xs) item ascends all found =
    let Holds : List NodeItem → Type 0 = λ ys. P (items_end start ys) item in
    elim (cases_lt page x.end) as (λ _. Holds (ending_by page (x ∷ xs))) [
      | inl above ↦
          let first : Some x ≡ Some item = sym (item_at-first page x xs above) ∙ found in
          let same : x ≡ item = cc in
          let Of : NodeItem → Type 0 = λ y. P start y in
          rw (ending_by_first start page x xs ascends above) (subst Of same all.0)
      | inr within ↦
          rw (ending_by-first page x xs within) (AllFrom-at P x.end page xs item ascends.1 all.1 (sym (item_at-later page x xs within) ∙ found))
    ]

-- the items that end above a page ascend from it, and end where all do
pub ending_after-ascends : (start page : ℕ) (xs : List NodeItem) → Ascends start xs → start ≤ page → Ascends page (ending_after page xs)
ending_after-ascends start page [] ascends begins = tt
ending_after-ascends start page (x ∷ xs) ascends begins = elim (cases_lt page x.end) as (λ _. Ascends page (ending_after page (x ∷ xs))) [
  | inl above ↦ rw (ending_after_first start page x xs ascends above) (above, ascends.1)
  | inr within ↦ rw (ending_after-later page x xs within) (ending_after-ascends x.end page xs ascends.1 within)
]

pub ending_after-ends : (start page : ℕ) (xs : List NodeItem) → Ascends start xs → start ≤ page → page ≤ items_end start xs
    → items_end page (ending_after page xs) ≡ items_end start xs
ending_after-ends start page [] ascends begins within = omega arith
ending_after-ends start page (x ∷ xs) ascends begins within = elim (cases_lt page x.end) as (λ _. items_end page (ending_after page (x ∷ xs)) ≡ items_end x.end xs) [
  | inl above ↦ rw (ending_after_first start page x xs ascends above) refl
  | inr later ↦ rw (ending_after-later page x xs later) (ending_after-ends x.end page xs ascends.1 later within)
]

-- those that end up to a page ascend
pub ending_by-ascends : (start page : ℕ) (xs : List NodeItem) → Ascends start xs → Ascends start (ending_by page xs)
ending_by-ascends start page xs ascends =
    let Whole : List NodeItem → Type 0 = λ ys. Ascends start ys in
    Ascends-left start (ending_by page xs) (ending_after page xs) (subst Whole (sym (ending_by-ending_after start page xs ascends)) ascends)
