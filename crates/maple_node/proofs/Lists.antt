-- For all laws of trees: lists of items, where they end, and what holds of each.
use Rattle.std.proofs.Common.{ℕ, ◌≡◌, ◌<◌, ◌≤◌, true, false, List, [], ◌∷◌, ◌++◌, length, refl, arith, inl, inr}
use Rattle.std.specs.Prelude.{IsSome, nat_lt}
use Rattle.std.proofs.lemmas.Bool.{cases_lt}
use Rattle.std.proofs.lemmas.Bool.Decides.{nat_tests}
use Rattle.maple_node.specs.declared.item.NodeItem.{NodeItem}
use Rattle.maple_node.specs.Nodes.{items_end, Ascends}
use Rattle.maple_node.specs.Levels.{item_at}

-- where items end that follow others
pub end_of-append : (start : ℕ) (xs ys : List NodeItem) → items_end start (xs ++ ys) ≡ items_end (items_end start xs) ys
end_of-append start [] ys = refl
end_of-append start (x ∷ xs) ys = end_of-append x.end xs ys

-- items that ascend after others that do
pub Ascends-append : (start : ℕ) (xs ys : List NodeItem) → Ascends start xs → Ascends (items_end start xs) ys → Ascends start (xs ++ ys)
Ascends-append start [] ys left right = right
Ascends-append start (x ∷ xs) ys left right = (left.0, Ascends-append x.end xs ys left.1 right)

-- items that ascend end at or above the page where they begin
pub ends_above : (start : ℕ) (xs : List NodeItem) → Ascends start xs → start ≤ items_end start xs
ends_above start [] ascends = omega arith
ends_above start (x ∷ xs) ascends = let later = ends_above x.end xs ascends.1 in omega (arith, ascends.0)

-- and above it, where there are some
pub ends_behind : (start : ℕ) (xs : List NodeItem) → Ascends start xs → 1 ≤ length xs → start < items_end start xs
ends_behind start [] ascends some = absurd (omega arith)
ends_behind start (x ∷ xs) ascends some = let later = ends_above x.end xs ascends.1 in omega (arith, ascends.0)

-- each page from where items begin up to where they end is in one
pub item_at-some : (page start : ℕ) (xs : List NodeItem) → start ≤ page → page < items_end start xs → IsSome (item_at page xs)
item_at-some page start [] above within = absurd (omega arith)
item_at-some page start (x ∷ xs) above within = elim (cases_lt page x.end) as (λ _. IsSome (item_at page (x ∷ xs))) [
  | inl here ↦ let test : nat_lt page x.end ≡ true = grind (arith, nat_tests) in rw test refl
  | inr later ↦ let test : nat_lt page x.end ≡ false = grind (arith, nat_tests) in rw test (item_at-some page x.end xs later within)
]
