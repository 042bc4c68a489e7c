-- For the law `rows_by_weight`: rows that weigh what a list weighs, however rows are weighed, are those of the list in some order.
use Rattle.std.proofs.Common.{ℕ, ◌≡◌, ◌≤◌, ◌∙◌, ◌↔◌, refl, sym, ap, subst, List, [], ◌∷◌, ◌++◌, map, get_or, append-nil, arith}
use Rattle.std.specs.List.{sum_by}
use Rattle.std.specs.List.Sorted.{IsPermutation}
use Rattle.std.proofs.lemmas.List.Sorted.{sum_by-IsPermutation}
use Rattle.std.proofs.lemmas.List.Sums.{sum_by-cons, sum_by-append}
use Rattle.mm_types.specs.declared.area.Record.{Record}
use Rattle.mm_types.specs.Packed.{packed}
use Rattle.lock_core.specs.declared.stage.SlotState.{SlotState}
use Rattle.lock_core.specs.Rows.{attached_rows, Exactly}
use Rattle.lock_core.proofs.Weighing.{among, sum_by-attached, sum_by-packed}

-- a list of which each element weighs 1, and which weighs nothing
weighs_none : (xs : List (List ℕ)) → sum_by (λ x. 1) xs ≡ 0 → xs ≡ []
weighs_none [] none = refl
weighs_none (x ∷ xs) none = absurd (omega (arith, none, sum_by-cons (λ (y : List ℕ). 1) x xs))

-- rows that weigh what others weigh are those, in some order
permuted : (xs ys : List (List ℕ)) → ((weight : List ℕ → ℕ) → sum_by weight xs ≡ sum_by weight ys) → IsPermutation xs ys
permuted xs ys same =
    let part = among xs ys (λ weight. omega (arith, same weight)) in
    let one : List ℕ → ℕ = λ x. 1 in
    let none = weighs_none part.0
    (omega (arith, same one, sum_by-append one xs part.0, sum_by-IsPermutation one (xs ++ part.0) ys part.1)) in
    subst (λ (l : List (List ℕ)). IsPermutation l ys) (ap (λ (l : List (List ℕ)). xs ++ l) none ∙ append-nil xs) part.1

pub exactly_permuted : (slots : List SlotState) (areas : List Record) → Exactly slots areas ↔ IsPermutation (attached_rows slots) (map packed areas)
exactly_permuted slots areas = (
  λ exact. permuted (attached_rows slots) (map packed areas)
      (λ weight. sum_by-attached weight slots ∙ exact weight ∙ sym (sum_by-packed weight areas)),
  λ permutation weight. sym (sum_by-attached weight slots)
      ∙ sym (sum_by-IsPermutation weight (attached_rows slots) (map packed areas) permutation) ∙ sum_by-packed weight areas,
)
