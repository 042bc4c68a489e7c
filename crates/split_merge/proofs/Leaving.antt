-- For `remove_olds`: the areas of a plan go out one after the other.
use Rattle.std.proofs.Common.{◌≡◌, ◌≢◌, ◌<◌, ◌+◌, ℕ, false, List, [], ◌∷◌, ◌++◌, length, take, drop, get_or, ap, ◌∙◌, sym, subst, All, AllPairs}
use Rattle.std.specs.List.{Contains, AllByRecursion as Each}
use Rattle.std.proofs.lemmas.List.Elements.{All-from_recursion, recursion_from_All}
use Rattle.mm_types.specs.declared.area.Record.{Record}
use Rattle.area_list.proofs.Elements.{Pairs, Each-also, Each-left, Each-right}
use Rattle.split_merge.specs.declared.plan.Change.{Change}
use Rattle.split_merge.specs.Plans.{olds_of, starts_alike, without}
use Rattle.split_merge.proofs.Counting.{Pairs-from_AllPairs, unlike}
use Rattle.split_merge.proofs.Lists.{Pairs-right, Pairs-across}
use Rattle.split_merge.specs.Sorted.{BeginsAscend}
use Rattle.split_merge.proofs.Editing.{olds_around, olds_from}
use Rattle.split_merge.proofs.Going.{ascending_pairs, contains_without, without-append, without_swap}

module _ (areas : List Record) (changes : List Change) (ascend : BeginsAscend areas) (members : All (Contains areas) (olds_of changes))
    (distinct : AllPairs (λ a b. a ≢ b) (olds_of changes)) where
  -- what a change takes away is there when what the later ones take away is gone
  pub still_there : (place : ℕ) (d : Change) → place < length changes
      → All (Contains (without (olds_of (drop (place + 1) changes)) areas)) (olds_of (get_or changes place d ∷ []))
  still_there place d within =
      All-from_recursion (Contains (without later areas)) here
      (Each-also (Contains areas) (λ x. Each (λ y. x ≢ y) later) (Contains (without later areas))
      (λ x member apart. contains_without later areas x member
      (Each-also (Contains areas) (λ y. x ≢ y) (λ y. starts_alike x y ≡ false) (λ y there differs. unlike areas x y (ascending_pairs areas ascend) member there differs)
      later (Each-right (Contains areas) here later contained) apart))
      here (Each-left (Contains areas) here later contained)
      (Pairs-across (λ a b. a ≢ b) here later
      (Pairs-right (λ a b. a ≢ b) (olds_of (take place changes)) (here ++ later)
      (subst (Pairs (λ a b. a ≢ b)) (olds_around changes place d within) (Pairs-from_AllPairs (λ a b. a ≢ b) (olds_of changes) distinct)))))
    where
      here : List Record
      here = olds_of (get_or changes place d ∷ [])

      later : List Record
      later = olds_of (drop (place + 1) changes)

      contained : Each (Contains areas) (here ++ later)
      contained = Each-right (Contains areas) (olds_of (take place changes)) (here ++ later)
          (subst (Each (Contains areas)) (olds_around changes place d within) (recursion_from_All (Contains areas) (olds_of changes) members))

-- and goes out then
pub gone_from : (areas : List Record) (changes : List Change) (place : ℕ) (d : Change) → place < length changes
    → without (olds_of (get_or changes place d ∷ [])) (without (olds_of (drop (place + 1) changes)) areas) ≡ without (olds_of (drop place changes)) areas
gone_from areas changes place d within =
    without_swap (olds_of (get_or changes place d ∷ [])) (olds_of (drop (place + 1) changes)) areas
    ∙ sym (without-append (olds_of (get_or changes place d ∷ [])) (olds_of (drop (place + 1) changes)) areas)
    ∙ ap (λ olds. without olds areas) (sym (olds_from changes place d within))

-- the same of a list that is what the later changes leave
pub there_in : (areas list : List Record) (changes : List Change) (place left : ℕ) (d : Change) → BeginsAscend areas → All (Contains areas) (olds_of changes)
    → AllPairs (λ a b. a ≢ b) (olds_of changes) → place < length changes → place + 1 ≡ left → list ≡ without (olds_of (drop left changes)) areas
    → All (Contains list) (olds_of (get_or changes place d ∷ []))
there_in areas list changes place left d ascend members distinct within next is =
    subst (λ (l : List Record). All (Contains l) (olds_of (get_or changes place d ∷ [])))
    (ap (λ n. without (olds_of (drop n changes)) areas) next ∙ sym is)
    (still_there areas changes ascend members distinct place d within)

pub gone_in : (areas list after : List Record) (changes : List Change) (place left : ℕ) (d : Change) → place < length changes → place + 1 ≡ left
    → list ≡ without (olds_of (drop left changes)) areas → after ≡ without (olds_of (get_or changes place d ∷ [])) list
    → after ≡ without (olds_of (drop place changes)) areas
gone_in areas list after changes place left d within next is then =
    then ∙ ap (without (olds_of (get_or changes place d ∷ []))) (is ∙ sym (ap (λ n. without (olds_of (drop n changes)) areas) next))
    ∙ gone_from areas changes place d within
