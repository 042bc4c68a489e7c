-- For `AreaStore::alter`: the area that moved last takes the pages that another loses.
use Rattle.std.proofs.Common.{◌≡◌, ◌<◌, ℕ, true, false, nat_eq, List, [], ◌∷◌, ◌++◌, ap, ◌∙◌, inl, inr, arith}
use Rattle.std.proofs.lemmas.Bool.{cond-true, cond-false}
use Rattle.std.proofs.lemmas.Bool.Decides.{nat_tests}
use Rattle.std.proofs.lemmas.List.Sums.{sum_by-append}
use Rattle.std.proofs.lemmas.List.Sorted.{IsPermutation-refl}
use Rattle.mm_types.specs.declared.area.Span.{Span}
use Rattle.mm_types.specs.declared.area.Record.{Record}
use Rattle.lock_core.specs.declared.stage.SlotState.{SlotState}
use Rattle.area_slots.specs.Slots.{SlotSet, one_at}
use Rattle.area_tree.specs.declared.shown.ShownArea.{ShownArea}
use Rattle.area_tree.specs.AreaTrees.{times_shown, beside, IsEndOf}
use Rattle.mm_state.specs.Shelves.{Hangs}
use Rattle.mm_state.specs.Internal.AreaStores.{HasPageOf}
use Rattle.mm_state.proofs.Hanging.{hangs_permuted, IsAlone, alone}
use Rattle.mm_state.proofs.Storing.{moved_in}

-- what a span has beside its begin, and beside its end
beside_begin : (part whole : Span) → part.lo ≡ whole.lo → beside part whole ≡ record { lo = part.hi; hi = whole.hi }
beside_begin part whole begins =
    let test : nat_eq part.lo whole.lo ≡ true = grind (arith, nat_tests) in
    cond-true (nat_eq part.lo whole.lo) (record { lo = part.hi; hi = whole.hi }) (record { lo = whole.lo; hi = part.lo }) test

beside_end : (part whole : Span) → whole.lo < part.lo → beside part whole ≡ record { lo = whole.lo; hi = part.lo }
beside_end part whole more =
    let test : nat_eq part.lo whole.lo ≡ false = grind (arith, nat_tests) in
    cond-false (nat_eq part.lo whole.lo) (record { lo = part.hi; hi = whole.hi }) (record { lo = whole.lo; hi = part.lo }) test

-- what has the pages that an area loses has a page of it
pub lost_meets : (area changed other : Record) → IsEndOf changed.span area.span → other.span ≡ beside changed.span area.span → HasPageOf area other
lost_meets area changed other (some, inl (begins, less)) lost =
    let is : ◌≡◌ {A = Span} other.span (record { lo = changed.span.hi; hi = area.span.hi }) = lost ∙ beside_begin changed.span area.span begins in
    (omega (arith, ap (λ (p : Span). p.hi) is, some, begins, less), omega (arith, ap (λ (p : Span). p.lo) is, less))
lost_meets area changed other (some, inr (more, ends)) lost =
    let is : ◌≡◌ {A = Span} other.span (record { lo = area.span.lo; hi = changed.span.lo }) = lost ∙ beside_end changed.span area.span more in
    (omega (arith, ap (λ (p : Span). p.hi) is, more), omega (arith, ap (λ (p : Span). p.lo) is, some, more, ends))

-- a slot that the tree can show: there is one, and it shows no area of the tree
pub record CanSplit (shown : ShownArea) (tree : List ShownArea) (count : ℕ) : Type 0 where
  pub below : shown.slot < count
  pub free : times_shown shown.slot tree ≡ 0

-- the slot of the area that moved last is one
pub last_alone : (states : List SlotState) (tree moved rest : List ShownArea) (slots : SlotSet) (shown : ShownArea) → Hangs states (tree ++ moved) slots
    → moved ≡ rest ++ shown ∷ [] → CanSplit shown tree slots.count
last_alone states tree moved rest slots shown hangs last = record {
  below = is.taken.below;
  free = omega (arith, is.no_other, sum_by-append (λ (s : ShownArea). one_at shown.slot s.slot) tree rest);
}
  where
    is : IsAlone shown (tree ++ rest) slots
    is = alone states shown (tree ++ rest) slots
        (hangs_permuted states (tree ++ moved) (shown ∷ (tree ++ rest)) slots (moved_in tree moved (shown ∷ tree) rest shown last (IsPermutation-refl (shown ∷ tree))) hangs)
