-- For `AreaSlots::new`, `take`, `retire` and `seen`: what the calls of a set of slots keep.
use Rattle.std.proofs.Common.{◌≡◌, ◌≢◌, ◌≤◌, ◌<◌, ◌+◌, ◌-◌, ℕ, true, false, nat_le, nat_lt, subst, List, [], ◌∷◌, ◌++◌, reverse, length, get_or, refl, sym, ap, ◌∙◌, arith, if◌then◌else◌, Result, Ok, Err, OnOk, OnErr, ◌⊎◌, inl, inr, suc, zero, add-one, append_assoc, length-append}
use Rattle.std.specs.List.{insert, range_with_len}
use Rattle.std.proofs.lemmas.List.{append-nil, reverse-append}
use Rattle.std.proofs.lemmas.Bool.{cases_eq, cases_lt, leb-true, leb-false, le-leb, lt-leb}
use Rattle.std.proofs.lemmas.Bool.Decides.{nat_tests}
use Rattle.std.proofs.lemmas.List.Sums.{sum_by-append, sum_by-cons, sum_by_push, sum_by-insert}
use Rattle.std.proofs.lemmas.List.Sorted.{IsNonDecreasingBy-insert, sum_by-IsPermutation, IsPermutation-reverse}
use Rattle.std.specs.List.Sorted.{IsNonDecreasingBy, IsPartitionPoint}
use Rattle.area_slots.specs.declared.leaving.Leaving.{Leaving}
use Rattle.area_slots.specs.Slots.{SlotSet, IsSlotTaken, one_at, times_of_slot, times_left, retired_by, gone_by, gone_after, slots_left}
use Rattle.area_slots.proofs.Counting.{fits, times-slots_of, times-cons, self}
use Rattle.area_slots.proofs.Parting.{parted}

-- each slot below the count stands at most once in the two lists, and no other does
abbrev pub Once : List ℕ → List Leaving → ℕ → Type 0
Once free left count = (slot : ℕ) → times_of_slot slot free + times_left slot left ≤ (if nat_lt slot count then 1 else 0)

pub length-both : (free : List ℕ) (left : List Leaving) (count : ℕ) → Once free left count → length free + length left ≤ count
length-both free left count once =
    let all : length (free ++ slots_left left) ≤ count = fits count (free ++ slots_left left) (λ slot. each slot) in
    omega (arith, length-append free (slots_left left), length-slots_of left)
  where
    each : (slot : ℕ) → times_of_slot slot (free ++ slots_left left) ≤ (if nat_lt slot count then 1 else 0)
    each slot = omega (arith, sum_by-append (one_at slot) free (slots_left left), times-slots_of slot left, once slot)

    length-slots_of : (xs : List Leaving) → length (slots_left xs) ≡ length xs
    length-slots_of [] = refl
    length-slots_of (x ∷ xs) = ap suc (length-slots_of xs)

-- a slot that was taken may leave: there is room, and each slot stands at most once
pub once_retired : (free : List ℕ) (left : List Leaving) (count place slot tree : ℕ) → Once free left count
    → IsSlotTaken (record { free = free; left = left; count = count }) slot → Once free (insert left place (record { slot = slot; tree = tree })) count
once_retired free left count place slot tree once taken other =
    let sum = sum_by-insert (λ (leaving : Leaving). one_at other leaving.slot) left place (record { slot = slot; tree = tree }) in
    by (cases_eq other slot) sum
  where
    by : ((other ≡ slot) ⊎ (other ≢ slot)) → times_left other (insert left place (record { slot = slot; tree = tree })) ≡ times_left other left + one_at other slot
        → times_of_slot other free + times_left other (insert left place (record { slot = slot; tree = tree })) ≤ (if nat_lt other count then 1 else 0)
    by (inl same) sum =
        let below : nat_lt slot count ≡ true = grind (arith, nat_tests, taken.below) in
        rw sum (rw same (rw below (omega (arith, self slot, taken.not_free, taken.not_left))))
    by (inr apart) sum =
        let none : ◌≡◌ {A = ℕ} (one_at other slot) 0 = grind (arith, nat_tests) in
        rw sum (omega (arith, none, once other))

pub room_retired : (free : List ℕ) (left : List Leaving) (count slot : ℕ) → Once free left count
    → IsSlotTaken (record { free = free; left = left; count = count }) slot → length free + length left < count
room_retired free left count slot once taken =
    let more : length free + length (insert left 0 (record { slot = slot; tree = 0 })) ≤ count =
    length-both free (insert left 0 (record { slot = slot; tree = 0 })) count (once_retired free left count 0 slot 0 once taken) in
    omega arith

tree_of : Leaving → ℕ
tree_of leaving = leaving.tree

-- the trees still rise
pub rises_retired : (left : List Leaving) (place slot tree : ℕ) → IsNonDecreasingBy (λ leaving. leaving.tree) left → place ≤ length left
    → IsPartitionPoint (λ leaving. retired_by tree leaving ≡ true) (λ leaving. retired_by tree leaving ≡ false) left place
    → IsNonDecreasingBy (λ leaving. leaving.tree) (insert left place (record { slot = slot; tree = tree }))
rises_retired left place slot tree rises within point = IsNonDecreasingBy-insert (λ (leaving : Leaving). leaving.tree) left place (record { slot = slot; tree = tree }) rises within
    (λ k d below. leb-true (get_or left k d).tree tree (point.0 k d (omega arith) below))
    (λ k d above below. omega (arith, leb-false (get_or left k d).tree tree (point.1 k d above below)))

-- the list after a slot left
pub left_retired : (left : List Leaving) (place slot tree : ℕ) → place ≤ length left
    → IsPartitionPoint (λ leaving. retired_by tree leaving ≡ true) (λ leaving. retired_by tree leaving ≡ false) left place
    → insert left place (record { slot = slot; tree = tree }) ≡ gone_by tree left ++ record { slot = slot; tree = tree } ∷ gone_after tree left
left_retired left place slot tree within point = let is = parted (retired_by tree) left place within point in rw (is.before) (ap (λ rest. gone_by tree left ++ record { slot = slot; tree = tree } ∷ rest) is.behind)

-- a slot that was free last is taken
pub taken_from : (free rest : List ℕ) (left : List Leaving) (count slot : ℕ) → free ≡ rest ++ slot ∷ [] → Once free left count
    → IsSlotTaken (record { free = rest; left = left; count = count }) slot
taken_from free rest left count slot is once =
    let here = subst (λ (slots : List ℕ). times_of_slot slot slots + times_left slot left ≤ (if nat_lt slot count then 1 else 0)) is (once slot) in
    let sum = sum_by_push (one_at slot) rest slot in
    let one = self slot in
    by (cases_lt slot count) here sum one
  where
    by : ((slot < count) ⊎ (count ≤ slot)) → times_of_slot slot (rest ++ slot ∷ []) + times_left slot left ≤ (if nat_lt slot count then 1 else 0)
        → times_of_slot slot (rest ++ slot ∷ []) ≡ times_of_slot slot rest + one_at slot slot → one_at slot slot ≡ 1
        → IsSlotTaken (record { free = rest; left = left; count = count }) slot
    by (inl below) here sum one =
        let bit : ◌≡◌ {A = ℕ} (if nat_lt slot count then 1 else 0) 1 = grind (arith, nat_tests, below) in
        record { below = below; not_free = omega arith; not_left = omega arith }
    by (inr above) here sum one =
        let bit : ◌≡◌ {A = ℕ} (if nat_lt slot count then 1 else 0) 0 = grind (arith, nat_tests, above) in
        absurd (omega arith)

-- the first that left is free again
pub once_freed : (free : List ℕ) (leaving : Leaving) (left : List Leaving) (count : ℕ) → Once free (leaving ∷ left) count
    → Once (free ++ leaving.slot ∷ []) left count
once_freed free leaving left count once slot =
    omega (arith, sum_by_push (one_at slot) free leaving.slot, sum_by-cons (λ (other : Leaving). one_at slot other.slot) leaving left, once slot)

-- The free slots and those that left, and what they become where those are freed that left by a tree.
pub record Becomes (tree : ℕ) (free : List ℕ) (left : List Leaving) (free_first : List ℕ) (left_first : List Leaving) : Type 0 where
  pub frees : free ++ slots_left (gone_by tree left) ≡ free_first ++ slots_left (gone_by tree left_first)
  pub leaves : gone_after tree left ≡ gone_after tree left_first

pub freed : (tree : ℕ) (free : List ℕ) (leaving : Leaving) (left : List Leaving) (free_first : List ℕ) (left_first : List Leaving)
    → leaving.tree ≤ tree → Becomes tree free (leaving ∷ left) free_first left_first → Becomes tree (free ++ leaving.slot ∷ []) left free_first left_first
freed tree free leaving left free_first left_first by becomes =
    let gone : nat_le leaving.tree tree ≡ true = le-leb leaving.tree tree by in
    record {
      frees = append_assoc free (leaving.slot ∷ []) (slots_left (gone_by tree left))
          ∙ (rw gone at becomes.frees);
      leaves = rw gone at becomes.leaves;
    }

-- where the first did not leave by the tree, none did
pub none_gone : (tree : ℕ) (free : List ℕ) (left : List Leaving) (free_first : List ℕ) (left_first : List Leaving)
    → IsNonDecreasingBy (λ leaving. leaving.tree) left → ((d : Leaving) → 0 < length left → tree < (get_or left 0 d).tree)
    → Becomes tree free left free_first left_first
    → (free ≡ free_first ++ slots_left (gone_by tree left_first)) × (left ≡ gone_after tree left_first)
none_gone tree free left free_first left_first rises first becomes =
    let parts = parted (retired_by tree) left 0 (omega arith) (
      (λ k d low high. absurd (omega arith)),
      (λ k d low high. lt-leb (get_or left k d).tree tree (omega (arith, rises 0 k d (omega arith) high, first d (omega arith)))),
    ) in
    (sym (append-nil free) ∙ ap (λ rest. free ++ slots_left rest) parts.before ∙ becomes.frees, parts.behind ∙ becomes.leaves)

-- the numbers from one on, each once
pub once_range : (low count slot : ℕ) → times_of_slot slot (range_with_len low count) ≤ (if nat_lt slot low then 0 else if nat_lt slot (low + count) then 1 else 0)
once_range low zero slot = omega arith
once_range low (suc count) slot = rw (times-cons slot low (range_with_len (low + 1) count)) (by (cases_lt slot (low + 1)) (cases_eq slot low) (once_range (low + 1) count slot))
  where
    by : ((slot < low + 1) ⊎ (low + 1 ≤ slot)) → ((slot ≡ low) ⊎ (slot ≢ low))
        → times_of_slot slot (range_with_len (low + 1) count) ≤ (if nat_lt slot (low + 1) then 0 else if nat_lt slot (low + 1 + count) then 1 else 0)
        → one_at slot low + times_of_slot slot (range_with_len (low + 1) count) ≤ (if nat_lt slot low then 0 else if nat_lt slot (low + suc count) then 1 else 0)
    by below same later = grind (arith, nat_tests)

pub once_new : (count slot : ℕ) → times_of_slot slot (reverse (range_with_len 0 count)) + 0 ≤ (if nat_lt slot count then 1 else 0)
once_new count slot =
    let range = once_range 0 count slot in
    let same = sum_by-IsPermutation (one_at slot) (range_with_len 0 count) (reverse (range_with_len 0 count)) (IsPermutation-reverse (range_with_len 0 count)) in
    rw same (grind (arith, nat_tests, range))

-- one number below a range comes last where the range is turned round
pub one_below : (high item low count : ℕ) → item ≡ low → high ≡ low + 1 → reverse (range_with_len high count) ++ item ∷ [] ≡ reverse (range_with_len low (count + 1))
one_below high item low count here next =
    ap (λ n. reverse (range_with_len high count) ++ n ∷ []) here
    ∙ ap (λ n. reverse (range_with_len n count) ++ low ∷ []) next
    ∙ sym (reverse-append (low ∷ []) (range_with_len (low + 1) count))
    ∙ ap (λ n. reverse (range_with_len low n)) (sym (add-one count))

-- a result is Ok where it cannot be an error
pub on_ok : {T E : Type 0} (r : Result T E) (P Q : Type 0) → OnOk r P → OnErr r Q → (Q → ⊥) → P
on_ok (Ok x) P Q holds fails never = holds
on_ok (Err e) P Q holds fails never = absurd (never fails)

pub kept_new : (count : ℕ) (free : List ℕ) (left : List Leaving) (pushed : ℕ) → free ≡ reverse (range_with_len (count - pushed) pushed)
    → pushed ≡ count → left ≡ [] → Once free left count
kept_new count free left pushed is same none slot =
    let all : count - count ≡ 0 = omega arith in
    rw is (rw same (rw all (rw none (once_new count slot))))

-- the trees of the others rise
pub rises_tail : (leaving : Leaving) (left : List Leaving) → IsNonDecreasingBy (λ leaving. leaving.tree) (leaving ∷ left) → IsNonDecreasingBy (λ leaving. leaving.tree) left
rises_tail leaving left rises i j d below within = rises (suc i) (suc j) d (omega arith) (omega arith)

-- a set is its parts
pub set_is : (set : SlotSet) (free : List ℕ) (left : List Leaving) (count : ℕ) → set.free ≡ free → set.left ≡ left → set.count ≡ count
    → set ≡ record { free = free; left = left; count = count }
set_is set free left count is_free is_left is_count =
    ap (λ (slots : List ℕ). record { free = slots; left = set.left; count = set.count }) is_free
    ∙ ap (λ (gone : List Leaving). record { free = free; left = gone; count = set.count }) is_left
    ∙ ap (λ (n : ℕ). record { free = free; left = left; count = n }) is_count
