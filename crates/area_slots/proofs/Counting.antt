-- For `AreaSlots::new`, `take`, `retire` and `seen`: how often slots stand in lists.
use Rattle.std.proofs.Common.{◌≡◌, ◌≢◌, ◌≤◌, ◌+◌, ℕ, Bool, true, false, not, nat_eq, nat_lt, ◌⊎◌, suc, zero, inl, inr, List, [], ◌∷◌, length, filter, refl, sym, ap, ◌∙◌, arith, if◌then◌else◌}
use Rattle.std.proofs.lemmas.Bool.Decides.{nat_tests}
use Rattle.std.proofs.lemmas.List.Sums.{sum_by-cons}
use Rattle.std.proofs.lemmas.Bool.{cases_eq}
use Rattle.area_slots.specs.declared.leaving.Leaving.{Leaving}
use Rattle.area_slots.specs.Slots.{one_at, times_of_slot, times_left, slots_left}

-- a slot stands as often among those that left as among their slots
pub times-slots_of : (slot : ℕ) (left : List Leaving) → times_of_slot slot (slots_left left) ≡ times_left slot left
times-slots_of slot [] = refl
times-slots_of slot (leaving ∷ left) = sum_by-cons (one_at slot) leaving.slot (slots_left left)
    ∙ ap (λ n. one_at slot leaving.slot + n) (times-slots_of slot left)
    ∙ sym (sum_by-cons (λ (other : Leaving). one_at slot other.slot) leaving left)

pub times-cons : (slot first : ℕ) (slots : List ℕ) → times_of_slot slot (first ∷ slots) ≡ one_at slot first + times_of_slot slot slots
times-cons slot first slots = sum_by-cons (one_at slot) first slots

-- the others than this one
others : ℕ → List ℕ → List ℕ
others slot slots = filter (λ other. not (nat_eq slot other)) slots

cons_counts : (test : Bool) (n count whole : ℕ) (kept : List ℕ) → length kept + count ≡ whole
    → length (if not test then n ∷ kept else kept) + ((if test then 1 else 0) + count) ≡ 1 + whole
cons_counts true n count whole kept is = omega arith
cons_counts false n count whole kept is = omega arith

length-others : (slot : ℕ) (slots : List ℕ) → length (others slot slots) + times_of_slot slot slots ≡ length slots
unfolding others
length-others slot [] = refl
length-others slot (first ∷ slots) =
    let step = cons_counts (nat_eq slot first) first (times_of_slot slot slots) (length slots) (others slot slots) (length-others slot slots) in
    rw (times-cons slot first slots) (omega (arith, step))

fewer_cons : (test : Bool) (slot first count : ℕ) (kept : List ℕ) → times_of_slot slot kept ≤ count
    → times_of_slot slot (if not test then first ∷ kept else kept) ≤ one_at slot first + count
fewer_cons true slot first count kept is = omega arith
fewer_cons false slot first count kept is = omega (arith, times-cons slot first kept)

times-others_le : (slot other : ℕ) (slots : List ℕ) → times_of_slot other (others slot slots) ≤ times_of_slot other slots
unfolding others
times-others_le slot other [] = omega arith
times-others_le slot other (first ∷ slots) =
    rw (times-cons other first slots) (fewer_cons (nat_eq slot first) other first (times_of_slot other slots) (others slot slots) (times-others_le slot other slots))

none_cons : (test : Bool) (slot first : ℕ) (kept : List ℕ) → nat_eq slot first ≡ test → times_of_slot slot kept ≡ 0
    → times_of_slot slot (if not test then first ∷ kept else kept) ≡ 0
none_cons true slot first kept is none = none
none_cons false slot first kept is none = rw (times-cons slot first kept) (rw is (omega (arith, none)))

times-others_self : (slot : ℕ) (slots : List ℕ) → times_of_slot slot (others slot slots) ≡ 0
unfolding others
times-others_self slot [] = refl
times-others_self slot (first ∷ slots) = none_cons (nat_eq slot first) slot first (others slot slots) refl (times-others_self slot slots)

-- a slot counts itself
pub self : (slot : ℕ) → one_at slot slot ≡ 1
self slot = grind (arith, nat_tests)

-- the numbers below one, each at most once, are no more than that
pub fits : (count : ℕ) (slots : List ℕ) → ((slot : ℕ) → times_of_slot slot slots ≤ (if nat_lt slot count then 1 else 0)) → length slots ≤ count
fits zero [] once = omega arith
fits zero (first ∷ slots) once =
    let none : ◌≡◌ {A = ℕ} (if nat_lt first 0 then 1 else 0) 0 = grind (arith, nat_tests) in
    absurd (omega (arith, self first, times-cons first first slots, once first, none))
fits (suc count) slots once =
    let fewer : length (others count slots) ≤ count = fits count (others count slots) (λ slot. step slot) in
    omega (arith, length-others count slots, once count, nat_lt_self)
  where
    nat_lt_self : ◌≡◌ {A = ℕ} (if nat_lt count (suc count) then 1 else 0) 1
    nat_lt_self = grind (arith, nat_tests)

    step : (slot : ℕ) → times_of_slot slot (others count slots) ≤ (if nat_lt slot count then 1 else 0)
    step slot = by (cases_eq slot count)
      where
        by : ((slot ≡ count) ⊎ (slot ≢ count)) → times_of_slot slot (others count slots) ≤ (if nat_lt slot count then 1 else 0)
        by (inl same) = rw same (omega (arith, times-others_self count slots))
        by (inr other) =
            let same : ◌≡◌ {A = ℕ} (if nat_lt slot (suc count) then 1 else 0) (if nat_lt slot count then 1 else 0) = grind (arith, nat_tests) in
            omega (arith, times-others_le count slot slots, once slot, same)
