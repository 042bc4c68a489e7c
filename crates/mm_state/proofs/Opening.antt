-- For `AreaStore::new`: the slots of a new table hang together, since all are free.
use Rattle.std.proofs.Common.{◌≡◌, ◌≢◌, ◌≤◌, ◌<◌, ◌+◌, ℕ, suc, zero, nat_eq, nat_lt, [], reverse, replicate, refl, ap, ◌∙◌, ◌⊎◌, inl, inr, arith, if◌then◌else◌}
use Rattle.std.specs.List.{range_with_len, list_all}
use Rattle.std.proofs.lemmas.Bool.{cases_eq, cases_lt}
use Rattle.std.proofs.lemmas.Bool.Decides.{nat_tests}
use Rattle.std.proofs.lemmas.List.{length-replicate, length-reverse}
use Rattle.std.proofs.lemmas.List.FromFn.{length-range_with_len}
use Rattle.std.proofs.lemmas.List.Folds.{sum_by-replicate}
use Rattle.std.proofs.lemmas.List.Elements.{All-nil}
use Rattle.std.proofs.lemmas.List.Sorted.{sum_by-IsPermutation, IsPermutation-reverse}
use Rattle.lock_core.specs.declared.stage.SlotState.{SlotState}
use Rattle.lock_core.specs.Core.{slot_at, free_slot}
use Rattle.lock_core.specs.Rows.{attached_weight}
use Rattle.area_slots.specs.Slots.{one_at, times_of_slot}
use Rattle.area_slots.proofs.Counting.{times-cons}
use Rattle.mm_state.specs.Shelves.{ShowsIt, Hangs}

range_times : (low count slot : ℕ) → times_of_slot slot (range_with_len low count) ≡ (if nat_lt slot low then 0 else if nat_lt slot (low + count) then 1 else 0)
range_times low zero slot = by (cases_lt slot low)
  where
    by : ((slot < low) ⊎ (low ≤ slot)) → ◌≡◌ {A = ℕ} 0 (if nat_lt slot low then 0 else if nat_lt slot (low + 0) then 1 else 0)
    by (inl below) = grind (arith, nat_tests)
    by (inr above) = grind (arith, nat_tests)
range_times low (suc count) slot = times-cons slot low (range_with_len (low + 1) count) ∙ by (cases_eq slot low) (range_times (low + 1) count slot)
  where
    by : ((slot ≡ low) ⊎ (slot ≢ low))
        → times_of_slot slot (range_with_len (low + 1) count) ≡ (if nat_lt slot (low + 1) then 0 else if nat_lt slot (low + 1 + count) then 1 else 0)
        → one_at slot low + times_of_slot slot (range_with_len (low + 1) count) ≡ (if nat_lt slot low then 0 else if nat_lt slot (low + suc count) then 1 else 0)
    by same later = grind (arith, nat_tests)

all_free : (count slot : ℕ) → slot_at (replicate count free_slot) slot ≡ free_slot
all_free zero slot = refl
all_free (suc count) zero = refl
all_free (suc count) (suc slot) = all_free count slot

-- each slot stands as often where they are turned round
turned_times : (count slot : ℕ) → times_of_slot slot (reverse (range_with_len 0 count)) ≡ times_of_slot slot (range_with_len 0 count)
turned_times count slot = sum_by-IsPermutation (one_at slot) (range_with_len 0 count) (reverse (range_with_len 0 count)) (IsPermutation-reverse (range_with_len 0 count))

pub hangs_new : (count : ℕ) → Hangs (replicate count free_slot) [] (record { free = reverse (range_with_len 0 count); left = []; count = count })
hangs_new count = record {
  sized = length-replicate count free_slot;
  counted = omega (arith, length-reverse (range_with_len 0 count), length-range_with_len 0 count);
  once = λ slot. once slot (turned_times count slot ∙ range_times 0 count slot);
  rows = All-nil (ShowsIt (replicate count free_slot));
  others = λ slot none. ap (λ (s : SlotState). list_all (λ word. nat_eq word 0) s.row) (all_free count slot);
  exactly = λ weight. sum_by-replicate (attached_weight weight) count free_slot ∙ omega arith;
}
  where
    once : (slot : ℕ) → times_of_slot slot (reverse (range_with_len 0 count)) ≡ (if nat_lt slot 0 then 0 else if nat_lt slot (0 + count) then 1 else 0)
        → 0 + times_of_slot slot (reverse (range_with_len 0 count)) + 0 ≡ (if nat_lt slot count then 1 else 0)
    once slot is = grind (arith, nat_tests)
