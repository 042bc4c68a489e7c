-- For `LockState::new`: the five facts of the state before anything happened.
use Rattle.std.proofs.Common.{ℕ, zero, suc, ◌≡◌, ◌<◌, ◌≤◌, ◌%◌, ◌∙◌, refl, sym, ap, cond, List, [], length, replicate, get_or, arith}
use Rattle.std.specs.List.{sum_by, count_by}
use Rattle.std.proofs.lemmas.List.{length-replicate}
use Rattle.std.proofs.lemmas.List.Folds.{sum_by-replicate}
use Rattle.mm_types.specs.declared.area.Record.{Record}
use Rattle.mm_types.specs.declared.config.Config.{Config}
use Rattle.mm_types.specs.Config.{counters_at_opening}
use Rattle.mm_types.specs.Packed.{packed}
use Rattle.area_rules.specs.Steps.{opening, after}
use Rattle.area_rules.specs.Tables.{space_of}
use Rattle.area_rules.proofs.Journals.{after-nil}
use Rattle.lock_core.specs.declared.stage.SlotState.{SlotState}
use Rattle.lock_core.specs.declared.stage.Stage.TheVariants.{Out}
use Rattle.lock_core.specs.Core.{Reader, free_slot, gone_reader, holds}
use Rattle.lock_core.specs.Rows.{attached_weight, Within, Exactly}
use Rattle.lock_core.specs.Facts.{list_after, StaysValid, LockFacts}
use Rattle.lock_core.specs.States.{opening_core}
use Rattle.lock_core.proofs.Holding.{IsFound}
use Rattle.lock_core.proofs.Weighing.{shown_weight, weighs_within}
use Rattle.lock_core.specs.Core.{slot_held, StartsWith}

-- what is so of an element and of what is answered past the end is so of each of its copies
each_copy : {A : Type 0} (P : A → Type 0) (count : ℕ) (x d : A) → P x → P d → (k : ℕ) → P (get_or (replicate count x) k d)
each_copy P zero x d one other k = other
each_copy P (suc count) x d one other zero = one
each_copy P (suc count) x d one other (suc k) = each_copy P count x d one other k

opening_list : (config : Config) → list_after config [] ≡ []
unfolding opening
opening_list config = ap (λ space. space.areas) (after-nil config)

opening_exact : (config : Config) (slots : ℕ) → Exactly (replicate slots free_slot) (list_after config [])
opening_exact config slots weight =
    let none = sum_by-replicate (attached_weight weight) slots free_slot in
    let nothing : sum_by (attached_weight weight) (replicate slots free_slot) ≡ 0 = omega (arith, none) in
    nothing ∙ sym (ap (λ (l : List Record). sum_by (λ area. weight (packed area)) l) (opening_list config))

opening_within : (config : Config) (slots : ℕ) → Within 2 (replicate slots free_slot) (list_after config [])
opening_within config slots = weighs_within 2 (replicate slots free_slot) (list_after config [])
    (λ weight. let none = sum_by-replicate (shown_weight weight 2) slots free_slot in omega (arith, none))

pub opening_facts : (config : Config) (readers slots : ℕ) → LockFacts config (opening_core readers slots)
opening_facts config readers slots = record {
  sequence = record {
    counts = refl;
    below = each_copy (λ (s : SlotState). s.lock_seq ≤ 2) slots free_slot free_slot (omega arith) (omega arith);
    odd = each_copy (λ (s : SlotState). 0 < s.lock_seq → s.lock_seq % 2 ≡ 1) slots free_slot free_slot (λ h. absurd (omega arith)) (λ h. absurd (omega arith));
  };
  holders = record {
    each_slot = length-replicate slots 0 ∙ sym (length-replicate slots free_slot);
    counted = λ slot.
        each_copy (λ n. n ≡ 0) slots 0 0 refl refl slot
        ∙ sym (let none = sum_by-replicate (λ (r : Reader). cond (holds slot r) 1 0) readers (record { stage = Out; seen = [] }) in
        let nothing : count_by (holds slot) (replicate readers (record { stage = Out; seen = [] })) ≡ 0 = omega (arith, none) in nothing);
    found = each_copy (λ (r : Reader). IsFound (replicate slots free_slot) (slot_held r.stage)) readers (record { stage = Out; seen = [] }) gone_reader tt tt;
  };
  rows = record {
    legal = record { replies = λ place entry there. absurd (cc) };
    wide = each_copy (λ (s : SlotState). length s.row ≡ 4) slots free_slot free_slot refl refl;
    within = opening_within config slots;
    exact = λ even. opening_exact config slots;
  };
  validation = each_copy (λ (r : Reader). StaysValid 2 (replicate slots free_slot) r.stage) readers (record { stage = Out; seen = [] }) gone_reader tt tt;
  seen = each_copy (λ (r : Reader). StartsWith [] r.seen) readers (record { stage = Out; seen = [] }) gone_reader refl refl;
}

-- at first there is no area, the files are numbered, and the heap is empty
pub opening_space : (config : Config) → space_of [] (counters_at_opening config) ≡ after config []
unfolding opening
opening_space config = sym (after-nil config)
