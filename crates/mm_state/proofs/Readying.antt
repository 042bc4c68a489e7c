-- For `AreaStore::enter`: the tree before and after a call.
use Rattle.std.proofs.Common.{ℕ, ◌≡◌, ◌<◌, ◌≤◌, ◌+◌, ◌*◌, List, [], ◌∷◌, ◌++◌, append-nil, length, sum_by, All, sym, ap, subst, ◌∙◌, arith, get_or, ◌⊎◌, inl, inr}
use Rattle.std.specs.List.Sorted.{IsPermutation}
use Rattle.std.proofs.lemmas.List.Sums.{get_or-le-sum_by, sum_by-cons}
use Rattle.std.proofs.lemmas.List.Sorted.{sum_by-IsPermutation}
use Rattle.std.proofs.lemmas.List.Elements.{All-weaker}
use Rattle.std.proofs.lemmas.Bool.{cases_lt}
use Rattle.std.proofs.lemmas.List.{length-map}
use Rattle.mm_types.specs.declared.area.Record.{Record}
use Rattle.mm_types.specs.Packed.{packed}
use Rattle.lock_core.specs.declared.stage.SlotState.{SlotState}
use Rattle.lock_core.specs.Rows.{Exactly}
use Rattle.area_slots.specs.Slots.{SlotSet, one_at}
use Rattle.split_merge.specs.declared.plan.Change.{Change}
use Rattle.split_merge.specs.declared.plan.Change.TheVariants.{Detach, Alter, Add}
use Rattle.split_merge.specs.Plans.{news_of, applied, IsPlanOf}
use Rattle.split_merge.proofs.Counting.{length-applied}
use Rattle.vma_lock.specs.Seats.{slots}
use Rattle.area_tree.specs.declared.shown.ShownArea.{ShownArea}
use Rattle.area_tree.specs.AreaTrees.{AreaTreeView, shown_of, areas_of, AreasRise}
use Rattle.mm_state.specs.declared.store.AreaStore.{AreaStore}
use Rattle.mm_state.specs.Shelves.{Hangs}
use Rattle.mm_state.specs.Internal.AreaStores.{adds, adds_of, CanFree, IsFreed, IsAtRest, IsReadied, IsChanging, CanHold, weigh}
use Rattle.mm_state.proofs.InOrder.{weigh_map, same_order, can_hold}
use Rattle.mm_state.proofs.Weights.{applied_weighs}
use Rattle.mm_state.proofs.Hanging.{hangs_freed, freed_upto, none_above, at_most_once, self}

-- a store whose tree is prepared, but for its writer
pub record IsPrepared (old store : AreaStore) : Type 0 where
  pub hangs : Hangs (slots old.writer) (shown_of store.areas ++ store.moved.items) store.slots
  pub moved : store.moved.items ≡ []
  pub leaving : All (λ leaving. leaving.tree ≤ store.areas.tree.number + 1) store.slots.left

pub prepared : (old store : AreaStore) (changes : List Change) → IsAtRest old → IsReadied old store changes → IsPrepared old store
prepared old store changes rest ready = record {
  hangs = subst (λ (list : List ShownArea). Hangs (slots old.writer) list store.slots) (sym list)
      (hangs_freed (slots old.writer) (shown_of old.areas) store.areas.tree.elapsed old.slots store.slots ready.slots rest.hangs);
  moved = moved;
  leaving = freed_upto store.areas.tree.elapsed (store.areas.tree.number + 1) old.slots store.slots ready.slots (All-weaker (λ leaving. leaving.tree ≤ old.areas.tree.number) (λ leaving. leaving.tree ≤ store.areas.tree.number + 1)
      (λ leaving upto. omega (arith, upto, ap (λ (t : AreaTreeView). t.tree.number) ready.areas)) old.slots.left rest.tree.leaving);
}
  where
    moved : store.moved.items ≡ []
    moved = ap (λ m. m.items) ready.moved ∙ rest.tree.moved

    list : shown_of store.areas ++ store.moved.items ≡ shown_of old.areas
    list = ap (λ (l : List ShownArea). shown_of store.areas ++ l) moved ∙ append-nil (shown_of store.areas) ∙ ap shown_of ready.areas

-- the changes add no more areas than they bring
adds_few : (changes : List Change) → adds_of changes ≤ length (news_of changes)
adds_few [] = omega arith
adds_few (Detach old ∷ changes) = omega (arith, sum_by-cons adds (Detach old) changes, adds_few changes)
adds_few (Alter old new ∷ changes) = omega (arith, sum_by-cons adds (Alter old new) changes, adds_few changes)
adds_few (Add new ∷ changes) = omega (arith, sum_by-cons adds (Add new) changes, adds_few changes)

-- slots that show areas are slots of the table
slots_below : (states : List SlotState) (shown : List ShownArea) (set : SlotSet) → Hangs states shown set → All (λ s. s.slot < set.count) shown
slots_below states shown set hangs k d within = by (cases_lt (get_or shown k d).slot set.count)
  where
    by : (((get_or shown k d).slot < set.count) ⊎ (set.count ≤ (get_or shown k d).slot)) → (get_or shown k d).slot < set.count
    by (inl below) = below
    by (inr above) = absurd (omega (
      arith,
      none_above states shown set (get_or shown k d).slot hangs above,
      get_or-le-sum_by (λ (s : ShownArea). one_at (get_or shown k d).slot s.slot) shown k d within,
      self (get_or shown k d).slot,
    ))

module _ (start store : AreaStore) (changes : List Change) (tree : ℕ) (changing : IsChanging start store changes tree) (plan : IsPlanOf (areas_of start.areas) changes) where
  -- the areas weigh as those after the plan
  all_weigh : (weight : Record → ℕ) → weigh weight (shown_of store.areas ++ store.moved.items) ≡ sum_by weight (applied changes (areas_of start.areas))
  all_weigh weight = omega (arith, changing.areas weight, applied_weighs weight changes (areas_of start.areas) changing.ascend plan)

  -- what moved can be stored once the plan is carried out
  pub can_store : (most limit : ℕ) → AreasRise limit 0 (applied changes (areas_of start.areas)) → length (applied changes (areas_of start.areas)) ≤ most
      → store.slots.count ≡ 2 * most + 2 → CanHold most limit (shown_of store.areas ++ store.moved.items)
  can_store most limit rise few count = can_hold most limit (applied changes (areas_of start.areas)) (shown_of store.areas ++ store.moved.items) rise few all_weigh
      (λ slot. at_most_once (slots store.writer) (shown_of store.areas ++ store.moved.items) store.slots slot changing.hangs)
      (All-weaker (λ (s : ShownArea). s.slot < store.slots.count) (λ (s : ShownArea). s.slot < 2 * most + 2) (λ s below. omega (arith, below, count))
      (shown_of store.areas ++ store.moved.items) (slots_below (slots store.writer) (shown_of store.areas ++ store.moved.items) store.slots changing.hangs))

  -- the rows are those of the areas after the plan
  pub rows_then : Exactly (slots store.writer) (applied changes (areas_of start.areas))
  rows_then weight = changing.hangs.exactly weight ∙ weigh_map (λ area. weight (packed area)) (shown_of store.areas ++ store.moved.items)
      ∙ all_weigh (λ area. weight (packed area))

  -- and then the areas are those after the plan
  pub areas_then : (after : AreaTreeView) (limit : ℕ) → IsPermutation (shown_of store.areas ++ store.moved.items) (shown_of after) → AreasRise limit 0 (areas_of after)
      → AreasRise limit 0 (applied changes (areas_of start.areas)) → areas_of after ≡ applied changes (areas_of start.areas)
  areas_then after limit moved rise wanted = same_order limit 0 (areas_of after) (applied changes (areas_of start.areas)) rise wanted
      (λ weight. omega (
        arith,
        weigh_map weight (shown_of after),
        sum_by-IsPermutation (λ (s : ShownArea). weight s.area) (shown_of store.areas ++ store.moved.items) (shown_of after) moved,
        all_weigh weight,
      ))

-- a plan brings no more areas than the list then has
pub news_few : (changes : List Change) (areas : List Record) → length (news_of changes) ≤ length (applied changes areas)
news_few changes areas = omega (arith, length-applied changes areas)

-- Once no reader is left in a tree up to the present one, so many slots are free that a plan's list has one for each of its areas.
pub slots_suffice : (store : AreaStore) (changes : List Change) → IsAtRest store → length (areas_of store.areas) ≤ store.areas.tree.areas
    → length (applied changes (areas_of store.areas)) ≤ store.areas.tree.areas → CanFree store.areas store.slots (adds_of changes)
slots_suffice store changes rest few few_after = record {
  left = rest.tree.leaving;
  enough = omega (
    arith,
    rest.hangs.counted,
    rest.records,
    few,
    few_after,
    length-map (shown_of store.areas) (λ (s : ShownArea). s.area),
    adds_few changes,
    news_few changes (areas_of store.areas),
  );
}

-- so many can be free after others became so
pub can_free : (areas later : AreaTreeView) (set after : SlotSet) (elapsed wanted : ℕ) → CanFree areas set wanted → later.tree.number ≡ areas.tree.number
    → IsFreed elapsed set after → CanFree later after wanted
can_free areas later set after elapsed wanted can same freed = record {
  left = subst (λ n. All (λ leaving. leaving.tree ≤ n) after.left) (sym same) (freed_upto elapsed areas.tree.number set after freed can.left);
  enough = omega (arith, can.enough, freed.sum);
}
