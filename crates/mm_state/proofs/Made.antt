-- For `MmState::apply` and `MmState::apply_before`: a call that was planned and carried out keeps the state.
use Rattle.std.proofs.Common.{ℕ, ◌≡◌, ◌≢◌, ◌≤◌, ◌<◌, ◌++◌, ◌∷◌, [], List, None, length, refl, subst, sym, ap, ◌∙◌, arith, length-append, vec_capacity, ◌⊎◌, inl, inr}
use Rattle.std.specs.List.{Contains}
use Rattle.mm_types.specs.declared.area.Record.{Record}
use Rattle.mm_types.specs.declared.area.Access.{Access}
use Rattle.mm_types.specs.declared.area.Page.{Page}
use Rattle.mm_types.specs.declared.call.Call.TheVariants.{Touch}
use Rattle.mm_types.specs.declared.call.Entry.{Entry}
use Rattle.area_rules.specs.declared.placement.Bounds.{Bounds}
use Rattle.area_rules.specs.Steps.{step, after, IsLegalJournal}
use Rattle.area_rules.specs.Tables.{space_of, AddressSpace}
use Rattle.area_rules.proofs.Journals.{legal-push}
use Rattle.lock_core.specs.declared.stage.SlotState.{SlotState}
use Rattle.lock_core.specs.Facts.{list_after}
use Rattle.split_merge.specs.declared.planned.Planned.{Planned}
use Rattle.split_merge.specs.Plans.{PlanView, IsPlannedFor, applied}
use Rattle.split_merge.proofs.Counting.{contains_cases}
use Rattle.sys_seal.specs.Guards.{IsPlannedWhole}
use Rattle.sys_calls.proofs.Keeping.{made_space}
use Rattle.vma_lock.specs.Seats.{table_config, vma_table_id, lock_sight, slots}
use Rattle.area_tree.specs.AreaTrees.{areas_of}
use Rattle.mm_state.specs.declared.state.MmState.TheInside.{Inside}
use Rattle.mm_state.specs.Internal.AreaStores.{IsAtRest, ChangesAtMost, IsEntered, IsCarriedOut}
use Rattle.mm_state.specs.Kept.{IsState, state_of}
use Rattle.mm_state.specs.States.{KeepsSlots, ChangesOne, Enters}
use Rattle.mm_state.proofs.Entering.{space_after, entered}

-- a call was planned on a state that had room
pub record IsAsked (old : Inside) (entry : Entry) (answer : Planned) (plan : PlanView) : Type 0 where
  pub state : IsState old
  pub spare : length old.journal.items < old.room
  pub reply : entry.reply ≡ answer.reply
  pub planned : IsPlannedWhole old.store.areas.bounds old.store.areas.tree.areas (areas_of old.store.areas)
      (step old.config (space_of (areas_of old.store.areas) old.counters) entry.call) answer old.plan plan

-- the plan can be carried out
pub may_enter : (old : Inside) (entry : Entry) (answer : Planned) (plan : PlanView) → IsAsked old entry answer plan → IsEntered old.store plan.changes entry
may_enter old entry answer plan asked =
    let i = asked.state in
    entered old.store old.config old.journal.items old.counters entry old.plan plan record {
      settings = i.settings;
      journal_is = i.journal;
      space = i.space;
      valid = i.valid;
      room = omega (arith, i.entries, asked.spare);
      most_is = i.most;
      limit_is = ap (λ (b : Bounds). b.limit) i.bounds;
      planned = record { reply = asked.reply ∙ asked.planned.planned.reply; makes = asked.planned.planned.makes; kept = asked.planned.planned.kept; room = asked.planned.planned.room };
    }

-- the list after the plan is that after the entry
list_then : (old : Inside) (entry : Entry) (answer : Planned) (plan : PlanView) (entries : List Entry) → IsAsked old entry answer plan
    → entries ≡ old.journal.items ++ entry ∷ [] → applied plan.changes (areas_of old.store.areas) ≡ list_after old.config entries
list_then old entry answer plan entries asked pushed = asked.planned.planned.makes.result
    ∙ ap (λ (space : AddressSpace). space.areas) (space_after old.config old.journal.items (areas_of old.store.areas) old.counters entry asked.state.space
    ∙ ap (after old.config) (sym pushed))

-- where a plan has one change at most, all slots but one at most are as they were
one_slot : (count : ℕ) (old new : List SlotState) → count ≤ 1 → ChangesAtMost count old new → ChangesOne old new
one_slot count old new one ([], short, same) = (0, λ other apart. same other (λ member. omega (arith, member.1)))
one_slot count old new one (slot ∷ [], short, same) = (slot, λ other apart. same other (λ member. no_other other apart (contains_cases slot [] other member)))
  where
    no_other : (other : ℕ) → other ≢ slot → (slot ≡ other) ⊎ Contains [] other → ⊥
    no_other other apart (inl is) = apart (sym is)
    no_other other apart (inr member) = omega (arith, member.1)
one_slot count old new one (slot ∷ next ∷ rest, short, same) = absurd (omega (arith, one, short))

-- an area of the lists before and after keeps its slot
stays_made : (old : Inside) (entry : Entry) (answer : Planned) (plan : PlanView) (entries : List Entry) (new : List SlotState) → IsAsked old entry answer plan
    → entries ≡ old.journal.items ++ entry ∷ [] → KeepsSlots (areas_of old.store.areas) (applied plan.changes (areas_of old.store.areas)) (slots old.store.writer) new
    → KeepsSlots (list_after old.config old.journal.items) (list_after old.config entries) (slots old.store.writer) new
stays_made old entry answer plan entries new asked pushed stays =
    subst (λ (areas : List Record). KeepsSlots areas (list_after old.config entries) (slots old.store.writer) new) (ap (λ (space : AddressSpace). space.areas) asked.state.space)
    (subst (λ (areas : List Record). KeepsSlots (areas_of old.store.areas) areas (slots old.store.writer) new) (list_then old entry answer plan entries asked pushed) stays)

-- and was carried out and entered
pub record IsMade (old new : Inside) (entry : Entry) (answer : Planned) (plan : PlanView) : Type 0 where
  pub asked : IsAsked old entry answer plan
  pub rest : IsAtRest new.store
  pub turn : (lock_sight new.store.writer).turn ≡ None
  pub table : new.store.table ≡ old.store.table
  pub done : IsCarriedOut old.store new.store plan.changes entry
  pub counters : new.counters ≡ answer.counters
  pub pushed : new.journal.items ≡ old.journal.items ++ entry ∷ []
  pub capacity : vec_capacity new.journal ≡ vec_capacity old.journal
  pub cleared : new.plan ≡ record plan { changes = [] }

module _ (old new : Inside) (entry : Entry) (answer : Planned) (plan : PlanView) (made : IsMade old new entry answer plan) where
  legal_then : IsLegalJournal old.config new.journal.items
  legal_then = subst (IsLegalJournal old.config) (sym made.pushed) ((legal-push old.config old.journal.items entry).1 (
    made.asked.state.legal,
    made.asked.reply ∙ made.asked.planned.planned.reply ∙ ap (λ (space : AddressSpace). (step old.config space entry.call).reply) made.asked.state.space,
  ))

  space_then : space_of (areas_of new.store.areas) new.counters ≡ after old.config new.journal.items
  space_then = made_space (areas_of new.store.areas) new.counters (step old.config (space_of (areas_of old.store.areas) old.counters) entry.call).space
      (made.done.areas ∙ made.asked.planned.planned.makes.result) (made.counters ∙ made.asked.planned.counters)
      ∙ space_after old.config old.journal.items (areas_of old.store.areas) old.counters entry made.asked.state.space ∙ ap (after old.config) (sym made.pushed)

  kept_then : IsPlannedFor new.store.areas.bounds new.store.areas.tree.areas (areas_of new.store.areas)
  kept_then = subst (λ (b : Bounds). IsPlannedFor b new.store.areas.tree.areas (areas_of new.store.areas)) (sym made.done.bounds)
      (subst (λ (n : ℕ). IsPlannedFor old.store.areas.bounds n (areas_of new.store.areas)) (sym made.done.most)
      (subst (λ (areas : List Record). IsPlannedFor old.store.areas.bounds old.store.areas.tree.areas areas) (sym made.done.areas) made.asked.planned.planned.kept))

  -- the state is kept
  pub state_made : IsState (record old { store = new.store; counters = new.counters; plan = new.plan; journal = new.journal })
  state_made = record {
    rest = made.rest;
    turn = made.turn;
    settings = ap table_config made.table ∙ made.asked.state.settings;
    valid = made.asked.state.valid;
    journal = made.done.entered ∙ ap (λ (j : List Entry). j ++ entry ∷ []) made.asked.state.journal ∙ sym made.pushed;
    legal = legal_then;
    space = space_then;
    bounds = made.done.bounds ∙ made.asked.state.bounds;
    most = made.done.most ∙ made.asked.state.most;
    kept = kept_then;
    fresh = record {
      empty = ap (λ (p : PlanView). p.changes) made.cleared;
      room = omega (arith, ap (λ (p : PlanView). p.room) made.cleared, made.asked.planned.planned.room, made.asked.state.fresh.room);
    };
    room = omega (arith, ap length made.pushed, length-append old.journal.items (entry ∷ []), made.asked.spare);
    entries = made.asked.state.entries;
    reserved = made.capacity ∙ made.asked.state.reserved;
  }

  -- and the call was entered
  pub call_entered : ((page : Page) (access : Access) → entry.call ≡ Touch page access → length plan.changes ≤ 1)
      → Enters (state_of old) (state_of (record old { store = new.store; counters = new.counters; plan = new.plan; journal = new.journal }))
      entry.caller entry.call entry.reply
  call_entered one = record {
    entry = made.pushed;
    same = (ap vma_table_id made.table, refl, refl);
    nodes = made.done.nodes;
    reply = made.asked.reply ∙ made.asked.planned.planned.reply ∙ ap (λ (space : AddressSpace). (step old.config space entry.call).reply) made.asked.state.space;
    touch = λ page access is. one_slot (length plan.changes) (slots old.store.writer) (slots new.store.writer) (one page access is) made.done.few;
    marks = made.done.marks;
    stays = stays_made old entry answer plan new.journal.items (slots new.store.writer) made.asked made.pushed made.done.stays;
    waits = made.done.waits;
    gone = made.done.gone;
    publishes = made.done.publishes;
  }
