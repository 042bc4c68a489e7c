-- For `VmaTable::add`, `VmaTable::begin`, `VmaTable::end` and others: the rule of a table after one seat made a step: what each step has to show.
use Rattle.std.proofs.Common.{ℕ, ◌≡◌, ◌≢◌, ◌<◌, ◌≤◌, ◌+◌, ◌^◌, ◌∙◌, refl, sym, ap, subst, cond, List, length, map, get_or, set, None, arith}
use mathlib.Core.Option.{some}
use lib.ListN.{get_elem?}
use Rattle.std.specs.List.{sum_by}
use Rattle.std.proofs.Math.ListN.{get_or-map}
use Rattle.std.proofs.lemmas.Bool.{cond-false, cond_both}
use Rattle.std.proofs.lemmas.List.{map-set, set-get_or}
use Rattle.std.proofs.lemmas.List.Sums.{sum_by-set}
use Rattle.mm_types.specs.declared.call.Entry.{Entry}
use Rattle.mm_types.specs.declared.config.Config.{Config}
use Rattle.lock_core.specs.declared.stage.Stage.{Stage}
use Rattle.lock_core.specs.Core.{LockCore, Reader, count_at, reader_at, gone_reader, slot_held, holds, is_slot}
use Rattle.lock_core.specs.Facts.{LockFacts}
use Rattle.atomic_table.specs.Table.{State, stepped, keeps}
use Rattle.vma_lock.specs.declared.view.SeatKind.{SeatKind}
use Rattle.vma_lock.specs.declared.view.SeatKind.TheVariants.{Reads, Writes, Note, Spent}
use Rattle.vma_lock.specs.declared.view.View.{View}
use Rattle.vma_lock.specs.Views.{reader_of, lock_view_at, spent_lock_view}
use Rattle.vma_lock.specs.Words.{table_words}
use Rattle.vma_lock.specs.Rule.{turn_weight, bears, kind_weight, can_hold, LockSeatFits, ShowsLock}
use Rattle.vma_lock.proofs.Places.{found_there, each_else, each_less, sum_by-map}

-- the seat of a number, and the reader that it is
pub record IsSeat (config : Config) (state : State Entry View) (shows : ShowsLock config state) (seat : ℕ) (view : View) : Type 0 where
  pub is : lock_view_at state.views seat ≡ view
  pub within : seat < length state.views
  pub reader : reader_at shows.core.readers seat ≡ reader_of view
  pub fits : LockSeatFits config shows.core.seq shows.core.slots shows.core.journal shows.made seat view

pub seat_found : (config : Config) (state : State Entry View) (shows : ShowsLock config state) (seat : ℕ) (view : View)
    → get_elem? state.views seat ≡ some view → IsSeat config state shows seat view
seat_found config state shows seat view at =
    let there = found_there state.views seat view spent_lock_view at in
    record {
      is = there.0;
      within = there.1;
      reader = ap (λ (l : List Reader). get_or l seat gone_reader) shows.readers ∙ get_or-map reader_of state.views seat spent_lock_view ∙ ap reader_of there.0;
      fits = subst (LockSeatFits config shows.core.seq shows.core.slots shows.core.journal shows.made seat) there.0 (shows.seats seat);
    }

-- the readers after a seat took another view
pub readers_after : (config : Config) (state : State Entry View) (shows : ShowsLock config state) (seat : ℕ) (view : View)
    → set shows.core.readers seat (reader_of view) ≡ map reader_of (set state.views seat view)
readers_after config state shows seat view =
    ap (λ (l : List Reader). set l seat (reader_of view)) shows.readers ∙ sym (map-set reader_of state.views seat view)

-- the same where it is the same reader
pub readers_same : (config : Config) (state : State Entry View) (shows : ShowsLock config state) (seat : ℕ) (old new : View)
    → IsSeat config state shows seat old → reader_of new ≡ reader_of old → shows.core.readers ≡ map reader_of (set state.views seat new)
readers_same config state shows seat old new at same =
    sym (set-get_or shows.core.readers seat gone_reader)
    ∙ ap (set shows.core.readers seat) (at.reader ∙ sym same)
    ∙ readers_after config state shows seat new

-- a sum over the seats is the same where the seat that took another view weighs the same
pub same_sum : (weight : View → ℕ) (views : List View) (seat : ℕ) (old new : View) → lock_view_at views seat ≡ old → seat < length views
    → weight new ≡ weight old → sum_by weight (set views seat new) ≡ sum_by weight views
same_sum weight views seat old new is within same =
    let swap = sum_by-set weight views seat new spent_lock_view within in
    let before : weight (lock_view_at views seat) ≡ weight old = ap weight is in
    omega arith

-- a seat made a step that keeps its kind and its turn
pub stands : (config : Config) (state : State Entry View) (shows : ShowsLock config state) (seat word found : ℕ) (carried : List (ℕ × Entry)) (old new : View) (next : LockCore)
    → IsSeat config state shows seat old
    → LockFacts config next
    → next.readers ≡ map reader_of (set state.views seat new)
    → set state.words word found ≡ table_words next.seq next.slots next.counts
    → length next.slots ≡ length shows.core.slots
    → ((other : ℕ) → other ≢ seat → LockSeatFits config next.seq next.slots next.journal shows.made other (lock_view_at state.views other))
    → LockSeatFits config next.seq next.slots next.journal shows.made seat new
    → new.kind ≡ old.kind → new.turn ≡ old.turn → next.seq ≤ 2 ^ 32 + 2
    → ShowsLock config (stepped state word found seat carried new keeps)
stands config state shows seat word found carried old new next at facts readers words sized others fits kind turn room = record {
  core = next;
  made = shows.made;
  readers = readers;
  facts = facts;
  words = words;
  slots = sized ∙ shows.slots;
  seats = each_else (LockSeatFits config next.seq next.slots next.journal shows.made) state.views seat new spent_lock_view at.within others fits;
  once = λ caller. subst (λ n. n ≤ 1) (sym (same_sum (bears caller) state.views seat old new at.is at.within (ap (turn_weight caller) turn))) (shows.once caller);
  few = subst (λ n. n ≤ shows.made) (sym (same_sum can_hold state.views seat old new at.is at.within (ap kind_weight kind))) shows.few;
  most = shows.most;
  room = room;
}

-- a seat made a step that leaves the sequence, the slots and the journal
pub stands_reading : (config : Config) (state : State Entry View) (shows : ShowsLock config state) (seat word found : ℕ) (carried : List (ℕ × Entry)) (old new : View)
    (counts : List ℕ) (readers : List Reader)
    → IsSeat config state shows seat old
    → LockFacts config (record shows.core { counts = counts; readers = readers })
    → readers ≡ map reader_of (set state.views seat new)
    → set state.words word found ≡ table_words shows.core.seq shows.core.slots counts
    → LockSeatFits config shows.core.seq shows.core.slots shows.core.journal shows.made seat new
    → new.kind ≡ old.kind → new.turn ≡ old.turn
    → ShowsLock config (stepped state word found seat carried new keeps)
stands_reading config state shows seat word found carried old new counts readers at facts same words fits kind turn =
    stands config state shows seat word found carried old new (record shows.core { counts = counts; readers = readers }) at facts same words refl
    (λ other apart. shows.seats other) fits kind turn shows.room

-- a held slot is counted in a seat that can hold one
holds_less : (slot : ℕ) (kind : SeatKind) (stage : Stage) → (kind ≢ Reads → slot_held stage ≡ None) → cond (is_slot slot (slot_held stage)) 1 0 ≤ kind_weight kind
holds_less slot Reads stage free = cond_both (is_slot slot (slot_held stage)) 1 0 (λ n. n ≤ 1) (λ h. omega arith) (λ h. omega arith)
holds_less slot Writes stage free = let n = cond-false {A = ℕ} (is_slot slot (slot_held stage)) 1 0 (ap (is_slot slot) (free (λ e. cc))) in omega arith
holds_less slot Note stage free = let n = cond-false {A = ℕ} (is_slot slot (slot_held stage)) 1 0 (ap (is_slot slot) (free (λ e. cc))) in omega arith
holds_less slot Spent stage free = let n = cond-false {A = ℕ} (is_slot slot (slot_held stage)) 1 0 (ap (is_slot slot) (free (λ e. cc))) in omega arith

-- no more than 64 readers hold a slot
pub count_few : (config : Config) (state : State Entry View) (shows : ShowsLock config state) (slot : ℕ) → count_at shows.core.counts slot ≤ 64
count_few config state shows slot =
    let weight : Reader → ℕ = λ reader. cond (holds slot reader) 1 0 in
    let counted : count_at shows.core.counts slot ≡ sum_by weight shows.core.readers = shows.facts.holders.counted slot in
    let same : sum_by weight shows.core.readers ≡ sum_by (λ view. weight (reader_of view)) state.views =
    ap (sum_by weight) shows.readers ∙ sum_by-map weight reader_of state.views in
    let less : sum_by (λ view. weight (reader_of view)) state.views ≤ sum_by can_hold state.views =
    each_less (λ view. weight (reader_of view)) can_hold state.views spent_lock_view
    (λ seat. holds_less slot (lock_view_at state.views seat).kind (lock_view_at state.views seat).stage (shows.seats seat).free) in
    let few : sum_by can_hold state.views ≤ shows.made = shows.few in
    let most : shows.made ≤ 64 = shows.most in
    omega arith
