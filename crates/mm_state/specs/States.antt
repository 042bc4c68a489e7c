-- What contracts see of the state behind the mmap lock.
use Rattle.std.specs.Prelude.{ℕ, ◌≡◌, ◌≢◌, ◌<◌, ◌+◌, true, false, Option, List, [], ◌∷◌, ◌++◌, map, Contains}
use Rattle.mm_types.specs.declared.area.Access.{Access}
use Rattle.mm_types.specs.declared.area.Page.{Page}
use Rattle.mm_types.specs.declared.area.Record.{Record}
use Rattle.mm_types.specs.declared.call.Call.{Call}
use Rattle.mm_types.specs.declared.call.Call.TheVariants.{Touch}
use Rattle.mm_types.specs.declared.call.Entry.{Entry}
use Rattle.mm_types.specs.declared.call.Reply.{Reply}
use Rattle.mm_types.specs.declared.config.Config.{Config}
use Rattle.area_rules.specs.Steps.{step, after}
use Rattle.lock_core.specs.declared.stage.SlotState.{SlotState}
use Rattle.lock_core.specs.Facts.{list_after}
use Rattle.mm_types.specs.Packed.{packed}
use Rattle.lock_core.specs.Core.{slot_at}
use Rattle.lock_core.specs.Rows.{is_detached}
use Rattle.area_slots.specs.declared.leaving.Leaving.{Leaving}
use Rattle.maple_node.specs.Trees.{Pair}
use Rattle.atomic_table.specs.Seated.{TableId}
use Rattle.maple_gap.specs.Gaps.{span_of}

-- The state behind the mmap lock as contracts see it: its table and configuration, the sequence, whose turn the writer has, the
-- slots as they are, those that left and with which tree, the journal, and for how many entries it has room; the table of the nodes
-- of its trees, the number of the present tree, the sequence at which it was published, its pairs, and the greatest tree whose grace
-- period has elapsed.
pub record StateView : Type 0 where
  pub table : TableId
  pub config : Config
  pub seq : ℕ
  pub turn : Option ℕ
  pub slots : List SlotState
  pub left : List Leaving
  pub journal : List Entry
  pub room : ℕ
  pub nodes : TableId
  pub number : ℕ
  pub published : ℕ
  pub pairs : List Pair
  pub elapsed : ℕ

-- the list of areas after the journal
abbrev pub list_of : StateView → List Record
list_of state = list_after state.config state.journal

-- the row of the slot of a pair
abbrev pub pair_row : List SlotState → Pair → List ℕ
pair_row slots pair = (slot_at slots pair.slot).row

-- The pairs are those of the areas in order: each has the pages of its area, and a slot whose row has the words of the area.
pub record ArePairsOf (slots : List SlotState) (areas : List Record) (pairs : List Pair) : Type 0 where
  pub spans : map span_of pairs ≡ map (λ area. area.span) areas
  pub rows : map (pair_row slots) pairs ≡ map packed areas

-- a slot whose row shows an area of both lists is as it was: no mark of it rose, and its row is the same
abbrev pub KeepsSlots : (before after : List Record) → (old new : List SlotState) → Type 0
KeepsSlots before after old new = (slot : ℕ) (area : Record) → Contains before area → Contains after area → (slot_at old slot).row ≡ packed area
    → slot_at new slot ≡ slot_at old slot

-- a slot that was marked shows another row
abbrev pub MarksChanged : List SlotState → List SlotState → Type 0
MarksChanged old new = (slot : ℕ) → (slot_at new slot).lock_seq ≢ (slot_at old slot).lock_seq → (slot_at new slot).row ≢ (slot_at old slot).row

-- all slots but one at most are as they were
abbrev pub ChangesOne : List SlotState → List SlotState → Type 0
ChangesOne old new = (slot : ℕ) × ((other : ℕ) → other ≢ slot → slot_at new other ≡ slot_at old other)

-- a slot that left after the elapsed tree is left still, and is as it was
abbrev pub KeepsLeft : (elapsed : ℕ) → (before after : List Leaving) → (old new : List SlotState) → Type 0
KeepsLeft elapsed before after old new = (leaving : Leaving) → Contains before leaving → elapsed < leaving.tree
    → Contains after leaving × (slot_at new leaving.slot ≡ slot_at old leaving.slot)

-- a slot that showed an area and shows none has left with this tree
abbrev pub HaveLeft : (tree : ℕ) → (left : List Leaving) → (old new : List SlotState) → Type 0
HaveLeft tree left old new = (slot : ℕ) → is_detached (slot_at old slot).row ≡ false → is_detached (slot_at new slot).row ≡ true
    → Contains left (record { slot = slot; tree = tree })

-- A call was made and entered: the journal has exactly one entry more, of this caller, with the reply of the call's step. A touch
-- leaves all slots but one at most as they were. A slot that was marked shows another row, an area of both lists keeps its slot, a
-- slot that left is used again only once its tree's grace period has elapsed, and one whose area went left with the tree after the call.
-- One tree was published, after the beginning of the call's sequence and before its end.
pub record Enters (old new : StateView) (caller : ℕ) (call : Call) (answer : Reply) : Type 0 where
  pub entry : new.journal ≡ old.journal ++ record { caller = caller; call = call; reply = answer } ∷ []
  pub same : (new.table ≡ old.table) × (new.config ≡ old.config) × (new.room ≡ old.room)
  pub nodes : new.nodes ≡ old.nodes
  pub reply : answer ≡ (step old.config (after old.config old.journal) call).reply
  pub touch : (page : Page) (access : Access) → call ≡ Touch page access → ChangesOne old.slots new.slots
  pub marks : MarksChanged old.slots new.slots
  pub stays : KeepsSlots (list_of old) (list_of new) old.slots new.slots
  pub waits : KeepsLeft new.elapsed old.left new.left old.slots new.slots
  pub gone : HaveLeft new.number new.left old.slots new.slots
  pub publishes : (new.number ≡ old.number + 1) × (new.published ≡ old.seq + 1) × (new.seq ≡ old.seq + 2)
