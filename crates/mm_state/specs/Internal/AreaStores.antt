-- The store: the table with its writer, the tree of areas, and which slots are free.
use Rattle.std.specs.Prelude.{ℕ, ◌≡◌, ◌≢◌, ◌≤◌, ◌<◌, ◌+◌, ◌*◌, ◌^◌, true, false, if◌then◌else◌, List, [], ◌∷◌, ◌++◌, length, slice_set, sum_by, All, Contains, ◌⊎◌}
use Rattle.std.specs.List.Sorted.{IsPermutation}
use Rattle.std.specs.Vec.{vec_capacity}
use Rattle.mm_types.specs.Config.{slots_for}
use Rattle.mm_types.specs.declared.area.Record.{Record}
use Rattle.mm_types.specs.declared.call.Entry.{Entry}
use Rattle.mm_types.specs.Packed.{packed}
use Rattle.mm_types.specs.Records.{IsValid}
use Rattle.area_list.specs.Areas.{page_of, has_page}
use Rattle.area_rules.specs.Steps.{step, after}
use Rattle.lock_core.specs.declared.stage.SlotState.{SlotState}
use Rattle.lock_core.specs.Facts.{list_after}
use Rattle.lock_core.specs.Core.{slot_at, detached_row}
use Rattle.split_merge.specs.declared.plan.Change.{Change}
use Rattle.split_merge.specs.declared.plan.Change.TheVariants.{Detach, Alter, Add}
use Rattle.split_merge.specs.Plans.{olds_of, news_of, without, applied, IsPlanOf, IsReal}
use Rattle.split_merge.specs.Sorted.{BeginsAscend}
use Rattle.area_slots.specs.declared.leaving.Leaving.{Leaving}
use Rattle.area_slots.specs.Slots.{SlotSet, gone_by, gone_after, times_of_slot, times_left}
use Rattle.vma_lock.specs.declared.view.View.{View}
use Rattle.vma_lock.specs.Seats.{table_config, slots_of, WritesVmaTable, lock_sight, journal, slots, HasOpenCall, HasNoOpenCall}
use Rattle.area_tree.specs.SpanTrees.{enough}
use Rattle.area_tree.specs.declared.shown.ShownArea.{ShownArea}
use Rattle.area_tree.specs.AreaTrees.{AreaTreeView, shown_of, areas_of, times_shown, AreasRise, IsEndOf, IsRoomFor}
use Rattle.mm_state.specs.declared.store.AreaStore.{AreaStore}
use Rattle.mm_state.specs.Shelves.{Hangs}
use Rattle.mm_state.specs.States.{MarksChanged, KeepsSlots, KeepsLeft, HaveLeft}

-- how many areas a change adds
abbrev pub adds : Change → ℕ
adds (Detach old) = 0
adds (Alter old new) = 0
adds (Add new) = 1

-- how many areas some changes add
abbrev pub adds_of : List Change → ℕ
adds_of changes = sum_by adds changes

-- just the slots that left by a tree are free beside those that were, and just those that left after it are left
pub record IsFreed (elapsed : ℕ) (old new : SlotSet) : Type 0 where
  pub count : new.count ≡ old.count
  pub sum : length new.free + length new.left ≡ length old.free + length old.left
  pub each : (slot : ℕ) → times_of_slot slot new.free + times_left slot new.left ≡ times_of_slot slot old.free + times_left slot old.left
  pub left : new.left ≡ gone_after elapsed old.left

-- A tree of areas with its slots, of which so many can be free: each that left did so with a tree up to the present one, and is free
-- once this one's grace period has elapsed.
pub record CanFree (areas : AreaTreeView) (set : SlotSet) (wanted : ℕ) : Type 0 where
  pub left : All (λ leaving. leaving.tree ≤ areas.tree.number) set.left
  pub enough : wanted ≤ length set.free + length set.left

-- scans of the pins of readers changed the tree of areas alone in what they found
abbrev pub IsAreaTreeScanned : AreaTreeView → AreaTreeView → Type 0
IsAreaTreeScanned old new = new
    ≡ record old { tree = record old.tree { elapsed = new.tree.elapsed; scans = new.tree.scans; found = new.tree.found; pins = new.tree.pins; free = new.tree.free } }

-- the areas are in a tree as before but for its pairs and free rows, with other records
abbrev pub HasSameAreaTree : AreaTreeView → AreaTreeView → Type 0
HasSameAreaTree old new = new ≡ record old {
  tree = record old.tree { pairs = new.tree.pairs; changed = new.tree.changed; free = new.tree.free };
  records = new.records;
  sealed = new.sealed;
}

-- 1 for an area that has this page
abbrev pub at_page : ℕ → Record → ℕ
at_page page area = if has_page area.span page then 1 else 0

-- what the areas of some slots weigh together
abbrev pub weigh : (Record → ℕ) → List ShownArea → ℕ
weigh weight shown = sum_by (λ s. weight s.area) shown

-- an area has a page, and ends at the limit or below it
abbrev pub IsWithin : ℕ → Record → Type 0
IsWithin limit area = (area.span.lo < area.span.hi) × (area.span.hi ≤ limit)

-- a tree of so many areas up to a limit can hold these at these slots: no page is in two areas, and no slot shows two
pub record CanHold (most limit : ℕ) (shown : List ShownArea) : Type 0 where
  pub few : length shown ≤ most
  pub within : All (λ s. IsWithin limit s.area) shown
  pub apart : (page : ℕ) → weigh (at_page page) shown ≤ 1
  pub once : (slot : ℕ) → times_shown slot shown ≤ 1
  pub slots : All (λ s. s.slot < 2 * most + 2) shown

-- a tree that was prepared can hold what moved beside what it has
abbrev pub CanStore : AreaTreeView → List ShownArea → Type 0
CanStore areas moved = (areas.tree.roomy ≡ true) × CanHold areas.tree.areas areas.tree.limit (shown_of areas ++ moved)

-- the writer's view but for its slots and its tries
pub record DiffersInSlots (old new : View) : Type 0 where
  pub config : new.config ≡ old.config
  pub seen : new.seen ≡ old.seen
  pub turn : new.turn ≡ old.turn
  pub seq : new.writer_state.seq ≡ old.writer_state.seq

-- a slot was marked and has this row, and nothing else changed
pub record IsWritten (old : View) (slot : ℕ) (row : List ℕ) (new : View) : Type 0 where
  pub beside : DiffersInSlots old new
  pub slots : new.writer_state.slots ≡ slice_set old.writer_state.slots slot (record { lock_seq = old.writer_state.seq; row = row })

-- an open call may change the store
pub record CanChange (store : AreaStore) : Type 0 where
  pub table : WritesVmaTable store.writer store.table
  pub open_call : HasOpenCall store.writer
  pub count : store.slots.count ≡ slots_of store.table
  pub records : store.slots.count ≡ slots_for store.areas.tree.areas
  pub hangs : Hangs (slots store.writer) (shown_of store.areas ++ store.moved.items) store.slots
  pub roomy : store.areas.tree.roomy ≡ true

-- what each change leaves as it was, and that it wrote this row in one slot
pub record Changes (old new : AreaStore) (slot : ℕ) (row : List ℕ) : Type 0 where
  pub table : new.table ≡ old.table
  pub mine : WritesVmaTable new.writer new.table
  pub written : IsWritten (lock_sight old.writer) slot row (lock_sight new.writer)
  pub same : HasSameAreaTree old.areas new.areas
  pub moved_room : vec_capacity new.moved ≡ vec_capacity old.moved

-- the set after a slot left with a tree
abbrev pub after_leaving : SlotSet → ℕ → ℕ → SlotSet
after_leaving set slot tree = record set { left = gone_by tree set.left ++ record { slot = slot; tree = tree } ∷ gone_after tree set.left }

-- two areas have a page in common
abbrev pub HasPageOf : Record → Record → Type 0
HasPageOf area other = (area.span.lo < other.span.hi) × (other.span.lo < area.span.hi)

-- A slot of the tree shows another area. Either the tree has it there, and it has a page of the area before; or it moved, which it does
-- only where it is no part that has an end of the area before, nor this one with free pages beside it; or the tree
-- has it, and the area that had moved last came into the tree too, and each of them has a page of the area before.
pub record Moves (old new : AreaStore) (slot : ℕ) (area changed : Record) : Type 0 where
  pub rest : List ShownArea
  pub before : IsPermutation (record { slot = slot; area = area } ∷ rest) (shown_of old.areas)
  pub after : (IsPermutation (record { slot = slot; area = changed } ∷ rest) (shown_of new.areas) × (new.moved.items ≡ old.moved.items) × HasPageOf area changed)
      ⊎ (IsPermutation rest (shown_of new.areas) × (new.moved.items ≡ old.moved.items ++ record { slot = slot; area = changed } ∷ [])
      × ¬ (IsEndOf changed.span area.span) × ¬ (IsRoomFor old.areas.tree.limit (areas_of old.areas) area.span changed.span))
      ⊎ ((other : ShownArea) × IsPermutation (record { slot = slot; area = changed } ∷ other ∷ rest) (shown_of new.areas)
      × (old.moved.items ≡ new.moved.items ++ other ∷ []) × HasPageOf area changed × HasPageOf area other.area)

-- A change of a plan is carried out, but for areas that come to other pages, most of which moved: what it takes away left with this
-- tree, or keeps its slot.
abbrev pub Carries : AreaStore → AreaStore → Change → ℕ → Type 0
Carries old new (Detach area) tree = (slot : ℕ) × Changes old new slot detached_row × IsPermutation (record { slot = slot; area = area } ∷ shown_of new.areas) (shown_of old.areas)
    × (new.moved.items ≡ old.moved.items) × (new.slots ≡ after_leaving old.slots slot tree)
Carries old new (Alter area changed) tree = (slot : ℕ) × Changes old new slot (packed changed) × Moves old new slot area changed × (new.slots ≡ old.slots)
Carries old new (Add area) tree = (slot : ℕ) × Changes old new slot (packed area) × (new.areas ≡ old.areas)
    × (new.moved.items ≡ old.moved.items ++ record { slot = slot; area = area } ∷ []) × (old.slots ≡ record new.slots { free = new.slots.free ++ slot ∷ [] })

-- an area is shown, at some slot
abbrev pub IsAreaShown : List ShownArea → Record → Type 0
IsAreaShown shown area = (slot : ℕ) × Contains shown (record { slot = slot; area = area })

-- a slot that shows an area is as it was
abbrev pub IsStill : List SlotState → List SlotState → List ShownArea → Record → Type 0
IsStill old new shown area = (slot : ℕ) → Contains shown (record { slot = slot; area = area }) → slot_at new slot ≡ slot_at old slot

-- all slots but these are as they were, of which there are at most so many
abbrev pub ChangesAtMost : ℕ → List SlotState → List SlotState → Type 0
ChangesAtMost count old new = (changed : List ℕ) × (length changed ≤ count) × ((slot : ℕ) → ¬ (Contains changed slot) → slot_at new slot ≡ slot_at old slot)

-- These changes of a plan were carried out from a store on: what they brought came to its areas, and what they took away left. What
-- the other changes may take away is in the tree, and its slots are as they were; so are the free slots.
pub record IsChanging (start store : AreaStore) (done : List Change) (tree : ℕ) : Type 0 where
  pub table : store.table ≡ start.table
  pub mine : WritesVmaTable store.writer store.table
  pub beside : DiffersInSlots (lock_sight start.writer) (lock_sight store.writer)
  pub hangs : Hangs (slots store.writer) (shown_of store.areas ++ store.moved.items) store.slots
  pub count : store.slots.count ≡ start.slots.count
  pub ascend : BeginsAscend (areas_of start.areas)
  pub rise : AreasRise start.areas.tree.limit 0 (areas_of start.areas)
  pub areas : (weight : Record → ℕ) → sum_by weight (areas_of start.areas) + sum_by weight (news_of done)
      ≡ sum_by weight (olds_of done) + weigh weight (shown_of store.areas ++ store.moved.items)
  pub there : All (IsAreaShown (shown_of store.areas)) (without (olds_of done) (areas_of start.areas))
  pub still : All (IsStill (slots start.writer) (slots store.writer) (shown_of store.areas)) (without (olds_of done) (areas_of start.areas))
  pub unused : (slot : ℕ) → 0 < times_of_slot slot store.slots.free → slot_at (slots store.writer) slot ≡ slot_at (slots start.writer) slot
  pub free : length store.slots.free + adds_of done ≡ length start.slots.free
  pub leaving : All (λ leaving. leaving.tree ≤ tree) store.slots.left
  pub same : HasSameAreaTree start.areas store.areas
  pub moved_room : vec_capacity store.moved ≡ vec_capacity start.moved
  pub few_moved : length store.moved.items ≤ length (news_of done)
  pub few : ChangesAtMost (length done) (slots start.writer) (slots store.writer)
  pub marks : MarksChanged (slots start.writer) (slots store.writer)
  pub waits : (leaving : Leaving) → Contains start.slots.left leaving
      → Contains store.slots.left leaving × (slot_at (slots store.writer) leaving.slot ≡ slot_at (slots start.writer) leaving.slot)
  pub gone : HaveLeft tree store.slots.left (slots start.writer) (slots store.writer)

-- a record whose words say which it is
pub record IsPackable (area : Record) : Type 0 where
  pub valid : IsValid area
  pub object : area.object < 2 ^ 32

-- a change brings an area that can be packed, and no area in its own place
abbrev pub IsSaneChange : Change → Type 0
IsSaneChange (Detach area) = Unit {0}
IsSaneChange (Alter area changed) = IsPackable area × IsPackable changed × (area ≢ changed)
IsSaneChange (Add area) = IsPackable area

-- Between two calls the present tree is the one that is built, its number is that of the entries, and slots left with trees up to
-- it. Nothing moved, and there is room for what may.
pub record KeepsTree (store : AreaStore) : Type 0 where
  pub shown : store.areas.tree.shown ≡ store.areas.tree.pairs
  pub still : store.areas.tree.changed ≡ false
  pub number : store.areas.tree.number ≡ length (journal store.writer)
  pub areas : store.areas.tree.areas ≡ (table_config store.table).areas
  pub limit : store.areas.tree.limit ≡ page_of (table_config store.table).limit
  pub leaving : All (λ leaving. leaving.tree ≤ store.areas.tree.number) store.slots.left
  pub moved : store.moved.items ≡ []
  pub spare : vec_capacity store.moved ≡ (table_config store.table).areas

-- The tree is prepared, as many slots are free as some changes need, and nothing else changed. The pin of each reader was looked at in
-- one scan, in one more for each of these tries, before which too few rows were free, and in one more for each of these rounds, before
-- which too few slots were; so in one alone where as many rows and slots were free already.
pub record IsReadied (old new : AreaStore) (changes : List Change) : Type 0 where
  pub table : new.table ≡ old.table
  pub writer : new.writer ≡ old.writer
  pub moved : new.moved ≡ old.moved
  pub areas : new.areas ≡ record old.areas { tree = record old.areas.tree { changed = new.areas.tree.changed; roomy = true; elapsed = new.areas.tree.elapsed; scans = new.areas.tree.scans; found = new.areas.tree.found; pins = new.areas.tree.pins; free = new.areas.tree.free } }
  pub slots : IsFreed new.areas.tree.elapsed old.slots new.slots
  pub free : adds_of changes ≤ length new.slots.free
  pub scans : (tries rounds : List ℕ) × (new.areas.tree.found ≡ old.areas.tree.found ++ (old.areas.tree.free ∷ tries) ++ rounds)
      × All (λ free. free < enough old.areas.tree.areas) tries × All (λ free. free < adds_of changes) rounds
      × (new.areas.tree.scans ≡ old.areas.tree.scans + (length tries + length rounds + 1) * length old.areas.tree.pins)
  pub once : enough old.areas.tree.areas ≤ old.areas.tree.free
      → adds_of changes ≤ length old.slots.free + length (gone_by old.areas.tree.elapsed old.slots.left)
      → new.areas.tree.scans ≡ old.areas.tree.scans + length old.areas.tree.pins

-- The store between two calls: no call is open, the writer is of the table and of its configuration, each slot of the table is
-- free, left or shows one area, and the present tree is the one that is built.
pub record IsAtRest (store : AreaStore) : Type 0 where
  pub table : WritesVmaTable store.writer store.table
  pub config : (lock_sight store.writer).config ≡ table_config store.table
  pub closed : HasNoOpenCall store.writer
  pub count : store.slots.count ≡ slots_of store.table
  pub records : store.slots.count ≡ slots_for store.areas.tree.areas
  pub hangs : Hangs (slots store.writer) (shown_of store.areas) store.slots
  pub tree : KeepsTree store

-- The entry has the reply of its step after the journal, and the plan makes the list after the entry of that after the
-- journal, by real changes that can be written. The list is then in order and within the limit, and its areas before can be packed.
pub record IsEntered (store : AreaStore) (changes : List Change) (entry : Entry) : Type 0 where
  pub reply : entry.reply ≡ (step (table_config store.table) (after (table_config store.table) (journal store.writer)) entry.call).reply
  pub plan : IsPlanOf (areas_of store.areas) changes
  pub result : applied changes (areas_of store.areas) ≡ list_after (table_config store.table) (journal store.writer ++ entry ∷ [])
  pub real : IsReal changes
  pub sane : All IsSaneChange changes
  pub packable : All IsPackable (areas_of store.areas)
  pub few_after : length (applied changes (areas_of store.areas)) ≤ (table_config store.table).areas
  pub rise_after : AreasRise (page_of (table_config store.table).limit) 0 (applied changes (areas_of store.areas))

-- A call's plan made its list of the areas, and its entry stands last in the journal. At most as many slots as it has changes are
-- other than before. A slot that was marked shows another row, an area of both lists keeps its slot, a slot that left after the
-- elapsed tree is as it was, and one whose area went left with the new tree. One tree was published, while the sequence was odd.
pub record IsCarriedOut (old new : AreaStore) (changes : List Change) (entry : Entry) : Type 0 where
  pub entered : journal new.writer ≡ journal old.writer ++ entry ∷ []
  pub areas : areas_of new.areas ≡ applied changes (areas_of old.areas)
  pub bounds : new.areas.bounds ≡ old.areas.bounds
  pub most : new.areas.tree.areas ≡ old.areas.tree.areas
  pub nodes : new.areas.tree.table ≡ old.areas.tree.table
  pub few : ChangesAtMost (length changes) (slots old.writer) (slots new.writer)
  pub marks : MarksChanged (slots old.writer) (slots new.writer)
  pub stays : KeepsSlots (areas_of old.areas) (applied changes (areas_of old.areas)) (slots old.writer) (slots new.writer)
  pub waits : KeepsLeft new.areas.tree.elapsed old.slots.left new.slots.left (slots old.writer) (slots new.writer)
  pub gone : HaveLeft new.areas.tree.number new.slots.left (slots old.writer) (slots new.writer)
  pub publishes : (new.areas.tree.number ≡ old.areas.tree.number + 1) × (new.areas.tree.published ≡ (lock_sight old.writer).writer_state.seq + 1)
      × ((lock_sight new.writer).writer_state.seq ≡ (lock_sight old.writer).writer_state.seq + 2)
