-- For `AreaStore::enter`: a store whose writer was lent a turn, or gave it back, is the same but for that.
use Rattle.std.proofs.Common.{◌≡◌, ◌++◌, ◌∷◌, [], ◌%◌, ◌+◌, List, length, subst, sym, ap, ◌∙◌}
use Rattle.mm_types.specs.declared.call.Entry.{Entry}
use Rattle.area_rules.specs.Steps.{step, after}
use Rattle.lock_core.specs.declared.stage.SlotState.{SlotState}
use Rattle.lock_core.specs.Facts.{list_after}
use Rattle.split_merge.specs.declared.plan.Change.{Change}
use Rattle.split_merge.specs.Plans.{applied}
use Rattle.vma_lock.specs.declared.view.View.{View}
use Rattle.vma_lock.specs.declared.view.LockWriterState.{LockWriterState}
use Rattle.vma_lock.specs.declared.seats.WriterSeat.{WriterSeat}
use Rattle.vma_lock.specs.Seats.{table_config, WritesVmaTable, lock_sight, slots}
use Rattle.area_tree.specs.AreaTrees.{shown_of, areas_of}
use Rattle.mm_state.specs.declared.store.AreaStore.{AreaStore}
use Rattle.mm_state.specs.Shelves.{Hangs}
use Rattle.mm_state.specs.States.{MarksChanged, KeepsSlots, KeepsLeft, HaveLeft}
use Rattle.mm_state.specs.Internal.AreaStores.{IsAtRest, ChangesAtMost, IsEntered, IsCarriedOut}

-- what a writer knows of its table and its journal is what it knew
pub record IsLike (old new : View) : Type 0 where
  pub config : new.config ≡ old.config
  pub seen : new.seen ≡ old.seen
  pub writer_state : new.writer_state ≡ old.writer_state

pub at_rest_like : (store : AreaStore) (writer : WriterSeat) → IsLike (lock_sight store.writer) (lock_sight writer) → WritesVmaTable writer store.table → IsAtRest store
    → IsAtRest (record store { writer = writer })
at_rest_like store writer like mine rest = record {
  table = mine;
  config = like.config ∙ rest.config;
  closed = ap (λ (d : LockWriterState). d.seq % 2) like.writer_state ∙ rest.closed;
  count = rest.count;
  records = rest.records;
  hangs = subst (λ (states : List SlotState). Hangs states (shown_of store.areas) store.slots) (sym (ap (λ (d : LockWriterState). d.slots) like.writer_state)) rest.hangs;
  tree = record {
    shown = rest.tree.shown;
    still = rest.tree.still;
    number = rest.tree.number ∙ sym (ap length like.seen);
    areas = rest.tree.areas;
    limit = rest.tree.limit;
    leaving = rest.tree.leaving;
    moved = rest.tree.moved;
    spare = rest.tree.spare;
  };
}

pub entered_like : (store : AreaStore) (writer : WriterSeat) (changes : List Change) (entry : Entry) → IsLike (lock_sight store.writer) (lock_sight writer)
    → IsEntered store changes entry → IsEntered (record store { writer = writer }) changes entry
entered_like store writer changes entry like entered = record {
  reply = subst (λ (seen : List Entry). entry.reply ≡ (step (table_config store.table) (after (table_config store.table) seen) entry.call).reply) (sym like.seen) entered.reply;
  plan = entered.plan;
  result = subst (λ (seen : List Entry). applied changes (areas_of store.areas) ≡ list_after (table_config store.table) (seen ++ entry ∷ [])) (sym like.seen) entered.result;
  real = entered.real;
  sane = entered.sane;
  packable = entered.packable;
  few_after = entered.few_after;
  rise_after = entered.rise_after;
}

pub carried_like : (store made : AreaStore) (lent met : WriterSeat) (changes : List Change) (entry : Entry) → IsLike (lock_sight store.writer) (lock_sight lent)
    → IsLike (lock_sight made.writer) (lock_sight met) → IsCarriedOut (record store { writer = lent }) made changes entry
    → IsCarriedOut store (record made { writer = met }) changes entry
carried_like store made lent met changes entry first second done = record {
  entered = second.seen ∙ done.entered ∙ ap (λ seen. seen ++ entry ∷ []) first.seen;
  areas = done.areas;
  bounds = done.bounds;
  most = done.most;
  nodes = done.nodes;
  few = between (ChangesAtMost (length changes)) done.few;
  marks = between MarksChanged done.marks;
  stays = between (KeepsSlots (areas_of store.areas) (applied changes (areas_of store.areas))) done.stays;
  waits = between (KeepsLeft made.areas.tree.elapsed store.slots.left made.slots.left) done.waits;
  gone = between (HaveLeft made.areas.tree.number made.slots.left) done.gone;
  publishes = (
    done.publishes.0,
    done.publishes.1 ∙ ap (λ (d : LockWriterState). d.seq + 1) first.writer_state,
    ap (λ (d : LockWriterState). d.seq) second.writer_state ∙ done.publishes.2 ∙ ap (λ (d : LockWriterState). d.seq + 2) first.writer_state,
  );
}
  where
    between : (P : List SlotState → List SlotState → Type 0) → P (slots lent) (slots made.writer) → P (slots store.writer) (slots met)
    between P holds = subst (λ states. P states (slots met)) (ap (λ (d : LockWriterState). d.slots) first.writer_state)
        (subst (P (slots lent)) (sym (ap (λ (d : LockWriterState). d.slots) second.writer_state)) holds)
