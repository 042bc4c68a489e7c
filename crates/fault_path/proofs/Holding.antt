-- For `Held::look` and `read_lock`: a look keeps an area locked, and what is kept of the pass.
use Rattle.std.proofs.Common.{ℕ, ◌≡◌, ◌∙◌, true, List, Some, sym, ap, subst}
use Rattle.mm_types.specs.declared.area.Record.{Record}
use Rattle.mm_types.specs.declared.call.Entry.{Entry}
use Rattle.mm_types.specs.declared.config.Config.{Config}
use Rattle.mm_types.specs.Config.{IsValidConfig}
use Rattle.mm_types.specs.Packed.{unpacked}
use Rattle.lock_core.specs.declared.stage.Stage.{Stage}
use Rattle.lock_core.specs.declared.stage.Stage.TheVariants.{Out, Holds, Valid, Gone}
use Rattle.lock_core.specs.Facts.{list_after}
use Rattle.lock_core.specs.Rows.{IsRowOf}
use Rattle.area_rules.specs.Steps.{IsLegalJournal}
use Rattle.vma_lock.specs.declared.view.View.{View}
use Rattle.vma_lock.specs.Plays.{Sees, LooksAt}
use Rattle.vma_lock.specs.Seats.{is_validated, row_of}
use Rattle.vma_lock.specs.Views.{look_at}
use Rattle.area_rules.specs.Journals.{calls_by}
use Rattle.vma_lock.specs.Seats.{lock_view, HasTurn}
use Rattle.fault_path.specs.Passes.{PassView, caller, seen_by, walker}
use Rattle.fault_path.specs.Faults.{WalksOnce, IsFound}
use Rattle.fault_path.specs.Locking.{GoesOn, IsLocked}
use Rattle.fault_path.specs.Holding.{HeldView, Locks}
use Rattle.fault_path.proofs.Members.{seen_sound, held_member}

-- a validated seat stays so at a look, with the same row, which is right for the list that the look saw
valid_look : (config : Config) (journal : List Entry) (seq : ℕ) (stage after : Stage) → is_validated stage ≡ true → LooksAt config journal seq stage after
    → (is_validated after ≡ true) × (row_of after ≡ row_of stage) × IsRowOf (list_after config journal) (row_of after)
valid_look config journal seq (Valid slot found row) after valid looks = (
  ap is_validated looks.tests,
  ap row_of looks.tests,
  subst (λ (r : List ℕ). IsRowOf (list_after config journal) r) (sym (ap row_of looks.tests)) (looks.right slot found row looks.tests).2,
)
valid_look config journal seq Out after valid looks = absurd (cc)
valid_look config journal seq (Holds slot found) after valid looks = absurd (cc)
valid_look config journal seq Gone after valid looks = absurd (cc)

-- a reader goes on at a look
pub look_goes : (old new : View) (seq : ℕ) → Sees old seq new.seen → new ≡ look_at old seq new.seen new.stage → GoesOn old new
look_goes old new seq sees look = record {
  caller = ap (λ (v : View). v.caller) look;
  config = ap (λ (v : View). v.config) look;
  turn = ap (λ (v : View). v.turn) look;
  legal = λ before. subst (λ (c : Config). IsLegalJournal c new.seen) (sym (ap (λ (v : View). v.config) look)) sees.legal;
  later = sees.later;
  own = sees.own;
}

-- an area stays locked at a look
pub look_locked : (area : Record) (old new : View) (seq : ℕ) → IsValidConfig old.config → IsLocked area old → Sees old seq new.seen
    → LooksAt old.config new.seen seq old.stage new.stage → new ≡ look_at old seq new.seen new.stage → IsLocked area new
look_locked area old new seq config locked sees looks look =
    let same : new.config ≡ old.config = ap (λ (v : View). v.config) look in
    let valid : IsValidConfig new.config = subst IsValidConfig (sym same) config in
    let at = valid_look old.config new.seen seq old.stage new.stage locked.valid looks in
    let holds : unpacked (row_of new.stage) ≡ Some area = ap unpacked at.1 ∙ locked.holds in
    let right : IsRowOf (list_after new.config new.seen) (row_of new.stage) =
    subst (λ (c : Config). IsRowOf (list_after c new.seen) (row_of new.stage)) (sym same) at.2 in
    record {
      valid = at.0;
      holds = holds;
      sound = seen_sound new.config new.seen valid sees.few;
      member = held_member new.config new.seen (row_of new.stage) area valid sees.few right holds;
    }

-- an area was locked for a pass
pub locks : (page : ℕ) (old : PassView) (held : HeldView) → GoesOn (lock_view old.reader) (lock_view held.pass.reader) → HasTurn old.reader
    → held.pass.reader.seat.table_id ≡ old.reader.seat.table_id → held.pass.nodes.seat.table_id ≡ old.nodes.seat.table_id
    → (walker held.pass).size ≡ (walker old).size → held.pass.log ≡ old.log → held.pass.left ≡ old.left → held.pass.operations ≡ old.operations
    → held.pass.takes ≡ old.takes
    → WalksOnce (walker old) (walker held.pass) → IsLocked held.area (lock_view held.pass.reader)
    → IsFound page held.area (lock_view old.reader) (lock_view held.pass.reader) (walker held.pass) → Locks page old held
locks page old held on turn table nodes size log left operations takes walk locked found = record {
  alike = record {
    later = record {
      by = on.caller;
      table = table;
      nodes = nodes;
      size = size;
      config_is = on.config;
      operations = operations;
      later = on.later;
    };
    log = log;
    left = left;
    own = ap (λ c. calls_by c (seen_by held.pass)) on.caller ∙ on.own (caller old) turn;
    takes = takes;
  };
  walk = walk;
  found = found;
  has = found.holds.has;
  member = locked.member;
}
