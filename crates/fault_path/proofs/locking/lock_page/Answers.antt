-- For `lock_page`: the slot that the walk finds is one of the table's, and what was missed there was missed at the page. Where the
-- walk finds none the reader is as it was: it has no mark.
use Rattle.std.proofs.Common.{◌∙◌, Result, sym, ap, subst, arith}
use Rattle.std.specs.Option.{option_map}
use Rattle.mm_types.specs.declared.area.Record.{Record}
use Rattle.mm_types.specs.declared.slot.Slot.{Slot}
use Rattle.vma_lock.specs.declared.seats.ReaderSeat.{ReaderSeat}
use Rattle.vma_lock.specs.Seats as seats
use Rattle.node_slots.specs.declared.view.Size.{Size}
use Rattle.node_slots.specs.Seats.{node_view}
use Rattle.fault_path.specs.declared.fast.Miss.{Miss}
use Rattle.fault_path.specs.Locking.{GoesOn}
use Rattle.fault_path.proofs.Walking.{slot_within, loaded_now}
use Rattle.fault_path.proofs.Tries.{Tells, last_is, paired_now, paired, unpaired, tried, untried, stays}
use Rattle.fault_path.proofs.locking.lock_page.Goals as goal
use Rattle.fault_path.proofs.locking.lock_page.Goals.{in-Some, in-None}

pub walk-found-requires-clause-loaded : goal.walk-found-requires-clause-loaded
walk-found-requires-clause-loaded c =
    let root = c.root-root.ensures.shown in
    loaded_now (node_view c.open.new.seat) (node_view c.root-root.new.seat) c.root-root.result root.0 root.1 root.2 root.3 root.4

pub lock_slot-locked-requires-clause-slot : goal.lock_slot-locked-requires-clause-slot
lock_slot-locked-requires-clause-slot c =
    let root = c.root-root.ensures.shown in
    let loaded = loaded_now (node_view c.open.new.seat) (node_view c.root-root.new.seat) c.root-root.result root.0 root.1 root.2 root.3 root.4 in
    let pairs = sym (c.walk-found.ensures.slot loaded.shown loaded.snapshot) ∙ ap (option_map (λ (slot : Slot). slot.0)) c.in-Some.is in
    let below = slot_within (node_view c.root-root.new.seat) c.root-root.result c.args.page.0 c.in-Some.slot.0 loaded pairs in
    let size = ap (λ (s : Size). s.slots) c.root-root.ensures.table.size_is in
    omega (arith, below, size, c.requires.slots)

pub lock_slot-locked-requires-clause-found : goal.lock_slot-locked-requires-clause-found
lock_slot-locked-requires-clause-found c =
    let root = c.root-root.ensures.shown in
    let walked = c.walk-found.ensures.view in
    let snapshot = ap (λ v. v.snapshot) root.4 in
    paired_now c.args.page.0 c.in-Some.slot c.walk-found.result root.0 (node_view c.root-root.new.seat) (node_view c.walk-found.new.seat) walked.0 snapshot walked.2
    (c.walk-found.ensures.slot root.0 snapshot) c.in-Some.is

pub returns-clause-goes_on : goal.returns-clause-goes_on
returns-clause-goes_on c =
    let old = seats.lock_view c.args.reader.now in
    elim c.match-found.branch [
      | in-Some w ↦ subst (λ (r : ReaderSeat). GoesOn old (seats.lock_view r)) (sym w.reader-is) w.lock_slot-locked.ensures.goes_on
      | in-None w ↦ stays old (seats.lock_view c.match-found.reader) (ap seats.lock_view w.reader-is)
    ]

pub returns-clause-locked : goal.returns-clause-locked
returns-clause-locked c =
    let page = c.args.page.0 in
    let old = seats.lock_view c.args.reader.now in
    let new = seats.lock_view c.match-found.reader in
    let closed = node_view c.close.new.seat in
    let root = c.root-root.ensures.shown in
    let walked = c.walk-found.ensures.view in
    let last = last_is root.0 (node_view c.open.new.seat) (node_view c.root-root.new.seat) (node_view c.walk-found.new.seat) closed walked.0 root.4 walked.2 c.close.ensures.view in
    let found = c.walk-found.ensures.slot root.0 (ap (λ v. v.snapshot) root.4) in
    elim c.match-found.branch [
      | in-Some w ↦
          let pair = paired page w.in-Some.slot c.walk-found.result root.0 closed last found w.in-Some.is in
          let at = tried page w.in-Some.slot.0 old (seats.lock_view w.lock_slot-locked.new.reader) closed w.lock_slot-locked.result pair w.lock_slot-locked.ensures.locked in
          subst (λ (answer : Result Record Miss). Tells page old new closed answer) (sym w.locked-is)
          (subst (λ (r : ReaderSeat). Tells page old (seats.lock_view r) closed w.lock_slot-locked.result) (sym w.reader-is) at)
      | in-None w ↦
          let none = unpaired page c.root-root.result.tree c.walk-found.result root.0 closed last (ap (λ r. r.tree) root.1) found w.in-None.is in
          subst (λ (answer : Result Record Miss). Tells page old new closed answer) (sym w.locked-is)
          (untried page c.root-root.result.tree old new closed c.requires.free (ap seats.lock_view w.reader-is) none)
    ]
