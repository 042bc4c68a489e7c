-- For `lock_slot`: a validated slot whose row has the page or lacks it.
use Rattle.std.proofs.Common.{◌≡◌, ◌∙◌, false, Some, sym, ap}
use Rattle.mm_types.specs.declared.area.Record.{Record}
use Rattle.mm_types.specs.Packed.{unpacked}
use Rattle.area_list.specs.Areas.{has_page}
use Rattle.vma_lock.specs.declared.view.View.{View}
use Rattle.vma_lock.specs.Seats.{lock_view}
use Rattle.fault_path.proofs.Slots.{validated, locked, lacked}
use Rattle.fault_path.proofs.locking.lock_slot.Goals as goal
use Rattle.fault_path.proofs.locking.lock_slot.Goals.{in_default-via-in-Some+else-has_page, in_default-via-in_default}

pub returns-in-Some-clause-locked : goal.returns-in-Some-clause-locked
returns-in-Some-clause-locked c =
    let at = validated (lock_view c.args.reader.now) (lock_view c.add-lock_seq.new.seat) (lock_view c.look-seq.new.seat) (lock_view c.read_row-row.new.seat) c.args.slot.0
    c.add-lock_seq.result c.look-seq.result c.read_row-row.result c.add-lock_seq.ensures.view c.look-seq.ensures.seen c.look-seq.ensures.slot
    c.look-seq.ensures.view c.if-lock_seq-seq.false c.read_row-row.ensures.row c.read_row-row.ensures.view in
    locked (lock_view c.args.reader.now) (lock_view c.read_row-row.new.seat) c.args.slot.0 c.args.page.0 c.read_row-row.result c.in-Some.area c.requires.config at
    (sym c.unpack.ensures ∙ c.in-Some.is) (sym c.has_page.ensures ∙ c.if-has_page.true)

pub returns-in_default-clause-locked : goal.returns-in_default-clause-locked
returns-in_default-clause-locked c =
    let at = validated (lock_view c.args.reader.now) (lock_view c.add-lock_seq.new.seat) (lock_view c.look-seq.new.seat) (lock_view c.read_row-row.new.seat) c.args.slot.0
    c.add-lock_seq.result c.look-seq.result c.read_row-row.result c.add-lock_seq.ensures.view c.look-seq.ensures.seen c.look-seq.ensures.slot
    c.look-seq.ensures.view c.if-lock_seq-seq.false c.read_row-row.ensures.row c.read_row-row.ensures.view in
    let lacks : (area : Record) → unpacked c.read_row-row.result ≡ Some area → has_page area.span c.args.page.0 ≡ false =
    elim c.in_default.branch [
      | in_default-via-in-Some+else-has_page w ↦ λ area is.
          let same : Some area ≡ Some w.in-Some.area = sym is ∙ sym c.unpack.ensures ∙ w.in-Some.is in
          let one : area ≡ w.in-Some.area = cc in
          ap (λ (r : Record). has_page r.span c.args.page.0) one ∙ sym w.has_page.ensures ∙ w.if-has_page.false
      | in_default-via-in_default w ↦ λ area is. absurd (w.in_default.not-Some area (c.unpack.ensures ∙ is))
    ] in (
      ap (λ (v : View). v.stage) c.sub-in_default.ensures.view,
      lacked (lock_view c.args.reader.now) (lock_view c.read_row-row.new.seat) (lock_view c.sub-in_default.new.seat) c.args.slot.0 c.args.page.0 c.read_row-row.result
          c.requires.config at c.sub-in_default.ensures.view lacks,
    )
