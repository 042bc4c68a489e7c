-- For `try_for_rows`: a reader is inside, or no row waits.
use Rattle.std.proofs.Common.{arith, inl, inr}
use Rattle.node_slots.specs.Seats.{pins_of}
use Rattle.area_tree.proofs.Scanning.{out_or_open}
use Rattle.area_tree.proofs.waiting.try_for_rows.Goals as goal

pub returns-clause-inside : goal.returns-clause-inside
returns-clause-inside c _ = elim (out_or_open (pins_of c.scan_once.new.writer)) [
  | inr some ↦ some
  | inl out ↦
      let free = c.requires.comes c.scan_once.new.writer c.scan_once.ensures.scans (c.scan_once.ensures.gone out) in
      absurd (omega (arith, free, c.if-free_rows-rows.false, c.free_rows.ensures.length))
]
