-- What the loop of `sorted_rows` keeps.
use Rattle.std.proofs.Common.{◌≡◌, not, take, map}
use Rattle.std.specs.List.{filter}
use Rattle.lock_core.specs.Rows.{is_detached}
use Rattle.lock_core.proofs.rows.sorted_rows.Given as goal

abbrev pub invariant-loop-slot : goal.invariant-loop-slot
invariant-loop-slot l = l.rows.items ≡ filter (λ row. not (is_detached row)) (map (λ slot. slot.row) (take l.slot-index l.slots))
