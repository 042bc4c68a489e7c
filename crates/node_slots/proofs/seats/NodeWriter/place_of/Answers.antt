-- For `place_of`: a row that is free again stands where it is noted.
use Rattle.node_slots.proofs.Chosen.{none_again}
use Rattle.node_slots.proofs.seats.NodeWriter.place_of.Goals as goal

pub returns-else-stands_at-clause-none : goal.returns-else-stands_at-clause-none
returns-else-stands_at-clause-none c =
    none_again c.args.self.now c.args.row.0 c.spot_of-place.result c.spot_of-place.ensures (c.stands_at.ensures.no c.if-stands_at.false)
