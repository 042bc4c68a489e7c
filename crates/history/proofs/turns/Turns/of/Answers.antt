-- For `Turns::of`: its goal.
use Rattle.history.proofs.Turning.{all_told}
use Rattle.history.proofs.turns.Turns.of.Goals as goal

pub returns : goal.returns
returns c = all_told c.args.journal.now c.args.log.now
