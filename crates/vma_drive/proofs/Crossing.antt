-- What the workers of a round share.
use denote.Ref.{NamedLft}
use denote.Param.Send.{IsSync, sendable}
use Rattle.std.proofs.Crossing.{crosses}
use Rattle.vma_drive.specs.contracts.busy.Round as Round

pub round_sync : (a : NamedLft) → IsSync (Round.the_row a)
round_sync a = search (sendable, crosses) depth 60
