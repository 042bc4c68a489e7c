-- For `Files::copy`: what its loop keeps.
use Rattle.std.proofs.Common.{◌≡◌, take}
use Rattle.mm_types.proofs.files.Files.copy.Given as goal

-- the first rows were copied
abbrev pub invariant-loop-row : goal.invariant-loop-row
invariant-loop-row l = l.rows.items ≡ take l.row-index l.row-items
