-- The loop of `read_names`: the names so far are good, and their bits are together.
use Rattle.std.proofs.Common.{length}
use denote.Text.{Utf8}
use denote.Shadow.{shadow}
use Rattle.flag_table.specs.Kinds.{table_of_kind}
use Rattle.flag_table.proofs.Ahead.{AreAhead}
use Rattle.flag_table.proofs.table.read_names.Given as goal

-- the words before the rest are good, and their bits together are known
abbrev pub invariant-loop-bit : goal.invariant-loop-bit
invariant-loop-bit l = shadow (Utf8 l.rest) × AreAhead (table_of_kind l.kind).rows l.text l.rest l.bits

abbrev pub decreases-loop-bit : goal.decreases-loop-bit
decreases-loop-bit l = length l.rest
