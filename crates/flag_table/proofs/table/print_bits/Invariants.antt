-- The loop of `print_bits`: the names of the rows so far are printed.
use Rattle.std.proofs.Common.{◌≡◌, string_bytes}
use Rattle.flag_table.specs.Kinds.{table_of_kind}
use Rattle.flag_table.specs.Tables.{text_of_names}
use Rattle.flag_table.proofs.Prints.{shown}
use Rattle.flag_table.proofs.table.print_bits.Given as goal

-- the text so far has the names of the rows so far
abbrev pub invariant-loop-bit : goal.invariant-loop-bit
invariant-loop-bit l = string_bytes l.text ≡ text_of_names (shown (table_of_kind l.kind).rows l.bits l.bit-index)
