-- `print_bits`: each row adds its name where its bit is there.
use Rattle.std.proofs.Common.{◌∙◌, ap, sym, string_bytes}
use Rattle.flag_table.specs.Kinds.{table_of_kind}
use Rattle.flag_table.specs.Printing.{with_flag_name}
use Rattle.flag_table.proofs.Prints.{text_of-shown_yes, text_of-shown_no, text_of-shown_all, printed-zero}
use Rattle.flag_table.proofs.Sound.{table_of-sound}
use Rattle.flag_table.proofs.table.print_bits.Goals as goal
use Rattle.flag_table.proofs.table.print_bits.Goals.{then-has_flag+in_ok-push_name, else-has_flag}

pub returns-then-bits-eq0 : goal.returns-then-bits-eq0
returns-then-bits-eq0 c = c.in_ok-copy_of.ensures ∙ c.zero_name.ensures
    ∙ sym (printed-zero (table_of_kind c.args.kind) c.args.bits c.if-bits-eq0.true)

pub loop-bit-preserved : goal.loop-bit-preserved
loop-bit-preserved c = elim c.if-has_flag.branch [
  | then-has_flag+in_ok-push_name w ↦ ap string_bytes w.text-is ∙ w.in_ok-push_name.ensures
      ∙ ap (λ text. with_flag_name text w.name_with.result.now) c.loop-bit.invariant ∙ ap (with_flag_name _) w.name_with.ensures
      ∙ sym (text_of-shown_yes (table_of_kind c.args.kind)
      (table_of-sound c.args.kind) c.args.rows.now c.requires c.args.bits c.loop-bit.bit-index
      c.loop-bit-test.true (sym c.has_flag.ensures ∙ w.if-has_flag.true))
  | else-has_flag w ↦ ap string_bytes w.text-is ∙ c.loop-bit.invariant
      ∙ sym (text_of-shown_no (table_of_kind c.args.kind).rows c.args.rows.now c.requires c.args.bits c.loop-bit.bit-index
      c.loop-bit-test.true (sym c.has_flag.ensures ∙ w.if-has_flag.false))
]

pub returns : goal.returns
returns c = c.of.ensures ∙ c.loop-bit.invariant
    ∙ text_of-shown_all (table_of_kind c.args.kind) c.args.rows.now c.requires c.args.bits c.loop-bit.bit-index
    c.loop-bit-test.false c.if-bits-eq0.false
