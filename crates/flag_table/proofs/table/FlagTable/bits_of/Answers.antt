-- `FlagTable::bits_of`: what is read has rows.
use Rattle.std.proofs.Common.{◌∙◌, sym, subst, IfOk}
use Rattle.flag_table.specs.Kinds.{table_of_kind}
use Rattle.flag_table.specs.Tables.{FlagNames, HasRows}
use Rattle.flag_table.proofs.Sound.{table_of-sound}
use Rattle.flag_table.proofs.Texts.{HasRows-words}
use Rattle.flag_table.proofs.table.FlagTable.bits_of.Goals as goal

pub returns-clause-rows : goal.returns-clause-rows
returns-clause-rows g c =
    let kind = c.self.inside.kind in
    let P : FlagNames → Type 0 = λ table. IfOk c.read_names.result (HasRows table) in
    subst P c.self.view_is (HasRows-words (table_of_kind kind) c.args.text.now c.read_names.result (table_of-sound kind)
    (sym c.is_zero.ensures ∙ c.if-is_zero.false) c.read_names.ensures)
