-- `FlagTable::print`: what is printed reads back.
use Rattle.std.proofs.Common.{◌≡◌, ◌∙◌, ap, subst, List, ℕ, Ok}
use Rattle.std.proofs.lemmas.Result.{IfOk-weaker}
use Rattle.flag_table.specs.Printing.{printed}
use Rattle.flag_table.specs.Reading.{reading}
use Rattle.flag_table.specs.Laws.{IsSoundTable}
use Rattle.flag_table.proofs.Sound.{table_of-sound}
use Rattle.flag_table.proofs.Texts.{reading-printed}
use Rattle.flag_table.proofs.table.FlagTable.print.Goals as goal

pub returns-clause-reads_back : goal.returns-clause-reads_back
returns-clause-reads_back g c =
    let table = c.args.self.now in
    let sound = subst IsSoundTable c.self.view_is (table_of-sound c.self.inside.kind) in
    IfOk-weaker c.print_bits.result (λ (text : List ℕ). text ≡ printed table c.args.bits)
    (λ (text : List ℕ). reading table text ≡ Ok c.args.bits)
    (λ text is. ap (reading table) is ∙ reading-printed table c.args.bits sound c.requires)
    (rw c.self.view_is at c.print_bits.ensures)
