-- For `serial_history_by_version`: its goals.
use Rattle.history.proofs.SerialOrder.{serial-answered, answered_line, serial_space, answered_groups, leading_reads-after_reads, leading_reads_are_reads}
use Rattle.history.proofs.laws.serial_history_by_version.Goals as goal

pub returns-clause-items : goal.returns-clause-items
returns-clause-items c = serial-answered

pub returns-clause-lines : goal.returns-clause-lines
returns-clause-lines c = answered_line

pub returns-clause-space : goal.returns-clause-space
returns-clause-space c = serial_space

pub returns-clause-groups : goal.returns-clause-groups
returns-clause-groups c = answered_groups

pub returns-clause-parts : goal.returns-clause-parts
returns-clause-parts c = leading_reads-after_reads

pub returns-clause-reads : goal.returns-clause-reads
returns-clause-reads c = leading_reads_are_reads
