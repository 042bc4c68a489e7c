-- The proof of `place_of`: halving finds the place of the number.
use Rattle.std.proofs.Common.{nat_lt, rules, tests}
use Rattle.std.proofs.lemmas.List.Sorted.{IsPartitionPoint-from_clause}
use Rattle.trace_reader.specs.declared.trace.TraceLine.{TraceLine}
use Rattle.history.proofs.Numbers.{halves}
use Rattle.vma_drive.proofs.NamedLines.{halved}
use Rattle.vma_drive.proofs.naming.place_of.Goals as goal

pub returns : goal.returns
returns c = halved c.args.lines.now c.args.number c.partition_point.result c.requires.numbered
    (IsPartitionPoint-from_clause (λ (line : TraceLine). nat_lt line.number c.args.number) c.args.lines.now c.partition_point.result
    c.partition_point.ensures.partitioned (halves c.args.lines.now c.args.number c.requires.numbered) (λ x r q k. search (rules, tests)))
    c.requires.some
