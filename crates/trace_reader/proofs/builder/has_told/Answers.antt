-- For `has_told`: its goals.
use Rattle.std.proofs.Common.{◌∙◌, nat_lt, rules, tests}
use Rattle.std.proofs.lemmas.List.Sorted.{IsPartitionPoint-from_clause}
use Rattle.trace_reader.specs.declared.trace.TraceLine.{TraceLine}
use Rattle.trace_reader.specs.Lines.{is_told}
use Rattle.trace_reader.proofs.Halving.{IsPlaceOf, halves, one_tested, none_tested, told_number}
use Rattle.trace_reader.proofs.builder.has_told.Goals as goal

pub returns-in-Some : goal.returns-in-Some
returns-in-Some c =
    let lines = c.args.lines.now in
    let point : IsPlaceOf lines c.args.number c.partition_point-place.result =
    IsPartitionPoint-from_clause (λ (line : TraceLine). nat_lt line.number c.args.number) lines c.partition_point-place.result
    c.partition_point-place.ensures.partitioned (halves lines c.args.number c.requires) (λ x r q k. search (rules, tests)) in
    c.is_told.ensures ∙ one_tested (is_told c.args.children.now c.args.thread c.args.number) lines c.args.number c.partition_point-place.result
    c.requires point (told_number c.args.children.now c.args.thread c.args.number) c.in-Some.other.now
    c.in-Some.ensures.lookup.3.0 c.in-Some.ensures.lookup.3.1

pub returns-in-None : goal.returns-in-None
returns-in-None c =
    let lines = c.args.lines.now in
    let point : IsPlaceOf lines c.args.number c.partition_point-place.result =
    IsPartitionPoint-from_clause (λ (line : TraceLine). nat_lt line.number c.args.number) lines c.partition_point-place.result
    c.partition_point-place.ensures.partitioned (halves lines c.args.number c.requires) (λ x r q k. search (rules, tests)) in
    none_tested (is_told c.args.children.now c.args.thread c.args.number) lines c.args.number c.partition_point-place.result
    c.requires point (told_number c.args.children.now c.args.thread c.args.number) c.in-None.ensures.lookup.3
