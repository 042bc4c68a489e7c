-- The proof of `run_op`: each operation is one item more that the pass did, and a refused one none.
use Rattle.std.proofs.Common.{◌≡◌, refl}
use Rattle.history.specs.Histories.{read_as}
use Rattle.trace_reader.specs.declared.trace.Op.TheVariants as ops
use Rattle.vma_drive.proofs.Growing.{grew_call, grew_read, grew_fault, grew_none}
use Rattle.vma_drive.specs.Hearing.{GrewNone}
use Rattle.vma_drive.proofs.Operations.{on_err}
use Rattle.vma_drive.proofs.working.run_op.Goals as goal

pub returns-in-Call-clause-ok : goal.returns-in-Call-clause-ok
returns-in-Call-clause-ok g c = rw c.in-Call.is (grew_call _ _ _ c.call.ensures.later _ _ _ c.facts.ensures.right c.call.ensures.call (rw c.in-Call.is at c.requires.op))

pub returns-in-Fault-clause-ok : goal.returns-in-Fault-clause-ok
returns-in-Fault-clause-ok g c = rw c.in-Fault.is (grew_fault _ _ _ c.fault.ensures.later _ _ _ c.facts.ensures.right c.fault.ensures.done)

pub returns-in_ok-maps-in-Maps-clause-ok : goal.returns-in_ok-maps-in-Maps-clause-ok
returns-in_ok-maps-in-Maps-clause-ok g c =
    let asked : ops.Maps ≡ read_as c.args.op = rw c.in-Maps.is refl in
    grew_read _ _ _ c.maps.ensures.later _ c.args.op asked c.facts.ensures.right c.in_ok-maps-in-Maps.ensures.read.1

pub returns-in_ok-maps-in-Fork-clause-ok : goal.returns-in_ok-maps-in-Fork-clause-ok
returns-in_ok-maps-in-Fork-clause-ok g c =
    let asked : ops.Maps ≡ read_as c.args.op = rw c.in-Fork.is refl in
    grew_read _ _ _ c.maps-in-Fork.ensures.later _ c.args.op asked c.facts.ensures.right c.in_ok-maps-in-Fork.ensures.read.1

pub returns-in_err-maps-in-Maps-clause-err : goal.returns-in_err-maps-in-Maps-clause-err
returns-in_err-maps-in-Maps-clause-err g c =
    let none : GrewNone c.args.pass.now c.maps.new.pass = record {
      grew = grew_none g.N.SpaceName.name.config _ _ c.maps.ensures.later c.in_err-maps-in-Maps.ensures.err.log c.in_err-maps-in-Maps.ensures.err.own;
      left = c.in_err-maps-in-Maps.ensures.err.left;
    } in
    on_err _ _ none

pub returns-in_err-maps-in-Fork-clause-err : goal.returns-in_err-maps-in-Fork-clause-err
returns-in_err-maps-in-Fork-clause-err g c =
    let none : GrewNone c.args.pass.now c.maps-in-Fork.new.pass = record {
      grew = grew_none g.N.SpaceName.name.config _ _ c.maps-in-Fork.ensures.later c.in_err-maps-in-Fork.ensures.err.log c.in_err-maps-in-Fork.ensures.err.own;
      left = c.in_err-maps-in-Fork.ensures.err.left;
    } in
    on_err _ _ none
