-- The proof of `map_first`: each pass is one of the space's, and stays one.
use Rattle.vma_bench.proofs.Working.{is_one, passes_worked, worked}
use denote.Plain.{UInt}
use mir.Syntax.{w64}
use denote.Param.Send.{IsSync, sendable}
use Rattle.mm_space.proofs.Crossing.{space_row_sync}
use Rattle.vma_bench.proofs.faults.map_first.Goals as goal

pub for_each_mut-requires-clause-accepts : goal.for_each_mut-requires-clause-accepts
for_each_mut-requires-clause-accepts g c lifetimes outlives i p within read =
    is_one g.N.SpaceName.name c.args.passes.now c.requires i p.now within read

pub returns : goal.returns
returns g c = passes_worked g.N.SpaceName.name c.args.passes.now c.for_each_mut.new.s c.requires c.for_each_mut.auto.s
    (λ i d within. let change = (c.for_each_mut.ensures i d within).1 in
    worked g.N.SpaceName.name change.argument.now change.after_call.now _ _ change.argument_is change.left change.call)

pub for_each_mut-requires-sync-F : goal.for_each_mut-requires-sync-F
for_each_mut-requires-sync-F g c κs within =
    let space = space_row_sync _ g.N.SpaceName c.type_bounds.send-N c.type_bounds.sync-N in
    let number : IsSync (UInt w64) = search sendable in
    record {
      shared = λ x b o κ. (
        (
          ((λ q. tt), c.type_bounds.sync-R.shared x.0.now x.0.ref_ptr.0 x.0.ref_ptr.1 _),
          (
            ((λ q. tt), space.shared x.1.now x.1.ref_ptr.0 x.1.ref_ptr.1 _),
            (
              ((λ q. tt), number.shared x.2.now x.2.ref_ptr.0 x.2.ref_ptr.1 κ),
              tt,
            ),
          ),
        ),
        λ q. tt,
      );
    }
