-- The proof of `fault_together`: each pass is one of the space's.
use Rattle.vma_bench.proofs.Working.{is_one}
use denote.Param.Send.{IsSync, sendable}
use Rattle.std.proofs.Crossing.{crosses}
use Rattle.mm_space.proofs.Crossing.{space_row_sync}
use Rattle.vma_bench.specs.contracts.faults.Load as Load
use Rattle.vma_bench.specs.contracts.faults.Totals as Totals
use Rattle.vma_bench.proofs.faults.fault_together.Goals as goal

pub for_each_mut-requires-clause-accepts : goal.for_each_mut-requires-clause-accepts
for_each_mut-requires-clause-accepts g c lifetimes outlives i p within read =
    is_one g.N.SpaceName.name c.args.passes.now c.requires i p.now within read

pub for_each_mut-requires-sync-F : goal.for_each_mut-requires-sync-F
for_each_mut-requires-sync-F g c κs within =
    let space = space_row_sync _ g.N.SpaceName c.type_bounds.send-N c.type_bounds.sync-N in
    let load : IsSync Load.the_row = search (sendable, crosses) depth 60 in
    let totals : IsSync Totals.the_row = search (sendable, crosses) depth 60 in
    record {
      shared = λ x b o κ. (
        (
          ((λ q. tt), c.type_bounds.sync-R.shared x.0.now x.0.ref_ptr.0 x.0.ref_ptr.1 _),
          (
            ((λ q. tt), space.shared x.1.now x.1.ref_ptr.0 x.1.ref_ptr.1 _),
            (
              ((λ q. tt), load.shared x.2.now x.2.ref_ptr.0 x.2.ref_ptr.1 κs.1.1.1.1.1.1.1.1.0),
              (
                ((λ q. tt), totals.shared x.3.now x.3.ref_ptr.0 x.3.ref_ptr.1 κs.1.1.1.1.1.1.1.1.1.0),
                tt,
              ),
            ),
          ),
        ),
        λ q. tt,
      );
    }
