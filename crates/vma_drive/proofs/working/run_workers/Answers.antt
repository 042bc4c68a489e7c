-- The proof of `run_workers`: each pass may be run by its worker, and was.
use Rattle.std.proofs.Common.{rules}
use Rattle.vma_drive.proofs.OwnLines.{places_in}
use Rattle.vma_drive.proofs.Workers.{passes_worked, each_ran, may_work, worked}
use mir.Syntax.{named}
use Rattle.std.proofs.Crossing as heap
use Rattle.mm_space.proofs.Crossing.{space_row_sync}
use Rattle.vma_drive.proofs.Crossing.{round_sync}
use Rattle.vma_drive.proofs.working.run_workers.Goals as goal

pub for_each_mut-requires-clause-accepts : goal.for_each_mut-requires-clause-accepts
for_each_mut-requires-clause-accepts g c lifetimes outlives i p within read = (
  may_work g.N.SpaceName.name c.args.round.lines.now c.args.round.places.now c.args.round.rounds.now c.args.round.owed.now c.args.round.number c.args.passes.now c.requires.lines
      c.requires.places c.requires.rounds c.requires.owed c.requires.passes c.requires.has i p.now within read,
  search rules,
)

pub returns-clause-passes : goal.returns-clause-passes
returns-clause-passes g c = passes_worked g.N.SpaceName.name c.args.round.lines.now c.args.round.places.now c.args.round.rounds.now c.args.round.owed.now c.args.round.number
    c.args.passes.now c.for_each_mut.new.s c.requires.passes c.for_each_mut.auto.s
    (λ i d within. let change = (c.for_each_mut.ensures i d within).1 in
    worked g.N.SpaceName.name _ _ _ _ _ i change.argument.now change.after_call.now _ _ change.argument_is change.left change.call)

pub returns-clause-ran : goal.returns-clause-ran
returns-clause-ran g c =
    each_ran g.N.SpaceName.name c.args.round.lines.now c.args.round.places.now c.args.round.rounds.now
    c.args.round.owed.now c.args.round.number c.args.passes.now c.for_each_mut.new.s c.for_each_mut.auto.s
    (λ i d within. let change = (c.for_each_mut.ensures i d within).1 in
    worked g.N.SpaceName.name _ _ _ _ _ i change.argument.now change.after_call.now _ _ change.argument_is change.left change.call)

pub threads_for-threads-requires-clause-round : goal.threads_for-threads-requires-clause-round
threads_for-threads-requires-clause-round g c = record {
  places = c.requires.places.all;
  owed = c.requires.owed;
  within = places_in c.args.round.lines.now _ c.args.round.places.now c.args.round.rounds.now c.requires.places c.requires.rounds;
  left = λ caller pass found. (c.requires.has caller pass found).0.left;
}

pub for_each_mut-requires-sync-F : goal.for_each_mut-requires-sync-F
for_each_mut-requires-sync-F g c κs within =
    let space = space_row_sync _ g.N.SpaceName c.type_bounds.send-N c.type_bounds.sync-N in
    let round = round_sync (record { mir = named 10; lft = κs.1.1.1.1.1.1.1.1.1.1.0 }) in
    record {
      shared = λ x b o κ. (
        (
          ((λ q. tt), c.type_bounds.sync-R.shared x.0.now x.0.ref_ptr.0 x.0.ref_ptr.1 _),
          (
            ((λ q. tt), heap.sync.shared x.1.now x.1.ref_ptr.0 x.1.ref_ptr.1 κs.1.1.1.1.1.1.1.0),
            (
              ((λ q. tt), space.shared x.2.now x.2.ref_ptr.0 x.2.ref_ptr.1 _),
              (
                ((λ q. tt), round.shared x.3.now x.3.ref_ptr.0 x.3.ref_ptr.1 κs.1.1.1.1.1.1.1.1.1.0),
                (
                  ((λ q. tt), c.type_bounds.sync-G.shared x.4.now x.4.ref_ptr.0 x.4.ref_ptr.1 _),
                  tt,
                ),
              ),
            ),
          ),
        ),
        λ q. tt,
      );
    }
