-- For `share`: each pass is new, and what each caller called is what the closed journal has of it.
use Rattle.std.proofs.Common.{ap, slice_get, slice_index_or, sym, ◌∙◌}
use Rattle.mm_space.specs.Names.{SpaceId}
use Rattle.two_callers.proofs.Calling.{starts, closed_called}
use denote.Exit.{unseen}
use mir.Syntax.{named, of_param}
use denote.Param.Send.{IsSync, sendable, Quiet-if, shr_send, shr_slice_send}
use Rattle.std.proofs.Crossing.{crosses}
use Rattle.mm_types.specs.contracts.call.Call as Call
use Rattle.mm_space.proofs.Crossing.{pass_send, space_row_sync}
use Rattle.two_callers.proofs.callers.share.Goals as goal

pub join-one-requires-send-F : goal.join-one-requires-send-F
join-one-requires-send-F g c κs within =
    let space = space_row_sync _ g.N.SpaceName c.type_bounds.send-N c.type_bounds.sync-N in
    let call : IsSync Call.the_row = search (sendable, crosses) depth 60 in
    record {
      owned = λ x vs vss. (
        tt,
        (
          (shr_send (named 6) _ _ c.type_bounds.sync-R).owned x.0 vss.0,
          (
            (shr_send (named 7) _ _ space).owned x.1 vss.1.0,
            (
              pass_send.owned x.2 vss.1.1.0,
              (
                (shr_slice_send (named 8) _ _ call).owned x.3 vss.1.1.1.0,
                tt,
              ),
            ),
          ),
        ),
      );
      leaving = λ k. Quiet-if (k (of_param 1)) _ unseen (λ x w. (tt, (tt, (tt, tt)))) (λ x w. tt);
    }

pub join-one-requires-after_bounds : goal.join-one-requires-after_bounds
join-one-requires-after_bounds g c κs within =
    let none = ap (λ (r : SpaceId). r.before) (sym c.requires.name) ∙ c.requires.before in
    let operations = ap (λ (r : SpaceId). r.operations) (sym c.requires.name) ∙ c.requires.operations in (
      starts g.N.SpaceName.name _ 0 _ _ c.open-space.ensures none c.both-one.ensures.first (ap (λ ops. slice_index_or ops 0 0) operations),
      starts g.N.SpaceName.name _ 1 _ _ c.open-space.ensures none c.both-one.ensures.second (ap (λ ops. slice_index_or ops 1 0) operations),
    )

pub returns-clause-first : goal.returns-clause-first
returns-clause-first g c =
    closed_called g.N.SpaceName.name _ _ 0 c.join-one.result.0 _ c.close.ensures (ap (λ passes. slice_get passes 0) c.in_ok-all_of.ensures.items)
    c.join-one.ensures.first.0
    (c.join-one.ensures.first.1 ∙ (c.open-space.ensures.passes_are.each 0 c.both-one.result.0 c.both-one.ensures.first).1)

pub returns-clause-second : goal.returns-clause-second
returns-clause-second g c =
    closed_called g.N.SpaceName.name _ _ 1 c.join-one.result.1 _ c.close.ensures (ap (λ passes. slice_get passes 1) c.in_ok-all_of.ensures.items)
    c.join-one.ensures.second.0
    (c.join-one.ensures.second.1 ∙ (c.open-space.ensures.passes_are.each 1 c.both-one.result.1 c.both-one.ensures.second).1)
