-- For `hold_the_first`: the passes are the space's, and what the first thread takes may go to it.
use mir.Syntax.{named, of_param}
use denote.Exit.{unseen}
use denote.Param.Send.{Quiet-if, IsSync, shr_send, sendable}
use Rattle.std.proofs.Crossing.{crosses}
use Rattle.std.below.core.specs.contracts.atomic.AtomicU64 as Atomic
use Rattle.mm_space.proofs.Crossing.{held_send, pass_send, space_row_sync}
use Rattle.space_tests.proofs.marking.hold_the_first.Goals as goal

pub join-requires-send-F : goal.join-requires-send-F
join-requires-send-F g c κs within =
    let space = space_row_sync _ g.N.SpaceName c.type_bounds.send-N c.type_bounds.sync-N in
    let made : IsSync Atomic.the_row = search (sendable, crosses) in
    record {
      owned = λ x vs vss. (
        tt,
        (
          (shr_send (named 6) _ _ space).owned x.0 vss.0,
          (
            (held_send (record { mir = named 7; lft = κs.1.1.1.1.1.1.1.0 })).owned x.1 vss.1.0,
            (
              pass_send.owned x.2 vss.1.1.0,
              (
                (shr_send (named 8) _ _ made).owned x.3 vss.1.1.1.0,
                tt,
              ),
            ),
          ),
        ),
      );
      leaving = λ k. Quiet-if (k (of_param 1)) _ unseen (λ x w. (tt, (tt, (tt, tt)))) (λ x w. tt);
    }

pub call-requires : goal.call-requires
call-requires g c = (c.open-space.ensures.passes_are.each 0 c.in-Some.one c.in-Some.ensures.0).0

pub join-requires-after_bounds : goal.join-requires-after_bounds
join-requires-after_bounds g c κs within = (
  (c.open-space.ensures.passes_are.each 2 c.in-Some.last c.in-Some.ensures.2).0,
  (c.open-space.ensures.passes_are.each 1 c.in-Some.two c.in-Some.ensures.1).0,
)
