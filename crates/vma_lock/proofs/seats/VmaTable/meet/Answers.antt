-- For `meet`: what the reader has seen then is the writer's journal.
use Rattle.std.proofs.Common.{sym, subst}
use Rattle.lock_core.specs.Core.{StartsWith}
use Rattle.vma_lock.specs.declared.view.View.{View}
use Rattle.vma_lock.specs.Seats.{lock_view, seen, lock_sight, journal, met_turn, Meets}
use Rattle.vma_lock.proofs.Meeting.{met}
use Rattle.vma_lock.proofs.seats.VmaTable.meet.Goals as goal

pub returns-clause-seat : goal.returns-clause-seat
returns-clause-seat c =
    let reader = c.args.seat.now in
    let writer = c.args.writer.now in
    let heard = subst (λ (v : View). StartsWith v.seen (seen c.look.new.seat)) c.greet.ensures.writer c.learn_from_reader.ensures.seen in
    subst (Meets (lock_view reader) (journal writer) (met_turn (lock_sight writer) (lock_view reader))) (sym c.learn_from_reader.ensures.seat)
    (met (lock_view reader) (lock_sight writer) (lock_view c.greet.new.seat) c.look.result (lock_view c.look.new.seat) c.greet.ensures.seat
    c.look.ensures.seen c.look.ensures.joined c.look.ensures.slot c.look.ensures.view heard)
