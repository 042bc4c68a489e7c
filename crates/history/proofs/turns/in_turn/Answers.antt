-- For `in_turn`: its goals.
use Rattle.std.proofs.Common.{refl}
use Rattle.std.proofs.lemmas.Bool.{false≢true}
use Rattle.history.proofs.Turning.{in_turn_order, not_in_turn}
use Rattle.history.proofs.turns.in_turn.Goals as goal

pub returns-then-not-is_in_order-clause-none : goal.returns-then-not-is_in_order-clause-none
returns-then-not-is_in_order-clause-none c = λ in_turn. false≢true (c.if-not-is_in_order.ensures.1 in_turn.reads)

pub returns-then-not-is_in_turn-clause-none : goal.returns-then-not-is_in_turn-clause-none
returns-then-not-is_in_turn-clause-none c =
    not_in_turn c.args.lines.now c.args.journal.now c.args.log.now _ c.of.ensures (λ same. false≢true (c.if-not-is_in_turn.ensures.1 same))

pub returns-clause-order : goal.returns-clause-order
returns-clause-order c =
    in_turn_order c.args.lines.now c.args.journal.now c.args.log.now c.of-2.result c.of.result c.of-2.ensures
    c.of.ensures (c.if-not-is_in_turn.ensures.0 refl)
