-- For `has_passed`: the first of the queue.
use Rattle.std.proofs.Common.{◌≡◌, ◌<◌, ◌∙◌, nat_le, length, refl, ap, arith, inl, inr}
use Rattle.std.proofs.lemmas.Bool.{leb-true, le-leb, cases_lt, both_ways}
use Rattle.node_slots.specs.declared.left.Left.{Left}
use Rattle.node_slots.specs.Kept.{left_at, no_left}
use Rattle.node_slots.proofs.Seating.{read_any}
use Rattle.node_slots.proofs.seats.NodeWriter.has_passed.Goals as goal

pub returns-in-Some-clause-some : goal.returns-in-Some-clause-some
returns-in-Some-clause-some c =
    let writer = c.args.self.now in
    let some : 0 < length writer.left.items = omega (arith, c.in-Some.ensures.variant.0 refl, writer.left.ok) in
    let first : c.in-Some.first.now ≡ left_at writer.left.items 0 = c.in-Some.ensures.lookup
    ∙ read_any writer.left.items 0 c.in-Some.first.now no_left some in
    λ is. (some, omega (arith, ap (λ (l : Left). l.since) first, leb-true c.in-Some.first.now.since c.args.passed is))

pub returns-in-Some-clause-none : goal.returns-in-Some-clause-none
returns-in-Some-clause-none c =
    let writer = c.args.self.now in
    let some : 0 < length writer.left.items = omega (arith, c.in-Some.ensures.variant.0 refl, writer.left.ok) in
    let first : c.in-Some.first.now ≡ left_at writer.left.items 0 = c.in-Some.ensures.lookup
    ∙ read_any writer.left.items 0 c.in-Some.first.now no_left some in
    λ is _. elim (cases_lt c.args.passed c.in-Some.first.now.since) [
      | inl after ↦ omega (arith, ap (λ (l : Left). l.since) first, after)
      | inr before ↦ absurd (both_ways (nat_le c.in-Some.first.now.since c.args.passed) is (le-leb c.in-Some.first.now.since c.args.passed before))
    ]
