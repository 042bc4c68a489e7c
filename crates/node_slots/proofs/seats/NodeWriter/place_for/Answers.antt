-- For `place_for`: the place of the row, or of the one that it replaced, or of another.
use Rattle.std.proofs.Common.{◌≡◌, ◌∙◌, false, sym, subst}
use Rattle.node_slots.specs.Internal.Places.{StandsAt}
use Rattle.node_slots.specs.Choosing.{is_free_again}
use Rattle.node_slots.proofs.Chosen.{chosen_own, chosen_replaced, chosen_fresh, chosen_spare}
use Rattle.node_slots.proofs.seats.NodeWriter.place_for.Goals as goal

pub returns-then-stands_at-clause-chosen : goal.returns-then-stands_at-clause-chosen
returns-then-stands_at-clause-chosen c = chosen_own c.args.self.now c.args.row.0 _ (c.stands_at.ensures.yes c.if-stands_at.true)

pub returns-in-Some-clause-chosen : goal.returns-in-Some-clause-chosen
returns-in-Some-clause-chosen c = chosen_own c.args.self.now c.args.row.0 c.in-Some.place c.in-Some.ensures.found

pub returns-in-Some-place_of-clause-chosen : goal.returns-in-Some-place_of-clause-chosen
returns-in-Some-place_of-clause-chosen c =
    chosen_replaced c.args.self.now c.args.row.0 c.in-Some-place_of.place c.in_default.ensures.none
    (subst (λ row. StandsAt c.args.self.now row c.in-Some-place_of.place) c.replaced_by.ensures c.in-Some-place_of.ensures.found)

pub returns-then-wants_fresh-clause-chosen : goal.returns-then-wants_fresh-clause-chosen
returns-then-wants_fresh-clause-chosen c =
    let writer = c.args.self.now in
    chosen_fresh writer c.args.row.0 c.in_default.ensures.none
    (subst (λ row. is_free_again writer row ≡ false) c.replaced_by.ensures c.in_default-place_of.ensures.none) (sym c.wants_fresh.ensures ∙ c.if-wants_fresh.true)

pub returns-clause-chosen : goal.returns-clause-chosen
returns-clause-chosen c =
    let writer = c.args.self.now in
    chosen_spare writer c.args.row.0 c.spare_place.result c.in_default.ensures.none
    (subst (λ row. is_free_again writer row ≡ false) c.replaced_by.ensures c.in_default-place_of.ensures.none) (sym c.wants_fresh.ensures ∙ c.if-wants_fresh.false)
    c.spare_place.ensures.place.0 c.spare_place.ensures.place.1
