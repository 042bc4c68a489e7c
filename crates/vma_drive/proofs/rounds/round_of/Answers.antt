-- The proof of `round_of`: the named line stands among those of known round.
use Rattle.std.proofs.Common.{ℕ, ◌<◌, ◌∙◌, sym, ap, subst, get_or, Option, IfSome, arith}
use Rattle.history.proofs.Numbers.{one_place}
use Rattle.vma_drive.specs.Naming.{HasNumber}
use Rattle.vma_drive.proofs.NamedLines.{place_low}
use Rattle.vma_drive.proofs.rounds.round_of.Goals as goal

pub bounds-rounds-place_of : goal.bounds-rounds-place_of
bounds-rounds-place_of c =
    place_low c.args.lines.now _ _ _ _ c.requires.numbered c.requires.named c.in-Some.is c.place_of.ensures

pub returns-in-Some-clause-least : goal.returns-in-Some-clause-least
returns-in-Some-clause-least c bound above named =
    let its = subst (λ (o : Option ℕ). IfSome o (λ number. (said : ℕ) × HasNumber c.args.lines.now number said
    × (get_or c.args.rounds.now said 0 < bound))) c.in-Some.is named in
    let one = one_place c.args.lines.now c.requires.numbered its.0 c.place_of.result its.1.0 c.place_of.ensures.0 its.1.1 c.place_of.ensures.1
    (its.1.2 ∙ sym c.place_of.ensures.2) in
    let low = place_low c.args.lines.now _ _ _ _ c.requires.numbered c.requires.named c.in-Some.is c.place_of.ensures in
    omega (arith, c.max.ensures, its.2, ap (λ (n : ℕ). get_or c.args.rounds.now n 0) one, above)
