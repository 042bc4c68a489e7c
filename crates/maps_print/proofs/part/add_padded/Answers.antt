-- `add_padded` adds the digits and the zeros before them that the width asks for.
use Rattle.std.proofs.Common.{◌≡◌, ◌++◌, ℕ, List, subst}
use Rattle.maps_print.proofs.Digits.{padded_whole}
use Rattle.maps_print.proofs.part.add_padded.Goals as goal

pub returns-clause-items : goal.returns-clause-items
returns-clause-items c =
    let digits = c.hex_digits-first.ensures in
    subst (λ (added : List ℕ). c.add.new.part.items ≡ c.args.part.now.items ++ added)
    (padded_whole c.args.width c.args.number c.hex_digits-first.result.1 c.min.result c.hex_digits-first.result.0 c.requires.width digits.place digits.long digits.zeros digits.digits
    c.min.ensures) c.add.ensures.items
