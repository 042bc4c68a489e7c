-- What `place_part` puts together is the place of an area in what it maps.
use Rattle.std.proofs.Common.{◌≡◌, arith}
use Rattle.std.proofs.lemmas.Grind.{common_steps}
use Rattle.maps_print.proofs.Hex.{place_joined}
use Rattle.maps_print.proofs.line.place_part.Goals as goal

pub returns : goal.returns
returns c =
    let major : c.from.result ≡ c.args.mapped.now.major = grind (arith, common_steps) in
    let minor : c.from-2.result ≡ c.args.mapped.now.minor = grind (arith, common_steps) in
    let inode : c.mapped.inside.inode ≡ c.args.mapped.now.inode = grind (arith, common_steps) in
    rw (
      c.add-5.ensures.items,
      c.add_decimal.ensures.items,
      c.add-4.ensures.items,
      c.add_padded-3.ensures.items,
      c.add-3.ensures.items,
      c.add_padded-2.ensures.items,
      c.add-2.ensures.items,
      c.add_padded.ensures.items,
      c.add.ensures.items,
      c.new-part.ensures,
    )
    (place_joined c.args.offset c.from.result c.from-2.result c.mapped.inside.inode c.args.mapped.now (omega arith) major minor inode)
