-- For `nearest`: an item has each page from where it begins up to where it ends.
use Rattle.maple_write.specs.Internal.Stores.{place_at}
use Rattle.maple_write.proofs.Descents.{has_near}
use Rattle.maple_write.proofs.descent.Descent.nearest.Goals as goal

pub returns-then-page-place-clause-begins : goal.returns-then-page-place-clause-begins
returns-then-page-place-clause-begins c at tower places =
    let descent = c.args.self.now in
    let level = c.loop-level.level in
    let is = c.loop-level.invariant in
    has_near at descent.tree c.args.low level descent.page c.args.page (place_at descent level) tower is.order is.high c.requires.within
    (places.each level is.order c.loop-level-test.true c.if-level-lt-LEVELS.true) c.if-place-page.true c.if-page-place.true
