-- What the struct shows at first: `LockProtocol::new`.
use Rattle.std.proofs.Common.{refl}
use Rattle.lock_core.specs.declared.stage.Stage.TheVariants.{Out}
use Rattle.lock_core.proofs.Viewing.{readers-replicate}
use Rattle.lock_core.proofs.protocol.LockProtocol.new.Goals as goal

pub returns : goal.returns
returns c =
    let slots = c.in_ok-vec.ensures.items_if_clones_equal (λ y h. h) in
    let counts = c.in_ok-vec-2.ensures.items_if_clones_equal (λ y h. h) in
    let readers = c.in_ok-vec-3.ensures.items_if_clones_equal (λ y h. h) in
    rw (slots, counts, readers, c.new.ensures.items, readers-replicate c.args.readers (record { stage = Out; seen = 0 }) refl) refl
