-- A state has its facts at first: `LockState::new`.
use Rattle.std.proofs.Common.{arith}
use Rattle.std.proofs.lemmas.List.{length-replicate}
use Rattle.lock_core.specs.Core.{free_slot}
use Rattle.lock_core.proofs.Opening.{opening_facts, opening_space}
use Rattle.lock_core.proofs.state.LockState.new.Goals as goal

pub invariant_of-result : goal.invariant_of-result
invariant_of-result c = rw (c.in_ok-protocol.ensures, c.of-list.ensures, c.new-2.ensures.items, c.opening-counters.ensures) (record {
  valid = c.requires.valid;
  facts = opening_facts c.args.config c.args.readers c.args.slots;
  few = omega (arith, length-replicate c.args.slots free_slot, c.ranges.slots.fits);
  space = opening_space c.args.config;
})
