-- For `AreaSlots::new`: each slot is counted once.
use Rattle.std.proofs.Common.{◌+◌, ◌-◌, ◌++◌, ◌∷◌, [], length, ap, arith, ◌∙◌}
use Rattle.std.specs.List.{range_with_len}
use Rattle.std.proofs.lemmas.List.{length-reverse}
use Rattle.std.proofs.lemmas.List.FromFn.{length-range_with_len}
use Rattle.area_slots.proofs.Keeping.{one_below, kept_new}
use Rattle.area_slots.proofs.slots.AreaSlots.new.Goals as goal

pub push_reserved-requires : goal.push_reserved-requires
push_reserved-requires c =
    let low = c.args.slots - c.loop-pushed.pushed in
    omega (
      arith,
      c.loop-pushed.free.ok.0,
      c.loop-pushed.invariant.room,
      ap length c.loop-pushed.invariant.counted,
      length-reverse (range_with_len low c.loop-pushed.pushed),
      length-range_with_len low c.loop-pushed.pushed,
    )

pub loop-pushed-preserved : goal.loop-pushed-preserved
loop-pushed-preserved c =
    let slots = c.args.slots in
    let pushed = c.loop-pushed.pushed in
    record {
      counted = c.push_reserved.ensures.items ∙ ap (λ free. free ++ (slots - 1 - pushed) ∷ []) c.loop-pushed.invariant.counted
          ∙ one_below (slots - pushed) (slots - 1 - pushed) (slots - (pushed + 1)) pushed (omega arith) (omega arith);
      room = omega (arith, c.loop-pushed.invariant.room, c.push_reserved.ensures.capacity);
    }

pub invariant_of-result : goal.invariant_of-result
invariant_of-result c = record {
  once = kept_new c.args.slots c.loop-pushed.free.items c.in_ok-with_capacity.field-0.items c.loop-pushed.pushed c.loop-pushed.invariant.counted (omega arith) c.in_ok-with_capacity.ensures.items;
  rises = rw c.in_ok-with_capacity.ensures.items (λ i j d above below. absurd (omega arith));
  all_free = c.loop-pushed.invariant.room;
  all_left = c.in_ok-with_capacity.ensures.capacity;
}
