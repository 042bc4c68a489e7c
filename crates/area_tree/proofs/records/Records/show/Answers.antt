-- For `Records::show`: more records of no area show the same, and then the slot's record is another.
use Rattle.std.proofs.Common.{◌<◌, ◌∙◌, ℕ, List, length, set, ap, arith}
use Rattle.std.proofs.lemmas.List.{length-set}
use Rattle.mm_types.specs.declared.area.Record.{Record}
use Rattle.area_tree.specs.Internal.Records.{padded_records}
use Rattle.area_tree.proofs.Padding.{length-padded, padded_push, padded_set}
use Rattle.area_tree.proofs.records.Records.show.Goals as goal

pub loop-self-preserved : goal.loop-self-preserved
loop-self-preserved c =
    let slots : ℕ = c.self.inside.slots in
    let written : List Record = c.loop-self.self-inside.shown.items in
    let all = length-padded slots c.self.inside.shown.items c.self.invariant.few in
    let more : length written < slots = omega (arith, c.requires, all, ap (λ (rs : List Record). length rs) c.self.view_is, c.loop-self-test.true, c.len.ensures) in
    record {
      same = ap (padded_records slots) c.push_reserved.ensures.items ∙ padded_push slots written more ∙ c.loop-self.invariant.same;
      slots = c.loop-self.invariant.slots;
      few = omega (arith, more, c.push_reserved.ensures.len);
      room = omega (arith, c.loop-self.invariant.room, c.push_reserved.ensures.capacity);
    }

pub invariant_of-self : goal.invariant_of-self
invariant_of-self c =
    let fields = c.loop-self.self-inside in
    let slots = c.loop-self.invariant.slots in
    record {
      few = omega (arith, c.loop-self.invariant.few, slots, length-set fields.shown.items c.args.slot c.args.area);
      room = omega (arith, c.loop-self.invariant.room, slots);
    }

pub returns : goal.returns
returns c =
    let written : List Record = c.loop-self.self-inside.shown.items in
    let within : c.args.slot < length written = omega (arith, c.loop-self-test.false, c.len.ensures) in
    padded_set c.loop-self.self-inside.slots c.args.slot written c.args.area within
    ∙ ap (λ n. set (padded_records n written) c.args.slot c.args.area) c.loop-self.invariant.slots
    ∙ ap (λ (rs : List Record). set rs c.args.slot c.args.area) (c.loop-self.invariant.same ∙ c.self.view_is)
