-- For `AreaTree::new`: no area is there, and each slot has a record.
use Rattle.std.proofs.Common.{◌≡◌, ◌∙◌, List, All, length, sym, ap, subst, arith}
use Rattle.std.proofs.lemmas.List.{length-replicate}
use Rattle.std.proofs.lemmas.List.Elements.{All-nil}
use Rattle.mm_types.specs.declared.area.Record.{Record}
use Rattle.area_rules.specs.declared.placement.Bounds.{Bounds}
use Rattle.area_rules.proofs.Limits.{limit_between}
use Rattle.maple_node.specs.Trees.{Pair}
use Rattle.area_tree.specs.SpanTrees.{SpanView}
use Rattle.maple_gap.specs.Gaps.{span_of}
use Rattle.area_tree.specs.AreaTrees.{AreRecords, area_in, no_area}
use Rattle.area_tree.proofs.Unsealed.{IsOpen, none_open}
use Rattle.area_tree.proofs.tree.AreaTree.new.Goals as goal

pub invariant_of-result : goal.invariant_of-result
invariant_of-result c =
    let tree = c.in_ok-tree.ensures in
    let records = c.in_ok-new.ensures in
    let bounds = c.bounds_of.ensures in
    let between = limit_between c.args.config.now c.requires.config in
    record {
      spans = subst (λ (t : SpanView). AreRecords c.in_ok-new.field-0 t.pairs) (sym tree)
          (All-nil (λ (pair : Pair). (area_in c.in_ok-new.field-0 pair.slot).span ≡ span_of pair));
      counted = sym (ap (λ (t : SpanView). length t.pairs) tree);
      most_is = sym (ap (λ (t : SpanView). t.areas) tree);
      slots = omega (arith, ap length records, length-replicate c.slots_for.result no_area, c.slots_for.ensures, ap (λ (t : SpanView). t.areas) tree);
      limit = ap (λ (b : Bounds). b.limit) bounds ∙ sym c.page_of.ensures ∙ sym (ap (λ (t : SpanView). t.limit) tree);
      top = omega (arith, ap (λ (b : Bounds). b.top) bounds, ap (λ (b : Bounds). b.limit) bounds, c.requires.config.top.within, between.low);
      window = omega (arith, ap (λ (b : Bounds). b.limit) bounds, between.low);
      empty = c.in_ok-with_capacity.ensures.items;
      room = omega (arith, c.in_ok-with_capacity.ensures.exact, ap (λ (t : SpanView). t.areas) tree);
      unsealed = λ _. subst (λ (rs : List Record). All IsOpen rs) (sym records) (none_open c.slots_for.result);
    }

pub new-requires-clause-fresh : goal.new-requires-clause-fresh
new-requires-clause-fresh c = rw c.may_count-may.ensures c.requires.fresh
