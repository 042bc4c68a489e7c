-- For `first_entries`: what one entry leaves of one gap.
use Rattle.std.proofs.Common.{◌≡◌, ◌++◌, ◌∙◌, List, [], length, ap, arith}
use Rattle.maple_node.specs.declared.item.NodeItem.{NodeItem}
use Rattle.maple_write.proofs.Stores.{gap_entries, first_two}
use Rattle.maple_write.proofs.storing.first_entries.Goals as goal

-- items that were put behind none are those
moved : (none list items given : List NodeItem) → items ≡ given → none ≡ [] → list ≡ none ++ items → list ≡ given
moved none list items given is empty all = all ∙ ap (λ (xs : List NodeItem). none ++ xs) is ∙ ap (λ (xs : List NodeItem). xs ++ given) empty

pub push_ending_after-requires : goal.push_ending_after-requires
push_ending_after-requires c =
    let gap : NodeItem = record { end = c.args.limit; word = 0; gap = 0 } in
    let long = ap (λ (xs : List NodeItem). length xs) (moved c.new-entries.result.items c.push_all.new.list.items c.as_slice.result.now _ (c.as_slice.ensures.value ∙ c.first-new.ensures.items) c.new-entries.ensures c.push_all.ensures) in
    let two = first_two 0 c.args.span.lo c.args.span.hi c.args.word gap in
    omega arith

pub returns-clause-entries : goal.returns-clause-entries
returns-clause-entries c =
    (gap_entries c.args.limit c.args.span.lo c.args.span.hi c.args.word c.push_all.new.list.items c.push_ending_after.new.list.items c.requires.some c.requires.limit
    (moved c.new-entries.result.items c.push_all.new.list.items c.as_slice.result.now _ (c.as_slice.ensures.value ∙ c.first-new.ensures.items) c.new-entries.ensures c.push_all.ensures) c.push_ending_after.ensures).entries

pub returns-clause-some : goal.returns-clause-some
returns-clause-some c =
    (gap_entries c.args.limit c.args.span.lo c.args.span.hi c.args.word c.push_all.new.list.items c.push_ending_after.new.list.items c.requires.some c.requires.limit
    (moved c.new-entries.result.items c.push_all.new.list.items c.as_slice.result.now _ (c.as_slice.ensures.value ∙ c.first-new.ensures.items) c.new-entries.ensures c.push_all.ensures) c.push_ending_after.ensures).some

pub returns-clause-few : goal.returns-clause-few
returns-clause-few c =
    (gap_entries c.args.limit c.args.span.lo c.args.span.hi c.args.word c.push_all.new.list.items c.push_ending_after.new.list.items c.requires.some c.requires.limit
    (moved c.new-entries.result.items c.push_all.new.list.items c.as_slice.result.now _ (c.as_slice.ensures.value ∙ c.first-new.ensures.items) c.new-entries.ensures c.push_all.ensures) c.push_ending_after.ensures).few
