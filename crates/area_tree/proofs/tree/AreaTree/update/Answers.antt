-- For `AreaTree::update`: one slot shows another area.
use Rattle.std.proofs.Common.{List, length, ap, arith}
use Rattle.std.proofs.lemmas.List.{length-set}
use Rattle.mm_types.specs.declared.area.Record.{Record}
use Rattle.area_tree.proofs.Changing.{within, same_pages, changed}
use Rattle.area_tree.proofs.Unsealed.{set_open}
use Rattle.area_tree.proofs.tree.AreaTree.update.Goals as goal

pub show-requires : goal.show-requires
show-requires c =
    let below = within c.self.inside c.args.self.now c.args.shown.slot c.requires.member.0 c.self.invariant c.self.view_is c.facts.ensures.pairs c.requires.member.1 in
    omega (arith, below)

pub invariant_of-self : goal.invariant_of-self
invariant_of-self c =
    let fields = c.self.inside in
    let kept = c.self.invariant in
    record {
      spans = rw c.show.ensures (same_pages fields c.args.self.now c.args.shown.slot c.requires.member.0 c.args.shown.area kept c.self.view_is c.facts.ensures.pairs c.requires.member.1 c.requires.member.2);
      counted = kept.counted;
      most_is = kept.most_is;
      slots = omega (arith, ap (λ (rs : List Record). length rs) c.show.ensures, length-set fields.records c.args.shown.slot c.args.shown.area, kept.slots);
      limit = kept.limit;
      top = kept.top;
      window = kept.window;
      empty = kept.empty;
      room = kept.room;
      unsealed = λ none. rw c.show.ensures (set_open fields.records c.args.shown.slot c.args.shown.area fields.sealed kept.unsealed none);
    }

pub returns-clause-shown : goal.returns-clause-shown
returns-clause-shown c = λ old member. rw c.show.ensures
    (changed c.self.inside c.args.self.now c.args.shown.slot old c.args.shown.area c.self.invariant c.self.view_is c.facts.ensures.pairs c.requires.once member)
