-- For `descend`: the node that is read, a step down, and what is found.
use Rattle.std.proofs.Common.{suc, ◌≡◌, ◌-◌, Some, refl, sym, ap, ◌∙◌, arith}
use Rattle.std.specs.Option.{option_or}
use Rattle.maple_node.specs.Nodes.{node_items}
use Rattle.maple_node.specs.Levels.{is_leaf}
use Rattle.node_slots.specs.Built.{words_at}
use Rattle.maple_gap.specs.Internal.Searches.{best_of}
use Rattle.maple_gap.proofs.Rows.{node_there, node_under}
use Rattle.maple_gap.proofs.Descents.{seen, begun, went, stuck, ended, if_spare}
use Rattle.maple_gap.proofs.branch.descend.Goals as goal

pub loop-branch-init : goal.loop-branch-init
loop-branch-init c = record {
  going = begun c.args.side c.args.window (words_at c.args.writer.now) c.args.from c.requires.branch c.requires.room;
  cost = omega arith;
}

pub words-words-requires : goal.words-words-requires
words-words-requires c =
    let branch = c.loop-branch.branch in
    let going = c.loop-branch.invariant.going in
    let level = branch.level - 1 in
    let test = c.loop-branch-test.true in
    let e : branch.level ≡ suc level = omega arith in
    let at = words_at c.args.writer.now in
    node_there c.args.writer.now (is_leaf level) going.limit branch.place.start branch.place.item
    (node_under at going.limit branch.level level branch.place.start branch.place.item e going.under)

pub returns-in_default-clause-best : goal.returns-in_default-clause-best
returns-in_default-clause-best c =
    let branch = c.loop-branch.branch in
    let going = c.loop-branch.invariant.going in
    let level = branch.level - 1 in
    let test = c.loop-branch-test.true in
    let e : branch.level ≡ suc level = omega arith in
    let at = words_at c.args.writer.now in
    let looked = seen c.args.side c.args.window at going.limit branch.level level branch.place.start branch.place.item (is_leaf level) (node_items (is_leaf level) c.words-words.result.now)
    c.choose-choice.result c.requires.some e going.under refl (ap (node_items (is_leaf level)) c.words-words.ensures.words) c.choose-choice.ensures in
    going.sought ∙ ap (λ o. option_or o (best_of c.args.side c.args.window at c.loop-branch.spare))
    (stuck c.args.side c.args.window at c.args.from branch c.loop-branch.spare level c.choose-choice.result.first c.choose-choice.result.second going e looked c.in_default.is)

pub returns-in_default-clause-far : goal.returns-in_default-clause-far
returns-in_default-clause-far c = λ far.
    let branch = c.loop-branch.branch in
    let going = c.loop-branch.invariant.going in
    let level = branch.level - 1 in
    let test = c.loop-branch-test.true in
    let e : branch.level ≡ suc level = omega arith in
    let at = words_at c.args.writer.now in
    let looked = seen c.args.side c.args.window at going.limit branch.level level branch.place.start branch.place.item (is_leaf level) (node_items (is_leaf level) c.words-words.result.now)
    c.choose-choice.result c.requires.some e going.under refl (ap (node_items (is_leaf level)) c.words-words.ensures.words) c.choose-choice.ensures in
    (going.far far).1
    ∙ stuck c.args.side c.args.window at c.args.from branch c.loop-branch.spare level c.choose-choice.result.first c.choose-choice.result.second going e looked c.in_default.is

pub returns-in_default-clause-spare : goal.returns-in_default-clause-spare
returns-in_default-clause-spare c =
    if_spare c.args.side c.args.window (words_at c.args.writer.now) c.args.from c.loop-branch.branch.place c.loop-branch.spare c.loop-branch.invariant.going.rest

pub loop-branch-preserved : goal.loop-branch-preserved
loop-branch-preserved c =
    let branch = c.loop-branch.branch in
    let going = c.loop-branch.invariant.going in
    let cost = c.loop-branch.invariant.cost in
    let level = branch.level - 1 in
    let test = c.loop-branch-test.true in
    let e : branch.level ≡ suc level = omega arith in
    let at = words_at c.args.writer.now in
    let looked = seen c.args.side c.args.window at going.limit branch.level level branch.place.start branch.place.item (is_leaf level) (node_items (is_leaf level) c.words-words.result.now)
    c.choose-choice.result c.requires.some e going.under refl (ap (node_items (is_leaf level)) c.words-words.ensures.words) c.choose-choice.ensures in
    rw c.spare_from-spare.ensures (record {
      going = went c.args.side c.args.window at c.args.from branch c.loop-branch.spare level c.choose-choice.result.first c.choose-choice.result.second
          c.in-Some.place c.requires.some going e looked c.in-Some.is;
      cost = omega arith;
    })

pub returns-clause-best : goal.returns-clause-best
returns-clause-best c =
    let branch = c.loop-branch.branch in
    let going = c.loop-branch.invariant.going in
    let at = words_at c.args.writer.now in
    let test = c.loop-branch-test.false in
    going.sought ∙ ap (λ o. option_or o (best_of c.args.side c.args.window at c.loop-branch.spare))
    (ended c.args.side c.args.window at c.args.from branch c.loop-branch.spare going (omega arith) ∙ ap (λ n. Some n) (sym c.edge.ensures))

pub returns-clause-far : goal.returns-clause-far
returns-clause-far c = λ far.
    let branch = c.loop-branch.branch in
    let going = c.loop-branch.invariant.going in
    let at = words_at c.args.writer.now in
    let test = c.loop-branch-test.false in
    (going.far far).1 ∙ ended c.args.side c.args.window at c.args.from branch c.loop-branch.spare going (omega arith) ∙ ap (λ n. Some n) (sym c.edge.ensures)

pub returns-clause-spare : goal.returns-clause-spare
returns-clause-spare c =
    if_spare c.args.side c.args.window (words_at c.args.writer.now) c.args.from c.loop-branch.branch.place c.loop-branch.spare c.loop-branch.invariant.going.rest
