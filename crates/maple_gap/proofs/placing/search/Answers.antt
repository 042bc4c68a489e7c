-- For `search`: what is sought under the root is found, or under the spare branch.
use Rattle.std.proofs.Common.{None, sym, ap, ◌∙◌}
use Rattle.node_slots.specs.Built.{words_at}
use Rattle.maple_gap.specs.Internal.Searches.{best_of}
use Rattle.maple_gap.proofs.Searching.{answered, no_room, found_first, found_none, spare_is}
use Rattle.maple_gap.proofs.placing.search.Goals as goal

pub returns-then-not-may_have-clause-start : goal.returns-then-not-may_have-clause-start
returns-then-not-may_have-clause-start c =
    let root = c.root_with_gap-root.result in
    let is = c.root_with_gap-root.ensures.root in
    answered c.args.side c.args.window c.args.writer.now c.args.tree.now root None is c.requires.some c.requires.limit
    (no_room c.args.side c.args.window (words_at c.args.writer.now) root c.root_with_gap-root.ensures.branch c.requires.some
    (sym c.may_have.ensures ∙ c.if-not-may_have.true))

pub returns-then-is_some-clause-start : goal.returns-then-is_some-clause-start
returns-then-is_some-clause-start c =
    let root = c.root_with_gap-root.result in
    let down = c.descend-down.result in
    let rest = best_of c.args.side c.args.window (words_at c.args.writer.now) down.spare in
    answered c.args.side c.args.window c.args.writer.now c.args.tree.now root down.found c.root_with_gap-root.ensures.root c.requires.some c.requires.limit
    (found_first down.found rest _ c.descend-down.ensures.best (sym c.is_some.ensures ∙ c.if-is_some.true))

pub returns-in_default-clause-start : goal.returns-in_default-clause-start
returns-in_default-clause-start c =
    let root = c.root_with_gap-root.result in
    let down = c.descend-down.result in
    let of = best_of c.args.side c.args.window (words_at c.args.writer.now) in
    answered c.args.side c.args.window c.args.writer.now c.args.tree.now root None c.root_with_gap-root.ensures.root c.requires.some c.requires.limit
    (found_none down.found (of down.spare) _ c.descend-down.ensures.best (sym c.is_some.ensures ∙ c.if-is_some.false) ∙ ap of c.in_default.is)

pub returns-clause-start : goal.returns-clause-start
returns-clause-start c =
    let root = c.root_with_gap-root.result in
    let down = c.descend-down.result in
    let at = words_at c.args.writer.now in
    let of = best_of c.args.side c.args.window at in
    let spare = spare_is c.args.side c.args.window at root.level down.spare c.in-Some.spare c.in-Some.is c.descend-down.ensures.spare in
    answered c.args.side c.args.window c.args.writer.now c.args.tree.now root c.descend.result.found c.root_with_gap-root.ensures.root c.requires.some
    c.requires.limit
    (found_none down.found (of down.spare) _ c.descend-down.ensures.best (sym c.is_some.ensures ∙ c.if-is_some.false) ∙ ap of c.in-Some.is
    ∙ c.descend.ensures.far spare.0.far)
