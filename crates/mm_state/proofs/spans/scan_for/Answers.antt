-- For `scan_for`: once every reader is closed, all that left is free.
use Rattle.std.proofs.Common.{ℕ, ◌<◌, ◌∙◌, ◌++◌, ◌∷◌, [], ap, arith}
use Rattle.std.proofs.lemmas.Bool.Decides.{nat_tests}
use Rattle.area_tree.specs.AreaTrees.{AreaTreeView}
use Rattle.mm_state.proofs.Hanging.{seen_freed}
use Rattle.mm_state.proofs.Scanning.{scanned, some_inside}
use Rattle.mm_state.proofs.spans.scan_for.Goals as goal

pub returns-then-count_free-wanted-clause-areas : goal.returns-then-count_free-wanted-clause-areas
returns-then-count_free-wanted-clause-areas c = scanned c.args.areas.now c.scan.new.self _ _ c.scan.ensures.same

pub returns-then-count_free-wanted-clause-found : goal.returns-then-count_free-wanted-clause-found
returns-then-count_free-wanted-clause-found c = ap (λ (t : AreaTreeView). t.tree.found) c.scan.ensures.same
    ∙ ap (λ (n : ℕ). c.args.areas.now.tree.found ++ n ∷ []) c.count_free-before.ensures

pub returns-then-count_free-wanted-clause-slots : goal.returns-then-count_free-wanted-clause-slots
returns-then-count_free-wanted-clause-slots c = seen_freed c.args.slots.now c.free_elapsed.new.slots c.scan.new.self.tree.elapsed c.free_elapsed.ensures

pub returns-clause-areas : goal.returns-clause-areas
returns-clause-areas c = scanned c.args.areas.now c.scan.new.self _ _ c.scan.ensures.same

pub returns-clause-found : goal.returns-clause-found
returns-clause-found c = ap (λ (t : AreaTreeView). t.tree.found) c.scan.ensures.same ∙ ap (λ (n : ℕ). c.args.areas.now.tree.found ++ n ∷ []) c.count_free-before.ensures

pub returns-clause-slots : goal.returns-clause-slots
returns-clause-slots c = seen_freed c.args.slots.now c.free_elapsed.new.slots c.scan.new.self.tree.elapsed c.free_elapsed.ensures

pub returns-clause-inside : goal.returns-clause-inside
returns-clause-inside c = λ no.
    let test = c.if-count_free-wanted.false in
    some_inside c.args.areas.now c.scan.new.self c.args.slots.now c.free_elapsed.new.slots c.args.wanted c.requires.can
    (ap (λ (t : AreaTreeView). t.tree.number) c.scan.ensures.same) c.scan.ensures.gone c.free_elapsed.ensures
    (let few : c.count_free.result < c.args.wanted = grind (arith, nat_tests, test) in omega (arith, few, c.count_free.ensures))
