-- For `blocker`: its goals.
use Rattle.std.proofs.Common.{◌+◌, ◌&&◌, ◌∙◌, nat_lt, rules, tests}
use Rattle.std.proofs.lemmas.Iterator.{YieldsList-from_slice}
use Rattle.std.proofs.lemmas.Iterator.Search.{find_from_yields_List}
use Rattle.mm_types.specs.declared.area.Record.{Record}
use Rattle.area_rules.specs.Placement.{}
use Rattle.area_rules.specs.Blockers.{blocker}
use Rattle.area_model.proofs.placement.blocker.Goals as goal

pub returns : goal.returns
unfolding blocker
returns c = c.copied.ensures ∙ find_from_yields_List (λ (area : Record). nat_lt area.span.lo (c.args.start + c.args.pages) && nat_lt c.args.start area.span.hi) _ _ c.find.result
    c.find.ensures.ran (YieldsList-from_slice c.args.areas.now c.iter.ensures.rest) (λ x b q k. search (rules, tests))
