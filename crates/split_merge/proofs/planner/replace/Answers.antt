-- Where the old area is the new one, nothing is planned.
use Rattle.std.proofs.Common.{sym}
use Rattle.std.proofs.lemmas.Bool.{not-false}
use Rattle.split_merge.specs.Internal.Planner.{same_area, replacing}
use Rattle.split_merge.proofs.Planning.{plan_unchanged}
use Rattle.split_merge.proofs.Steps.{replaced_same}
use Rattle.split_merge.proofs.planner.replace.Goals as goal

pub returns-else-ne : goal.returns-else-ne
returns-else-ne c = plan_unchanged c.args.plan.now (replacing c.args.old.now c.args.new.now)
    (replaced_same c.args.old.now c.in-Some.old c.args.new.now c.in-Some.is (not-false (same_area c.in-Some.old c.args.new.now) (sym c.if-ne.ensures)))
