-- For `plan_changes`, `plan_cut`, `plan_move` and others: plans by their changes and their room.
use Rattle.std.proofs.Common.{◌≡◌, List, [], ◌++◌, ◌∙◌, sym, ap, refl}
use Rattle.std.proofs.lemmas.List.{append-nil}
use Rattle.split_merge.specs.declared.plan.Change.{Change}
use Rattle.split_merge.specs.Plans.{PlanView}

pub same_plan : (plan other : PlanView) → plan.changes ≡ other.changes → plan.room ≡ other.room → plan ≡ other
same_plan plan other changes room = λ i. record { changes = changes i; room = room i }

-- a plan with nothing more
pub plan_unchanged : (plan : PlanView) (more : List Change) → more ≡ [] → plan ≡ record plan { changes = plan.changes ++ more }
plan_unchanged plan more none = same_plan plan (record plan { changes = plan.changes ++ more })
    (sym (append-nil plan.changes) ∙ ap (λ rest. plan.changes ++ rest) (sym none)) refl

-- what was planned from an empty plan
pub all_changes : (old new : PlanView) (more : List Change) → old.changes ≡ [] → new ≡ record old { changes = old.changes ++ more } → new.changes ≡ more
all_changes old new more empty is = ap (λ (plan : PlanView). plan.changes) is ∙ ap (λ changes. changes ++ more) empty
