-- For the callers: what operations make of what was called, a new pass, and what closing tells of one.
use Rattle.std.proofs.Common.{ℕ, ◌≡◌, ◌+◌, List, [], length, slice_get, Some, sym, ap, ◌∙◌, arith}
use Rattle.std.specs.Prelude.{slice_index_or}
use Rattle.mm_types.specs.declared.call.Call.{Call}
use Rattle.area_rules.specs.Journals.{calls_by}
use Rattle.fault_path.specs.Passes.{PassView, caller}
use Rattle.mm_space.specs.Names.{SpaceId}
use Rattle.mm_space.specs.Opening.{AreOpened}
use Rattle.mm_space.specs.Closing.{ClosedView, Closes}
use Rattle.two_callers.specs.Called.{without_touches, calls_made}
use Rattle.two_callers.specs.Internal.Passes.{Starts, Made}

-- the pass of a new space in a place, which has an operation for each of these calls and one more
pub starts : (name : SpaceId) (passes : List PassView) (place : ℕ) (pass : PassView) (calls : List Call) → AreOpened name passes
    → name.before ≡ [] → slice_get passes place ≡ Some pass → slice_index_or name.operations place 0 ≡ length calls + 1
    → Starts name calls pass
starts name passes place pass calls fresh empty at operations =
    let of = fresh.passes_are.each place pass at in
    let is = fresh.opened place pass at in
    let left : pass.left ≡ length calls + 1 =
    is.left ∙ of.0.operations ∙ ap (λ c. slice_index_or name.operations c 0) of.1 ∙ operations in
    record {
      mine = of.0;
      none = ap (calls_by (caller pass)) (is.seen ∙ empty);
      left = omega (arith, left);
    }

-- what a caller called is what the closed journal has of it
pub closed_called : (name : SpaceId) (passes : List PassView) (closed : ClosedView) (place : ℕ) (pass : PassView) (calls : List Call)
    → Closes name passes closed → slice_get passes place ≡ Some pass → Made name calls pass → caller pass ≡ place
    → calls_made (calls_by place closed.journal) ≡ without_touches calls
closed_called name passes closed place pass calls closes at made by =
    ap (λ c. calls_made (calls_by c closed.journal)) (sym by) ∙ ap calls_made (closes.each place pass at).made ∙ made.made
