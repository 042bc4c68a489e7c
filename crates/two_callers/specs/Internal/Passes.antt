-- A caller's pass, before and after it did what it is to do.
use Rattle.std.specs.Prelude.{◌≡◌, ◌<◌, List, [], length}
use Rattle.mm_types.specs.declared.call.Call.{Call}
use Rattle.fault_path.specs.Passes.{PassView, made_by}
use Rattle.mm_space.specs.Names.{SpaceId, IsPassOf}
use Rattle.two_callers.specs.Called.{without_touches, calls_made}

-- the pass of a caller that has made no entry, with an operation for each of these calls and one more
pub record Starts (name : SpaceId) (calls : List Call) (pass : PassView) : Type 0 where
  pub mine : IsPassOf name pass
  pub none : made_by pass ≡ []
  pub left : length calls < pass.left

-- the pass of a caller that made these calls and no others, but for touches
pub record Made (name : SpaceId) (calls : List Call) (pass : PassView) : Type 0 where
  pub mine : IsPassOf name pass
  pub made : calls_made (made_by pass) ≡ without_touches calls
