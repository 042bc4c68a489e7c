-- For `work`: the calls so far, and that there is an operation for each that is left and one more.
use Rattle.std.proofs.Common.{◌≡◌, ◌+◌, ◌<◌, length, take}
use Rattle.fault_path.specs.Passes.{caller, made_by}
use Rattle.mm_space.specs.Names.{IsPassOf}
use Rattle.two_callers.specs.Called.{without_touches, calls_made}
use Rattle.two_callers.proofs.callers.work.Given as goal

abbrev pub invariant-loop-call : goal.invariant-loop-call
invariant-loop-call g l = record {
  mine : IsPassOf g.N.SpaceName.name l.pass;
  by : caller l.pass ≡ caller l.fn.pass;
  made : calls_made (made_by l.pass) ≡ without_touches (take l.call-index l.calls);
  left : length l.calls < l.pass.left + l.call-index;
}
