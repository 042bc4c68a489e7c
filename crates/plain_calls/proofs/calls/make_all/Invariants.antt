-- For `make_all`: the calls that are left have the rest of the answers, and leave the space that all of them leave.
use Rattle.std.proofs.Common.{◌≡◌, ◌≤◌, ◌+◌, ◌++◌, drop}
use Rattle.plain_calls.specs.Made.{replies_of, space_after_calls}
use Rattle.plain_calls.proofs.calls.make_all.Given as goal

abbrev pub invariant-loop-call : goal.invariant-loop-call
invariant-loop-call l = record {
  config : l.space.config ≡ l.fn.space.config;
  few : l.space.space.objects ≤ l.fn.space.space.objects + l.call-index;
  replies : l.replies.items ++ replies_of l.fn.space.config l.space.space (drop l.call-index l.calls)
      ≡ replies_of l.fn.space.config l.fn.space.space l.calls;
  space : space_after_calls l.fn.space.config l.space.space (drop l.call-index l.calls) ≡ space_after_calls l.fn.space.config l.fn.space.space l.calls;
}
