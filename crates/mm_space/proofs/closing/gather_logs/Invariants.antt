-- For `gather_logs`: the logs so far are those of the passes so far, of which the last is not yet joined.
use Rattle.std.proofs.Common.{◌≡◌, ◌≤◌, ◌++◌, length, map, vec_capacity, IfSome, All, option_to_list}
use Rattle.std.specs.Vec.Iter.{into_iter_items, into_iter_len}
use Rattle.fault_path.specs.Passes.{SitsAtTables}
use Rattle.mm_space.specs.Closing.{IsIn}
use Rattle.mm_space.proofs.closing.gather_logs.Given as goal

abbrev pub invariant-loop-pass : goal.invariant-loop-pass
invariant-loop-pass g l = record {
  rest : l.yielded ++ into_iter_items l.pass-iterator ≡ l.fn.passes.items;
  left : into_iter_len l.pass-iterator ≡ length (into_iter_items l.pass-iterator);
  state : l.state ≡ l.fn.state;
  lies : All (IsIn g.N.SpaceName.name.config l.fn.state.journal) l.yielded;
  gathered : map (λ log. log.items) l.logs.items ++ map (λ pass. pass.log) (option_to_list l.last) ≡ map (λ pass. pass.log) l.yielded;
  joined : IfSome l.last (SitsAtTables l.fn.view);
  reserved : length l.fn.passes.items ≤ vec_capacity l.logs;
}
