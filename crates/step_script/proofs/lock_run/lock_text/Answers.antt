-- For `lock_text`: its goals.
use Rattle.std.proofs.Common.{◌≤◌, ◌+◌, length, arith}
use Rattle.step_script.proofs.LockSteps.{default_valid, next_readers, next_journal, one_printed, line_at}
use Rattle.step_script.proofs.lock_run.lock_text.Goals as goal

pub new-requires-2-clause-valid : goal.new-requires-2-clause-valid
new-requires-2-clause-valid c = rw (c.with_files-config.ensures, c.of.ensures, c.new.ensures.items) default_valid

pub loop-line-preserved : goal.loop-line-preserved
loop-line-preserved c =
    let printed = c.in_ok-state-2.ensures.text in
    let left = c.in_ok-state-2.ensures.state in
    record {
      text = one_printed c.args.script.now.lines c.loop-line.line-index _ _ _ _ _ _
          (line_at _ _ _ _ c.items-line-items.ensures c.loop-line-test.true)
          c.loop-line.invariant.text printed left;
      readers = let more : length c.in_ok-state-2.state.core.readers ≤ length c.loop-line.state.core.readers + 1 = next_readers _ _ _ left in omega arith;
      journal = let more : length c.in_ok-state-2.state.core.journal ≤ length c.loop-line.state.core.journal + 1 = next_journal _ _ _ left in omega arith;
    }
