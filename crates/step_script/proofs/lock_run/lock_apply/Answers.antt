-- For `lock_apply`: its goals.
use Rattle.step_script.proofs.NoRefusals.{lock-lacks}
use Rattle.step_script.proofs.lock_run.lock_apply.Goals as goal

pub returns-in-Err-default-NoMemory-clause-no_memory : goal.returns-in-Err-default-NoMemory-clause-no_memory
returns-in-Err-default-NoMemory-clause-no_memory c = lock-lacks _ _ _ _ c.in-Err-default-NoMemory.ensures c.in-Err-default-NoMemory.field-0-1-is
