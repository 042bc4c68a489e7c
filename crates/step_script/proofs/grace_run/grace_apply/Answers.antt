-- For `grace_apply`: its goals.
use Rattle.step_script.proofs.GraceSteps.{kept_after}
use Rattle.step_script.proofs.NoRefusals.{grace-lacks}
use Rattle.step_script.proofs.grace_run.grace_apply.Goals as goal

pub returns-in-Ok-clause-kept : goal.returns-in-Ok-clause-kept
returns-in-Ok-clause-kept c = rw c.in-Ok.ensures.1 (kept_after _ _ _ _ c.requires.event c.requires.state)

pub returns-in-Err-default-NoMemory-clause-no_memory : goal.returns-in-Err-default-NoMemory-clause-no_memory
returns-in-Err-default-NoMemory-clause-no_memory c = (grace-lacks _ _ _ _ c.in-Err-default-NoMemory.ensures c.in-Err-default-NoMemory.field-0-1-is).1

pub returns-in-Err-default-NoMemory-clause-last : goal.returns-in-Err-default-NoMemory-clause-last
returns-in-Err-default-NoMemory-clause-last c = (grace-lacks _ _ _ _ c.in-Err-default-NoMemory.ensures c.in-Err-default-NoMemory.field-0-1-is).0
