-- For `one_operation_more`: its goals.
use Rattle.history.proofs.Steps.{ops_call, ops_read, own_same, own_none}
use Rattle.history.proofs.run_laws.one_operation_more.Goals as goal

pub returns-clause-call : goal.returns-clause-call
returns-clause-call c = λ old rest log entry caller none within own. ops_call caller old rest log entry none within own

pub returns-clause-read : goal.returns-clause-read
returns-clause-read c = λ old rest log read caller none within now. ops_read caller old rest log read none within now

pub returns-clause-idle : goal.returns-clause-idle
returns-clause-idle c = λ old rest log caller none. own_same caller old rest log none

pub returns-clause-none : goal.returns-clause-none
returns-clause-none c = own_none
