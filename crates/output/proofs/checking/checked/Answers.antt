-- For `checked`: its goals.
use Rattle.output.proofs.InputsRead.{value_read, parent_read, text_read, error_read}
use Rattle.output.proofs.checking.checked.Goals as goal

pub judged-requires-clause-value : goal.judged-requires-clause-value
judged-requires-clause-value c = value_read c.args.bytes.now _ c.read_input.ensures.input

pub judged-requires-clause-parent : goal.judged-requires-clause-parent
judged-requires-clause-parent c = parent_read c.args.bytes.now _ c.read_input.ensures.input

pub returns-clause-text : goal.returns-clause-text
returns-clause-text c = text_read c.args.bytes.now _ _ c.read_input.ensures.input c.judged.ensures.text

pub returns-clause-bad : goal.returns-clause-bad
returns-clause-bad c = error_read c.args.bytes.now _ _ c.read_input.ensures.input c.judged.ensures.unread c.judged.ensures.memory
