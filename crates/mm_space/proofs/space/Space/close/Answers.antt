-- For `close`: each pass lies in the journal, in which nobody else has an entry.
use Rattle.std.proofs.Common.{subst, sym, All}
use Rattle.mm_state.specs.States.{StateView}
use Rattle.mm_space.specs.Closing.{ClosedView, IsIn, Closes}
use Rattle.mm_space.proofs.Settling.{closes}
use Rattle.mm_space.proofs.space.Space.close.Goals as goal

pub returns : goal.returns
returns g c = subst (λ (run : ClosedView). Closes g.N.SpaceName.name c.args.passes.items run) (sym c.new.ensures)
    (closes _ _ _ _ _ _ c.requires c.finish-journal.ensures.journal c.finish-journal.ensures.legal c.finish-journal.ensures.list
    c.gather_logs-logs.ensures.logs
    (subst (λ (state : StateView). All (IsIn g.N.SpaceName.name.config state.journal) c.args.passes.items)
    (sym c.gather_logs-logs.ensures.state) c.gather_logs-logs.ensures.each)
    c.finish-journal.ensures.begins c.finish-journal.ensures.within)
