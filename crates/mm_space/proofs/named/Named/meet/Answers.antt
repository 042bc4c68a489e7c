-- For `meet`: a look at the journal.
use Rattle.std.proofs.Common.{◌∙◌, subst, sym}
use Rattle.mm_types.specs.declared.config.Config.{Config}
use Rattle.area_rules.specs.Steps.{IsLegalJournal}
use Rattle.mm_state.specs.States.{StateView}
use Rattle.mm_space.specs.Spaces.{MeetsState}
use Rattle.mm_space.proofs.Ways.{met_by_look}
use Rattle.mm_space.proofs.named.Named.meet.Goals as goal

pub returns-clause-meets : goal.returns-clause-meets
returns-clause-meets g c =
    let e = c.meet.ensures in
    let state = c.self.inside.state in
    subst (λ (v : StateView). MeetsState g.N.SpaceName.name v.journal c.meet.new.self.journal c.args.seat.now c.meet.new.seat) c.self.view_is
    (subst (λ (v : StateView). MeetsState g.N.SpaceName.name state.journal v.journal c.args.seat.now c.meet.new.seat) (sym e.same)
    (met_by_look g.N.SpaceName.name state.journal state.journal c.args.seat.now c.meet.new.seat
    (subst (λ (k : Config). IsLegalJournal k state.journal) c.self.invariant.config c.facts.ensures.legal)
    (e.table ∙ c.self.invariant.table) e.view.0 e.view.2 c.requires.turn e.later (e.own c.requires.turn)))
