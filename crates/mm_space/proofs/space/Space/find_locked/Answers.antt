-- For `find_locked`: a fault that grew left its touch, and a pass that looked under the lock keeps what a pass keeps.
use Rattle.std.proofs.Common.{◌-◌, ◌∙◌, sym, ap}
use Rattle.fault_path.specs.declared.pass.Rest.{Rest}
use Rattle.fault_path.specs.Passes.{PassView, pass_of}
use Rattle.mm_state.specs.States.{StateView}
use Rattle.mm_space.proofs.Ways.{grew, met_pass}
use Rattle.mm_space.proofs.space.Space.find_locked.Goals as goal

pub returns-then-grows-clause-found : goal.returns-then-grows-clause-found
returns-then-grows-clause-found g c =
    let e = c.touch-area.ensures in
    grew c.args.page c.args.access c.args.pass.now _ c.touch-area.new.seat _ g.N.SpaceName.name.config _ _ c.touch-area.result c.args.miss c.version.result
    (ap (λ (rest : Rest). pass_of c.pass.inside.reader c.pass.inside.unlocked rest) c.spend.ensures ∙ ap (λ (p : PassView). record p { left = p.left - 1 }) c.pass.view_is) c.requires.left c.requires.pass.sits.config_is (sym c.grows.ensures ∙ c.if-grows.true) e.entry e.meets.all e.meets.same e.meets.later
    e.meets.own c.version.ensures

pub invariant_of-pass-2 : goal.invariant_of-pass-2
invariant_of-pass-2 g c =
    let e = c.meet.ensures.meets in
    met_pass _ _ c.meet.new.seat _ _ g.N.SpaceName.name.config _ _ c.pass.invariant c.pass.view_is c.requires.pass.sits.config_is e.legal e.all
    (ap (λ (s : StateView). s.journal) c.meet.ensures.state) e.turn e.free e.same e.later e.own
