-- For `apply`: the journal has room for one entry more, and is then that of the space.
use Rattle.std.proofs.Common.{ℕ, ◌<◌, ◌∙◌, length, get_or, sym, subst, arith, ap, List}
use Rattle.mm_types.specs.declared.call.Entry.{Entry}
use Rattle.mm_types.specs.declared.config.Config.{Config}
use Rattle.area_rules.specs.Steps.{IsLegalJournal}
use Rattle.vma_lock.specs.Seats.{lock_view}
use Rattle.mm_state.specs.States.{StateView}
use Rattle.mm_space.specs.Spaces.{MeetsState}
use Rattle.mm_space.proofs.States.{counted_since, named_more}
use Rattle.mm_space.proofs.Ways.{met_by_look}
use Rattle.mm_space.proofs.named.Named.apply.Goals as goal

pub apply-reply-requires-clause-room : goal.apply-reply-requires-clause-room
apply-reply-requires-clause-room g c =
    let i = c.self.invariant in
    let few = counted_since _ _ _ i.begins i.within in let room = i.room in omega (arith, few, room)

pub returns-clause-meets : goal.returns-clause-meets
returns-clause-meets g c =
    let e = c.apply-reply.ensures in
    let now = c.apply-reply.new.self in
    subst (λ (v : StateView). MeetsState g.N.SpaceName.name v.journal now.journal c.args.seat.now c.apply-reply.new.seat) c.self.view_is
    (met_by_look g.N.SpaceName.name c.self.inside.state.journal now.journal c.args.seat.now c.apply-reply.new.seat
    (subst (λ (k : Config). IsLegalJournal k now.journal) (e.enters.same.1 ∙ c.self.invariant.config) c.facts.ensures.legal)
    (e.table ∙ c.self.invariant.table) e.view.0 e.view.2 c.requires.turn e.later e.own)

pub invariant_of-self : goal.invariant_of-self
invariant_of-self g c =
    let e = c.apply-reply.ensures in
    let by = (lock_view c.args.seat.now).caller in
    named_more _ _ _ _ c.self.invariant e.enters.entry e.enters.same.0 e.enters.nodes e.enters.same.1 e.enters.same.2
    (subst (λ (n : ℕ). n < get_or g.N.SpaceName.name.operations by 0) (sym (ap (λ (l : List Entry). length l) e.own)) c.requires.room)
