-- For `AreaStore::enter`: the turn that was lent is given back, and the store is as the call left it.
use Rattle.std.proofs.Common.{◌≡◌, ℕ, Option, Some, None, nat_eq, eq-eqb, refl, if◌then◌else◌, List, ap, ◌∙◌, sym, inl}
use Rattle.std.proofs.lemmas.Bool.{cond-true}
use Rattle.mm_types.specs.declared.call.Entry.{Entry}
use Rattle.vma_lock.specs.declared.view.View.{View}
use Rattle.vma_lock.specs.Seats.{lock_sight, lock_view, is_turn_of}
use Rattle.mm_state.proofs.Resting.{IsLike, at_rest_like, entered_like, carried_like}
use Rattle.mm_state.proofs.store.AreaStore.enter.Goals as goal

-- another view with the same table and journal
like : (old new : View) (turn : Option ℕ) (joined own : List Entry) → new ≡ record old { turn = turn; joined = joined; own = own } → IsLike old new
like old new turn joined own is = record { config = ap (λ (v : View). v.config) is; seen = ap (λ (v : View). v.seen) is; writer_state = ap (λ (v : View). v.writer_state) is }

pub carry_out-requires-clause-rest : goal.carry_out-requires-clause-rest
carry_out-requires-clause-rest g c = at_rest_like c.args.self.now c.lend.new.writer (like _ _ _ _ _ c.lend.ensures.writer) c.lend.ensures.tables.0 c.requires.rest

pub carry_out-requires-clause-turn : goal.carry_out-requires-clause-turn
carry_out-requires-clause-turn g c = inl (ap (λ (v : View). v.turn) c.lend.ensures.writer ∙ c.requires.turn.0 ∙ ap Some (sym c.requires.turn.1))

pub carry_out-requires-clause-plan : goal.carry_out-requires-clause-plan
carry_out-requires-clause-plan g c =
    entered_like c.args.self.now c.lend.new.writer c.args.changes.now c.args.entry (like _ _ _ _ _ c.lend.ensures.writer) c.requires.plan

pub returns-clause-rest : goal.returns-clause-rest
returns-clause-rest g c = at_rest_like c.carry_out.new.self c.meet.new.writer (like _ _ _ _ _ c.meet.ensures.writer) c.meet.ensures.tables.0 c.carry_out.ensures.rest

-- a turn that was lent is given back
given_back : (caller : ℕ) (turn : Option ℕ) → turn ≡ Some caller → (if is_turn_of caller turn then None else turn) ≡ None
given_back caller turn is = rw is (cond-true (nat_eq caller caller) None (Some caller) (eq-eqb caller caller refl))

pub returns-clause-turn : goal.returns-clause-turn
returns-clause-turn g c = ap (λ (v : View). v.turn) c.meet.ensures.writer
    ∙ given_back (lock_view c.lend.new.seat).caller (lock_sight c.carry_out.new.self.writer).turn
    (c.carry_out.ensures.turn ∙ ap (λ (v : View). v.turn) c.lend.ensures.writer ∙ c.requires.turn.0 ∙ ap Some (sym (ap (λ (v : View). v.caller) c.lend.ensures.seat)))

pub returns-clause-done : goal.returns-clause-done
returns-clause-done g c = carried_like c.args.self.now c.carry_out.new.self c.lend.new.writer c.meet.new.writer c.args.changes.now c.args.entry
    (like _ _ _ _ _ c.lend.ensures.writer) (like _ _ _ _ _ c.meet.ensures.writer) c.carry_out.ensures.done
