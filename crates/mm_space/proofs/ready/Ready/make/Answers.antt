-- For `make`: the state and the passes are of one new table.
use Rattle.std.proofs.Common.{◌≤◌, refl, [], ap, arith}
use Rattle.std.proofs.lemmas.List.Elements.{All-nil}
use Rattle.mm_types.specs.declared.call.Entry.{Entry}
use Rattle.mm_state.specs.States.{StateView}
use Rattle.mm_space.specs.Names.{SpaceId}
use Rattle.mm_space.proofs.Opening.{operations_are, ready, opened_at_once}
use Rattle.mm_space.proofs.ready.Ready.make.Goals as goal

pub returns-clause-operations : goal.returns-clause-operations
returns-clause-operations c = operations_are _ _ _ c.in_ok-view.ensures.passes.passes_are

pub invariant_of-result : goal.invariant_of-result
invariant_of-result c =
    let made = c.in_ok-state.ensures in
    let entries = c.total-entries.ensures in
    let room = ap (λ (s : StateView). s.room) made in
    let few = c.requires.few in
    let viewed = c.in_ok-view.ensures.view in
    let name : SpaceId = record {
      table = c.in_ok-view.writer.seat.table_id;
      nodes = c.in_ok-view.nodes.writer_state.seat.table_id;
      config = c.args.config;
      before = [];
      operations = c.args.operations.now;
    } in
    ready name _ _ _ _ _ viewed (ap (λ (s : StateView). s.table) made) (ap (λ (s : StateView). s.nodes) made)
    (ap (λ (s : StateView). s.config) made) (ap (λ (s : StateView). s.journal) made) (All-nil (λ (e : Entry). 64 ≤ e.caller)) c.requires.callers.1
    (omega (arith, room, entries)) (omega (arith, few)) (opened_at_once name _ _ viewed refl c.in_ok-view.ensures.passes c.in_ok-view.ensures.unused) c.in_ok-logs.ensures.len
    (omega (arith, c.in_ok-logs.ensures.exact))
