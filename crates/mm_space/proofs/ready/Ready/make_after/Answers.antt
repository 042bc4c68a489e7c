-- For `make_after`: the state has made the entries, and the passes have seen them.
use Rattle.std.proofs.Common.{◌∙◌, sym, ap, arith}
use Rattle.std.proofs.lemmas.List.{take_at}
use Rattle.mm_state.specs.States.{StateView}
use Rattle.mm_space.specs.Names.{SpaceId, viewed_of}
use Rattle.mm_space.specs.Opening.{operations_of}
use Rattle.mm_space.proofs.Opening.{operations_are, met_is, ready, fresh_as, unused_as, opened_as}
use Rattle.mm_space.proofs.ready.Ready.make_after.Goals as goal

pub meet_all-requires-clause-fresh : goal.meet_all-requires-clause-fresh
meet_all-requires-clause-fresh g c =
    let made = c.in_ok-state.ensures in
    let same = c.repeat.ensures.same in
    let fresh = c.in_ok-view.ensures.passes in
    let name : SpaceId = record {
      table = c.in_ok-view.writer.seat.table_id;
      nodes = c.in_ok-view.nodes.writer_state.seat.table_id;
      config = c.args.config;
      before = c.args.before.now;
      operations = c.args.operations.now;
    } in
    let met = met_is name c.repeat.new.state _ (same.0 ∙ ap (λ (s : StateView). s.table) made) (same.3 ∙ ap (λ (s : StateView). s.nodes) made)
    (same.1 ∙ ap (λ (s : StateView). s.config) made) c.repeat.ensures.journal
    (ap operations_of c.as_mut_slice.ensures.value ∙ operations_are _ _ _ fresh.passes_are) in
    fresh_as _ _ _ _ _ (ap viewed_of met ∙ sym c.in_ok-view.ensures.view) c.as_mut_slice.ensures.value fresh

pub meet_all-requires-clause-unused : goal.meet_all-requires-clause-unused
meet_all-requires-clause-unused g c = unused_as _ _ c.as_mut_slice.ensures.value c.in_ok-view.ensures.unused

pub invariant_of-result : goal.invariant_of-result
invariant_of-result g c =
    let made = c.in_ok-state.ensures in
    let same = c.repeat.ensures.same in
    let met = c.meet_all.ensures.state in
    let table = same.0 ∙ ap (λ (s : StateView). s.table) made in
    let nodes = same.3 ∙ ap (λ (s : StateView). s.nodes) made in
    let config = same.1 ∙ ap (λ (s : StateView). s.config) made in
    let journal = c.repeat.ensures.journal in
    let room = ap (λ (s : StateView). s.room) met ∙ same.2 ∙ ap (λ (s : StateView). s.room) made in
    let total = c.total.ensures in
    let few = c.requires.few in
    let most = ap operations_of c.as_mut_slice.ensures.value ∙ operations_are _ _ _ c.in_ok-view.ensures.passes.passes_are in
    let back = take_at c.meet_all.new.passes _ _ (c.meet_all.auto.passes ∙ c.as_mut_slice.ensures.len) in
    let name : SpaceId = record {
      table = c.in_ok-view.writer.seat.table_id;
      nodes = c.in_ok-view.nodes.writer_state.seat.table_id;
      config = c.args.config;
      before = c.args.before.now;
      operations = c.args.operations.now;
    } in
    ready name _ _ _ _ _ c.in_ok-view.ensures.view (ap (λ (s : StateView). s.table) met ∙ table) (ap (λ (s : StateView). s.nodes) met ∙ nodes)
    (ap (λ (s : StateView). s.config) met ∙ config) (ap (λ (s : StateView). s.journal) met ∙ journal) c.requires.strangers c.requires.callers.1
    (omega (arith, room, total, few)) (omega (arith, few))
    (opened_as name _ _ _ (met_is name c.repeat.new.state _ table nodes config journal most) back c.meet_all.ensures.opened)
    c.in_ok-logs.ensures.len (omega (arith, c.in_ok-logs.ensures.exact))

pub returns-clause-operations : goal.returns-clause-operations
returns-clause-operations g c =
    let most = ap operations_of c.as_mut_slice.ensures.value ∙ operations_are _ _ _ c.in_ok-view.ensures.passes.passes_are in
    let back = take_at c.meet_all.new.passes _ _ (c.meet_all.auto.passes ∙ c.as_mut_slice.ensures.len) in
    ap operations_of back ∙ operations_are _ _ _ c.meet_all.ensures.opened.passes_are ∙ most
