-- For `gather_logs`: each pass is of the space, and lies in its journal.
use Rattle.std.proofs.Common.{◌≤◌, ◌++◌, length, sym, ap, subst, arith, rules, ◌∙◌}
use Rattle.std.proofs.lemmas.List.Elements.{All-push}
use Rattle.fault_path.proofs.Places.{next_at, next_part}
use Rattle.mm_space.specs.Closing.{IsIn}
use Rattle.mm_state.specs.States.{StateView}
use Rattle.mm_space.proofs.Settling.{sits_later, sits_on, few_logs, fewer, regathered}
use Rattle.mm_space.proofs.closing.gather_logs.Goals as goal

pub settle-next-requires : goal.settle-next-requires
settle-next-requires g c =
    (c.requires.passes.each _ _ (next_at _ _ _ _ _ c.loop-pass.invariant.rest c.in-Some.ensures.steps.0)).0

pub join_next-requires-clause-next : goal.join_next-requires-clause-next
join_next-requires-clause-next g c =
    let of = (c.requires.passes.each _ _ (next_at _ _ _ _ _ c.loop-pass.invariant.rest c.in-Some.ensures.steps.0)).0 in
    sits_later g.N.SpaceName.name _ _ _ c.requires.view of c.settle-next.ensures.later

pub join_next-requires-clause-room : goal.join_next-requires-clause-room
join_next-requires-clause-room g c =
    let some = fewer _ _ _ _ (ap (λ ys. c.loop-pass.yielded ++ ys) (sym c.in-Some.ensures.steps.0) ∙ c.loop-pass.invariant.rest) in
    let few = few_logs _ _ _ _ c.loop-pass.invariant.gathered in
    let room = c.loop-pass.invariant.reserved in
    grind (arith, some, few, room, c.loop-pass.logs.ok)

pub loop-pass-preserved : goal.loop-pass-preserved
loop-pass-preserved g c =
    let kept = c.loop-pass.invariant in
    let of = (c.requires.passes.each _ _ (next_at _ _ _ _ _ kept.rest c.in-Some.ensures.steps.0)).0 in
    record {
      rest = next_part _ _ _ _ _ kept.rest c.in-Some.ensures.steps.0;
      left = search rules;
      state = c.settle-next.ensures.state ∙ kept.state;
      lies = All-push (IsIn g.N.SpaceName.name.config c.args.state.now.journal) c.loop-pass.yielded c.in-Some.pass kept.lies
          (subst (λ (state : StateView). IsIn g.N.SpaceName.name.config state.journal c.in-Some.pass) kept.state c.settle-next.ensures.lies);
      gathered = regathered _ _ _ _ _ c.join_next.result c.join_next.ensures.logs kept.gathered (c.join_next.ensures.log ∙ c.settle-next.ensures.log);
      joined = sits_on _ _ _ (sits_later g.N.SpaceName.name _ _ _ c.requires.view of c.settle-next.ensures.later) c.join_next.ensures.later;
      reserved = subst (λ n. length c.args.passes.items ≤ n) (sym c.join_next.ensures.room) kept.reserved;
    }
