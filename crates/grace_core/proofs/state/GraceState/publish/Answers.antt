-- A state keeps its facts, and a publish is refused by its first row that can't be published: `GraceState::publish`.
use Rattle.std.proofs.Common.{◌∙◌, ◌+◌, refl, sym, ap, inl, inr, rules}
use Rattle.std.specs.Option.{option_map}
use Rattle.std.proofs.lemmas.Bool.{eqb-true}
use Rattle.std.proofs.lemmas.Result.{err_from_is_err_and}
use Rattle.grace_core.specs.declared.events.GraceRefusal.TheVariants.{RowNotFree}
use Rattle.grace_core.proofs.Preserving.{kept_publish}
use Rattle.grace_core.proofs.Refusing.{refusal_publish}
use Rattle.grace_core.proofs.state.GraceState.publish.Goals as goal

pub returns-in-Some : goal.returns-in-Some
returns-in-Some c =
    let next = rw c.writer_state.ensures at (sym c.if-not-is_next.ensures) in
    let found = rw (c.writer_state-2.ensures, c.items.ensures) at (sym c.first_unfit.ensures) in (
      refl,
      inl (rw (← c.self.view_is)
          (refusal_publish c.self.inside.protocol c.args.tree c.args.rows next ∙ ap (option_map RowNotFree) (found ∙ c.in-Some.is))),
    )

pub invariant_of-self-2 : goal.invariant_of-self-2
invariant_of-self-2 c =
    let next = rw c.writer_state.ensures at (sym c.if-not-is_next.ensures) in
    rw (c.in_ok-publish.ensures, c.into_vec.ensures)
    (kept_publish c.self.inside c.args.tree c.args.rows c.self.invariant (eqb-true c.args.tree (c.self.inside.protocol.writer_state.tree.number + 1) next)
    (rw (← c.self.view_is) at c.requires))

pub returns-in_err-publish : goal.returns-in_err-publish
returns-in_err-publish c =
    let next = rw c.writer_state.ensures at (sym c.if-not-is_next.ensures) in
    let found = rw (c.writer_state-2.ensures, c.items.ensures) at (sym c.first_unfit.ensures) in
    let p = err_from_is_err_and c.from_residual.result c.from_residual.ensures.1 in
    let none = found ∙ c.in_default.is in
    rw (p.1, p.2) (
      search rules,
      inr (
        rw (← c.self.view_is) (refusal_publish c.self.inside.protocol c.args.tree c.args.rows next ∙ ap (option_map RowNotFree) none),
        refl,
        refl,
      ),
    )
