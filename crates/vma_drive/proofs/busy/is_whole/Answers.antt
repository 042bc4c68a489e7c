-- The proof of `is_whole`: at the next caller, where one has a line, and after the last.
use Rattle.std.proofs.Common.{ℕ, ◌≡◌, ◌<◌, refl, subst, arith, inl, inr, slice_get, Some}
use Rattle.std.proofs.lemmas.Bool.{cases_lt}
use Rattle.std.proofs.lemmas.Option.{slice_get_read, slice_get_within}
use Rattle.vma_drive.specs.Internal.Rounds.{IsBusy}
use Rattle.vma_drive.proofs.Apart.{tells_busy}
use Rattle.vma_drive.proofs.busy.is_whole.Goals as goal

pub loop-caller-preserved : goal.loop-caller-preserved
loop-caller-preserved c = λ caller within busy. elim (cases_lt caller c.loop-caller.caller) [
  | inl early ↦ c.loop-caller.invariant caller early busy
  | inr late ↦
      let same : caller ≡ c.loop-caller.caller = omega (arith, within, late) in
      let tells = tells_busy c.args.round.places.now _ _ c.args.passes.now c.loop-caller.caller _ c.has_line.result
      (slice_get_read c.args.passes.now _ c.loop-caller.caller c.index-passes-caller.result refl c.loop-caller-test.true c.index-passes-caller.is)
      (omega (arith, c.loop-caller-test.true, c.requires.places)) c.has_line.ensures in
      let yes = tells.1 (subst (IsBusy c.args.round.places.now c.args.round.rounds.now c.args.round.number c.args.passes.now) same busy) in
      let no = c.if-has_line.false in
      absurd cc
]

pub returns-then-has_line : goal.returns-then-has_line
returns-then-has_line c =
    let tells = tells_busy c.args.round.places.now _ _ c.args.passes.now c.loop-caller.caller _ c.has_line.result
    (slice_get_read c.args.passes.now _ c.loop-caller.caller c.index-passes-caller.result refl c.loop-caller-test.true c.index-passes-caller.is)
    (omega (arith, c.loop-caller-test.true, c.requires.places)) c.has_line.ensures in
    (λ yes. absurd cc, λ whole. absurd (whole c.loop-caller.caller (tells.0 c.if-has_line.true)))

pub returns : goal.returns
returns c = (
  λ yes caller busy. c.loop-caller.invariant caller
      (let within = slice_get_within c.args.passes.now caller _ busy.2 in omega (arith, within, c.loop-caller-test.false)) busy,
  λ whole. refl,
)
