-- For `meet_all`: the next pass has made no entry, and has then seen the journal.
use Rattle.std.proofs.Common.{◌≡◌, ◌<◌, ◌∙◌, refl, length, get_or, sym, ap, subst, arith}
use Rattle.std.proofs.lemmas.List.{length-map}
use Rattle.std.proofs.lemmas.Option.{slice_get-get_or}
use Rattle.fault_path.specs.Passes.{PassView, caller, walks_of}
use Rattle.mm_state.specs.States.{StateView}
use Rattle.mm_space.specs.Names.{AreStrangers}
use Rattle.mm_space.proofs.States.{no_calls}
use Rattle.mm_space.proofs.Opening.{met_none, met_all, met_at, met_more}
use Rattle.mm_space.proofs.ready.meet_all.Goals as goal

pub loop-place-init : goal.loop-place-init
loop-place-init c = record { state = refl; met = met_none _ _ c.requires.fresh c.requires.unused }

pub meet_one-requires-clause-table : goal.meet_one-requires-clause-table
meet_one-requires-clause-table c =
    let within : c.loop-place.place < length c.loop-place.passes = omega (arith, c.loop-place-test.true, c.loop-place.auto.passes) in
    (met_at _ _ _ _ c.loop-place.invariant.met within).of.sits.table ∙ sym (ap (λ (s : StateView). s.table) c.loop-place.invariant.state)

pub meet_one-requires-clause-config : goal.meet_one-requires-clause-config
meet_one-requires-clause-config c =
    let within : c.loop-place.place < length c.loop-place.passes = omega (arith, c.loop-place-test.true, c.loop-place.auto.passes) in
    (met_at _ _ _ _ c.loop-place.invariant.met within).of.sits.config_is ∙ sym (ap (λ (s : StateView). s.config) c.loop-place.invariant.state)

pub meet_one-requires-clause-made : goal.meet_one-requires-clause-made
meet_one-requires-clause-made c =
    let within : c.loop-place.place < length c.loop-place.passes = omega (arith, c.loop-place-test.true, c.loop-place.auto.passes) in
    let pass : PassView = get_or c.loop-place.passes c.loop-place.place c.index-passes-place.result in
    let by : caller pass ≡ c.loop-place.place = (met_at _ _ _ c.index-passes-place.result c.loop-place.invariant.met within).by in
    no_calls c.loop-place.state.journal (caller pass)
    (subst AreStrangers (sym (ap (λ (s : StateView). s.journal) c.loop-place.invariant.state)) c.requires.strangers)
    (omega (arith, by, within, c.requires.callers, c.loop-place.invariant.met.0, length-map c.args.passes.now (λ (p : PassView). p.operations)))

pub meet_one-requires-clause-log : goal.meet_one-requires-clause-log
meet_one-requires-clause-log c =
    let within : c.loop-place.place < length c.loop-place.passes = omega (arith, c.loop-place-test.true, c.loop-place.auto.passes) in
    (met_at _ _ _ _ c.loop-place.invariant.met within).log

pub loop-place-preserved : goal.loop-place-preserved
loop-place-preserved c =
    let within : c.loop-place.place < length c.loop-place.passes = omega (arith, c.loop-place-test.true, c.loop-place.auto.passes) in
    let met = c.meet_one.ensures in
    record {
      state = met.state ∙ c.loop-place.invariant.state;
      met = met_more _ _ _ _ _ c.loop-place.invariant.met within (slice_get-get_or _ _ _ within) met.later
          (met.seen ∙ ap (λ (s : StateView). s.journal) c.loop-place.invariant.state) (ap (λ (p : PassView). p.log) met.same) (ap (λ (p : PassView). p.left) met.same)
          met.looks (ap (λ (p : PassView). walks_of p) met.same);
    }

pub returns-clause-opened : goal.returns-clause-opened
returns-clause-opened c = met_all _ _ _ c.loop-place.invariant.met (omega (arith, c.loop-place-test.false, c.loop-place.auto.passes))
