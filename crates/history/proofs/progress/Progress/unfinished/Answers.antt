-- The proof of `Progress::unfinished`: at the first caller, at the next, and at one with lines left.
use Rattle.std.proofs.Common.{◌≡◌, ◌<◌, refl, List, length, get_or, arith}
use Rattle.std.proofs.lemmas.List.{get_or_read}
use Rattle.trace_reader.specs.declared.trace.TraceLine.{TraceLine}
use Rattle.history.specs.Coming.{HasNoneLeft}
use Rattle.history.specs.Internal.Walks.{IsLowestLeft}
use Rattle.history.proofs.Advances.{of_fields, read_at, answered_none, answered_more, none_left, lowest_left}
use Rattle.history.proofs.progress.Progress.unfinished.Goals as goal

pub loop-caller-init : goal.loop-caller-init
loop-caller-init c = answered_none _

pub returns-then-index-len : goal.returns-then-index-len
returns-then-index-len c =
    let fields = c.self.inside in
    let within : c.loop-caller.caller < length fields.places.items = omega (arith, c.len-caller-end.ensures, fields.places.ok.0) in
    let count : c.index.result.now ≡ get_or fields.answered.items c.loop-caller.caller 0 =
    get_or_read fields.answered.items c.loop-caller.caller c.index.result.now (omega (arith, within, c.self.invariant.places.all)) c.index.ensures 0 in
    λ lines before is.
    of_fields (λ (l : List TraceLine). IsLowestLeft l before c.loop-caller.caller) lines before fields c.args.self.now c.self.view_is c.self.invariant is
    (λ at. lowest_left before fields c.loop-caller.caller c.index-in-loop-caller.result.now at c.loop-caller.invariant
    (read_at _ _ c.loop-caller.caller _ refl within c.index-in-loop-caller.ensures) (omega (arith, count, c.len.ensures, c.if-index-len.true)))

pub loop-caller-preserved : goal.loop-caller-preserved
loop-caller-preserved c =
    let fields = c.self.inside in
    let within : c.loop-caller.caller < length fields.places.items = omega (arith, c.len-caller-end.ensures, fields.places.ok.0) in
    let count : c.index.result.now ≡ get_or fields.answered.items c.loop-caller.caller 0 =
    get_or_read fields.answered.items c.loop-caller.caller c.index.result.now (omega (arith, within, c.self.invariant.places.all)) c.index.ensures 0 in
    answered_more fields c.loop-caller.caller c.index-in-loop-caller.result.now c.loop-caller.invariant
    (read_at _ _ c.loop-caller.caller _ refl within c.index-in-loop-caller.ensures) (omega (arith, count, c.len.ensures, c.if-index-len.false))

pub returns : goal.returns
returns c = λ lines before is.
    of_fields (λ (l : List TraceLine). HasNoneLeft l before) lines before c.self.inside c.args.self.now c.self.view_is c.self.invariant is
    (λ at. none_left before c.self.inside _ at c.loop-caller.invariant
    (omega (arith, c.len-caller-end.ensures, c.self.inside.places.ok.0, c.self.invariant.places.all, c.loop-caller-test.false)))
