-- The proof of `places_of`: before the first line, at the next, and after the last.
use Rattle.std.proofs.Common.{◌≡◌, ◌∙◌, List, ap, arith, subst, sym}
use Rattle.trace_reader.specs.declared.trace.TraceLine.{TraceLine}
use Rattle.history.specs.declared.callers.TheConstants.{MOST_THREADS}
use Rattle.history.specs.CallerPlaces.{callers_of, ArePlaces}
use Rattle.history.specs.Histories.{caller_of}
use Rattle.history.specs.Threads.{counts_below}
use Rattle.history.proofs.Placing.{placed_none, placed_more, caller_at, placed_all}
use Rattle.history.proofs.places.places_of.Goals as goal

pub loop-place-init : goal.loop-place-init
loop-place-init c =
    let count : c.count.result ≡ caller_of c.items-lines.result.now MOST_THREADS =
    c.count.ensures.count c.items-lines.result.now (c.requires ∙ ap (counts_below MOST_THREADS) (sym c.items-lines.ensures.lines)) in
    placed_none _ _ _ (omega (arith, c.in_ok-places.places.ok.0, c.in_ok-places.ensures.count, c.max.ensures)) c.in_ok-places.ensures.empty

pub index_mut-requires : goal.index_mut-requires
index_mut-requires c =
    caller_at c.items-lines.result.now c.loop-place.place _ _ _ c.loop-place-test.true c.items-lines.ensures.threads
    (omega (arith, c.loop-place.places.ok.0, c.loop-place.invariant.all))
    (c.caller-caller.ensures.caller c.items-lines.result.now (c.requires ∙ ap (counts_below MOST_THREADS) (sym c.items-lines.ensures.lines)))

pub loop-place-preserved : goal.loop-place-preserved
loop-place-preserved c =
    let owner = c.caller-caller.ensures.caller c.items-lines.result.now
    (c.requires ∙ ap (counts_below MOST_THREADS) (sym c.items-lines.ensures.lines)) in
    placed_more _ _ _ _ c.loop-place.invariant _ c.loop-place-test.true c.caller-caller.result owner
    (caller_at c.items-lines.result.now c.loop-place.place _ _ _ c.loop-place-test.true c.items-lines.ensures.threads c.loop-place.invariant.all owner)
    c.index_mut.result.now c.push.new.self c.index_mut.ensures.value c.in_ok-push.ensures.items

pub returns : goal.returns
returns c = subst (λ (l : List TraceLine). ArePlaces l (callers_of l) c.loop-place.places.items) c.items-lines.ensures.lines
    (placed_all c.items-lines.result.now _ _ c.loop-place.invariant c.loop-place-test.false c.items-lines.ensures.threads)
