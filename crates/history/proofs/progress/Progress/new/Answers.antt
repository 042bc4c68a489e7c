-- The proof of `Progress::new`: nothing is answered before the first item.
use Rattle.std.proofs.Common.{ℕ, ◌≡◌, ◌∙◌, List, refl, ap, replicate, arith, subst, sym}
use Rattle.std.specs.Prelude.{Vec}
use Rattle.std.specs.declared.alloc.Global.{Global}
use Rattle.trace_reader.specs.declared.trace.TraceLine.{TraceLine}
use Rattle.history.specs.declared.callers.TheConstants.{MOST_THREADS}
use Rattle.history.specs.CallerPlaces.{callers_of, ArePlaces}
use Rattle.history.specs.Threads.{counts_below}
use Rattle.history.proofs.Advances.{progress_none, placed_none}
use Rattle.history.proofs.progress.Progress.new.Goals as goal

-- what was made of the lines is of those that are shown
places_shown : (lines shown : List TraceLine) (places : List (Vec ℕ Global)) → shown ≡ lines → ArePlaces lines (callers_of lines) places
    → ArePlaces shown (callers_of shown) places
places_shown lines shown places same are = subst (λ (l : List TraceLine). ArePlaces l (callers_of l) places) (sym same) are

pub invariant_of-result : goal.invariant_of-result
invariant_of-result c =
    let shown : List TraceLine = c.items-own.result.now in
    let places = places_shown c.args.lines.now shown _ c.items-own.ensures.lines c.in_ok-places.ensures in
    let count : c.len.result ≡ callers_of shown = omega (arith, c.len.ensures, c.in_ok-places.places.ok.0, places.all) in
    let none : c.in_ok-answered.answered.items ≡ replicate (callers_of shown) 0 =
    c.in_ok-answered.ensures.items_if_clones_equal (λ y same. same) ∙ ap (λ n. replicate n 0) count in
    placed_none (callers_of shown) _ c.items-own.ensures.threads c.items-own.ensures.kept.numbered
    (c.of-callers.ensures.counted ∙ ap (counts_below MOST_THREADS) (sym c.items-own.ensures.lines)) places none

pub returns-clause-first : goal.returns-clause-first
returns-clause-first c =
    let count : c.len.result ≡ callers_of c.args.lines.now = omega (arith, c.len.ensures, c.in_ok-places.places.ok.0, c.in_ok-places.ensures.all) in
    let none : c.in_ok-answered.answered.items ≡ replicate (callers_of c.args.lines.now) 0 =
    c.in_ok-answered.ensures.items_if_clones_equal (λ y same. same) ∙ ap (λ n. replicate n 0) count in
    progress_none c.args.lines.now (callers_of c.args.lines.now) c.in_ok-places.places.items _ c.in_ok-places.ensures c.items-own.ensures.lines none
    refl refl
