-- For `is_in_turn`: its goals.
use Rattle.std.proofs.Common.{◌≡◌, ◌∙◌, Bool, true, false, List, ap, refl, arith, subst, sym}
use Rattle.std.specs.Prelude.{◌↔◌, IsTrue}
use Rattle.trace_reader.specs.declared.trace.TraceLine.{TraceLine}
use Rattle.history.specs.declared.callers.TheConstants.{MOST_THREADS}
use Rattle.history.specs.declared.items.Item.{Item}
use Rattle.history.specs.Histories.{gather}
use Rattle.history.specs.Labels.{labelled}
use Rattle.history.specs.Threads.{counts_below}
use Rattle.std.proofs.lemmas.Bool.{false≢true}
use Rattle.history.proofs.Turning.{items_end, lines_end, turns_gathered, gathered_rises, turns_more, turns_later}
use Rattle.history.proofs.turns.is_in_turn.Goals as goal

-- what is told of the lines that are shown is told of these lines
told : (lines shown : List TraceLine) (turns : List Item) (result : Bool) → shown ≡ lines
    → IsTrue result ↔ (labelled shown shown turns ≡ gather (labelled shown shown turns))
    → IsTrue result ↔ (labelled lines lines turns ≡ gather (labelled lines lines turns))
told lines shown turns result same is =
    subst (λ (l : List TraceLine). IsTrue result ↔ (labelled l l turns ≡ gather (labelled l l turns))) same is

pub loop-line-init : goal.loop-line-init
loop-line-init c = (λ rises. rises, λ rises. rises)

pub loop-line-preserved : goal.loop-line-preserved
loop-line-preserved c = (
  λ rises. turns_more c.items-lines.result.now c.items-lines.result.now c.loop-line.line-index _ c.loop-line.turns c.next.new.self
      c.in-Some.turn c.loop-line.last c.place-now.result c.caller.result _ c.loop-line.invariant.0 c.loop-line-test.true c.in-Some.ensures
      (c.caller.ensures.caller c.items-lines.result.now (c.of-callers.ensures.counted ∙ ap (counts_below MOST_THREADS) (sym c.items-lines.ensures.lines))) c.place-now.ensures c.if-now-last.false rises,
  λ rises. (turns_later c.items-lines.result.now c.items-lines.result.now c.loop-line.line-index _ c.loop-line.turns c.next.new.self
      c.in-Some.turn c.loop-line.last c.place-now.result c.caller.result _ c.loop-line.invariant.1 c.loop-line-test.true c.in-Some.ensures
      (c.caller.ensures.caller c.items-lines.result.now (c.of-callers.ensures.counted ∙ ap (counts_below MOST_THREADS) (sym c.items-lines.ensures.lines))) c.place-now.ensures rises).1,
)

pub returns-in_default : goal.returns-in_default
returns-in_default c = told c.args.lines.now c.items-lines.result.now c.args.turns true c.items-lines.ensures.lines (
  λ yes. turns_gathered c.items-lines.result.now c.args.turns c.items-lines.ensures.threads
      (c.loop-line.invariant.0 (items_end c.items-lines.result.now _ c.loop-line.last c.loop-line.turns c.in_default.ensures.0)),
  λ same. refl,
)

pub returns-then-now-last : goal.returns-then-now-last
returns-then-now-last c = told c.args.lines.now c.items-lines.result.now c.args.turns false c.items-lines.ensures.lines (
  λ wrong. absurd (false≢true wrong),
  λ same. absurd (
      let up = (turns_later c.items-lines.result.now c.items-lines.result.now c.loop-line.line-index _ c.loop-line.turns c.next.new.self
      c.in-Some.turn c.loop-line.last c.place-now.result c.caller.result _ c.loop-line.invariant.1 c.loop-line-test.true c.in-Some.ensures
      (c.caller.ensures.caller c.items-lines.result.now (c.of-callers.ensures.counted ∙ ap (counts_below MOST_THREADS) (sym c.items-lines.ensures.lines))) c.place-now.ensures
      (gathered_rises c.items-lines.result.now c.args.turns c.items-lines.ensures.threads same)).0 in omega (arith, up, c.if-now-last.true)),
)

pub returns : goal.returns
returns c = told c.args.lines.now c.items-lines.result.now c.args.turns true c.items-lines.ensures.lines (
  λ yes. turns_gathered c.items-lines.result.now c.args.turns c.items-lines.ensures.threads
      (c.loop-line.invariant.0 (lines_end c.items-lines.result.now c.items-lines.result.now c.loop-line.line-index c.loop-line.last c.loop-line.turns c.loop-line-test.false)),
  λ same. refl,
)
