-- For `lines_at`: its goals.
use Rattle.std.proofs.Common.{List, ℕ, refl, arith, ap, sym, ◌∙◌, ◌≡◌, count_by, nat_lt, take}
use Rattle.std.proofs.lemmas.List.{take_all}
use Rattle.history.proofs.ThreadCounts.{found_lines, found_none}
use Rattle.history.proofs.callers.lines_at.Goals as goal

pub returns-then-before-caller : goal.returns-then-before-caller
returns-then-before-caller c = λ lines few same.
    found_lines 64 c.args.counts.now lines c.loop-count.count-index _ c.args.caller 0 same c.loop-count-test.true refl c.if-count-gt0.true
    (sym c.if-before-caller.true ∙ c.loop-count.invariant.counted)

pub returns : goal.returns
returns c = λ lines few same.
    let whole : take c.loop-count.count-index c.args.counts.now ≡ c.args.counts.now =
    take_all c.loop-count.count-index c.args.counts.now c.loop-count-test.false in
    let all : c.loop-count.before ≡ count_by (λ count. nat_lt 0 count) c.args.counts.now =
    c.loop-count.invariant.counted ∙ ap (λ (l : List ℕ). count_by (λ count. nat_lt 0 count) l) whole in
    found_none 64 c.args.counts.now lines c.args.caller few same (omega (arith, all, c.loop-count.invariant.low))
