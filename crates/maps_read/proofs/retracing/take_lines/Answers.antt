-- For `take_lines`: its goals.
use Rattle.std.proofs.Common.{◌≡◌, ◌+◌, ◌-◌, ◌∙◌, ℕ, drop, length, sym, ap, subst, arith}
use Rattle.text_lexer.specs.Lines.{lines_from}
use Rattle.text_lexer.specs.Reading.{line_view}
use Rattle.maps_read.specs.Retracing.{nothing_taken, with_lines, lines_taken}
use Rattle.maps_read.specs.Internal.Taking.{AreLinesTaken, what_taken}
use Rattle.maps_read.proofs.Kept.{line_kept, nothing_kept}
use Rattle.maps_read.proofs.RawMaps.{AreReadAs, maps_read_as}
use Rattle.maps_read.proofs.Steps.{dropped_item, some_left, take_more, read_more, all_taken}
use Rattle.maps_read.proofs.retracing.take_lines.Goals as goal

pub loop-line-init : goal.loop-line-init
unfolding lines_taken
loop-line-init c =
    let n = length c.args.bytes.now in
    let start : n - n ≡ 0 = omega arith in
    record {
      taken = ap (λ t. with_lines t (lines_from 1 (n - n) c.args.bytes.now) c.args.lines.now) c.new-taken.ensures
          ∙ ap (λ (s : ℕ). with_lines nothing_taken (lines_from 1 s c.args.bytes.now) c.args.lines.now) start;
      right = subst AreLinesTaken (sym c.new-taken.ensures) nothing_kept;
      read = subst (λ (s : ℕ). AreReadAs (lines_from 1 s c.args.bytes.now) c.args.lines.now) (sym start) (maps_read_as c.args.bytes.now c.args.lines.now c.requires);
      within = omega arith;
      counted = omega arith;
    }

pub first_line-requires : goal.first_line-requires
first_line-requires c = some_left _ _ c.loop-line.rest.now c.line-item.result _ _
    (dropped_item c.args.lines.now c.loop-line.line-index c.line-item.result (omega arith) c.line-item.is) c.loop-line.invariant.read

pub loop-line-preserved : goal.loop-line-preserved
loop-line-preserved c =
    let more = c.first_line.result.1.now in
    let raw = line_view c.first_line.result.0 in
    let before = what_taken c.loop-line.taken in
    let after = what_taken c.add.new.self in
    let number = c.loop-line.number in
    let is = dropped_item c.args.lines.now c.loop-line.line-index c.line-item.result (omega arith) c.line-item.is in
    let start : length c.args.bytes.now - length c.loop-line.rest.now + (length c.loop-line.rest.now - length more)
    ≡ length c.args.bytes.now - length more =
    omega (arith, c.first_line.ensures.shorter, c.loop-line.invariant.within) in
    record {
      taken = ap (λ (n : ℕ). with_lines after (lines_from (number + 1) n more) (drop (c.loop-line.line-index + 1) c.args.lines.now)) (sym start)
          ∙ take_more before after _ _ raw c.line-item.result _ _ _ c.loop-line.invariant.taken c.first_line.ensures.line is c.in_default.ensures.line;
      right = line_kept before after c.line-item.result c.first_line.result.0.text.now c.loop-line.invariant.right c.in_default.ensures.line;
      read = subst (λ (n : ℕ). AreReadAs (lines_from (number + 1) n more) (drop (c.loop-line.line-index + 1) c.args.lines.now)) start
          (read_more _ _ raw c.line-item.result _ _ c.loop-line.invariant.read c.first_line.ensures.line is);
      within = omega (arith, c.first_line.ensures.shorter, c.loop-line.invariant.within);
      counted = omega (arith, c.first_line.ensures.shorter, c.loop-line.invariant.within, c.loop-line.invariant.counted);
    }

pub returns-clause-taken : goal.returns-clause-taken
returns-clause-taken c = all_taken (what_taken c.loop-line.taken) _ c.args.lines.now c.loop-line.line-index _ c.loop-line.invariant.taken c.loop-line-test.false

pub returns-in-Err-clause-empty : goal.returns-in-Err-clause-empty
returns-in-Err-clause-empty c = λ none. absurd (omega arith)
