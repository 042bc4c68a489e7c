-- For `loads_are_traces`: the lines of a load are read one after another.
use Rattle.std.proofs.Common.{◌≡◌, ℕ, zero, suc, ◌+◌, ◌*◌, ◌^◌, ◌<◌, ◌≤◌, [], ◌∷◌, length, flat_map, All, Ok, refl, ◌∙◌, arith, length-append}
use Rattle.std.proofs.lemmas.List.Elements.{All-nil, All-cons}
use Rattle.mm_types.specs.Config.{default_config}
use Rattle.trace_reader.specs.Grammar.{nothing, config_of, lines_read, trace_of}
use Rattle.text_lexer.specs.Lines.{input_limit}
use Rattle.trace_reader.specs.LineTexts.{op_words, text_of_line, line_text}
use Rattle.trace_reader.proofs.PrintedLines.{printed_line}
use Rattle.trace_reader.proofs.LinesRead.{IsReadableBy, AreNumberedFrom, with_lines, length-text, after_all, lines_read-header, trace_of-read}
use Rattle.gen_load.specs.Loads.{kind_of, next_of, draw_of, drawn_line, lines_after, load_lines, load_trace, load_text}
use Rattle.gen_load.proofs.LoadOperations.{operation-loaded}

line_of-readable : (number draw : ℕ) → number < 2 ^ 64 → IsReadableBy op_words (drawn_line number draw)
line_of-readable number draw fits = let is = operation-loaded (kind_of draw) draw in let room = is.room in record {
  few = omega arith;
  from = printed_line (drawn_line number draw) (record { number = fits; thread = omega arith; op = is.value; after = tt }) is.names;
  no_maps = is.no_maps;
  no_child = is.no_child;
  alone = refl;
  room = omega arith;
}

-- ---- the lines of a load

lines-readable : (number count last : ℕ) → number + count < 2 ^ 64 → All (IsReadableBy op_words) (lines_after number count last)
unfolding lines_after
lines-readable number zero last fits = All-nil (IsReadableBy op_words)
lines-readable number (suc count) last fits = All-cons (IsReadableBy op_words) _ _
    (line_of-readable number (draw_of (next_of last)) (omega arith)) (lines-readable (number + 1) count (next_of last) (omega arith))

lines-numbered : (number count last : ℕ) → AreNumberedFrom number (lines_after number count last)
unfolding lines_after
lines-numbered number zero last = tt
lines-numbered number (suc count) last = (refl, lines-numbered (number + 1) count (next_of last))

-- there are as many lines as were asked for
pub length-lines_after : (number count last : ℕ) → length (lines_after number count last) ≡ count
unfolding lines_after
length-lines_after number zero last = refl
length-lines_after number (suc count) last = let rest = length-lines_after (number + 1) count (next_of last) in omega arith

-- and each has at most 152 bytes
length-lines : (number count last : ℕ) → number + count < 2 ^ 64 → length (flat_map line_text (lines_after number count last)) ≤ 152 * count
unfolding lines_after text_of_line
length-lines number zero last fits = omega arith
length-lines number (suc count) last fits =
    let line = drawn_line number (draw_of (next_of last)) in
    let others = flat_map line_text (lines_after (number + 1) count (next_of last)) in
    let is = operation-loaded (kind_of (draw_of (next_of last))) (draw_of (next_of last)) in
    let room = is.room in
    let short = length-text op_words line (line_of-readable number (draw_of (next_of last)) (omega arith)) in
    let newline = length-append (text_of_line line) (10 ∷ []) in
    let both = length-append (line_text line) others in
    let rest = length-lines (number + 1) count (next_of last) (omega arith) in
    omega arith

-- ---- the whole

-- the lines of a load are read
lines_read-load : (count seed : ℕ) → count ≤ 400000
    → lines_read (load_text count seed) ≡ Ok (with_lines nothing (load_lines count seed))
unfolding load_text input_limit text_of_line
lines_read-load count seed few =
    let rest = flat_map line_text (load_lines count seed) in
    let many = length-lines_after 2 count seed in
    let short = length-lines 2 count seed (omega arith) in
    lines_read-header rest
    ∙ after_all op_words (load_lines count seed) 2 11 nothing (omega arith) (lines-numbered 2 count seed)
    (lines-readable 2 count seed (omega arith)) (omega arith) (omega arith)

pub trace_of-load : (count seed : ℕ) → count ≤ 400000 → trace_of (load_text count seed) ≡ Ok (load_trace count seed)
unfolding load_text config_of default_config
trace_of-load count seed few =
    trace_of-read (load_text count seed) (with_lines nothing (load_lines count seed)) (omega arith) (lines_read-load count seed few)
