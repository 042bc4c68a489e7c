-- For `rows_of`: the rows so far are those of the words so far.
use Rattle.std.proofs.Common.{◌≡◌, ◌<◌, drop, map, All}
use Rattle.step_script.specs.GraceLines.{read_row_words}
use Rattle.step_script.proofs.RowWords.{onto}
use Rattle.step_script.proofs.grace_lines.rows_of.Given as goal

abbrev pub invariant-loop-word : goal.invariant-loop-word
invariant-loop-word l = record {
  read : read_row_words l.rows (map (λ word. word.now) l.words)
      ≡ onto l.listed.items (read_row_words l.rows (map (λ word. word.now) (drop l.word-index l.words)));
  fits : All (λ row. row.0 < l.rows) l.listed.items;
}
