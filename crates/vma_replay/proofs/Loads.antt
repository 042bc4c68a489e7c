-- Serves `generated_run`: no line of a load forks, so all are the parent's.
use Rattle.std.proofs.Common.{ℕ, zero, suc, ◌≡◌, ◌+◌, ◌∙◌, ap, subst, List, None, All}
use Rattle.std.specs.Prelude.{Result, IfOk}
use Rattle.std.proofs.lemmas.List.Elements.{All-nil, All-cons}
use Rattle.trace_reader.specs.declared.trace.Trace.{Trace}
use Rattle.trace_reader.specs.declared.trace.TraceLine.{TraceLine}
use Rattle.trace_reader.specs.Values.{child_of}
use Rattle.gen_load.specs.Loads.{kind_of, next_of, draw_of, drawn_line, lines_after, load_lines, load_trace}
use Rattle.gen_load.proofs.LoadOperations.{operation-loaded}
use Rattle.history.specs.Parents.{parent_lines, parent_trace}
use Rattle.mm_space.specs.Closing.{ClosedView}
use Rattle.history.proofs.OneSpace.{forks_none, none_forked}
use Rattle.vma_replay.specs.Replaying.{IsRunOf}
use Rattle.vma_replay.specs.declared.words.Mode.TheVariants as modes

none_forks : (number count last : ℕ) → All (λ line. child_of line.op ≡ None) (lines_after number count last)
unfolding lines_after
none_forks number zero last = All-nil (λ (line : TraceLine). child_of line.op ≡ None)
none_forks number (suc count) last =
    All-cons (λ (line : TraceLine). child_of line.op ≡ None) (drawn_line number (draw_of (next_of last))) (lines_after (number + 1) count (next_of last))
    (operation-loaded (kind_of (draw_of (next_of last))) (draw_of (next_of last))).no_child
    (none_forks (number + 1) count (next_of last))

pub load_of_parent : (count seed : ℕ) → parent_lines (load_lines count seed) ≡ load_lines count seed
load_of_parent count seed =
    none_forked (load_lines count seed) (forks_none (load_lines count seed) (none_forks 2 count seed))

-- so a run of the parent's lines of a load is one of the load
pub load_run : {E : Type 0} (trace : Trace) (count seed : ℕ) (result : Result ClosedView E) → trace ≡ load_trace count seed
    → IfOk result (λ run. IsRunOf modes.Serial (parent_trace trace) run) → IfOk result (λ run. IsRunOf modes.Serial (load_trace count seed) run)
load_run trace count seed result is ran =
    let same : parent_trace (load_trace count seed) ≡ load_trace count seed =
    ap (λ (l : List TraceLine). record (load_trace count seed) { lines = l }) (load_of_parent count seed) in
    subst (λ (t : Trace). IfOk result (λ run. IsRunOf modes.Serial t run)) (ap parent_trace is ∙ same) ran
