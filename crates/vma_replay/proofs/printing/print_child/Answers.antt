-- The proof of `print_child`: its reads are from the fork on.
use Rattle.std.proofs.Common.{◌∙◌, ◌≡◌, ℕ, List, ap, refl}
use Rattle.trace_reader.specs.declared.trace.TraceLine.{TraceLine}
use Rattle.mm_types.specs.declared.area.Record.{Record}
use Rattle.mm_types.specs.declared.call.Entry.{Entry}
use Rattle.mm_types.specs.declared.call.Seen.{Seen}
use Rattle.mm_types.specs.declared.files.FileRow.{FileRow}
use Rattle.history.specs.declared.items.Item.{Item}
use Rattle.output.specs.Output.{listed_text}
use Rattle.mm_fork.specs.Children.{child_history_of}
use Rattle.vma_replay.proofs.ChildSpaces.{reads_later}
use Rattle.output.proofs.Pieces.{at_error, cut_more, cut_none, printing_as, printing_then}
use Rattle.vma_replay.proofs.printing.print_child.Goals as goal

pub child_history-requires-clause-later : goal.child_history-requires-clause-later
child_history-requires-clause-later g c =
    reads_later c.args.trace.now c.requires.run.0 c.args.fork.now c.args.run.now c.logs.result.now c.requires.run.1 c.logs.ensures

pub returns-in_err-own : goal.returns-in_err-own
returns-in_err-own g c = at_error _ _ _ _ c.from_residual.ensures.1 (cut_none _ _ _ _ refl)

pub returns-in_err-history : goal.returns-in_err-history
returns-in_err-history g c = at_error _ _ _ _ c.from_residual-in_err-history.ensures.1 (cut_none _ _ _ _ refl)

pub returns-in_err-print_child_line : goal.returns-in_err-print_child_line
returns-in_err-print_child_line g c = at_error _ _ _ _ c.from_residual-in_err-print_child_line.ensures.1
    (cut_more _ _ _ _ _ _ c.in_err-print_child_line.ensures)

-- lists and histories that are the same have one text
listed_same : (files : List FileRow) (lines own : List TraceLine) (items history : List Item) (areas list : List Record)
    → lines ≡ own → items ≡ history → areas ≡ list → listed_text files lines items areas ≡ listed_text files own history list
listed_same files lines own items history areas list a b c =
    ap (λ (l : List TraceLine). listed_text files l items areas) a ∙ ap (λ (i : List Item). listed_text files own i areas) b
    ∙ ap (λ (r : List Record). listed_text files own history r) c

-- the history of the same journal and logs is the same
history_same : (version : ℕ) (items : List Item) (journal own : List Entry) (logs all : List (List Seen))
    → items ≡ child_history_of version journal logs → journal ≡ own → logs ≡ all → items ≡ child_history_of version own all
history_same version items journal own logs all is a b =
    is ∙ ap (λ (j : List Entry). child_history_of version j logs) a ∙ ap (λ (l : List (List Seen)). child_history_of version own l) b

pub returns : goal.returns
returns g c =
    let lines = c.in_ok-own.ensures in
    let history = history_same _ _ _ _ _ _ (c.items.ensures ∙ c.in_ok-history.ensures) c.journal.ensures c.logs.ensures in
    let list = c.items-areas.ensures ∙ c.list.ensures in
    printing_then _ _ _ _ _ _ _ _ _ c.in_ok-print_child_line.ensures
    (printing_as _ _ _ _ _ _ _ (listed_same _ _ _ _ _ _ _ lines history list) c.print_history.ensures)
