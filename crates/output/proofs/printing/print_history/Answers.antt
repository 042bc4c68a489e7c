-- The proof of `print_history`: the items were printed, and then the list.
use Rattle.output.specs.Output.{listed_text}
use Rattle.output.proofs.Pieces.{at_error, cut_more, printing_then}
use Rattle.output.proofs.printing.print_history.Goals as goal

pub returns-in_err-print_items : goal.returns-in_err-print_items
unfolding listed_text
returns-in_err-print_items g c = at_error _ _ _ _ c.from_residual.ensures.1 (cut_more _ _ _ _ _ _ c.in_err-print_items.ensures)

pub returns : goal.returns
unfolding listed_text
returns g c = printing_then _ _ _ _ _ _ _ _ _ c.in_ok-print_items.ensures c.print_maps.ensures.printing
