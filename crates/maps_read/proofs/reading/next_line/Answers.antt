-- For `next_line`: its goals.
use Rattle.std.proofs.Common.{◌≡◌, ℕ, Bool, true, false, List, Ok, Err, if◌then◌else◌, refl, sym}
use Rattle.text_lexer.specs.declared.error.Cause.TheVariants.{MapsOrder}
use Rattle.text_lexer.specs.Lines.{RawLine, input_limit, text_within}
use Rattle.maps_read.specs.declared.maps.MapsLine.{MapsLine}
use Rattle.maps_read.specs.declared.reading.TheConstants.{MAPS_LINE_LIMIT}
use Rattle.maps_read.specs.Fields.{read_maps_line, with_line_name}
use Rattle.maps_read.specs.Maps.{is_in_order, next_maps_line}
use Rattle.maps_read.proofs.reading.next_line.Goals as goal

next_of : (end : ℕ) (raw : RawLine) (text : List ℕ) (line : MapsLine) (order : Bool) → text_within MAPS_LINE_LIMIT input_limit raw ≡ Ok text
    → read_maps_line text ≡ Ok line → is_in_order end line ≡ order → next_maps_line end raw ≡ (if order then Ok line else Err MapsOrder)
unfolding next_maps_line
next_of end raw text line order within says ordered = rw (within, says, ordered) refl

pub returns-then-is_in_order : goal.returns-then-is_in_order
unfolding input_limit
returns-then-is_in_order c = next_of _ _ c.in_ok-text.text.now (with_line_name c.in_ok-numbers.numbers c.in_ok-numbers.name.now) true
    c.in_ok-text.ensures c.in_ok-numbers.ensures (sym c.if-is_in_order.ensures)

pub returns-else-is_in_order : goal.returns-else-is_in_order
unfolding input_limit
returns-else-is_in_order c = next_of _ _ c.in_ok-text.text.now (with_line_name c.in_ok-numbers.numbers c.in_ok-numbers.name.now) false
    c.in_ok-text.ensures c.in_ok-numbers.ensures (sym c.if-is_in_order.ensures)
