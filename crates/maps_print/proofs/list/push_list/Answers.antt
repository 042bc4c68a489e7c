-- Where memory runs out, `push_list` has appended the lines of the areas before one, and a beginning of its line, and had no room for all.
use Rattle.std.proofs.Common.{arith, ◌+◌, drop}
use Rattle.std.proofs.lemmas.Grind.{common_steps}
use Rattle.mm_types.specs.MapsText.{list_text}
use Rattle.maps_print.proofs.Beginnings.{on_err, front_after_loop, no_room_after_loop}
use Rattle.maps_print.proofs.list.push_list.Goals as goal

pub returns-in_err-push_line-clause-no_memory : goal.returns-in_err-push_line-clause-no_memory
returns-in_err-push_line-clause-no_memory c = on_err c.from_residual.result _
    (front_after_loop _ _ _ _ (list_text c.args.files.now (drop (c.loop-area.area-index + 1) c.args.areas.now)) _ _ c.loop-area.invariant.so_far
    (grind (arith, common_steps)) c.in_err-push_line.ensures.no_memory)

pub returns-in_err-push_line-clause-room : goal.returns-in_err-push_line-clause-room
returns-in_err-push_line-clause-room c = on_err c.from_residual.result _
    (no_room_after_loop _ _ _ _ (list_text c.args.files.now (drop (c.loop-area.area-index + 1) c.args.areas.now)) _ _ _ _ _ _ c.loop-area.invariant.so_far
    (grind (arith, common_steps)) c.in_err-push_line.ensures.no_memory c.args.text.now.ok.0 c.loop-area.text.ok.0
    c.loop-area.invariant.room c.in_err-push_line.ensures.room)
