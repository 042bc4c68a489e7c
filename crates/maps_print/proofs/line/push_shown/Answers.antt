-- Where memory runs out, `push_shown` has appended the bytes before one, all shown, and had no room for all.
use Rattle.std.proofs.Common.{arith, ◌+◌, ◌∷◌, [], codes, drop, flat_map, slice_index_or}
use Rattle.std.proofs.lemmas.Grind.{common_steps}
use Rattle.mm_types.specs.MapsText.{shown_byte}
use Rattle.maps_print.proofs.Beginnings.{on_err, front_of_loop, front_of_same, no_room_in_loop}
use Rattle.maps_print.proofs.line.push_shown.Goals as goal

pub returns-in_err-extend_from_slice-clause-no_memory :
    goal.returns-in_err-extend_from_slice-clause-no_memory
returns-in_err-extend_from_slice-clause-no_memory c = on_err c.from_residual.result _
    (front_of_same _ _ _ _ c.in_err-extend_from_slice.ensures.items (front_of_loop _ _ _ _ c.loop-byte.invariant.so_far))

pub returns-in_err-push-clause-no_memory : goal.returns-in_err-push-clause-no_memory
returns-in_err-push-clause-no_memory c = on_err c.from_residual-in_err-push.result _
    (front_of_same _ _ _ _ c.in_err-push.ensures.items (front_of_loop _ _ _ _ c.loop-byte.invariant.so_far))

pub returns-in_err-extend_from_slice-clause-room : goal.returns-in_err-extend_from_slice-clause-room
returns-in_err-extend_from_slice-clause-room c = on_err c.from_residual.result _
    (no_room_in_loop _ _ (codes "\\012") (flat_map shown_byte (drop (c.loop-byte.byte-index + 1) c.args.name.now)) _ _ _ _ _ _
    c.loop-byte.invariant.so_far (grind (arith, common_steps)) c.args.text.now.ok.0 c.loop-byte.text.ok.0
    c.loop-byte.invariant.room c.in_err-extend_from_slice.ensures.full)

pub returns-in_err-push-clause-room : goal.returns-in_err-push-clause-room
returns-in_err-push-clause-room c = on_err c.from_residual-in_err-push.result _
    (no_room_in_loop _ _ (slice_index_or c.args.name.now c.loop-byte.byte-index 0 ∷ [])
    (flat_map shown_byte (drop (c.loop-byte.byte-index + 1) c.args.name.now)) _ _ _ _ _ _
    c.loop-byte.invariant.so_far (grind (arith, common_steps)) c.args.text.now.ok.0 c.loop-byte.text.ok.0
    c.loop-byte.invariant.room (omega (arith, c.in_err-push.ensures.full)))
