-- Where memory runs out, `push_front` has appended a beginning of its text.
use Rattle.std.proofs.Common.{arith, ◌++◌, codes, append_assoc}
use Rattle.std.proofs.lemmas.Grind.{common_steps}
use Rattle.mm_types.specs.MapsText.{range_text, place_text, front_text}
use Rattle.maps_print.proofs.Beginnings.{on_err, front_of_parts, front_of_first}
use Rattle.maps_print.proofs.line.push_front.Goals as goal

pub returns-in_err-push_range-clause-no_memory : goal.returns-in_err-push_range-clause-no_memory
unfolding front_text
returns-in_err-push_range-clause-no_memory c =
    on_err _ _ (front_of_first _ _ _ _ (front_of_first _ _ _ _ (front_of_first _ _ _ _ c.in_err-push_range.ensures.no_memory)))

pub returns-in_err-extend_from_slice-clause-no_memory : goal.returns-in_err-extend_from_slice-clause-no_memory
unfolding front_text
returns-in_err-extend_from_slice-clause-no_memory c =
    on_err _ _ (front_of_parts _ _ (range_text c.args.area.now) (codes " " ++ place_text c.args.area.now.offset c.args.mapped.now ++ codes " ") _
    (grind (arith, common_steps)) (simp append_assoc))
