-- Where memory runs out, `push_range` has appended nothing or the addresses.
use Rattle.std.proofs.Common.{refl, arith, ◌++◌, codes}
use Rattle.std.proofs.lemmas.Grind.{common_steps}
use Rattle.mm_types.specs.MapsText.{span_text, perms, range_text}
use Rattle.maps_print.proofs.Beginnings.{on_err, front_of_parts}
use Rattle.maps_print.proofs.line.push_range.Goals as goal

pub returns-in_err-extend_from_slice-2-clause-no_memory : goal.returns-in_err-extend_from_slice-2-clause-no_memory
unfolding range_text
returns-in_err-extend_from_slice-2-clause-no_memory c = let area = c.args.area.now in
    on_err _ _ (front_of_parts _ _ (span_text area.span ++ codes " ") (perms area) _ (grind (arith, common_steps)) refl)
