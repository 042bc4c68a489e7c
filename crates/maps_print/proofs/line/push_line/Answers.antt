-- Where memory runs out, `push_line` has appended a beginning of the line.
use Rattle.std.proofs.Common.{◌∙◌, arith}
use Rattle.std.proofs.lemmas.Grind.{common_steps}
use Rattle.mm_types.specs.MapsText.{area_text}
use Rattle.maps_print.proofs.Beginnings.{on_err, front_of_first}
use Rattle.maps_print.proofs.Lines.{before_name, front_in_name, front_after_name}
use Rattle.maps_print.proofs.line.push_line.Goals as goal

pub returns-in_err-push_front-clause-no_memory : goal.returns-in_err-push_front-clause-no_memory
unfolding area_text
returns-in_err-push_front-clause-no_memory c = on_err c.from_residual.result _
    (front_of_first _ _ _ _ (front_of_first _ _ _ _ (rw c.of-mapped.ensures at c.in_err-push_front.ensures.no_memory)))

pub returns-in_err-push_name-clause-no_memory : goal.returns-in_err-push_name-clause-no_memory
returns-in_err-push_name-clause-no_memory c = on_err c.from_residual-in_err-push_name.result _
    (front_in_name c.args.files.now c.args.area.now _ c.push_front.new.text.items _ _ _ (before_name _ _ _ _ _ _ _ c.of-mapped.ensures c.in_ok-push_front.ensures.ok
    (grind (arith, common_steps)) (grind (arith, common_steps))) c.in_err-push_name.ensures.no_memory)

pub returns-in_err-push-clause-no_memory : goal.returns-in_err-push-clause-no_memory
returns-in_err-push-clause-no_memory c = on_err c.from_residual-in_err-push.result _
    (front_after_name c.args.files.now c.args.area.now _ c.push_front.new.text.items _ _ _ (before_name _ _ _ _ _ _ _ c.of-mapped.ensures c.in_ok-push_front.ensures.ok
    (grind (arith, common_steps)) (grind (arith, common_steps))) (c.in_err-push.ensures.items ∙ c.in_ok-push_name.ensures.ok))
