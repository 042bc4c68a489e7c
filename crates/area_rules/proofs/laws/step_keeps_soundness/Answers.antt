-- For `step_keeps_soundness`: its goals.
use Rattle.std.proofs.lemmas.List.Elements.{All-from_recursion, recursion_from_All}
use Rattle.area_rules.specs.Steps.{step}
use Rattle.area_rules.proofs.Stepping.{IsCounted, step_sound, step_counted, step_objects, step_private, step_bounded}
use Rattle.area_rules.proofs.laws.step_keeps_soundness.Goals as goal

pub returns-clause-sound : goal.returns-clause-sound
returns-clause-sound c = step_sound

pub returns-clause-counted : goal.returns-clause-counted
returns-clause-counted c = λ config space call ready files.
    All-from_recursion (IsCounted (step config space call).space.objects) (step config space call).space.areas
    (step_counted config space call (recursion_from_All (IsCounted space.objects) space.areas ready.counted) files)

pub returns-clause-objects : goal.returns-clause-objects
returns-clause-objects c = step_objects

pub returns-clause-private : goal.returns-clause-private
returns-clause-private c = λ config space call ready. step_private config space call ready.private

pub returns-clause-bounded : goal.returns-clause-bounded
returns-clause-bounded c = step_bounded
