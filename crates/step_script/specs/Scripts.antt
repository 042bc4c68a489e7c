-- What a script of one core is made by.
use Rattle.std.specs.Prelude.{ℕ, [], ◌∷◌, ◌++◌}
use Rattle.step_script.specs.declared.script.CoreScript.{CoreScript}
use Rattle.step_script.specs.declared.script.Counts.{Counts}

-- a script without events
abbrev pub without_events : {E : Type 0} → Counts → CoreScript E
without_events counts = record { readers = counts.readers; parts = counts.parts; lines = [] }

-- a script with the event of one line more
abbrev pub with_event : {E : Type 0} → CoreScript E → ℕ → E → CoreScript E
with_event script number event = record script { lines = script.lines ++ record { number = number; event = event } ∷ [] }
