-- For `unescaped`: what each loop keeps.
use Rattle.std.proofs.Common.{◌≡◌, ◌++◌, length, string_bytes}
use denote.Text.{Utf8}
use denote.Shadow.{shadow}
use Rattle.trace_reader.specs.Settings.{unescaped}
use Rattle.trace_reader.proofs.settings.unescaped.Given as goal

-- the path so far, and that of the rest
abbrev pub invariant-loop-before : goal.invariant-loop-before
invariant-loop-before l = shadow (Utf8 l.rest) × (string_bytes l.path ++ unescaped l.rest ≡ unescaped l.text)

abbrev pub decreases-loop-before : goal.decreases-loop-before
decreases-loop-before l = length l.rest
