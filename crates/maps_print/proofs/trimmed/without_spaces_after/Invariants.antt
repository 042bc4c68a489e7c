-- For `without_spaces_after`: what its loop keeps.
use Rattle.std.proofs.Common.{◌≡◌, ◌+◌, ◌≤◌, length, take, nat_eq}
use Rattle.std.specs.List.{suffix_len}
use Rattle.std.specs.Str.{byte}
use Rattle.maps_print.proofs.trimmed.without_spaces_after.Given as goal

-- what is left and the spaces behind it are the text
abbrev pub invariant-loop-len : goal.invariant-loop-len
invariant-loop-len l = (l.len ≤ length l.text)
    × (l.len + suffix_len (λ c. nat_eq c (byte " ")) l.text ≡ length l.text + suffix_len (λ c. nat_eq c (byte " ")) (take l.len l.text))

abbrev pub decreases-loop-len : goal.decreases-loop-len
decreases-loop-len l = l.len
