-- For `retraced_front_is_enough` and `retraced_maps_are_within`: bytes and a front of them.
use Rattle.std.proofs.Common.{◌≡◌, ◌≤◌, ◌+◌, ℕ, List, length, take, Result, Ok, Err, refl, sym, ap, ◌∙◌, arith}
use Rattle.std.proofs.lemmas.List.{take_all}
use Rattle.text_lexer.specs.declared.error.BadLine.{BadLine}
use Rattle.text_lexer.specs.Lines.{input_limit}
use Rattle.maps_read.specs.declared.maps.MapsLine.{MapsLine}
use Rattle.maps_read.specs.Maps.{maps_of}
use Rattle.maps_read.proofs.Bytes.{maps_of-front, maps_within}
use Rattle.maps_read.specs.Retracing.{retrace_read, retraced_of}

pub retraced-front : (bytes : List ℕ) → retraced_of (take (input_limit + 1) bytes) ≡ retraced_of bytes
unfolding retraced_of
retraced-front bytes = by_lines (maps_of bytes) refl
  where
    by_lines : (read : Result (List MapsLine) BadLine) → maps_of bytes ≡ read
        → retrace_read (take (input_limit + 1) bytes) (maps_of (take (input_limit + 1) bytes)) ≡ retrace_read bytes (maps_of bytes)
    by_lines (Ok lines) is =
        let within = maps_within bytes lines is in
        ap (λ (b : List ℕ). retrace_read b (maps_of b)) (take_all (input_limit + 1) bytes (omega arith))
    by_lines (Err first) is = ap (retrace_read (take (input_limit + 1) bytes)) (maps_of-front bytes ∙ is) ∙ sym (ap (retrace_read bytes) is)

pub retraced-within : (bytes text : List ℕ) → retraced_of bytes ≡ Ok text → length bytes ≤ input_limit
unfolding retraced_of
retraced-within bytes text e = by_lines (maps_of bytes) refl e
  where
    by_lines : (read : Result (List MapsLine) BadLine) → maps_of bytes ≡ read → retrace_read bytes read ≡ Ok text → length bytes ≤ input_limit
    by_lines (Ok lines) is e = maps_within bytes lines is
    by_lines (Err first) is e = absurd (cc e)
