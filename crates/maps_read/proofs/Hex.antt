-- For `push_file_line`: what `{:02x}` writes.
use Rattle.std.proofs.Common.{◌≡◌, ℕ, ◌^◌, ◌-◌, false, [], append-nil}
use Rattle.std.proofs.Math.Nat.{sub-zero}
use Rattle.std.specs.Fmt.{digits, format_spec, padded_integral, char_count}
use Rattle.mm_types.specs.MapsText.{hex}

-- a number in hexadecimal that is filled with zeros up to the width
pub padded_hex : (width n : ℕ) →
    padded_integral (format_spec 32 0 4 width (2 ^ 64 - 1)) false [] (digits 16 false n) ≡ hex width n
unfolding hex padded_integral char_count
padded_hex width n = simp (append-nil, sub-zero)
