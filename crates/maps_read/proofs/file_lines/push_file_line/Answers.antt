-- For `push_file_line`: its goal.
use Rattle.std.proofs.Common.{refl}
use Rattle.maps_read.proofs.Hex.{padded_hex}
use Rattle.maps_read.specs.FileLines.{file_text}
use Rattle.maps_read.proofs.Texts.{wrote}
use Rattle.maps_read.proofs.file_lines.push_file_line.Goals as goal

pub returns : goal.returns
unfolding file_text
returns c = wrote c.writeln.result _ _ _ _ c.writeln.ensures.bytes
    (rw (c.in_radix.ensures, c.laid_out.ensures, c.in_radix-2.ensures, c.laid_out-2.ensures, c.as_str.ensures, padded_hex 2 c.args.line.now.major, padded_hex 2 c.args.line.now.minor) refl)
