-- The loop of `push_shown`: the bytes so far are shown, and those from here on are left.
use Rattle.std.proofs.Common.{◌≤◌, drop, flat_map, vec_capacity}
use Rattle.mm_types.specs.MapsText.{shown_byte}
use Rattle.maps_print.proofs.Beginnings.{IsAppending}
use Rattle.maps_print.proofs.line.push_shown.Given as goal

abbrev pub invariant-loop-byte : goal.invariant-loop-byte
invariant-loop-byte l = record {
  so_far : IsAppending l.fn.text.items l.text.items (flat_map shown_byte (drop l.byte-index l.name)) (flat_map shown_byte l.name);
  room : vec_capacity l.fn.text ≤ vec_capacity l.text;
}
