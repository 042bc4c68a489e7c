-- The loop of `push_list`: the areas so far have their lines, and those from here on are left.
use Rattle.std.proofs.Common.{◌≤◌, drop, vec_capacity}
use Rattle.mm_types.specs.MapsText.{list_text}
use Rattle.maps_print.proofs.Beginnings.{IsAppending}
use Rattle.maps_print.proofs.list.push_list.Given as goal

abbrev pub invariant-loop-area : goal.invariant-loop-area
invariant-loop-area l = record {
  so_far : IsAppending l.fn.text.items l.text.items (list_text l.files (drop l.area-index l.areas)) (list_text l.files l.areas);
  room : vec_capacity l.fn.text ≤ vec_capacity l.text;
}
