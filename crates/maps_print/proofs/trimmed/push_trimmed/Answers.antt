-- The proof of `push_trimmed`: the line that was appended, cut before the spaces at its end.
use Rattle.std.proofs.Common.{ℕ, ◌≡◌, ◌<◌, ◌+◌, ◌-◌, List, length, take, drop, refl, ap, arith, length-append}
use Rattle.mm_types.specs.MapsText.{area_text}
use Rattle.maps_print.proofs.Cutting.{line_some, place_within, trimmed}
use Rattle.maps_print.proofs.trimmed.push_trimmed.Goals as goal

pub overflow_sub-end : goal.overflow_sub-end
overflow_sub-end c =
    let some = line_some c.args.files.now c.args.area.now in
    omega (
      arith,
      some,
      c.len-end.ensures,
      ap length c.in_ok-push_line.ensures.ok,
      length-append c.args.text.now.items (area_text c.args.files.now c.args.area.now),
    )

pub slice_bounds-without_spaces_after-count : goal.slice_bounds-without_spaces_after-count
slice_bounds-without_spaces_after-count c =
    let some = line_some c.args.files.now c.args.area.now in
    omega (
      arith,
      some,
      c.len-start.ensures,
      c.len-end.ensures,
      ap length c.in_ok-push_line.ensures.ok,
      length-append c.args.text.now.items (area_text c.args.files.now c.args.area.now),
    )

pub slice_bounds-without_spaces_after-start : goal.slice_bounds-without_spaces_after-start
slice_bounds-without_spaces_after-start c =
    let some = line_some c.args.files.now c.args.area.now in
    omega (
      arith,
      some,
      c.len-start.ensures,
      c.len-end.ensures,
      c.deref.ensures.len,
      ap length c.in_ok-push_line.ensures.ok,
      length-append c.args.text.now.items (area_text c.args.files.now c.args.area.now),
    )

pub index_mut-requires : goal.index_mut-requires
index_mut-requires c =
    let from : c.len-start.result ≡ length c.args.text.now.items = omega (arith, c.len-start.ensures, c.args.text.now.ok.0) in
    let to : c.len-end.result - 1 ≡ length c.push_line.new.text.items - 1 = omega (arith, c.len-end.ensures, c.push_line.new.text.ok.0) in
    let within : c.len-start.result + length c.without_spaces_after-len.result.now < length c.push_line.new.text.items =
    place_within c.args.files.now c.args.area.now _ _ _ _ _ _ c.in_ok-push_line.ensures.ok from to
    (ap (λ (l : List ℕ). take (c.len-end.result - 1 - c.len-start.result) (drop c.len-start.result l)) c.deref.ensures.value)
    c.without_spaces_after-len.ensures in
    omega (arith, within, c.push_line.new.text.ok.0)

pub returns-clause-ok : goal.returns-clause-ok
returns-clause-ok c =
    let from : c.len-start.result ≡ length c.args.text.now.items = omega (arith, c.len-start.ensures, c.args.text.now.ok.0) in
    let to : c.len-end.result - 1 ≡ length c.push_line.new.text.items - 1 = omega (arith, c.len-end.ensures, c.push_line.new.text.ok.0) in
    trimmed c.args.files.now c.args.area.now _ _ _ _ _ _ _ _ c.in_ok-push_line.ensures.ok from to
    (ap (λ (l : List ℕ). take (c.len-end.result - 1 - c.len-start.result) (drop c.len-start.result l)) c.deref.ensures.value)
    c.without_spaces_after-len.ensures refl c.truncate.ensures.items
