-- For `taken_text`: its goals.
use Rattle.std.proofs.Common.{◌≡◌, ◌≤◌, ◌∷◌, ◌+◌, map, drop, flat_map, length, string_bytes, ap, arith}
use Rattle.trace_reader.specs.LineTexts.{header}
use Rattle.maps_read.specs.FileLines.{file_texts}
use Rattle.maps_read.specs.Mappings.{mapping_text}
use Rattle.maps_read.specs.Internal.Taking.{what_taken}
use Rattle.maps_read.proofs.Steps.{dropped, length_map, file_printed, files_printed}
use Rattle.maps_read.proofs.retracing.taken_text.Goals as goal

pub loop-line-preserved : goal.loop-line-preserved
loop-line-preserved c =
    let items = c.deref-line-items.result.now in
    let next = dropped (λ line. line.now) items c.loop-line.line-index c.line-item.result (omega arith) c.line-item.is in
    let all = ap (map (λ line. line.now)) c.deref-line-items.ensures.value in
    let is : drop c.loop-line.line-index (what_taken c.args.taken.now).named ≡ c.line-item.result.now ∷ drop (c.loop-line.line-index + 1) (what_taken c.args.taken.now).named =
    rw all at next in
    record {
      text = file_printed (string_bytes c.loop-line.text) _ c.loop-line.fd c.loop-line.line-index (what_taken c.args.taken.now).named c.line-item.result.now _
          is c.in_ok-push_file_line.ensures c.loop-line.invariant.text;
      fd = omega (arith, c.loop-line.invariant.fd);
    }

pub loop-area-init : goal.loop-area-init
loop-area-init c =
    let past : length (what_taken c.args.taken.now).named ≤ c.loop-line.line-index =
    omega (arith, length_map (λ line. line.now) c.args.taken.now.named.items, ap length c.deref-line-items.ensures.value, c.loop-line-test.false) in
    files_printed (string_bytes c.loop-line.text) c.loop-line.fd c.loop-line.line-index (what_taken c.args.taken.now).named header
    (file_texts 3 (what_taken c.args.taken.now).named) (flat_map mapping_text (what_taken c.args.taken.now).areas) past c.loop-line.invariant.text
