-- What the writer's state shows at first: `GraceWriter::new`.
use Rattle.std.proofs.Common.{refl}
use Rattle.grace_core.proofs.WriterStates.{rows_of-replicate}
use Rattle.grace_core.proofs.writer_state.GraceWriter.new.Goals as goal

pub returns : goal.returns
returns c =
    let words = c.in_ok-words.ensures.items_if_clones_equal (λ y h. h) in
    let since = c.in_ok-vec.ensures.items_if_clones_equal (λ y h. h) in
    let clearings = c.in_ok-vec-2.ensures.items_if_clones_equal (λ y h. h) in
    rw (c.in_ok-of.ensures, c.as_slice.ensures.value, c.in_ok-push.ensures.items, c.new-root.ensures.items, words, since, clearings, rows_of-replicate c.args.rows 0) refl
