-- For `gather` of store.rt: its goals.
use Rattle.std.proofs.Common.{◌≡◌, ◌++◌, [], length, take, ap, ◌∙◌, sym, arith}
use Rattle.std.proofs.lemmas.List.{get_or_read}
use Rattle.plain_space.specs.Internal.Chunks.{areas_in_chunks}
use Rattle.plain_space.proofs.Parting.{areas_more, areas_within}
use Rattle.plain_space.proofs.store.gather.Goals as goal

pub append-requires : goal.append-requires
append-requires c =
    let chunks = c.args.chunks.now in
    let place = c.loop-chunk.chunk-index in
    let read = c.areas.ensures ∙ get_or_read chunks place c.chunk-item.result c.loop-chunk-test.true c.chunk-item.is [] in
    let len : c.loop-chunk.whole.len ≡ length c.loop-chunk.whole.items = c.loop-chunk.whole.ok.0 in
    omega (
      arith,
      len,
      ap length c.loop-chunk.invariant.items,
      ap length read,
      areas_within chunks place c.loop-chunk-test.true,
      c.loop-chunk.invariant.room,
      c.requires,
    )

pub loop-chunk-preserved : goal.loop-chunk-preserved
loop-chunk-preserved c =
    let chunks = c.args.chunks.now in
    let place = c.loop-chunk.chunk-index in
    let read = c.areas.ensures ∙ get_or_read chunks place c.chunk-item.result c.loop-chunk-test.true c.chunk-item.is [] in
    record {
      items = c.append.ensures.items
          ∙ ap (λ front. front ++ c.areas.result.now) c.loop-chunk.invariant.items
          ∙ ap (λ chunk. areas_in_chunks (take place chunks) ++ chunk) read
          ∙ sym (areas_more chunks place c.loop-chunk-test.true);
      room = c.append.ensures.room ∙ c.loop-chunk.invariant.room;
    }
