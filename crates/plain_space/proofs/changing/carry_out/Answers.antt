-- For `carry_out` of changing.rt: its goals.
use Rattle.std.proofs.Common.{length, subst, sym, ap, arith}
use Rattle.split_merge.specs.Plans.{olds_of}
use Rattle.split_merge.proofs.Counting.{length-applied}
use Rattle.split_merge.specs.Sorted.{BeginsRise}
use Rattle.plain_space.specs.Internal.Chunks.{areas_in_chunks}
use Rattle.split_merge.proofs.Going.{ascend_without}
use Rattle.plain_space.proofs.Ranging.{rise_from_ascend}
use Rattle.plain_space.proofs.changing.carry_out.Goals as goal

pub insert_news-requires-clause-rise : goal.insert_news-requires-clause-rise
insert_news-requires-clause-rise c = subst BeginsRise (sym c.remove_olds.ensures.areas)
    (rise_from_ascend _ (ascend_without (olds_of c.args.changes.now) (areas_in_chunks c.args.store.now.chunks.items) c.requires.ascend))

pub insert_news-requires-clause-few : goal.insert_news-requires-clause-few
insert_news-requires-clause-few c = omega (
  arith,
  ap length c.remove_olds.ensures.areas,
  length-applied c.args.changes.now (areas_in_chunks c.args.store.now.chunks.items),
  c.requires.few,
  c.remove_olds.ensures.stays.room,
)
