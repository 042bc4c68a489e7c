-- For `insert_new` of changing.rt: its goals.
use Rattle.std.proofs.Common.{subst, sym, ◌∙◌}
use Rattle.split_merge.specs.Sorted.{BeginsRise}
use Rattle.plain_space.specs.Internal.Chunks.{areas_in_chunks}
use Rattle.plain_space.proofs.Coming.{insert_rises}
use Rattle.split_merge.proofs.Going.{insert_is}
use Rattle.plain_space.proofs.changing.insert_new.Goals as goal

pub returns-in-Some-clause-rise : goal.returns-in-Some-clause-rise
returns-in-Some-clause-rise c =
    let areas = areas_in_chunks c.args.store.now.chunks.items in
    subst BeginsRise (insert_is areas c.in-Some.new ∙ sym c.insert.ensures.areas) (insert_rises areas c.in-Some.new c.requires.rise)
