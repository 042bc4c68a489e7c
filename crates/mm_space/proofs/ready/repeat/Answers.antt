-- For `repeat`: each call replies as before.
use Rattle.std.proofs.Common.{◌∙◌, sym, subst}
use Rattle.mm_types.specs.declared.config.Config.{Config}
use Rattle.area_rules.specs.Steps.{IsLegalJournal}
use Rattle.mm_space.proofs.Opening.{repeated}
use Rattle.mm_space.proofs.ready.repeat.Goals as goal

pub loop-entry-preserved : goal.loop-entry-preserved
loop-entry-preserved g c =
    let i = c.loop-entry.invariant in
    let e = c.apply_before.ensures in
    record {
      table = e.same.0 ∙ i.table;
      config = e.same.1 ∙ i.config;
      room = e.same.2 ∙ i.room;
      nodes = e.nodes ∙ i.nodes;
      journal = e.entry ∙ repeated _ _ _ _ _ _ (subst (λ (k : Config). IsLegalJournal k c.args.before.now) (sym i.config) c.requires.legal)
          c.loop-entry-test.true i.journal e.reply;
    }
