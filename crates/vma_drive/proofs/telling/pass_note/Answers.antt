-- The proof of `pass_note`: two passes are changed, one after the other.
use Rattle.std.proofs.Common.{subst, get_or, All}
use Rattle.mm_types.specs.declared.config.Config.{Config}
use Rattle.area_rules.specs.Journals.{IsReadRight}
use Rattle.fault_path.specs.Passes.{PassView, seen_by}
use Rattle.std.proofs.lemmas.Option.{slice_get-get_or}
use Rattle.vma_drive.proofs.Noting.{hearer_is, noted_are, noted_moved, noted_heard, reread}
use Rattle.vma_drive.proofs.telling.pass_note.Goals as goal

pub tell-note-requires-clause-pass : goal.tell-note-requires-clause-pass
tell-note-requires-clause-pass g c =
    (c.requires.passes.each _ _ (slice_get-get_or c.args.passes.now c.args.teller c.index-passes-teller-2.result c.requires.callers.0)).0

pub tell-note-requires-clause-left : goal.tell-note-requires-clause-left
tell-note-requires-clause-left g c = c.requires.left _ (slice_get-get_or c.args.passes.now c.args.teller c.index-passes-teller-2.result c.requires.callers.0)

pub hear-requires-clause-pass : goal.hear-requires-clause-pass
hear-requires-clause-pass g c = hearer_is g.N.SpaceName.name c.args.passes.now c.args.teller c.args.hearer c.index-passes-teller-2.result c.index-passes-hearer.result
    c.tell-note.new.pass c.tell-note.new.pass c.tell-note.result.seen c.requires.passes c.requires.callers.0 c.requires.callers.1 c.tell-note.ensures.pass
    c.tell-note.ensures.later c.tell-note.ensures.told

pub returns-clause-passes : goal.returns-clause-passes
returns-clause-passes g c = noted_are g.N.SpaceName.name c.args.passes.now c.args.teller c.args.hearer c.index-passes-teller-2.result c.index-passes-hearer.result
    c.tell-note.new.pass c.hear.new.pass c.tell-note.result.seen c.requires.passes c.requires.callers.0 c.requires.callers.1 c.tell-note.ensures.pass
    c.tell-note.ensures.later c.tell-note.ensures.told c.hear.ensures.pass c.hear.ensures.later c.hear.ensures.heard

pub returns-clause-moved : goal.returns-clause-moved
returns-clause-moved g c = noted_moved g.N.SpaceName.name c.args.passes.now c.args.teller c.args.hearer c.index-passes-teller-2.result c.index-passes-hearer.result
    c.tell-note.new.pass c.hear.new.pass c.tell-note.result.seen c.requires.passes c.requires.callers.0 c.requires.callers.1 c.tell-note.ensures.pass
    c.tell-note.ensures.later c.tell-note.ensures.told c.hear.ensures.pass c.hear.ensures.later c.hear.ensures.heard

pub returns-clause-heard : goal.returns-clause-heard
returns-clause-heard g c told heard was its = noted_heard g.N.SpaceName.name c.args.passes.now c.args.teller c.args.hearer c.index-passes-teller-2.result c.index-passes-hearer.result
    c.tell-note.new.pass c.hear.new.pass c.tell-note.result.seen c.requires.passes c.requires.callers.0 c.requires.callers.1 c.tell-note.ensures.pass
    c.tell-note.ensures.later c.tell-note.ensures.told c.hear.ensures.pass c.hear.ensures.later c.hear.ensures.heard
    (get_or c.args.passes.now c.args.teller c.index-passes-teller-2.result) told heard
    (slice_get-get_or c.args.passes.now c.args.teller c.index-passes-teller-2.result c.requires.callers.0)
    c.tell-note.ensures.note.2
    (subst (λ (p : PassView). All (IsReadRight g.N.SpaceName.name.config (seen_by p)) p.log)
    (reread c.args.passes.now c.args.teller c.index-passes-teller.result c.index-passes-teller-2.result c.requires.callers.0)
    (subst (λ (s : Config). All (IsReadRight s (seen_by (get_or c.args.passes.now c.args.teller c.index-passes-teller.result))) (get_or c.args.passes.now c.args.teller c.index-passes-teller.result).log)
    (c.requires.passes.each c.args.teller (get_or c.args.passes.now c.args.teller c.index-passes-teller.result)
    (slice_get-get_or c.args.passes.now c.args.teller c.index-passes-teller.result c.requires.callers.0)).0.sits.config_is c.facts.ensures.right)) was its
