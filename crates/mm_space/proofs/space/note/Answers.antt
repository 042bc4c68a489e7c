-- For `note`: no read before it has a greater version.
use Rattle.std.proofs.Common.{◌≤◌, slice_index_or, sym, subst}
use Rattle.area_rules.specs.Journals.{version_of}
use Rattle.mm_space.proofs.space.note.Goals as goal

pub note-requires-clause-rises : goal.note-requires-clause-rises
note-requires-clause-rises c k d within =
    subst (λ v. version_of (slice_index_or c.args.pass.now.log k d) ≤ v) (sym c.requires.version) (c.facts.ensures.right k d within).within
