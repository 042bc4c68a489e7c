-- For `is_free` of lookups.rt: its goals.
use Rattle.std.proofs.Common.{List, sym, ◌∙◌}
use Rattle.mm_types.specs.declared.area.Record.{Record}
use Rattle.split_merge.proofs.Freeing.{free_before, free_without}
use Rattle.split_merge.proofs.Walking.{in_order}
use Rattle.split_merge.proofs.lookups.is_free.Goals as goal

pub returns-in-Some : goal.returns-in-Some
returns-in-Some g c = let areas : List Record = g.A.Areas.list c.args.areas.now in
    free_before areas c.args.pages c.args.start c.in-Some.area (in_order _ areas c.requires.canonical) (sym c.from.ensures ∙ c.in-Some.is)

pub returns-in-None : goal.returns-in-None
returns-in-None g c = free_without (g.A.Areas.list c.args.areas.now) c.args.pages c.args.start (sym c.from.ensures ∙ c.in-None.is)
