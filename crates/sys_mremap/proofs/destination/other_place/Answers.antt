-- For `other_place` of destination.rt: what the list answers is the place of a call without a hint.
use Rattle.std.proofs.Common.{◌≡◌, ℕ, true, false, List, Option, ap, sym, ◌∙◌}
use Rattle.mm_types.specs.declared.area.Page.{Page}
use Rattle.mm_types.specs.declared.area.Record.{Record}
use Rattle.mm_types.specs.declared.config.Config.{Config}
use Rattle.area_rules.specs.declared.mremap_request.MremapArgs.{MremapArgs}
use Rattle.area_rules.specs.declared.placement.Bounds.{Bounds}
use Rattle.area_rules.specs.Mremap.{moves_to, may_move, new_place}
use Rattle.area_rules.specs.Placement.{bounds_of, place_low}
use Rattle.area_rules.specs.Tables.{pages_of}
use Rattle.area_rules.proofs.Narrow.{place-zero}
use Rattle.split_merge.specs.PageNumbers.{page_number}
use Rattle.sys_mremap.specs.Internal.Cases.{other_place}
use Rattle.sys_mremap.proofs.destination.other_place.Goals as goal

-- a range that may move, and not to a fixed place, goes where the list has a place
placed_by : (config : Config) (bounds : Bounds) (areas : List Record) (args : MremapArgs) (pages : ℕ) (placed : Option Page)
    → bounds ≡ bounds_of config → moves_to args ≡ false → may_move args ≡ true → pages ≡ pages_of args.new_len
    → page_number placed ≡ place_low bounds areas pages → page_number placed ≡ other_place config areas args
unfolding other_place new_place
placed_by config bounds areas args pages placed numbers loose may len is =
    rw (loose, may) (is ∙ ap (λ b. place_low b areas pages) numbers ∙ ap (λ n. place_low (bounds_of config) areas n) len
    ∙ sym (place-zero (bounds_of config) areas (pages_of args.new_len)))

pub returns-in_err-page : goal.returns-in_err-page
returns-in_err-page g c = c.from_residual.ensures ∙ ap page_number (sym c.in_err-page.was)
    ∙ placed_by c.args.config.now _ (g.A.Areas.list c.args.areas.now) c.args.args.now c.pages_of.result c.place.result c.requires.bounds
    (sym c.moves_to.ensures ∙ c.if-moves_to.false) (sym c.may_move.ensures ∙ c.if-not-may_move.false) c.pages_of.ensures.value c.place.ensures

pub returns : goal.returns
returns g c = ap page_number (sym c.in_ok-page.was)
    ∙ placed_by c.args.config.now _ (g.A.Areas.list c.args.areas.now) c.args.args.now c.pages_of.result c.place.result c.requires.bounds
    (sym c.moves_to.ensures ∙ c.if-moves_to.false) (sym c.may_move.ensures ∙ c.if-not-may_move.false) c.pages_of.ensures.value c.place.ensures
