-- For `touch`: where a fault grows an area, the touch replies with the area as it is then, at its first page.
use Rattle.std.proofs.Common.{◌∙◌, [], ◌∷◌, ◌++◌, ap}
use Rattle.mm_types.specs.declared.call.Call.TheVariants.{Touch}
use Rattle.mm_types.specs.declared.call.Reply.{Reply}
use Rattle.area_rules.specs.Steps.{after}
use Rattle.vma_lock.specs.Seats.{lock_view}
use Rattle.mm_space.proofs.Ways.{touch_replies, grown_first}
use Rattle.mm_space.proofs.named.Named.touch.Goals as goal

pub unreachable-requires : goal.unreachable-requires
unreachable-requires g c =
    let config = g.N.SpaceName.name.config in
    let told = touch_replies config (after config c.args.self.now.journal) c.args.page c.args.access c.requires.grows in
    c.in_default.not-Grown told.0 0 (c.apply.ensures.reply ∙ told.1)

pub returns-clause-entry : goal.returns-clause-entry
returns-clause-entry g c =
    let config = g.N.SpaceName.name.config in
    let told = touch_replies config (after config c.args.self.now.journal) c.args.page c.args.access c.requires.grows in
    c.apply.ensures.entry
    ∙ ap (λ (r : Reply). c.args.self.now.journal ++ record { caller = (lock_view c.args.seat.now).caller; call = Touch c.args.page c.args.access; reply = r } ∷ [])
    (grown_first c.apply.result told.0 c.in-Grown.area c.in-Grown.index (c.apply.ensures.reply ∙ told.1) c.in-Grown.is)
