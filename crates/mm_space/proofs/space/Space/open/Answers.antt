-- For `open`: the state has the name of the space.
use Rattle.std.proofs.Common.{◌∙◌}
use Rattle.mm_space.proofs.Opening.{named_at_once}
use Rattle.mm_space.proofs.space.Space.open.Goals as goal

pub new-requires : goal.new-requires
new-requires g c = named_at_once _ _ _ _ _ _ c.ready.invariant (c.ready.view_is ∙ c.requires.name)
