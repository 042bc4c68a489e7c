-- For `last_of` of binary_search.rt: its goals.
use Rattle.std.proofs.Common.{take, ◌∙◌}
use Rattle.plain_space.proofs.Fronting.{last_is}
use Rattle.plain_space.proofs.binary_search.last_of.Goals as goal

pub returns : goal.returns
returns c = c.copied.ensures ∙ c.last.ensures.value ∙ last_is (take c.args.place c.args.areas.now)
