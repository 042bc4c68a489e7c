-- For `touches_that_grew_are_made`: the operation of each entry makes its call there.
use Rattle.std.proofs.Common.{List, ◌++◌, take, All}
use Rattle.mm_types.specs.declared.call.Entry.{Entry}
use Rattle.mm_types.specs.declared.config.Config.{Config}
use Rattle.area_rules.specs.Steps.{after}
use Rattle.history.specs.Runs.{HasGrown, AreMade, IsLegalAfter}
use Rattle.history.proofs.Calls.{entry_made}
use Rattle.history.proofs.Lists.{at_place}

pub touches_made : (config : Config) (start : List Entry) (journal : List Entry) → IsLegalAfter config start journal → All HasGrown journal
    → AreMade config start journal
touches_made config start journal legal grew = λ place entry found.
    entry_made config (after config (start ++ take place journal)) entry.caller entry.call entry.reply (legal.replies place entry found)
    (at_place HasGrown journal place entry grew found)
