-- For `push_entries`: its goals.
use Rattle.history.proofs.Merging.{entries_start, entries_pushed, entries_done}
use Rattle.history.proofs.gathering.push_entries.Goals as goal

pub loop-place-init : goal.loop-place-init
loop-place-init c = entries_start c.args.version c.args.items.now.items

pub loop-place-preserved : goal.loop-place-preserved
loop-place-preserved c =
    entries_pushed c.args.version c.args.entries.now c.loop-place.place _ c.loop-place.items.items c.args.items.now.items c.push.new.self.items
    c.in_ok-push.ensures.items c.loop-place.invariant c.loop-place-test.true

pub returns : goal.returns
returns c =
    entries_done c.args.version c.args.entries.now c.loop-place.place c.loop-place.items.items c.args.items.now.items c.loop-place.invariant
    c.loop-place-test.false
