-- For `push_log`: its goals.
use Rattle.history.proofs.Merging.{log_start, log_pushed, log_done}
use Rattle.history.proofs.gathering.push_log.Goals as goal

pub loop-read-init : goal.loop-read-init
loop-read-init c = log_start c.args.caller c.reserve.new.self.items

pub loop-read-preserved : goal.loop-read-preserved
loop-read-preserved c =
    log_pushed c.args.caller c.args.log.now c.loop-read.read-index c.read-item.result c.in_ok-item_of.field-0 c.loop-read.items.items
    c.reserve.new.self.items
    c.push.new.self.items c.in_ok-push.ensures.items c.loop-read.invariant c.in_ok-item_of.ensures c.read-item.is c.loop-read-test.true

pub returns : goal.returns
returns c =
    log_done c.args.caller c.args.log.now c.loop-read.read-index c.loop-read.items.items c.reserve.new.self.items c.args.items.now.items
    c.loop-read.invariant
    c.loop-read-test.false c.in_ok-reserve.ensures.items
