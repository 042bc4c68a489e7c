-- For `gather_one`: its goals.
use Rattle.std.proofs.Common.{List, [], ◌∷◌, ◌++◌, ◌≡◌, All, sym, ap, subst, ◌∙◌, arith}
use Rattle.history.specs.declared.items.Item.{Item}
use Rattle.history.specs.Histories.{gather}
use Rattle.history.specs.Runs.{log_items, logs_items}
use Rattle.history.proofs.Sorts.{Small}
use Rattle.history.proofs.Merging.{one_log_items, logs_small, gathered_history}
use Rattle.history.proofs.gathering.gather_one.Goals as goal

pub put_in_order-requires : goal.put_in_order-requires
put_in_order-requires c =
    let reads : c.push_log.new.items.items ≡ logs_items 0 (c.args.log.now ∷ []) =
    one_log_items c.args.log.now c.push_log.new.items.items
    (c.in_ok-push_log.ensures ∙ ap (λ (l : List Item). l ++ log_items 0 c.args.log.now) c.new-reads.ensures.items) in
    subst (λ (l : List Item). All Small l) (sym reads) (logs_small (c.args.log.now ∷ []) (omega arith))

pub returns : goal.returns
returns c =
    let reads : c.push_log.new.items.items ≡ logs_items 0 (c.args.log.now ∷ []) =
    one_log_items c.args.log.now c.push_log.new.items.items
    (c.in_ok-push_log.ensures ∙ ap (λ (l : List Item). l ++ log_items 0 c.args.log.now) c.new-reads.ensures.items) in
    gathered_history c.args.journal.now (c.args.log.now ∷ []) c.put_in_order.new.items.items c.in_ok-items.items.items
    (c.in_ok-put_in_order.ensures.order ∙ ap gather reads) c.in_ok-put_in_order.ensures.pairs c.in_ok-items.ensures
