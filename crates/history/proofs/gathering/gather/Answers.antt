-- For `gather`: its goals.
use Rattle.std.proofs.Common.{List, All, sym, ap, subst, ◌∙◌, arith}
use Rattle.std.proofs.lemmas.List.{length-map}
use Rattle.history.specs.declared.items.Item.{Item}
use Rattle.history.specs.Histories.{gather}
use Rattle.history.proofs.Sorts.{Small}
use Rattle.history.proofs.Merging.{logs_small, gathered_history}
use Rattle.history.proofs.gathering.gather.Goals as goal

pub put_in_order-requires : goal.put_in_order-requires
put_in_order-requires c =
    subst (λ (l : List Item). All Small l) (sym c.in_ok-reads.ensures) (logs_small _ (omega (arith, length-map c.args.logs.now (λ log. log.items))))

pub returns : goal.returns
returns c =
    c.of.ensures
    ∙ gathered_history c.args.journal.now _ c.put_in_order.new.items.items c.in_ok-items.items.items
    (c.in_ok-put_in_order.ensures.order ∙ ap gather c.in_ok-reads.ensures)
    c.in_ok-put_in_order.ensures.pairs c.in_ok-items.ensures
