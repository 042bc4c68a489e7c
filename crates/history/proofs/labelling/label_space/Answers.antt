-- For `label_space`: its goals.
use Rattle.std.proofs.Common.{List, [], ◌∷◌, ◌≤◌, ◌≡◌, sym, ap, subst, ◌∙◌}
use Rattle.std.specs.List.{AllPairs}
use Rattle.history.specs.declared.items.Item.{Item}
use Rattle.history.specs.Runs.{history_of, time_key}
use Rattle.history.specs.Labels.{labelled}
use Rattle.history.proofs.Regrouping.{label_in_time, label_made}
use Rattle.history.proofs.labelling.label_space.Goals as goal

-- the lines are the trace's, and the items are those of the history with the callers of the lines
given : (c : goal.After-give_callers) → c.give_callers.new.items.items ≡ labelled c.args.lines.now c.args.lines.now
    (history_of c.args.journal.now (c.args.log.now ∷ []))
given c =
    c.give_callers.ensures.given
    ∙ ap (λ (l : List Item). labelled c.args.lines.now c.args.lines.now l) c.in_ok-items.ensures

pub in_order-requires-clause-time : goal.in_order-requires-clause-time
in_order-requires-clause-time c =
    subst (λ (l : List Item). AllPairs (λ a b. time_key a ≤ time_key b) l) (sym (given c))
    (label_in_time c.args.lines.now c.args.journal.now (c.args.log.now ∷ []))

pub returns : goal.returns
returns c =
    c.of.ensures ∙ c.in_ok-items-2.ensures.order
    ∙ label_made c.args.lines.now c.args.journal.now c.args.log.now c.give_callers.new.items.items
    (c.give_callers.ensures.given
    ∙ ap (λ (l : List Item). labelled c.args.lines.now c.args.lines.now l) c.in_ok-items.ensures)
