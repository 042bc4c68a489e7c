-- The text of items is that of the first of them, and then that of the others.
use Rattle.std.proofs.Common.{ℕ, ◌≡◌, ◌∙◌, sym, ap, List, [], ◌∷◌, ◌++◌, append_assoc, append-nil, Option, Some}
use Rattle.std.specs.Option.{option_map_or}
use Rattle.trace_reader.specs.declared.trace.Trace.{Trace}
use Rattle.trace_reader.specs.declared.trace.TraceLine.{TraceLine}
use Rattle.history.specs.declared.items.Item.{Item}
use Rattle.history.specs.Histories.{line_answered}
use Rattle.output.specs.Output.{item_text, told_by}
use Rattle.output.specs.Judgements.{items_text}

pub told_append : {X : Type 0} (tell : TraceLine → Item → List X) (lines : List TraceLine) (before first others : List Item)
    → told_by tell lines before (first ++ others) ≡ told_by tell lines before first ++ told_by tell lines (before ++ first) others
told_append tell lines before [] others =
    ap (λ (l : List Item). told_by tell lines l others) (sym (append-nil before))
told_append {X} tell lines before (item ∷ first) others =
    let here : List X = option_map_or (λ line. tell line item) (line_answered lines before item) [] in
    let next : List Item = before ++ item ∷ [] in
    ap (λ (t : List X). here ++ t) (told_append tell lines next first others)
    ∙ sym (append_assoc here (told_by tell lines next first) (told_by tell lines (next ++ first) others))
    ∙ ap (λ (l : List Item). (here ++ told_by tell lines next first) ++ told_by tell lines l others) (append_assoc before (item ∷ []) first)

-- the text of some items, of the next item and of others
pub text_next : (trace : Trace) (items : List Item) (item : Item) (line : TraceLine) (others : List Item)
    → line_answered trace.lines items item ≡ Some line
    → items_text trace (items ++ item ∷ others)
    ≡ items_text trace items
    ++ (item_text trace.config.files line item ++ told_by (item_text trace.config.files) trace.lines (items ++ item ∷ []) others)
text_next trace items item line others answers =
    told_append (item_text trace.config.files) trace.lines [] items (item ∷ others)
    ∙ ap (λ (o : Option TraceLine). items_text trace items ++ (option_map_or (λ line. item_text trace.config.files line item) o []
    ++ told_by (item_text trace.config.files) trace.lines (items ++ item ∷ []) others)) answers

-- with the next item alone
pub text_more : (trace : Trace) (items : List Item) (item : Item) (line : TraceLine) → line_answered trace.lines items item ≡ Some line
    → items_text trace (items ++ item ∷ []) ≡ items_text trace items ++ item_text trace.config.files line item
text_more trace items item line answers =
    text_next trace items item line [] answers
    ∙ ap (λ (t : List ℕ). items_text trace items ++ t) (append-nil (item_text trace.config.files line item))
