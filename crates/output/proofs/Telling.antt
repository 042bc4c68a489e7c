-- Serves `print_items` and `forks_from`: what a loop over the items of a history keeps that tells something of each.
use Rattle.std.proofs.Common.{ℕ, ◌≡◌, ◌+◌, ◌<◌, ◌≤◌, ◌∙◌, sym, ap, subst, List, [], ◌∷◌, ◌++◌, append_assoc, append-nil, length, take, drop, get_or, Option, Some}
use Rattle.std.specs.Option.{option_map_or}
use Rattle.std.proofs.lemmas.List.{drop_more, take_more}
use Rattle.std.proofs.Math.ListN.{drop_of_length-le}
use Rattle.trace_reader.specs.declared.trace.TraceLine.{TraceLine}
use Rattle.history.specs.declared.items.Item.{Item}
use Rattle.history.specs.Histories.{line_answered}
use Rattle.output.specs.Output.{told_by}
use Rattle.output.specs.declared.answered.AnsweredLines.{AnsweredLines}
use Rattle.output.specs.Answering.{AnswersNext, AreAnswered}
use Rattle.output.specs.Giving.{AreLegal}
use Rattle.output.proofs.Answering.{answers_line}

-- the first items were told: their lines are answered, and what was told of them and what is of the others is what is told of all
pub record Told {X : Type 0} (tell : TraceLine → Item → List X) (lines : List TraceLine) (items : List Item) (index : ℕ) (state : AnsweredLines)
    (text : List X) : Type 0 where
  pub answered : AreAnswered lines (take index items) state
  pub told : text ++ told_by tell lines (take index items) (drop index items) ≡ told_by tell lines [] items

-- before the first item
pub told_none : {X : Type 0} (tell : TraceLine → Item → List X) (lines : List TraceLine) (items : List Item) (state : AnsweredLines) (text : List X)
    → AreAnswered lines [] state → text ≡ [] → Told tell lines items 0 state text
told_none {X} tell lines items state text are none =
    record { answered = are; told = ap (λ (t : List X). t ++ told_by tell lines [] items) none }

-- the next item answers a line
pub told_answers : {X : Type 0} (tell : TraceLine → Item → List X) (lines : List TraceLine) (items : List Item) (index : ℕ) (state : AnsweredLines)
    (text : List X) (item : Item) → Told tell lines items index state text → AreLegal lines items → index < length items → item ≡ get_or items index item
    → AnswersNext state item
told_answers tell lines items index state text item told legal within here =
    let line = answers_line lines items index item legal within here in (lines, take index items, told.answered, line.0, line.1)

-- it was told with that line
pub told_next : {X : Type 0} (tell : TraceLine → Item → List X) (lines : List TraceLine) (items : List Item) (index : ℕ) (old new : AnsweredLines)
    (text more : List X) (item : Item) (line : TraceLine) → Told tell lines items index old text → index < length items → item ≡ get_or items index item
    → ((lines : List TraceLine) (before : List Item) → AreAnswered lines before old
    → (line_answered lines before item ≡ Some line) × AreAnswered lines (before ++ item ∷ []) new)
    → more ≡ text ++ tell line item → Told tell lines items (index + 1) new more
told_next {X} tell lines items index old new text more item line told within here next longer =
    let before : List Item = take index items in
    let rest : List Item = drop (index + 1) items in
    let found = next lines before told.answered in
    let taken : take (index + 1) items ≡ before ++ item ∷ [] = take_more items index item within ∙ ap (λ (i : Item). before ++ i ∷ []) (sym here) in
    let split : drop index items ≡ item ∷ rest = drop_more items index item within ∙ ap (λ (i : Item). i ∷ rest) (sym here) in
    record {
      answered = subst (λ (l : List Item). AreAnswered lines l new) (sym taken) found.1;
      told = ap (λ (t : List X). t ++ told_by tell lines (take (index + 1) items) rest) longer
          ∙ append_assoc text (tell line item) (told_by tell lines (take (index + 1) items) rest)
          ∙ ap (λ (l : List Item). text ++ (tell line item ++ told_by tell lines l rest)) taken
          ∙ ap (λ (o : Option TraceLine). text ++ (option_map_or (λ line. tell line item) o [] ++ told_by tell lines
          (before ++ item ∷ []) rest)) (sym found.0)
          ∙ ap (λ (l : List Item). text ++ told_by tell lines before l) (sym split) ∙ told.told;
    }

-- past the last item
pub told_all : {X : Type 0} (tell : TraceLine → Item → List X) (lines : List TraceLine) (items : List Item) (index : ℕ) (state : AnsweredLines) (text : List X)
    → Told tell lines items index state text → length items ≤ index → text ≡ told_by tell lines [] items
told_all tell lines items index state text told past =
    sym (append-nil text) ∙ ap (λ (l : List Item). text ++ told_by tell lines (take index items) l) (sym (drop_of_length-le items past))
    ∙ told.told
