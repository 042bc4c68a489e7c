-- For `grace_apply` and `grace_text`: the readers and rows of a state are those of the script, after each event.
use Rattle.std.proofs.Common.{◌≡◌, ℕ, List, ◌∷◌, ◌++◌, All, sym, ap, ◌∙◌, subst, append_assoc}
use Rattle.std.proofs.lemmas.List.{length-set}
use Rattle.std.proofs.lemmas.List.Elements.{All-tail}
use Rattle.grace_core.specs.declared.events.GraceEvent.{GraceEvent}
use Rattle.grace_core.specs.declared.events.GraceEvent.TheVariants.{Open, Root, Word, Close, Fill, Publish, Scan, Split, Join}
use Rattle.grace_core.specs.Core.{GraceCore, pin_at}
use Rattle.grace_core.specs.Events.{after_grace_event}
use Rattle.grace_core.proofs.Moves.{exists_looked}
use Rattle.step_script.specs.declared.script.EventLine.{EventLine}
use Rattle.step_script.specs.GraceTexts.{grace_after, grace_line_text, grace_lines_text}
use Rattle.step_script.specs.Values.{IsGraceEvent, IsGraceState}

-- an event of a script keeps readers and rows
pub kept_after : (readers rows : ℕ) (core : GraceCore) (event : GraceEvent) → IsGraceEvent readers rows event → IsGraceState readers rows core
    → IsGraceState readers rows (after_grace_event core event)
kept_after readers rows core (Open reader) fits kept =
    record { pins = length-set core.pins reader _ ∙ kept.pins; few = kept.few; exist = kept.exist; words = kept.words }
kept_after readers rows core (Root reader) fits kept = record { pins = kept.pins; few = kept.few; exist = kept.exist; words = kept.words }
kept_after readers rows core (Word reader row) fits kept = kept
kept_after readers rows core (Close reader) fits kept =
    record { pins = length-set core.pins reader _ ∙ kept.pins; few = kept.few; exist = kept.exist; words = kept.words }
kept_after readers rows core (Fill row word) fits kept =
    record { pins = kept.pins; few = kept.few; exist = kept.exist; words = length-set core.writer_state.words row.0 _ ∙ kept.words }
kept_after readers rows core (Publish number listed) fits kept =
    record { pins = kept.pins; few = kept.few; exist = kept.exist; words = kept.words }
kept_after readers rows core (Scan reader) fits kept = record {
  pins = kept.pins;
  few = kept.few;
  exist = λ other within. exists_looked core.writer_state reader other (pin_at core.pins reader) (kept.exist other within);
  words = kept.words;
}
kept_after readers rows core (Split reader) fits kept = absurd fits
kept_after readers rows core (Join first second) fits kept = absurd fits

-- one line more is printed
pub one_printed : (line : EventLine GraceEvent) (lines rest : List (EventLine GraceEvent)) (core next : GraceCore) (before after all : List ℕ) → lines ≡ line ∷ rest
    → before ++ grace_lines_text core lines ≡ all → after ≡ before ++ grace_line_text core line → next ≡ grace_after core line.event
    → after ++ grace_lines_text next rest ≡ all
one_printed line lines rest core next before after all first so_far printed is =
    ap (λ (t : List ℕ). t ++ grace_lines_text next rest) printed
    ∙ append_assoc before (grace_line_text core line) (grace_lines_text next rest)
    ∙ ap (λ (c : GraceCore). before ++ (grace_line_text core line ++ grace_lines_text c rest)) is
    ∙ ap (λ (ls : List (EventLine GraceEvent)). before ++ grace_lines_text core ls) (sym first) ∙ so_far

-- the events of the lines that are left after the first
pub rest_fits : (readers rows : ℕ) (line : EventLine GraceEvent) (lines rest : List (EventLine GraceEvent)) → lines ≡ line ∷ rest
    → All (λ l. IsGraceEvent readers rows l.event) lines → All (λ l. IsGraceEvent readers rows l.event) rest
rest_fits readers rows line lines rest first fits =
    let all : All (λ (l : EventLine GraceEvent). IsGraceEvent readers rows l.event) (line ∷ rest) =
    subst (λ (ls : List (EventLine GraceEvent)). All (λ (l : EventLine GraceEvent). IsGraceEvent readers rows l.event) ls) first fits in
    All-tail (λ (l : EventLine GraceEvent). IsGraceEvent readers rows l.event) line rest all
