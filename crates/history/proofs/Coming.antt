-- For `Progress::line_to_come`: which line can come next, if one of a number can.
use Rattle.std.proofs.Common.{ℕ, ◌≡◌, ◌≢◌, ◌∙◌, sym, ap, subst, List, length, All, Some, None}
use Rattle.std.specs.Prelude.{IfSome}
use Rattle.std.specs.List.{Contains}
use Rattle.std.proofs.lemmas.Option.{none-some, same_Some}
use Rattle.trace_reader.specs.declared.trace.TraceLine.{TraceLine}
use Rattle.trace_reader.specs.Values.{AreNumbered}
use Rattle.history.specs.declared.items.Item.{Item}
use Rattle.history.specs.Checking.{next_line}
use Rattle.history.specs.Histories.{caller_of, items_of, StandsAmong}
use Rattle.history.proofs.Lists.{at_place}
use Rattle.history.proofs.Numbers.{one_line, place_of, own_place}
use Rattle.history.specs.Coming.{IsToCome, NoneIsToCome}

-- where no line has the number
pub none_numbered : (lines : List TraceLine) (before : List Item) (number : ℕ) → All (λ line. line.number ≢ number) lines
    → NoneIsToCome lines before number
none_numbered lines before number none = λ line caller comes.
    let at = own_place lines caller (length (items_of before caller)) line comes.next in
    at_place (λ (l : TraceLine). l.number ≢ number) lines at.0 line none at.1 comes.numbered

-- a line that comes is of the caller of the line of its number
its_caller : (lines : List TraceLine) (before : List Item) (number : ℕ) (found : TraceLine) (caller : ℕ) → AreNumbered lines
    → Contains lines found → found.number ≡ number → caller ≡ caller_of lines found.thread
    → (line : TraceLine) (other : ℕ) → IsToCome lines before number line other → other ≡ caller
its_caller lines before number found caller numbered has is_number is line other comes =
    let at = place_of lines found has in
    let mine = own_place lines other (length (items_of before other)) line comes.next in
    let one : line ≡ found = one_line lines numbered mine.0 at.0 line found mine.1 at.1 (comes.numbered ∙ sym is_number) in
    sym mine.2 ∙ ap (λ (l : TraceLine). caller_of lines l.thread) one ∙ sym is

-- where its caller has no line left
pub none_left : (lines : List TraceLine) (before : List Item) (number : ℕ) (found : TraceLine) (caller : ℕ) → AreNumbered lines
    → Contains lines found → found.number ≡ number → caller ≡ caller_of lines found.thread → None ≡ next_line lines before caller
    → NoneIsToCome lines before number
none_left lines before number found caller numbered has is_number is none = λ line other comes.
    let same : other ≡ caller = its_caller lines before number found caller numbered has is_number is line other comes in
    none-some line (none ∙ ap (next_line lines before) (sym same) ∙ comes.next)

-- where the next line of its caller has another number, or names a line that is not answered
pub another : (lines : List TraceLine) (before : List Item) (number : ℕ) (found next : TraceLine) (caller : ℕ) → AreNumbered lines
    → Contains lines found → found.number ≡ number → caller ≡ caller_of lines found.thread → Some next ≡ next_line lines before caller
    → (next.number ≡ number → IfSome next.after (StandsAmong lines before) → ⊥) → NoneIsToCome lines before number
another lines before number found next caller numbered has is_number is left never = λ line other comes.
    let same : other ≡ caller = its_caller lines before number found caller numbered has is_number is line other comes in
    let one : line ≡ next = same_Some line next (sym comes.next ∙ ap (next_line lines before) same ∙ sym left) in
    never (ap (λ (l : TraceLine). l.number) (sym one) ∙ comes.numbered)
    (subst (λ (l : TraceLine). IfSome l.after (StandsAmong lines before)) one comes.told)

-- and where it can come
pub comes : (lines : List TraceLine) (before : List Item) (number : ℕ) (next : TraceLine) (caller : ℕ) → Some next ≡ next_line lines before caller
    → next.number ≡ number → IfSome next.after (StandsAmong lines before) → IsToCome lines before number next caller
comes lines before number next caller left is told = record {
  next = sym left;
  numbered = is;
  owned = sym (own_place lines caller (length (items_of before caller)) next (sym left)).2;
  told = told;
}
