-- For `Progress::is_told`: whether the item of the line of a number is among those that are answered.
use Rattle.std.proofs.Common.{ℕ, ◌≡◌, ◌≢◌, ◌<◌, ◌∙◌, sym, ap, List, length, slice_get, All, Some, None, arith, inl, inr}
use Rattle.std.specs.List.{Contains}
use Rattle.std.proofs.lemmas.Bool.{cases_lt}
use Rattle.std.proofs.lemmas.Option.{slice_get_within, none-some}
use Rattle.trace_reader.specs.declared.trace.TraceLine.{TraceLine}
use Rattle.trace_reader.specs.Values.{AreNumbered}
use Rattle.history.specs.declared.items.Item.{Item}
use Rattle.history.specs.Checking.{next_line}
use Rattle.history.specs.Histories.{caller_of, lines_of, items_of, StandsAmong}
use Rattle.history.proofs.Lists.{at_place, slice_get_found}
use Rattle.history.proofs.Numbers.{rises_at, one_line, place_of, own_numbered, own_place, owned}

-- where no line has the number, none that has it is answered
pub none_numbered : (lines : List TraceLine) (before : List Item) (number : ℕ) → All (λ line. line.number ≢ number) lines
    → StandsAmong lines before number → ⊥
none_numbered lines before number none stands =
    let at = own_place lines stands.teller stands.place stands.line stands.its in
    at_place (λ (l : TraceLine). l.number ≢ number) lines at.0 stands.line none at.1 stands.numbered

-- a line has a place among those of its caller
among_own : (lines : List TraceLine) (line : TraceLine) (caller : ℕ) → Contains lines line → caller ≡ caller_of lines line.thread
    → (place : ℕ) × (slice_get (lines_of lines caller) place ≡ Some line)
among_own lines line caller has is =
    let at = place_of lines line has in
    let mine = owned lines at.0 line at.1 in
    (mine.0, ap (λ (k : ℕ). slice_get (lines_of lines k) mine.0) is ∙ mine.1)

-- the one place of the line of a number is that of its caller
own_teller : (lines : List TraceLine) (line : TraceLine) (caller : ℕ) → AreNumbered lines → Contains lines line → caller ≡ caller_of lines line.thread
    → (teller place : ℕ) (other : TraceLine) → slice_get (lines_of lines teller) place ≡ Some other → other.number ≡ line.number → teller ≡ caller
own_teller lines line caller numbered has is teller place other found same =
    let mine = own_place lines teller place other found in
    let at = place_of lines line has in
    let one : other ≡ line = one_line lines numbered mine.0 at.0 other line mine.1 at.1 same in
    sym mine.2 ∙ ap (λ (l : TraceLine). caller_of lines l.thread) one ∙ sym is

-- where its caller has no line left
pub all_told : (lines : List TraceLine) (before : List Item) (line : TraceLine) (number caller : ℕ) → Contains lines line
    → line.number ≡ number → caller ≡ caller_of lines line.thread → None ≡ next_line lines before caller → StandsAmong lines before number
all_told lines before line number caller has is_number is none =
    let mine = among_own lines line caller has is in
    record {
      teller = caller;
      place = mine.0;
      line = line;
      its = mine.1;
      numbered = is_number;
      answered = elim (cases_lt mine.0 (length (items_of before caller))) [
        | inl within ↦ within
        | inr past ↦
            let inside : mine.0 < length (lines_of lines caller) = slice_get_within (lines_of lines caller) mine.0 line mine.1 in
            let some = slice_get_found (lines_of lines caller) (length (items_of before caller)) (omega (arith, past, inside)) in
            absurd (none-some some.0 (none ∙ some.1))
      ];
    }

-- where the next line of its caller has a higher number
pub next_later : (lines : List TraceLine) (before : List Item) (line next : TraceLine) (number caller : ℕ) → AreNumbered lines → Contains lines line
    → line.number ≡ number → caller ≡ caller_of lines line.thread → Some next ≡ next_line lines before caller → number < next.number
    → StandsAmong lines before number
next_later lines before line next number caller numbered has is_number is left later =
    let mine = among_own lines line caller has is in
    record {
      teller = caller;
      place = mine.0;
      line = line;
      its = mine.1;
      numbered = is_number;
      answered = elim (cases_lt mine.0 (length (items_of before caller))) [
        | inl within ↦ within
        | inr past ↦ elim (cases_lt (length (items_of before caller)) mine.0) [
          | inl behind ↦
              absurd (omega (
                arith,
                rises_at (lines_of lines caller) (own_numbered lines caller numbered) (length (items_of before caller)) mine.0 next line
                    (sym left) mine.1 behind,
                is_number,
                later,
              ))
          | inr level ↦
              let there : length (items_of before caller) ≡ mine.0 = omega (arith, past, level) in
              let one : Some next ≡ Some line = left ∙ ap (slice_get (lines_of lines caller)) there ∙ mine.1 in
              let number_too : next.number ≡ line.number = let is_one : next ≡ line = cc in ap (λ (l : TraceLine). l.number) is_one in
              absurd (omega (arith, number_too, is_number, later))
        ]
      ];
    }

-- and only then
pub next_not_later : (lines : List TraceLine) (before : List Item) (line next : TraceLine) (number caller : ℕ) → AreNumbered lines → Contains lines line
    → line.number ≡ number → caller ≡ caller_of lines line.thread → Some next ≡ next_line lines before caller → StandsAmong lines before number
    → number < next.number
next_not_later lines before line next number caller numbered has is_number is left stands =
    let its : stands.teller ≡ caller =
    own_teller lines line caller numbered has is stands.teller stands.place stands.line stands.its (stands.numbered ∙ sym is_number) in
    let mine : slice_get (lines_of lines caller) stands.place ≡ Some stands.line =
    ap (λ (k : ℕ). slice_get (lines_of lines k) stands.place) (sym its) ∙ stands.its in
    let count : length (items_of before stands.teller) ≡ length (items_of before caller) = ap (λ (k : ℕ). length (items_of before k)) its in
    let within : stands.place < length (items_of before caller) = omega (arith, count, stands.answered) in
    omega (
      arith,
      rises_at (lines_of lines caller) (own_numbered lines caller numbered) stands.place (length (items_of before caller)) stands.line next mine
          (sym left) within,
      stands.numbered,
    )
