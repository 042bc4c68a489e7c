-- For `Walk::line_to_come`: what the number that a text tells says of the item that comes.
use Rattle.std.proofs.Common.{ℕ, ◌≡◌, ◌^◌, ◌<◌, ◌∙◌, sym, subst, List, length, Option, Some, None}
use Rattle.std.specs.Prelude.{MatchOption}
use Rattle.trace_reader.specs.declared.trace.TraceLine.{TraceLine}
use Rattle.trace_reader.specs.Values.{IsLineValue}
use Rattle.history.specs.declared.items.Item.{Item}
use Rattle.history.specs.Histories.{items_of}
use Rattle.history.specs.Checking.{next_line}
use Rattle.history.specs.Coming.{IsToCome, NoneIsToCome}
use Rattle.history.specs.SpaceLines.{AreSpaceLines}
use Rattle.history.proofs.Lists.{at_place}
use Rattle.history.proofs.Numbers.{own_place}
use Rattle.output.specs.Internal.Judging.{Begins, NoneComes, TellsNumber, TheOneComes}

-- the number of a line has 64 bits
pub number_fits : (lines : List TraceLine) (before : List Item) (line : TraceLine) (caller : ℕ) → AreSpaceLines lines
    → next_line lines before caller ≡ Some line → line.number < 2 ^ 64
number_fits lines before line caller kept next =
    let at = own_place lines caller (length (items_of before caller)) line next in
    (at_place IsLineValue lines at.0 line kept.values at.1).number

-- the line of the number comes, or none does
pub come_from : (lines : List TraceLine) (before : List Item) (rest : List ℕ) (number : ℕ) (found : Option (TraceLine × ℕ))
    → MatchOption found (NoneIsToCome lines before number) (λ found. IsToCome lines before number found.0 found.1)
    → TellsNumber rest number → ((other : TraceLine) (teller : ℕ) → Begins lines before rest other teller → other.number ≡ number)
    → MatchOption found (NoneComes lines before rest) (λ found. TheOneComes lines before rest found.0 found.1)
come_from lines before rest number None none told tells = λ line caller begins.
    none line caller (record { next = begins.next; numbered = tells line caller begins; owned = begins.owned; told = begins.told })
come_from lines before rest number (Some found) comes told tells = record {
  next = comes.next;
  owned = comes.owned;
  told = comes.told;
  number = subst (λ (n : ℕ). TellsNumber rest n) (sym comes.numbered) told;
  tells = λ other teller begins. tells other teller begins ∙ sym comes.numbered;
}
