-- Rounds, in which lines are run where lines name earlier ones.
use Rattle.std.specs.Prelude.{ℕ, ◌≡◌, ◌≤◌, ◌<◌, ◌+◌, ◌*◌, ◌&&◌, nat_eq, nat_le, List, [], length, slice_get, slice_index, Some, All, count_by, Vec}
use Rattle.std.specs.declared.alloc.Global.{Global}
use Rattle.trace_reader.specs.declared.trace.TraceLine.{TraceLine}
use Rattle.trace_reader.specs.Values.{AreNumbered}
use Rattle.trace_reader.specs.declared.limits.TheConstants.{MOST_LINES}
use Rattle.history.specs.declared.items.Item.{Item}
use Rattle.history.specs.CallerPlaces.{callers_of, ArePlaces}
use Rattle.history.specs.Histories.{caller_of, lines_of}
use Rattle.fault_path.specs.Passes.{PassView, IsLater}
use Rattle.vma_drive.specs.declared.rounds.Telling.{Telling}
use Rattle.mm_space.specs.Names.{SpaceId, ArePasses}
use Rattle.vma_drive.specs.Hearing.{own_by, Grew, HasRun, AreToldBy}
use Rattle.vma_drive.specs.Naming.{NamesAt, tells}

-- Numbers of lines that keep the order: they rise along the lines of a caller, and a named line has a lower one than the line that
-- names it.
pub record KeepOrder (lines : List TraceLine) (numbers : List ℕ) : Type 0 where
  pub rises : (a b : ℕ) (line other : TraceLine) → slice_get lines a ≡ Some line → slice_get lines b ≡ Some other → a ≤ b
      → caller_of lines line.thread ≡ caller_of lines other.thread → slice_index numbers a ≤ slice_index numbers b
  pub above : (place said : ℕ) → NamesAt lines place said → slice_index numbers said < slice_index numbers place

-- The round of each line: the least numbers that keep the order.
pub record AreRounds (lines : List TraceLine) (rounds : List ℕ) : Type 0 where
  pub all : length rounds ≡ length lines
  pub few : All (λ round. round < MOST_LINES) rounds
  pub order : KeepOrder lines rounds
  pub least : (others : List ℕ) → KeepOrder lines others → (place : ℕ) → place < length lines → slice_index rounds place ≤ slice_index others place

-- What callers tell each other: one telling for each line that names one, before its round.
pub record AreTellings (lines : List TraceLine) (rounds : List ℕ) (tellings : List Telling) : Type 0 where
  pub callers : All (λ telling. (telling.teller < callers_of lines) × (telling.hearer < callers_of lines)) tellings
  pub each : (place said : ℕ) (names : NamesAt lines place said) → (index : ℕ) × (slice_get tellings index ≡ Some (record {
    round = slice_index rounds place;
    teller = caller_of lines names.other.thread;
    hearer = caller_of lines names.line.thread;
  }))
  pub told : (caller : ℕ) → count_by (λ telling. nat_eq telling.teller caller) tellings ≡ tells lines caller

-- how often a caller tells from a round on
abbrev pub tells_from : ℕ → ℕ → List Telling → ℕ
tells_from round caller tellings = count_by (λ telling. nat_le round telling.round && nat_eq telling.teller caller) tellings

-- The lines of a caller that a pass ran are those of lower rounds.
pub record RanLowerRounds (rounds places : List ℕ) (round : ℕ) (pass : PassView) : Type 0 where
  pub before : (index : ℕ) → index < length (own_by pass) → slice_index rounds (slice_index places index) < round
  pub from : (index : ℕ) → length (own_by pass) ≤ index → index < length places → round ≤ slice_index rounds (slice_index places index)

-- the next line of a pass is of this round or of a lower one
abbrev pub HasLineByRound : List ℕ → List ℕ → ℕ → PassView → Type 0
HasLineByRound places rounds round pass = (length (own_by pass) < length places) × (slice_index rounds (slice_index places (length (own_by pass))) ≤ round)

-- the caller of this number has a line next that is of this round or of a lower one
abbrev pub IsBusy : List (Vec ℕ Global) → List ℕ → ℕ → List PassView → ℕ → Type 0
IsBusy places rounds round passes caller = (pass : PassView) × (own : Vec ℕ Global) × (slice_get passes caller ≡ Some pass)
    × (slice_get places caller ≡ Some own) × HasLineByRound own.items rounds round pass

-- no caller has such a line next
abbrev pub HasNoLineNext : List (Vec ℕ Global) → List ℕ → ℕ → List PassView → Type 0
HasNoLineNext places rounds round passes = (caller : ℕ) → ¬ IsBusy places rounds round passes caller

-- where callers are shared out to so many threads, as many neighbours to each, no two busy ones have the same thread
abbrev pub HaveThreadsApart : List (Vec ℕ Global) → List ℕ → ℕ → List PassView → ℕ → Type 0
HaveThreadsApart places rounds round passes threads = (caller gap : ℕ) → 0 < gap → IsBusy places rounds round passes caller
    → IsBusy places rounds round passes (caller + gap) → length passes ≤ threads * gap

-- A pass went on with the lines of its caller, none of them past this round.
pub record RanRound (own : List TraceLine) (rounds places : List ℕ) (round owed : ℕ) (old new : PassView) : Type 0 where
  pub has : HasRun own new owed
  pub more : List Item
  pub grew : Grew old new more
  pub within : (index : ℕ) → length (own_by old) ≤ index → index < length (own_by new) → slice_index rounds (slice_index places index) ≤ round

-- A pass told or heard, and did nothing else.
pub record IsMoved (old new : PassView) : Type 0 where
  pub later : IsLater old new
  pub grew : Grew old new []

-- What is known of the rounds: where the lines of each caller stand, their rounds, what is told, and how many callers there are.
pub record Settled (name : SpaceId) (lines : List TraceLine)
    (places : List (Vec ℕ Global)) (rounds : List ℕ) (tellings : List Telling) : Type 0 where
  pub numbered : AreNumbered lines
  pub places_are : ArePlaces lines (callers_of lines) places
  pub rounds_are : AreRounds lines rounds
  pub tellings_are : AreTellings lines rounds tellings
  pub callers : length name.operations ≡ callers_of lines

-- Before a round: each pass ran the lines of lower rounds, has operations for the others and for what it is still to tell, and what a
-- line names comes before what was done for it.
pub record AtRound (name : SpaceId) (lines : List TraceLine)
    (places : List (Vec ℕ Global)) (rounds : List ℕ) (tellings : List Telling) (passes : List PassView) (owed : List ℕ) (round : ℕ) : Type 0 where
  pub passes_are : ArePasses name passes
  pub owed_all : length owed ≡ length passes
  pub has : (caller : ℕ) (pass : PassView) → slice_get passes caller ≡ Some pass → HasRun (lines_of lines caller) pass (slice_index owed caller)
  pub cut : (caller : ℕ) (pass : PassView) (own : Vec ℕ Global) → slice_get passes caller ≡ Some pass → slice_get places caller ≡ Some own
      → RanLowerRounds rounds own.items round pass
  pub enough : (caller : ℕ) → caller < length passes → length (lines_of lines caller) + tells_from round caller tellings ≤ slice_index owed caller
  pub told : AreToldBy lines passes
