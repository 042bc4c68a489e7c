-- What printing a text and giving it to a sink result in.
use Rattle.std.specs.Prelude.{ℕ, ◌≡◌, ◌<◌, ◌≤◌, ◌+◌, ◌⊎◌, List, [], ◌++◌, length, Result, MatchResult}
use Rattle.std.specs.Io.KnownBytes.{Appends}
use Rattle.io_edge.specs.Edge.{SinkView, FailedLast}
use Rattle.mm_types.specs.declared.call.Entry.{Entry}
use Rattle.mm_types.specs.declared.config.Config.{Config}
use Rattle.trace_reader.specs.declared.trace.TraceLine.{TraceLine}
use Rattle.history.specs.declared.items.Item.{Item}
use Rattle.history.specs.Histories.{IsLegalHistory}
use Rattle.output.specs.declared.error.PrintError.{PrintError}
use Rattle.output.specs.declared.giving.TheConstants.{MOST_GIVEN}
use Rattle.output.specs.declared.error.PrintError.TheVariants as errors

-- items that are a legal history of lines, of some space
abbrev pub AreLegal : List TraceLine → List Item → Type 0
AreLegal lines items = (config : Config) × (start : List Entry) × IsLegalHistory config start lines items

-- A sink was given these bytes, and no give failed.
pub record Gave (old new : SinkView) (given : List ℕ) : Type 0 where
  pub moved : Appends old.written new.written given
  pub calm : new.faults ≡ old.faults

-- Giving ended early with this error: one give failed, the last one, and then something was lost, or memory ran out.
abbrev pub IsWhy : SinkView → SinkView → List ℕ → PrintError → Type 0
IsWhy old new lost error = ((error ≡ errors.WriteFault) × (new.faults ≡ old.faults + 1) × FailedLast new.just_failed × (0 < length lost))
    ⊎ ((error ≡ errors.NoMemory) × (new.faults ≡ old.faults))

-- A text was added to a piece of the output: what the piece held, and the text after it, were given, but for what the piece holds
-- now.
pub record Moved (old new : SinkView) (held holds text : List ℕ) : Type 0 where
  pub given : List ℕ
  pub gave : Gave old new given
  pub split : held ++ text ≡ given ++ holds

-- A text was printed into a piece so, which holds less now than is given at a call: what stands in memory is bounded.
pub record Prints (old new : SinkView) (held holds text : List ℕ) : Type 0 where
  pub moved : Moved old new held holds text
  pub few : length holds < MOST_GIVEN

-- Printing it ended early: of what the piece held, and the text after it, a beginning was given.
pub record IsCutOff (old new : SinkView) (held text : List ℕ) (error : PrintError) : Type 0 where
  pub given : List ℕ
  pub lost : List ℕ
  pub moved : Appends old.written new.written given
  pub split : held ++ text ≡ given ++ lost
  pub why : IsWhy old new lost error

-- what printing a text results in
abbrev pub IsPrinting : {T : Type 0} → SinkView → SinkView → List ℕ → List ℕ → List ℕ → Result T PrintError → Type 0
IsPrinting old new held holds text result = MatchResult result (λ done. Prints old new held holds text) (λ error. IsCutOff old new held text error)

-- a text fits into a piece with so much room: what it holds and the text are less than is given at a call
pub record FitsPiece (room : ℕ) (held text : List ℕ) : Type 0 where
  pub few : length held + length text < MOST_GIVEN
  pub enough : length held + length text ≤ room

-- a text that fits into a piece was only appended to it, and its room did not shrink
pub record Pushes (room after : ℕ) (held holds text : List ℕ) : Type 0 where
  pub appended : FitsPiece room held text → (holds ≡ held ++ text) × (room ≤ after)

-- what printing a text results in where it fits into the piece: nothing of it is given, and neither a sink nor memory ends it early
abbrev pub IsPushing : {T : Type 0} → ℕ → ℕ → List ℕ → List ℕ → List ℕ → Result T PrintError → Type 0
IsPushing room after held holds text result = MatchResult result (λ done. Pushes room after held holds text) (λ error. ¬ FitsPiece room held text)

-- what giving a text a piece after the other results in: all of it was given, or a beginning
abbrev pub IsGivingText : {T : Type 0} → SinkView → SinkView → List ℕ → Result T PrintError → Type 0
IsGivingText old new text result = MatchResult result (λ done. Gave old new text) (λ error. IsCutOff old new [] text error)
