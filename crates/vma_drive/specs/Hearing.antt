-- What passes did, item by item, and when.
use Rattle.std.specs.Prelude.{ℕ, ◌≡◌, ◌≤◌, ◌+◌, if◌then◌else◌, List, [], ◌∷◌, ◌++◌, length, take, slice_get, Some, All}
use Rattle.trace_reader.specs.declared.trace.Op.{Op}
use Rattle.trace_reader.specs.declared.trace.TraceLine.{TraceLine}
use Rattle.history.specs.declared.items.Item.{Item}
use Rattle.history.specs.Histories.{is_call, op_asked, read_as}
use Rattle.history.specs.Runs.{own_of, ops_of, asked, HasGrown, ComeAfterNamed, answered_lines}
use Rattle.fault_path.specs.Passes.{PassView, caller, seen_by, made_by}

-- what a pass did, in the order of a history
abbrev pub own_by : PassView → List Item
own_by pass = own_of (caller pass) (seen_by pass) pass.log

-- what a pass was asked to do and did, in order
abbrev pub done_by : PassView → List Op
done_by pass = ops_of (own_by pass)

-- an item made once so many entries were seen: a call's place is greater
abbrev pub IsLate : ℕ → Item → Type 0
IsLate seen item = seen + (if is_call item.content then 1 else 0) ≤ item.version

-- each touch that its caller entered has grown an area
abbrev pub HaveGrown : PassView → Type 0
HaveGrown pass = All HasGrown (made_by pass)

-- nothing was done with a pass: its caller entered nothing, and it read nothing
pub record IsUnused (pass : PassView) : Type 0 where
  pub made : made_by pass ≡ []
  pub log : pass.log ≡ []

-- nothing was done with any of these passes
abbrev pub AreFreshPasses : List PassView → Type 0
AreFreshPasses passes = (caller : ℕ) (pass : PassView) → slice_get passes caller ≡ Some pass → IsUnused pass

-- these items were done more, all of them once all was seen that had been seen before, and each touch among them has grown
pub record Grew (old new : PassView) (more : List Item) : Type 0 where
  pub own : own_by new ≡ own_by old ++ more
  pub late : All (IsLate (length (seen_by old))) more
  pub grown : HaveGrown old → HaveGrown new

-- one operation was done more
pub record DoesItem (old new : PassView) (op : Op) : Type 0 where
  pub item : Item
  pub grew : Grew old new (item ∷ [])
  pub asked : op_asked item.content ≡ read_as op
  pub left : new.left + 1 ≡ old.left

-- nothing was done, and no operation was taken
pub record GrewNone (old new : PassView) : Type 0 where
  pub grew : Grew old new []
  pub left : new.left ≡ old.left

-- A pass did the first lines of its caller, one item for each, and each touch among them has grown. With these it has so many
-- operations, those left among them.
pub record HasRun (own : List TraceLine) (pass : PassView) (owed : ℕ) : Type 0 where
  pub few : length (own_by pass) ≤ length own
  pub ops : done_by pass ≡ asked (take (length (own_by pass)) own)
  pub left : pass.left + length (own_by pass) ≡ owed
  pub grown : HaveGrown pass

-- where a line names a line, what its caller's pass did for it comes after what the other's pass did for that one
abbrev pub AreToldBy : List TraceLine → List PassView → Type 0
AreToldBy lines passes = ComeAfterNamed (answered_lines (λ place pass. own_by pass) lines 0 passes)
