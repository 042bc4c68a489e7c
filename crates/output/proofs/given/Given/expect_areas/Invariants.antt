-- The proof of `Given::expect_areas`: the lines of the areas so far were read.
use Rattle.std.proofs.Common.{ℕ, ◌+◌, ◌≤◌, List, ◌++◌, length, take}
use Rattle.mm_types.specs.MapsText.{list_text}
use Rattle.output.specs.Internal.Judging.{HasRead}
use Rattle.output.proofs.given.Given.expect_areas.Given as goal

abbrev pub invariant-loop-area : goal.invariant-loop-area
invariant-loop-area l = record {
  read : (text before : List ℕ) → HasRead text before l.fn.self
      → HasRead text (before ++ list_text l.files (take l.area-index l.areas)) l.self;
  shrinks : l.self.line + length l.self.rest.now ≤ l.fn.self.line + length l.fn.self.rest.now;
  shorter : length l.self.rest.now ≤ length l.fn.self.rest.now;
  later : l.fn.self.line ≤ l.self.line;
}
