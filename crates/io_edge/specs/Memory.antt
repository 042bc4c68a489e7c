-- What a clause sees of a source or a sink over memory that fails at chosen calls.
use Rattle.std.specs.Prelude.{◌≡◌, ℕ, Bool, List}
use Rattle.io_edge.specs.Edge.{counted}

-- the bytes left or written, the numbers of the calls that fail, the number of the next call, the count of faults, and whether the last
-- call failed
pub record Failing : Type 0 where
  pub bytes : List ℕ
  pub fail : List ℕ
  pub calls : ℕ
  pub faults : ℕ
  pub just_failed : Bool

-- a call was counted, and the calls that fail stay the same
pub record CountsCall (old new : Failing) : Type 0 where
  pub calls : new.calls ≡ counted old.calls
  pub fail : new.fail ≡ old.fail
