-- What a clause sees of standard input or output.
use Rattle.std.specs.Prelude.{ℕ, Bool}
use Rattle.io_edge.specs.declared.standard.Calls.{Calls}

-- the reader or the writer at its end, the count of its faults, and whether the last call failed
pub record Stream (End : Type 0) : Type 0 where
  pub end : End
  pub faults : ℕ
  pub just_failed : Bool

-- what a clause sees of a reader or a writer and of its calls
abbrev pub stream_of : {End : Type 0} → End → Calls → Stream End
stream_of end calls = record { end = end; faults = calls.faults; just_failed = calls.just_failed }
